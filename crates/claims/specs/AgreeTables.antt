-- Two sound tables of one length and one picture are one table but for the numbers of their records: the tiles agree, stitches name tiles that agree,
-- and the other records are as many, all zeros. What a reader must believe about the records that 01 leaves open. Assumes nothing.
use Rattle.std.specs.Prelude.{◌≡◌, refl, List, ℤ, length, eqb}
use Rattle.std.proofs.Common.{sym, ap, subst, arith}
use Prim.Native.Nat.{ℕ, ◌+◌, ◌/◌, ◌<◌}
use Rattle.geometry.specs.Cases.{lt_cases, eq_cases}
use Rattle.geometry.specs.Sums.{sum_add, sum_ext, sum_const}
use Rattle.geometry.specs.Picture.{LOW, HIGH, FREE, SPACE, SOLID, InPlane}
use Rattle.geometry.specs.Tiling.{Kinded}
use Rattle.geometry.specs.Counting.{only, count}
use Rattle.table.specs.Words.{WIDTH, KIND, records_of, num, tile_of}
use Rattle.table.specs.Sound.{solid_at, space_at, solids_in, spaces_in}
use Rattle.ushanderi.specs.Promises.{Fit}
use Rattle.claims.specs.AgreeChecks.{fit_forms}
use Rattle.claims.specs.AgreePicture.{picture_turned, picture_count}
use Rattle.claims.specs.Pictures.{same_spaces}
use Rattle.claims.specs.Terms.{SamePicture, free_at, free_in}

-- ---- what agrees
-- ---- two sound tables of one length and one picture
pub record Alike (u v : List ℤ) : Type 0 where
  pub left : Fit u
  pub right : Fit v
  pub size : length u ≡ length v
  pub picture : SamePicture u v

pub alike_self : (t : List ℤ) → Fit t → Alike t t
alike_self t f = record { left = f; right = f; size = refl; picture = λ w. (λ s. s, λ s. s) }

pub alike_turned : (u v : List ℤ) → Alike u v → Alike v u
alike_turned u v l = record { left = l.right; right = l.left; size = sym l.size; picture = picture_turned u v l.picture }

-- ---- stitches
pub plane_cases : {C : Type 0} (x y : ℕ) → (InPlane x y → C) → ((InPlane x y → ⊥) → C) → C
plane_cases x y f g =
    lt_cases x LOW (λ h. g (λ p. omega (arith, p.x_low))) (λ a.
    lt_cases x HIGH (λ b. lt_cases y LOW (λ h. g (λ p. omega (arith, p.y_low))) (λ c.
    lt_cases y HIGH (λ d. f (record { x_low = a; x_high = b; y_low = c; y_high = d })) (λ h. g (λ p. omega (arith, p.y_high)))))
    (λ h. g (λ p. omega (arith, p.x_high))))

-- ---- free records
-- each record is solid, space or free
module _ (t : List ℤ) (f : Fit t) where
  abbrev one : ℕ → ℕ
  one k = only (eqb k SOLID) 1 + (only (eqb k SPACE) 1 + only (eqb k FREE) 1)

  used_kind : (i : ℕ) → Kinded (tile_of t i) → one (num t i KIND) ≡ 1
  used_kind i (Kinded.space p) = subst (λ k. one k ≡ 1) (sym p.kind) refl
  used_kind i (Kinded.solid p) = subst (λ k. one k ≡ 1) (sym p.kind) refl

  one_kind : (i : ℕ) → i < records_of t → one (num t i KIND) ≡ 1
  one_kind i h = eq_cases (num t i KIND) FREE
      (λ e. subst (λ k. one k ≡ 1) (sym e) refl)
      (λ n. used_kind i ((fit_forms t f).widest.kinded i (record { below = h; used = n })))

  pub all_kinds : solids_in t + (spaces_in t + free_in t) ≡ records_of t
  unfolding count
  all_kinds =
      let R = records_of t in
      let solid : ℕ → ℕ = λ k. only (solid_at t k) 1 in
      let space : ℕ → ℕ = λ k. only (space_at t k) 1 in
      let free : ℕ → ℕ = λ k. only (free_at t k) 1 in
      omega (arith, sum_add R solid (λ k. space k + free k), sum_add R space free, sum_ext R one_kind, sum_const R 1)

pub free_same : (u v : List ℤ) → Alike u v → free_in u ≡ free_in v
free_same u v l =
    let solids = picture_count u v l.left l.right l.picture in
    let spaces = same_spaces u v l.left l.right l.picture in
    omega (arith, solids, spaces, all_kinds u l.left, all_kinds v l.right, ap (λ n. n / WIDTH) l.size)
