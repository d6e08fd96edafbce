-- The fresh table is sound, with one space tile and no solid. Assumes nothing.
use Rattle.std.specs.Prelude.{◌≡◌, refl, false, List, ℕ, zero, suc, ◌+◌, ◌-◌, ◌*◌, ◌/◌, ◌≤◌, ◌<◌, ℤ, pos, length, get_or, replicate, eqb}
use Rattle.std.proofs.Math.Path.{sym}
use Rattle.std.proofs.Common.{ap, ◌∙◌, subst, eqb→eq}
use native.Mathlib.Omega.{arith}
use Rattle.std.proofs.lemmas.List.{length-replicate}
use Rattle.std.proofs.Math.Dec.{T}
use Rattle.ruler.specs.Ruler.{ruler}
use Rattle.geometry.specs.Cases.{T_only, only_T, only_le}
use Rattle.geometry.specs.Sums.{sum_const, sum_prefix, sum_le_one}
use Rattle.geometry.specs.Count.{count_mono}
use Rattle.geometry.specs.Picture.{ZERO, LOW, HIGH, FREE, SPACE, SOLID}
use Rattle.geometry.specs.Plane.{Is}
use Rattle.geometry.specs.Tiling.{Kinded, Widest}
use Rattle.geometry.specs.Stitches.{Good}
use Rattle.geometry.specs.Counting.{only, count}
use Rattle.table.specs.Words.{WIDTH, LEFT, BOTTOM, RIGHT, TOP, TR, RT, BL, LB, KIND, LABEL, records_of, num, tile_of, MOST}
use Rattle.table.specs.Sound.{UsedIn, NONE, Zeros, solid_at, space_at, solids_in, spaces_in}
use Rattle.table.specs.Fresh.{fresh_table}
use Rattle.table.specs.Forms.{plane_in, stitches_in, link, Forms, is_used, used_is}

-- ---- a table of one tile, number by number

pub record OneTile (t : List ℤ) : Type 0 where
  pub some : 1 ≤ records_of t
  pub left : num t 0 LEFT ≡ LOW
  pub bottom : num t 0 BOTTOM ≡ LOW
  pub right : num t 0 RIGHT ≡ HIGH
  pub top : num t 0 TOP ≡ HIGH
  pub tr : num t 0 TR ≡ NONE
  pub rt : num t 0 RT ≡ NONE
  pub bl : num t 0 BL ≡ NONE
  pub lb : num t 0 LB ≡ NONE
  pub kind : num t 0 KIND ≡ SPACE
  pub label : num t 0 LABEL ≡ ZERO
  pub rest : (i k : ℕ) → suc i < records_of t → k < WIDTH → num t (suc i) k ≡ ZERO

-- record i is record 0 and holds every cell
record Whole (t : List ℤ) (i : ℕ) : Type 0 where
  number : i ≡ 0
  left : num t i LEFT ≡ LOW
  bottom : num t i BOTTOM ≡ LOW
  right : num t i RIGHT ≡ HIGH
  top : num t i TOP ≡ HIGH

module _ (t : List ℤ) (few : records_of t ≤ MOST) (o : OneTile t) where
  first : UsedIn t 0
  first = record { below = o.some; used = λ e. omega (arith, o.kind) }

  only_first : (C : ℕ → Type 0) → C 0 → (i : ℕ) → UsedIn t i → C i
  only_first C c zero u = c
  only_first C c (suc i) u = absurd (u.used (o.rest i KIND u.below (omega arith)))

  only_first_is : (C : ℕ → Type 0) → C 0 → (i : ℕ) → Is (plane_in t) i → C i
  only_first_is C c i u = only_first C c i (is_used t i u)

  one_zeros : (i : ℕ) → i < records_of t → num t i KIND ≡ FREE → Zeros t i
  one_zeros zero h e = absurd (omega (arith, o.kind))
  one_zeros (suc i) h e = λ k l. o.rest i k h l

  one_no_solid_at : (i : ℕ) → i < records_of t → T (solid_at t i) → ⊥
  one_no_solid_at zero h e = omega (arith, eqb→eq (num t 0 KIND) SOLID e, o.kind)
  one_no_solid_at (suc i) h e = omega (arith, eqb→eq (num t (suc i) KIND) SOLID e, o.rest i KIND h (omega arith))

  one_space_at : (i : ℕ) → i < records_of t → T (space_at t i) → i ≡ 0
  one_space_at zero h e = refl
  one_space_at (suc i) h e = absurd (omega (arith, eqb→eq (num t (suc i) KIND) SPACE e, o.rest i KIND h (omega arith)))

  pub one_no_solid : solids_in t ≡ 0
  unfolding count
  one_no_solid =
      omega (arith, sum_const (records_of t) 0, count_mono (records_of t) (solid_at t) (λ i. false) (λ i h e. absurd (one_no_solid_at i h e)))

  pub one_space : spaces_in t ≡ 1
  unfolding count
  one_space =
      omega (
        arith,
        sum_prefix (λ i. only (space_at t i) 1) 0 (records_of t) o.some,
        only_T (space_at t 0) {n = 1} (subst (λ k. T (eqb k SPACE)) (sym o.kind) tt),
        sum_le_one (records_of t) (λ i. only (space_at t i) 1) (λ i h. only_le (space_at t i) 1)
            (λ i j h k a b. one_space_at i h (T_only (space_at t i) 1 a) ∙ sym (one_space_at j k (T_only (space_at t j) 1 b))),
      )

  -- every used record is the whole plane
  whole : (i : ℕ) → Is (plane_in t) i → Whole t i
  whole = only_first_is (λ i. Whole t i) (record { number = refl; left = o.left; bottom = o.bottom; right = o.right; top = o.top })

  one_widest : Widest (records_of t) (tile_of t)
  one_widest =
      record {
        kinded = only_first (λ i. Kinded (tile_of t i)) (Kinded.space (record { kind = o.kind; label = o.label }));
        strips =
            record {
              formed = λ i u. let w = whole i u in omega arith;
              covered = λ x y c. (0, record { is = used_is t 0 first; at = omega arith });
              disjoint = λ i j x y h k. (whole i h.is).number ∙ sym (whole j k.is).number;
              beside = λ i j y u a b h. absurd (omega (arith, whole i u.is, whole j h.is));
              merged = λ i j u v a b c. omega (arith, whole i u.is, whole j v.is);
            };
      }

  one_good : Good (plane_in t) (stitches_in t)
  one_good =
      let g = one_widest.strips in
      record {
        formed = g.formed;
        covered = g.covered;
        disjoint = g.disjoint;
        none = omega arith;
        rt = only_first_is _ (record { inside = λ h k. absurd (omega arith); left = λ h. ap link o.rt; over = λ h. ap link o.rt });
        bl = only_first_is _ (record { inside = λ h k. absurd (omega arith); left = λ h. ap link o.bl; over = λ h. ap link o.bl });
        tr = only_first_is _ (record { inside = λ h k. absurd (omega arith); right = λ h. ap link o.tr; under = λ h. ap link o.tr });
        lb = only_first_is _ (record { inside = λ h k. absurd (omega arith); right = λ h. ap link o.lb; under = λ h. ap link o.lb });
      }

  pub one_forms : Forms t
  one_forms = record { zeros = one_zeros; widest = one_widest; good = one_good; few = omega (arith, one_no_solid) }

-- ---- the fresh table's words

pub fresh_length : (n : ℕ) → WIDTH ≤ n → length (fresh_table n) ≡ n
fresh_length n h = omega (arith, length-replicate (n - WIDTH) (pos 0))

-- a list of zeros reads as zeros, also past its end
zeros_read : (n i : ℕ) → get_or (replicate n (pos 0)) i (pos 0) ≡ pos 0
zeros_read zero i = refl
zeros_read (suc n) zero = refl
zeros_read (suc n) (suc i) = zeros_read n i

fresh_rest : (n i k : ℕ) → num (fresh_table n) (suc i) k ≡ ZERO
unfolding num ruler
fresh_rest n i k =
    let e : WIDTH * suc i + k ≡ suc (suc (suc (suc (suc (suc (suc (suc (suc (suc (WIDTH * i + k)))))))))) = omega arith in
    ap (λ m. ruler (get_or (fresh_table n) m (pos 0))) e ∙ ap ruler (zeros_read (n - WIDTH) (WIDTH * i + k))

pub fresh_one : (n : ℕ) → WIDTH ≤ n → OneTile (fresh_table n)
unfolding num ruler
fresh_one n h =
    record {
      some = omega (arith, fresh_length n h);
      left = refl;
      bottom = refl;
      right = refl;
      top = refl;
      tr = refl;
      rt = refl;
      bl = refl;
      lb = refl;
      kind = refl;
      label = refl;
      rest = λ i k l m. fresh_rest n i k;
    }

pub fresh_few : (n : ℕ) → WIDTH ≤ n → n / WIDTH ≤ MOST → records_of (fresh_table n) ≤ MOST
fresh_few n h f = omega (arith, fresh_length n h)

pub fresh_no_solid : (n : ℕ) → WIDTH ≤ n → n / WIDTH ≤ MOST → solids_in (fresh_table n) ≡ 0
fresh_no_solid n h f = one_no_solid (fresh_table n) (fresh_few n h f) (fresh_one n h)

pub fresh_one_space : (n : ℕ) → WIDTH ≤ n → n / WIDTH ≤ MOST → spaces_in (fresh_table n) ≡ 1
fresh_one_space n h f = one_space (fresh_table n) (fresh_few n h f) (fresh_one n h)
