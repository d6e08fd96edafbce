-- The covered cells of an area, as a sum over a list of the tiles of an area around it. Assumes nothing.
use Rattle.std.specs.Prelude.{◌≡◌, refl, List, ℕ, zero, suc, ◌+◌, ◌-◌, ◌*◌, ◌≤◌, ◌<◌, ◌^◌, ℤ, length}
use Rattle.std.proofs.Common.{sym, ap, ◌∙◌, mul-le-mul, add-one, arith}
use Rattle.geometry.specs.Cases.{only_T, T_only}
use Rattle.geometry.specs.Counting.{sum_to}
use Rattle.geometry.specs.Sums.{sum_prefix}
use Rattle.geometry.specs.Tiling.{solid_used}
use Rattle.table.specs.Words.{records_of, tile_of}
use Rattle.table.specs.Sound.{solid_at}
use Rattle.table.specs.Forms.{Forms}
use Rattle.seek.specs.Meaning.{Area, RectRight, Meets}
use Rattle.seek.specs.Each.{Each, sum_each}
use Rattle.seek.specs.Queue.{named}
use Rattle.density.specs.Meaning.{width_of, height_of, covered}
use Rattle.density.specs.Windows.{Inside}
use Rattle.density.specs.Cover.{part_of, box_of, cells_of, cover_of, covered_records, covered_most}

pub sum_next : (n : ℕ) (f : ℕ → ℕ) → sum_to (n + 1) f ≡ sum_to n f + f n
unfolding sum_to
sum_next n f = ap (λ k. sum_to k f) (add-one n)

-- what the first n entries give to an area
abbrev pub sum_named : List ℤ → Area → List ℤ → ℕ → ℕ
sum_named t B list n = sum_to n (λ m. cover_of t B (named list m))

-- at most all cells of the plane
pub covered_small : (t : List ℤ) (A : Area) → RectRight A → covered t A ≤ 2 ^ 50
covered_small t A a =
    omega (arith, covered_most t A, mul-le-mul {n₁ = height_of A} {m₁ = width_of A} {n₂ = 2 ^ 25} {m₂ = 2 ^ 25} (omega (arith, a)) (omega (arith, a)))

some_left : (m n : ℕ) → 1 ≤ m * n → 1 ≤ m
some_left zero n h = omega arith
some_left (suc m) n h = omega arith

-- the list holds the outer area's tiles, each once
module _ (t : List ℤ) (f : Forms t) (A : Area) (list : List ℤ) (l : Each (Meets t A) (length list) (named list)) (B : Area) (b : RectRight B) (i : Inside B A) where
  -- a record that gives cells to the inner area meets the outer one
  gives_meets : (k : ℕ) → k < records_of t → 1 ≤ cover_of t B k → Meets t A k
  gives_meets k l h =
      let v = part_of B (box_of t k) in
      let s = T_only (solid_at t k) (cells_of v) h in
      let c : 1 ≤ cells_of v = omega (arith, only_T (solid_at t k) {n = cells_of v} s) in
      let w = some_left (v.right - v.left) (v.top - v.bottom) c in
      let z = some_left (v.top - v.bottom) (v.right - v.left) (omega arith) in
      record { used = solid_used (records_of t) (tile_of t) k l s; left = omega arith; right = omega arith; bottom = omega arith; top = omega arith }

  pub sums_all : sum_named t B list (length list) ≡ covered t B
  sums_all =
      sum_each (Meets t A) (length list) (named list) l (records_of t) (λ k m. m.used.below) (cover_of t B) gives_meets ∙ sym (covered_records t f B b)

  -- the sum so far, with the next term
  pub sums_small : (n : ℕ) → n < length list → sum_named t B list n + cover_of t B (named list n) ≤ 2 ^ 50
  sums_small n h = omega (arith, sum_prefix (λ m. cover_of t B (named list m)) n (length list) h, sums_all, covered_small t B b)

pub sums_none : (t : List ℤ) (A : Area) (list : List ℤ) → 0 ≡ sum_named t A list 0
unfolding sum_to
sums_none t A list = refl
