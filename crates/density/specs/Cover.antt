-- The covered cells of an area, as a sum over the records: each solid gives the cells of its part in the area. Assumes nothing.
use Rattle.std.specs.Prelude.{◌≡◌, refl, ◌↔◌, Bool, true, false, ◌&&◌, List, ℕ, ◌+◌, ◌*◌, ◌≤◌, ◌<◌, min, max, ℤ, T, leb, ltb}
use Rattle.std.proofs.Common.{ap₂, ◌∙◌, mul-zero, leb→le, ltb→lt, le→leb, lt→ltb}
use native.Mathlib.Omega.{arith}
use Rattle.geometry.specs.Cases.{only_T, only_le, T_only, T_and, and_l, and_r}
use Rattle.geometry.specs.Counting.{only, sum_to, count}
use Rattle.geometry.specs.Sums.{sum_ext, sum_mono, sum_const, sum_mul, sum_mul_right, sum_swap, sum_le_one, inb}
use Rattle.geometry.specs.Count.{count_le}
use Rattle.geometry.specs.Picture.{SOLID, Tile, Has}
use Rattle.geometry.specs.Plane.{Holds}
use Rattle.geometry.specs.Tiling.{solid_used, kind_solid, eq→eqb}
use Rattle.table.specs.Words.{LEFT, BOTTOM, RIGHT, TOP, KIND, records_of, num, tile_of}
use Rattle.table.specs.Sound.{UsedIn, SolidIn, solid_at}
use Rattle.table.specs.Forms.{Forms, plane_in, has_holds}
use Rattle.seek.specs.Meaning.{Area, RectRight}
use Rattle.seek.specs.Enumerate.{edges}
use Rattle.seek.specs.Hanging.{formed}
use Rattle.density.specs.Meaning.{has_cell, metal, width_of, height_of, covered}
use Rattle.density.specs.Blocks.{any_sum, some_any, within, both, sum_cut}

-- the cells that two areas share
abbrev pub part_of : Area → Area → Area
part_of A B =
    record {
      left = max B.left A.left;
      bottom = max B.bottom A.bottom;
      right = min B.right A.right;
      top = min B.top A.top;
    }

-- a record's rectangle
abbrev pub box_of : List ℤ → ℕ → Area
box_of t k = edges (num t k LEFT) (num t k BOTTOM) (num t k RIGHT) (num t k TOP)

abbrev pub cells_of : Area → ℕ
cells_of A = width_of A * height_of A

-- the covered cells that record k gives
abbrev pub cover_of : List ℤ → Area → ℕ → ℕ
cover_of t A k = only (solid_at t k) (cells_of (part_of A (box_of t k)))

-- ---- the tests say what they should

pub cell_has : (v : Tile) (x y : ℕ) → T (has_cell v x y) → Has v x y
cell_has v x y h =
    let a = leb v.left x && ltb x v.right in
    let c = leb v.bottom y && ltb y v.top in
    let p = and_l a c h in
    let q = and_r a c h in
    record {
      left = leb→le _ _ (and_l (leb v.left x) (ltb x v.right) p);
      right = ltb→lt _ _ (and_r (leb v.left x) (ltb x v.right) p);
      bottom = leb→le _ _ (and_l (leb v.bottom y) (ltb y v.top) q);
      top = ltb→lt _ _ (and_r (leb v.bottom y) (ltb y v.top) q);
    }

pub has_cell_lem : (v : Tile) (x y : ℕ) → Has v x y → T (has_cell v x y)
has_cell_lem v x y h =
    T_and (leb v.left x && ltb x v.right) (leb v.bottom y && ltb y v.top)
    (T_and (leb v.left x) (ltb x v.right) (le→leb _ _ h.left) (lt→ltb _ _ h.right))
    (T_and (leb v.bottom y) (ltb y v.top) (le→leb _ _ h.bottom) (lt→ltb _ _ h.top))

module _ (t : List ℤ) where
  abbrev held : ℕ → ℕ → ℕ → Bool
  held x y i = solid_at t i && has_cell (tile_of t i) x y

  pub solid_cell : (i x y : ℕ) → i < records_of t → T (held x y i) → SolidIn t i × Has (tile_of t i) x y
  solid_cell i x y l h = (
    record { below = l; kind = kind_solid (records_of t) (tile_of t) i (and_l (solid_at t i) (has_cell (tile_of t i) x y) h) },
    cell_has (tile_of t i) x y (and_r (solid_at t i) (has_cell (tile_of t i) x y) h),
  )

  -- a cell is metal where some solid holds it
  pub metal_solid : (x y : ℕ) → T (metal t x y) ↔ ((i : ℕ) × SolidIn t i × Has (tile_of t i) x y)
  metal_solid x y = (
    λ m. let (i, l, h) = (some_any (records_of t) (held x y)).0 m in let c = solid_cell i x y l h in (i, c.0, c.1),
    λ (i, s, h). (some_any (records_of t) (held x y)).1
        (i, s.below, T_and (solid_at t i) (has_cell (tile_of t i) x y) (eq→eqb _ _ s.kind) (has_cell_lem (tile_of t i) x y h)),
  )

  -- ---- at most all cells

  pub covered_most : (A : Area) → covered t A ≤ height_of A * width_of A
  unfolding covered
  covered_most A =
      omega (
        arith,
        sum_const (height_of A) (width_of A),
        sum_mono (height_of A) {f = λ j. count (width_of A) (λ i. metal t (A.left + i) (A.bottom + j))} {g = λ j. width_of A} (λ j h. count_le (width_of A) _),
      )

  -- ---- one solid at most holds a cell, so its holders are counted

  -- 1 where solid i holds the cell, and otherwise 0
  abbrev piece : ℕ → ℕ → ℕ → ℕ
  piece i x y = only (solid_at t i) (inb (num t i LEFT) (num t i RIGHT) x * inb (num t i BOTTOM) (num t i TOP) y)

  held_piece : (i x y : ℕ) → only (held x y i) 1 ≡ piece i x y
  held_piece i x y =
      both (solid_at t i) (leb (num t i LEFT) x && ltb x (num t i RIGHT)) (leb (num t i BOTTOM) y && ltb y (num t i TOP))
      ∙ ap₂ (λ m n. only (solid_at t i) (m * n)) (within (num t i LEFT) (num t i RIGHT) x) (within (num t i BOTTOM) (num t i TOP) y)

  module _ (f : Forms t) where
    holds : (i x y : ℕ) → i < records_of t → 1 ≤ only (held x y i) 1 → Holds (plane_in t) i x y
    holds i x y l h =
        let k = T_only (held x y i) 1 h in
        has_holds t i x y (solid_used (records_of t) (tile_of t) i l (and_l (solid_at t i) (has_cell (tile_of t i) x y) k)) (solid_cell i x y l k).1

    metal_sum : (x y : ℕ) → only (metal t x y) 1 ≡ sum_to (records_of t) (λ i. piece i x y)
    metal_sum x y =
        let few = sum_le_one (records_of t) (λ i. only (held x y i) 1) (λ i l. only_le (held x y i) 1)
        (λ i j l k u v. f.good.disjoint i j x y (holds i x y l u) (holds j x y k v)) in
        omega (arith, any_sum (records_of t) (held x y), sum_ext (records_of t) (λ i l. held_piece i x y))

    module _ (A : Area) (a : RectRight A) where
      -- a solid's cells in the area
      piece_cells : (k : ℕ) → k < records_of t
          → sum_to (height_of A) (λ j. sum_to (width_of A) (λ i. piece k (A.left + i) (A.bottom + j))) ≡ cover_of t A k
      piece_cells k l = go (solid_at t k) (λ s. solid_used (records_of t) (tile_of t) k l s)
        where
          W : ℕ
          W = width_of A

          H : ℕ
          H = height_of A

          across : ℕ → ℕ
          across x = inb (num t k LEFT) (num t k RIGHT) x

          up : ℕ → ℕ
          up y = inb (num t k BOTTOM) (num t k TOP) y

          go : (s : Bool) → (T s → UsedIn t k)
              → sum_to H (λ j. sum_to W (λ i. only s (across (A.left + i) * up (A.bottom + j)))) ≡ only s (cells_of (part_of A (box_of t k)))
          go false u = sum_ext H (λ j h. sum_const W 0) ∙ sum_const H (W * 0) ∙ rw (mul-zero, mul-zero)
          go true u =
              let w = formed t f k (u tt) in
              sum_ext H (λ j h. sum_mul_right W (up (A.bottom + j)) (λ i. across (A.left + i)))
              ∙ sum_mul H (sum_to W (λ i. across (A.left + i))) (λ j. up (A.bottom + j))
              ∙ ap₂ ◌*◌ (sum_cut A.left A.right (num t k LEFT) (num t k RIGHT) (omega arith) (omega arith))
              (sum_cut A.bottom A.top (num t k BOTTOM) (num t k TOP) (omega arith) (omega arith))

      pub covered_records : covered t A ≡ sum_to (records_of t) (cover_of t A)
      unfolding covered count
      covered_records =
          let R = records_of t in
          let W = width_of A in
          let H = height_of A in
          sum_ext H (λ j h. sum_ext W (λ i g. metal_sum (A.left + i) (A.bottom + j)) ∙ sum_swap W R (λ i k. piece k (A.left + i) (A.bottom + j)))
          ∙ sum_swap H R (λ j k. sum_to W (λ i. piece k (A.left + i) (A.bottom + j)))
          ∙ sum_ext R piece_cells

-- ---- what the code works out

pub cover_none : (t : List ℤ) (A : Area) (k : ℕ) → (num t k KIND ≡ SOLID → ⊥) → 0 ≡ cover_of t A k
cover_none t A k n = go (solid_at t k) (λ s. n (kind_solid (records_of t) (tile_of t) k s))
  where
    go : (s : Bool) → (T s → ⊥) → 0 ≡ only s (cells_of (part_of A (box_of t k)))
    go true n = absurd (n tt)
    go false n = refl

pub cover_solid : (t : List ℤ) (A : Area) (k : ℕ) → num t k KIND ≡ SOLID → cover_of t A k ≡ cells_of (part_of A (box_of t k))
cover_solid t A k s = only_T (solid_at t k) {n = cells_of (part_of A (box_of t k))} (eq→eqb _ _ s)

pub part_is : (A B : Area) (left bottom right top : ℕ) → left ≡ max B.left A.left → bottom ≡ max B.bottom A.bottom
    → right ≡ min B.right A.right → top ≡ min B.top A.top → edges left bottom right top ≡ part_of A B
part_is A B left bottom right top l b r t = λ i. record { left = l i; bottom = b i; right = r i; top = t i }
