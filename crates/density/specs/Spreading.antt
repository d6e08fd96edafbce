-- The area's tiles, one after another: each gives its covered cells to the windows, and together they are the windows' counts. Assumes nothing.
use Rattle.std.specs.Prelude.{◌≡◌, List, ℕ, ◌+◌, ◌-◌, ◌*◌, ◌<◌, min, max, ℤ, Float, length}
use Rattle.std.proofs.Common.{sym, ap, ap₂, ◌∙◌, arith}
use Rattle.geometry.specs.Picture.{SOLID}
use Rattle.table.specs.Words.{KIND, num}
use Rattle.table.specs.Forms.{Forms}
use Rattle.seek.specs.Meaning.{Area, RectRight, Meets}
use Rattle.seek.specs.Hanging.{formed}
use Rattle.seek.specs.Each.{Each}
use Rattle.seek.specs.Queue.{named}
use Rattle.density.specs.Meaning.{Steps, windows_of, window_of, count_of}
use Rattle.density.specs.Windows.{Inside, window_inside, window_right}
use Rattle.density.specs.Cover.{part_of, box_of, cells_of, cover_of, cover_none, cover_solid}
use Rattle.density.specs.Counts.{Counts, counts_same}
use Rattle.density.specs.Summing.{sum_named, sum_next, sums_all, sums_small, sums_none}
use Rattle.density.specs.Row.{Grow}
use Rattle.density.specs.Parts.{PartFits, AddsPart, cells_in}

-- what tile k covers of window m
abbrev pub tile_in : List ℤ → Area → ℕ → ℕ → ℕ → ℕ → ℕ
tile_in t A w h k m = cover_of t (window_of A w h m) k

-- each window's count grows by it
abbrev pub AddsTile : List Float → List Float → List ℤ → Area → ℕ → ℕ → ℕ → Type 0
AddsTile old new t A w h k = Grow (windows_of A w h) old new (tile_in t A w h k) (tile_in t A w h k)

-- where all counts were 0, they are the windows'
abbrev pub Spreads : List Float → List Float → List ℤ → Area → ℕ → ℕ → Type 0
Spreads old new t A w h = (base : List Float) → Counts base old (windows_of A w h) (λ m. 0) → Counts base new (windows_of A w h) (count_of t A w h)

-- growing by the same numbers
grow_by : (N : ℕ) (old new : List Float) (p q : ℕ → ℕ) → ((m : ℕ) → m < N → p m ≡ q m) → Grow N old new p p → Grow N old new q q
grow_by N old new p q e g base f c b =
    counts_same base _ _ _ _ (g base f c (λ m h. omega (arith, b m h, e m h))) (λ m h. ap (λ n. f m + n) (e m h))

grow_none : (N : ℕ) (old : List Float) (p : ℕ → ℕ) → ((m : ℕ) → m < N → 0 ≡ p m) → Grow N old old p p
grow_none N old p e base f c b = counts_same base _ _ _ _ c (λ m h. omega (arith, e m h))

-- a part of the area cut to it, and then to a window inside it
clip : (A W P : Area) → Inside W A → cells_of (part_of W (part_of A P)) ≡ cells_of (part_of W P)
clip A W P i =
    let l : max (max P.left A.left) W.left ≡ max P.left W.left = omega (arith, i.left) in
    let b : max (max P.bottom A.bottom) W.bottom ≡ max P.bottom W.bottom = omega (arith, i.bottom) in
    let r : min (min P.right A.right) W.right ≡ min P.right W.right = omega (arith, i.right) in
    let t : min (min P.top A.top) W.top ≡ min P.top W.top = omega (arith, i.top) in
    ap₂ ◌*◌ (ap₂ ◌-◌ r l) (ap₂ ◌-◌ t b)

-- the first j entries of the list have given their cells
abbrev pub Spreading : List ℤ → Area → ℕ → ℕ → List ℤ → List Float → List Float → ℕ → Type 0
Spreading t A w h list old new j =
    (base : List Float) → Counts base old (windows_of A w h) (λ m. 0) → Counts base new (windows_of A w h) (λ m. sum_named t (window_of A w h m) list j)

pub spread_starts : (t : List ℤ) (A : Area) (w h : ℕ) (list : List ℤ) (old : List Float) → Spreading t A w h list old old 0
spread_starts t A w h list old base c = counts_same base _ _ _ _ c (λ m l. sums_none t (window_of A w h m) list)

module _ (t : List ℤ) (f : Forms t) (A : Area) (a : RectRight A) (w h : ℕ) (s : Steps A w h) where
  pub part_fits : (k : ℕ) → Meets t A k → PartFits A (part_of A (box_of t k))
  part_fits k m =
      let z = formed t f k m.used in
      record {
        inside = record { left = omega arith; bottom = omega arith; right = omega arith; top = omega arith };
        wide = omega (arith, z, m, a);
        high = omega (arith, z, m, a);
      }

  pub tile_adds : (k : ℕ) → num t k KIND ≡ SOLID → (old new : List Float) → AddsPart old new A w h (part_of A (box_of t k)) → AddsTile old new t A w h k
  tile_adds k e old new g =
      grow_by (windows_of A w h) old new (cells_in A w h (part_of A (box_of t k))) (tile_in t A w h k)
      (λ m l. clip A (window_of A w h m) (box_of t k) (window_inside A a w h s m l) ∙ sym (cover_solid t (window_of A w h m) k e)) g

  pub space_adds : (k : ℕ) → (num t k KIND ≡ SOLID → ⊥) → (old : List Float) → AddsTile old old t A w h k
  space_adds k n old = grow_none (windows_of A w h) old (tile_in t A w h k) (λ m l. cover_none t (window_of A w h m) k n)

  module _ (list : List ℤ) (o : Each (Meets t A) (length list) (named list)) where
    pub spread_on : (old mid new : List Float) (j : ℕ) → j < length list → Spreading t A w h list old mid j → AddsTile mid new t A w h (named list j)
        → Spreading t A w h list old new (j + 1)
    spread_on old mid new j l g a' base c =
        counts_same base _ _ _ _
        (a' base (λ m. sum_named t (window_of A w h m) list j) (g base c)
        (λ m k. sums_small t f A list o (window_of A w h m) (window_right A a w h s m k) (window_inside A a w h s m k) j l))
        (λ m k. sym (sum_next j (λ q. cover_of t (window_of A w h m) (named list q))))

    pub spread_ends : (old new : List Float) (j : ℕ) → j ≡ length list → Spreading t A w h list old new j → Spreads old new t A w h
    spread_ends old new j e g base c =
        counts_same base _ _ _ _ (g base c)
        (λ m k. ap (sum_named t (window_of A w h m) list) e
        ∙ sums_all t f A list o (window_of A w h m) (window_right A a w h s m k) (window_inside A a w h s m k))
