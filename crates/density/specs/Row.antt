-- A row of windows: the columns from one edge to another, so many rows high, added window by window. Assumes nothing.
use Rattle.std.specs.Prelude.{◌≡◌, List, ℕ, suc, ◌+◌, ◌-◌, ◌*◌, ◌≤◌, ◌<◌, ◌^◌, min, max, eqb, leb, ltb, Float, length, get_or, set}
use Rattle.std.proofs.Common.{sym, ◌∙◌, suc-mul, mul-le-mul, mul-le-mul_right, zero-mul, arith, lt-ltb, le-ltb, le-leb, eq-eqb, ne_eqb}
use Rattle.std.proofs.Math.Path.{ap, subst}
use Rattle.std.specs.Float.Ieee as Ieee
use Rattle.std.specs.Float.{binary64}
use Rattle.std.proofs.lemmas.Bool.{lt-leb}
use Rattle.geometry.specs.Cases.{lt_cases, eq_cases}
use Rattle.geometry.specs.Counting.{only}
use Rattle.density.specs.Shares.{float}
use Rattle.density.specs.Counts.{Counts, counts_add, counts_same}

-- ---- counts that grow

-- each of the first N counts grows by p, where none of them gets too large for a float
abbrev pub Grow : ℕ → List Float → List Float → (ℕ → ℕ) → (ℕ → ℕ) → Type 0
Grow N old new p q = (base : List Float) (f : ℕ → ℕ) → Counts base old N f → ((m : ℕ) → m < N → f m + p m ≤ 2 ^ 50) → Counts base new N (λ m. f m + q m)

-- so far they grew by q; they grow by as much as another function gives
pub grow_same : (N : ℕ) (old new : List Float) (p q r : ℕ → ℕ) → ((m : ℕ) → m < N → q m ≡ r m) → Grow N old new p q → Grow N old new p r
grow_same N old new p q r e g base f c b = counts_same base _ _ _ _ (g base f c b) (λ m h. ap (λ n. f m + n) (e m h))

-- what passes a test on numbers
pub only_lt : (m n c : ℕ) → m < n → only (ltb m n) c ≡ c
only_lt m n c h = ap (λ b. only b c) (lt-ltb m n h)

pub only_ge : (m n c : ℕ) → n ≤ m → only (ltb m n) c ≡ 0
only_ge m n c h = ap (λ b. only b c) (le-ltb m n h)

only_eq : (m n c : ℕ) → m ≡ n → only (eqb m n) c ≡ c
only_eq m n c h = ap (λ b. only b c) (eq-eqb m n h)

only_ne : (m n c : ℕ) → (m ≡ n → ⊥) → only (eqb m n) c ≡ 0
only_ne m n c h = ap (λ b. only b c) (ne_eqb m n h)

-- counts before i have grown by p
abbrev pub up_to : ℕ → (ℕ → ℕ) → ℕ → ℕ
up_to i p m = only (ltb m i) (p m)

up_next : (p : ℕ → ℕ) (i c m : ℕ) → c ≡ p i → up_to i p m + only (eqb m i) c ≡ up_to (i + 1) p m
up_next p i c m e =
    lt_cases m i
    (λ h. omega (arith, only_lt m i (p m) h, only_lt m (i + 1) (p m) (omega arith), only_ne m i c (λ q. omega arith)))
    (λ h. eq_cases m i
    (λ q. omega (arith, only_ge m i (p m) h, only_lt m (i + 1) (p m) (omega arith), only_eq m i c q, ap p q))
    (λ q. omega (arith, only_ge m i (p m) h, only_ge m (i + 1) (p m) (omega arith), only_ne m i c q)))

-- entry i grows
pub grow_next : (N : ℕ) (old new : List Float) (p : ℕ → ℕ) (i c : ℕ) → N ≤ length old → length new ≡ length old → i < N → c ≡ p i → Grow N old new p (up_to i p)
    → Grow N old (set new i (Ieee.add binary64 (get_or new i (float 0)) (float c))) p (up_to (i + 1) p)
grow_next N old new p i c l s h e g base f k b =
    let u = g base f k b in
    counts_same base _ _ _ _
    (counts_add base new N (λ m. f m + up_to i p m) i c u h (omega (arith, u.long, k.long))
    (omega (arith, b i h, only_ge i i (p i) (omega arith))))
    (λ m l. omega (arith, up_next p i c m e))

-- a piece of the plane has so few cells that a float holds their number
pub piece_small : (a b c : ℕ) → a ≤ 2 ^ 25 → b ≤ 2 ^ 25 → c ≡ a * b → c ≤ 2 ^ 50
piece_small a b c h k e = omega (arith, mul-le-mul {n₁ = a} {m₁ = b} {n₂ = 2 ^ 25} {m₂ = 2 ^ 25} h k)

-- ---- a row

-- how many of the columns from `left` to `right` lie in the window that stands j places after the one that begins at `edge`
abbrev pub columns_in : ℕ → ℕ → ℕ → ℕ → ℕ → ℕ
columns_in edge w left right j = min right (edge + j * w + w) - max left (edge + j * w)

-- what they give to window m, so many rows high, where window n begins at `edge`
unfoldable pub row_part : ℕ → ℕ → ℕ → ℕ → ℕ → ℕ → ℕ → ℕ
row_part n edge w left right rows m = only (leb n m) (columns_in edge w left right (m - n) * rows)

pub record RowFits (len n edge w left right rows : ℕ) : Type 0 where
  pub from : edge ≤ left
  pub near : left < edge + w
  pub some : left < right
  pub room : right ≤ edge + (len - n) * w
  pub to : right ≤ 2 ^ 32
  pub wide : right ≤ left + 2 ^ 25
  pub step : w ≤ 2 ^ 25
  pub high : rows ≤ 2 ^ 25

-- the row is added
abbrev pub AddsRow : List Float → List Float → ℕ → ℕ → ℕ → ℕ → ℕ → ℕ → Type 0
AddsRow old new n edge w left right rows =
    (N : ℕ) → N ≤ length old → right ≤ edge + (N - n) * w → let p = row_part n edge w left right rows in Grow N old new p p

module _ (n edge w left right rows : ℕ) where
  abbrev part : ℕ → ℕ
  part = row_part n edge w left right rows

  pub part_before : (m : ℕ) → m < n → part m ≡ 0
  unfolding row_part
  part_before m h = ap (λ b. only b (columns_in edge w left right (m - n) * rows)) (lt-leb n m h)

  pub part_from : (m : ℕ) → n ≤ m → part m ≡ columns_in edge w left right (m - n) * rows
  unfolding row_part
  part_from m h = ap (λ b. only b (columns_in edge w left right (m - n) * rows)) (le-leb n m h)

  -- a window that begins at `right` or after it gets none
  pub part_past : (m : ℕ) → n ≤ m → right ≤ edge + (m - n) * w → part m ≡ 0
  part_past m h k =
      let e : columns_in edge w left right (m - n) ≡ 0 = omega arith in
      part_from m h ∙ ap (λ c. c * rows) e ∙ zero-mul rows

  -- where the loop stands: the window i, and the column where it begins
  pub record RowGoes (i start : ℕ) : Type 0 where
    pub past : n ≤ i
    pub at : start ≡ edge + (i - n) * w

  abbrev pub Adding : List Float → List Float → ℕ → ℕ → Type 0
  Adding old new i start = RowGoes i start × ((N : ℕ) → N ≤ length old → right ≤ edge + (N - n) * w → Grow N old new part (up_to i part))

  further : (i : ℕ) → n ≤ i → (i + 1 - n) * w ≡ (i - n) * w + w
  further i h = let e : i + 1 - n ≡ suc (i - n) = omega arith in ap (λ k. k * w) e ∙ suc-mul (i - n) w

  module _ (len : ℕ) (o : RowFits len n edge w left right rows) where
    pub row_starts : RowGoes n edge
    row_starts =
        let e : (n - n) * w ≡ 0 = ap (λ k. k * w) (let d : n - n ≡ 0 = omega arith in d) ∙ zero-mul w in
        record { past = omega arith; at = omega arith }

    pub row_on : (i start : ℕ) → RowGoes i start → RowGoes (i + 1) (start + w)
    row_on i start r =
        let d = further i r.past in
        record { past = omega (arith, r.past); at = omega (arith, r.at) }

    -- the window's columns are those from `from` on and before `to`: there are some
    pub row_less : (i start from end to : ℕ) → RowGoes i start → from ≡ min right (max left start) → end ≡ start + w → from < right → to ≡ min end right
        → from < to
    row_less i start from end to r a b h e = omega (arith, r, o)

    -- what is added is the window's part
    pub row_gives : (i start c : ℕ) → RowGoes i start → c ≡ (min right (start + w) - max left start) * rows → c ≡ part i
    row_gives i start c r d = d ∙ ap (λ k. (min right (k + w) - max left k) * rows) r.at ∙ sym (part_from i r.past)

    -- the window is one of those there are
    pub row_inside : (N i start : ℕ) → RowGoes i start → start < right → right ≤ edge + (N - n) * w → i < N
    row_inside N i start r h k =
        lt_cases i N (λ l. l)
        (λ l. absurd (omega (arith, r, o, mul-le-mul_right {m = N - n} {n = i - n} w (omega arith))))

    -- the window's right end is no large number
    pub row_end_small : (i start : ℕ) → RowGoes i start → start < right → start + w < 2 ^ 33
    row_end_small i start r h = omega (arith, o)

    pub adding_starts : (old : List Float) → Adding old old n edge
    adding_starts old = (
      row_starts,
      λ N l k base f c b.
          counts_same base _ _ _ _ c
          (λ m h. lt_cases m n
          (λ g. omega (arith, only_lt m n (part m) g, part_before m g))
          (λ g. omega (arith, only_ge m n (part m) g))),
    )

    pub adding_on : (old new next : List Float) (i start c : ℕ) → Adding old new i start → start < right → c ≡ (min right (start + w) - max left start) * rows
        → length new ≡ length old → next ≡ set new i (Ieee.add binary64 (get_or new i (float 0)) (float c)) → Adding old next (i + 1) (start + w)
    adding_on old new next i start c (r, g) h d s e = (
      row_on i start r,
      λ N l k.
          subst (λ out. Grow N old out part (up_to (i + 1) part)) (sym e)
          (grow_next N old new part i c l s (row_inside N i start r h k) (row_gives i start c r d) (g N l k)),
    )

    pub adding_ends : (old new : List Float) (i start : ℕ) → Adding old new i start → right ≤ start → AddsRow old new n edge w left right rows
    adding_ends old new i start (r, g) h N l k =
        grow_same N old new part (up_to i part) part
        (λ m b. lt_cases m i
        (λ q. only_lt m i (part m) q)
        (λ q. only_ge m i (part m) q ∙ sym (part_past m (omega (arith, r.past)) (omega (arith, r.at, mul-le-mul_right {m = i - n} {n = m - n} w (omega arith))))))
        (g N l k)
