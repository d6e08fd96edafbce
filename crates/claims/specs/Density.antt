-- What a density report tells, by its promise alone: the total is the area's covered count, the entries stand row by row from the top, and they and the two
-- shares are ranked as the windows' counts are. Assumes nothing.
use Rattle.std.specs.Prelude.{◌≡◌, ◌↔◌, List, ℕ, ◌+◌, ◌*◌, ◌≤◌, ◌<◌, ◌^◌, ℤ, pos, T, Float, get_or}
use Rattle.std.proofs.Common.{sym, ap, ap₂, ◌∙◌, subst, subst₂, mul-pos, arith}
use Rattle.std.specs.Float.Ieee as Ieee
use Rattle.geometry.specs.Cases.{lt_cases}
use Rattle.seek.specs.Meaning.{Area}
use Rattle.density.specs.Meaning.{covered, columns_of, rows_of, windows_of, window_at, count_of}
use Rattle.density.specs.Shares.{float, share_of}
use Rattle.density.specs.ShareOrder.{share_lt, share_le, lt_once}
use Rattle.density.specs.Blocks.{grid_below, grid_row, grid_column}
use Rattle.density.specs.Windows.{covered_windows}
use Rattle.density.specs.Reporting.{small, count_most}
use Rattle.ushanderi.specs.Answers.{DONE}
use Rattle.ushanderi.specs.declared.reports.DensityAnswer.{DensityAnswer}
use Rattle.ushanderi.specs.Promises.{DensitySays}
use Rattle.claims.specs.AgreeReports.{density_done}
use Rattle.claims.specs.Terms.{Given}

abbrev pub entry : List Float → ℕ → Float
entry list n = get_or list n (float 0)

module _ (t : List ℤ) (A : Area) (w h : ℕ) (out out' : List Float) (a : DensityAnswer) (s : DensitySays t A w h out out' a) (d : a.number ≡ pos DONE) where
  given : Given t A w h out out' a
  given = density_done s d

  most : (n : ℕ) → n < windows_of A w h → count_of t A w h n ≤ w * h
  most n l = count_most t A given.rect w h given.steps n l

  cells_some : 1 ≤ w * h
  cells_some = mul-pos given.steps.wide given.steps.high

  cells_few : w * h ≤ 2 ^ 50
  cells_few = (small A given.rect w h given.steps).cells

  -- the total is the covered count of the whole area
  pub total_covered : a.covered ≡ pos (covered t A)
  total_covered =
      ap (λ a. a.covered) given.is ∙ ap pos (given.reports.total ∙ covered_windows A given.rect w h given.steps t)

  -- ---- the entries

  pub entry_share : (n : ℕ) → n < windows_of A w h → entry out' n ≡ share_of (count_of t A w h n) (w * h)
  entry_share n l = given.reports.written.shares n l

  -- row by row from the top, and in a row from left to right
  pub entry_at : (row column : ℕ) → row < rows_of A h → column < columns_of A w
      → entry out' (row * columns_of A w + column) ≡ share_of (covered t (window_at A w h row column)) (w * h)
  entry_at row column r c =
      let C = columns_of A w in
      let n = row * C + column in
      entry_share n (grid_below (rows_of A h) C row column r c)
      ∙ ap₂ (λ r c. share_of (covered t (window_at A w h r c)) (w * h)) (grid_row C row column c) (grid_column C row column c)

  lt_share : (m n : ℕ) → m < windows_of A w h → n < windows_of A w h → count_of t A w h m < count_of t A w h n → T (Ieee.lt (entry out' m) (entry out' n))
  lt_share m n k l c =
      subst₂ (λ x y. T (Ieee.lt x y)) (sym (entry_share m k)) (sym (entry_share n l))
      (share_lt (count_of t A w h m) (count_of t A w h n) (w * h) c (most n l) cells_few)

  eq_share : (m n : ℕ) → m < windows_of A w h → n < windows_of A w h → count_of t A w h m ≡ count_of t A w h n → entry out' m ≡ entry out' n
  eq_share m n k l c = entry_share m k ∙ ap (λ c. share_of c (w * h)) c ∙ sym (entry_share n l)

  -- the count of m is smaller than that of n, equal to it, or larger
  by_counts : {P : Type 0} (m n : ℕ) → m < windows_of A w h → n < windows_of A w h
      → (count_of t A w h m < count_of t A w h n → P) → (count_of t A w h m ≡ count_of t A w h n → entry out' m ≡ entry out' n → P)
      → (T (Ieee.lt (entry out' n) (entry out' m)) → P) → P
  by_counts m n k l less equal more =
      lt_cases (count_of t A w h m) (count_of t A w h n) less
      (λ o. lt_cases (count_of t A w h n) (count_of t A w h m) (λ g. more (lt_share n m l k g))
      (λ g. let e : count_of t A w h m ≡ count_of t A w h n = omega arith in equal e (eq_share m n k l e)))

  -- of two windows the one with the larger count has the larger share, and those of one count have one share; and nothing else makes it so
  pub larger_share : (m n : ℕ) → m < windows_of A w h → n < windows_of A w h
      → (count_of t A w h m < count_of t A w h n) ↔ T (Ieee.lt (entry out' m) (entry out' n))
  larger_share m n k l = (
    lt_share m n k l,
    λ g. by_counts m n k l (λ c. c)
        (λ c e. absurd (lt_once (entry out' m) (entry out' n) g (subst₂ (λ x y. T (Ieee.lt x y)) e (sym e) g)))
        (λ o. absurd (lt_once (entry out' m) (entry out' n) g o)),
  )

  pub equal_share : (m n : ℕ) → m < windows_of A w h → n < windows_of A w h → (count_of t A w h m ≡ count_of t A w h n) ↔ (entry out' m ≡ entry out' n)
  equal_share m n k l = (
    eq_share m n k l,
    λ e. by_counts m n k l (λ c. absurd (itself (subst (λ x. T (Ieee.lt (entry out' m) x)) (sym e) (lt_share m n k l c)))) (λ c e. c)
        (λ o. absurd (itself (subst (λ x. T (Ieee.lt x (entry out' m))) (sym e) o))),
  )
    where
      itself : T (Ieee.lt (entry out' m) (entry out' m)) → ⊥
      itself g = lt_once (entry out' m) (entry out' m) g g

  -- ---- lowest and highest: each is some window's share, and none is below or above it

  lowest_is : a.lowest ≡ share_of given.reports.least (w * h)
  lowest_is = ap (λ a. a.lowest) given.is ∙ given.reports.lowest

  highest_is : a.highest ≡ share_of given.reports.most (w * h)
  highest_is = ap (λ a. a.highest) given.is ∙ given.reports.highest

  pub lowest_some : (n : ℕ) × (n < windows_of A w h) × (a.lowest ≡ entry out' n)
  lowest_some =
      let p = given.reports.least_is in
      (p.at, p.below, lowest_is ∙ ap (λ c. share_of c (w * h)) (sym p.is) ∙ sym (entry_share p.at p.below))

  pub highest_some : (n : ℕ) × (n < windows_of A w h) × (a.highest ≡ entry out' n)
  highest_some =
      let p = given.reports.most_is in
      (p.at, p.below, highest_is ∙ ap (λ c. share_of c (w * h)) (sym p.is) ∙ sym (entry_share p.at p.below))

  pub lowest_least : (n : ℕ) → n < windows_of A w h → T (Ieee.le a.lowest (entry out' n))
  lowest_least n l =
      subst₂ (λ x y. T (Ieee.le x y)) (sym lowest_is) (sym (entry_share n l))
      (share_le given.reports.least (count_of t A w h n) (w * h) (given.reports.least_is.least n l) (most n l) cells_some cells_few)

  pub highest_most : (n : ℕ) → n < windows_of A w h → T (Ieee.le (entry out' n) a.highest)
  highest_most n l =
      let p = given.reports.most_is in
      subst₂ (λ x y. T (Ieee.le x y)) (sym (entry_share n l)) (sym highest_is)
      (share_le (count_of t A w h n) given.reports.most (w * h) (p.most n l) (subst (λ c. c ≤ w * h) p.is (most p.at p.below)) cells_some cells_few)
