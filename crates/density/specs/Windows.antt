-- The windows of an area: each is a rectangle inside it, no two share a cell, and their covered cells are the area's. Assumes nothing.
use Rattle.std.specs.Prelude.{◌≡◌, List, ℕ, suc, ◌+◌, ◌-◌, ◌*◌, ◌/◌, ◌%◌, ◌≤◌, ◌<◌, ℤ}
use Rattle.std.proofs.Math.Path.{sym, ap, ap₂}
use Rattle.std.proofs.Common.{◌∙◌, subst₂, suc-mul, add_assoc, mod-lt, div-add-mod', div-lt_iff_lt-mul, div-mul-le_self, add-mul, mul-pos}
use Rattle.std.proofs.Math.Nat.{lt-div-mul-add}
use native.Mathlib.Omega.{arith}
use Rattle.geometry.specs.Cases.{lt_cases}
use Rattle.geometry.specs.Counting.{only, sum_to, count}
use Rattle.geometry.specs.Sums.{sum_ext, sum_swap}
use Rattle.seek.specs.Meaning.{Area, RectRight, InArea}
use Rattle.density.specs.Meaning.{metal, width_of, height_of, covered, Steps, columns_of, rows_of, windows_of, window_at, window_of}
use Rattle.density.specs.Blocks.{step_in, grid_row, grid_column, sum_blocks, sum_back, sum_grid}

-- a number lies in one step
step_one : (w c d u : ℕ) → c * w ≤ u → u < c * w + w → d * w ≤ u → u < d * w + w → c ≡ d
step_one w c d u a b p q =
    lt_cases c d (λ h. absurd (omega (arith, step_in c d w h))) (λ h. lt_cases d c (λ k. absurd (omega (arith, step_in d c w k))) (λ k. omega arith))

-- the area's sides are whole numbers of steps
pub record Sides (A : Area) (w h : ℕ) : Type 0 where
  pub across : columns_of A w * w ≡ width_of A
  pub down : rows_of A h * h ≡ height_of A

pub sides : (A : Area) (w h : ℕ) → Steps A w h → Sides A w h
sides A w h s = record {
  across = omega (arith, div-add-mod' (width_of A) w, s.columns);
  down = omega (arith, div-add-mod' (height_of A) h, s.rows);
}

-- where window n stands: its row and column, and that it ends inside the area
pub record Place (A : Area) (w h n : ℕ) : Type 0 where
  pub row : n / columns_of A w < rows_of A h
  pub column : n % columns_of A w < columns_of A w
  pub down : (n / columns_of A w) * h + h ≤ height_of A
  pub across : (n % columns_of A w) * w + w ≤ width_of A

-- an area inside another
pub record Inside (A B : Area) : Type 0 where
  pub left : B.left ≤ A.left
  pub bottom : B.bottom ≤ A.bottom
  pub right : A.right ≤ B.right
  pub top : A.top ≤ B.top

module _ (A : Area) (a : RectRight A) (w h : ℕ) (s : Steps A w h) where
  pub some_column : 1 ≤ columns_of A w
  some_column = lt_cases 0 (columns_of A w) (λ p. p) (λ p. let e : columns_of A w ≡ 0 = omega arith in omega (arith, (sides A w h s).across, ap (λ c. c * w) e))

  some_row : 1 ≤ rows_of A h
  some_row = lt_cases 0 (rows_of A h) (λ p. p) (λ p. let e : rows_of A h ≡ 0 = omega arith in omega (arith, (sides A w h s).down, ap (λ r. r * h) e))

  pub some_window : 0 < windows_of A w h
  some_window = mul-pos some_row some_column

  pub place : (n : ℕ) → n < windows_of A w h → Place A w h n
  place n l =
      let r = (div-lt_iff_lt-mul {k = columns_of A w} {x = n} {y = rows_of A h} some_column).1 l in
      let c = mod-lt n {m = columns_of A w} some_column in
      let z = sides A w h s in
      record {
        row = r;
        column = c;
        down = omega (arith, step_in (n / columns_of A w) (rows_of A h) h r);
        across = omega (arith, step_in (n % columns_of A w) (columns_of A w) w c);
      }

  -- every window is a right rectangle inside the area
  pub window_inside : (n : ℕ) → n < windows_of A w h → Inside (window_of A w h n) A
  window_inside n l = let p = place n l in record { left = omega arith; bottom = omega arith; right = omega arith; top = omega arith }

  pub window_right : (n : ℕ) → n < windows_of A w h → RectRight (window_of A w h n)
  window_right n l =
      let p = place n l in
      record {
        wide = omega (arith, s.wide);
        high = omega (arith, s.high);
        from_left = omega (arith, a);
        to_right = omega (arith, a);
        from_bottom = omega (arith, a);
        to_top = omega (arith, a);
      }

  -- windows share no cell
  pub window_one : (m n x y : ℕ) → m < windows_of A w h → n < windows_of A w h
      → InArea (window_of A w h m) x y → InArea (window_of A w h n) x y → m ≡ n
  window_one m n x y l k i j =
      let p = place m l in
      let q = place n k in
      let C = columns_of A w in
      let c = step_one w (m % C) (n % C) (x - A.left) (omega (arith, i)) (omega (arith, i)) (omega (arith, j)) (omega (arith, j)) in
      let r = step_one h (m / C) (n / C) (A.top - suc y) (omega (arith, i)) (omega (arith, i)) (omega (arith, j)) (omega (arith, j)) in
      sym (div-add-mod' m C) ∙ ap₂ (λ r c. r * C + c) r c ∙ div-add-mod' n C

  -- and every cell of the area lies in one
  pub window_some : (x y : ℕ) → InArea A x y → (n : ℕ) × (n < windows_of A w h) × InArea (window_of A w h n) x y
  window_some x y i =
      let C = columns_of A w in
      let u = x - A.left in
      let v = A.top - suc y in
      let z = sides A w h s in
      let c = (div-lt_iff_lt-mul {k = w} {x = u} {y = C} s.wide).1 (omega (arith, i)) in
      let r = (div-lt_iff_lt-mul {k = h} {x = v} {y = rows_of A h} s.high).1 (omega (arith, i)) in
      let n = v / h * C + u / w in
      let row : n / C ≡ v / h = grid_row C (v / h) (u / w) c in
      let column : n % C ≡ u / w = grid_column C (v / h) (u / w) c in
      let cell : InArea (window_at A w h (v / h) (u / w)) x y =
      omega (arith, div-mul-le_self u w, lt-div-mul-add {a = u} {b = w} s.wide, div-mul-le_self v h, lt-div-mul-add {a = v} {b = h} s.high) in
      (n, omega (arith, step_in (v / h) (rows_of A h) C r), subst₂ (λ r c. InArea (window_at A w h r c) x y) (sym row) (sym column) cell)

  module _ (t : List ℤ) where
    abbrev cell : ℕ → ℕ → ℕ
    cell x y = only (metal t x y) 1

    -- row y of the area
    abbrev across : ℕ → ℕ
    across y = sum_to (width_of A) (λ x. cell (A.left + x) y)

    -- a row of windows, q rows of windows over the area's bottom
    abbrev band : ℕ → ℕ
    band q = sum_to h (λ j. across (A.bottom + (q * h + j)))

    window_cells : (r c : ℕ) → r < rows_of A h
        → covered t (window_at A w h r c) ≡ sum_to h (λ j. sum_to w (λ i. cell (A.left + (c * w + i)) (A.top - (r * h + h) + j)))
    unfolding covered count
    window_cells r c l =
        let z = sides A w h s in
        let e : A.top - r * h - (A.top - (r * h + h)) ≡ h = omega (arith, step_in r (rows_of A h) h l) in
        let d : A.left + c * w + w - (A.left + c * w) ≡ w = omega arith in
        ap₂ (λ m n. sum_to m (λ j. sum_to n (λ i. cell (A.left + c * w + i) (A.top - (r * h + h) + j)))) e d
        ∙ sum_ext h (λ j p. sum_ext w (λ i q. ap (λ x. cell x (A.top - (r * h + h) + j)) (add_assoc A.left (c * w) i)))

    row_band : (r : ℕ) → r < rows_of A h → sum_to (columns_of A w) (λ c. covered t (window_at A w h r c)) ≡ band (rows_of A h - suc r)
    row_band r l =
        let C = columns_of A w in
        let z = sides A w h s in
        let q = rows_of A h - suc r in
        let low : A.top - (r * h + h) ≡ A.bottom + q * h = omega (arith, a.high, suc-mul r h, add-mul q (suc r) h, ap (λ n. n * h) (rows_split r l)) in
        sum_ext C (λ c k. window_cells r c l)
        ∙ sum_swap C h (λ c j. sum_to w (λ i. cell (A.left + (c * w + i)) (A.top - (r * h + h) + j)))
        ∙ sum_ext h (λ j k.
        sym (sum_blocks C w (λ x. cell (A.left + x) (A.top - (r * h + h) + j)))
        ∙ ap₂ (λ n y. sum_to n (λ x. cell (A.left + x) y)) z.across (ap (λ b. b + j) low ∙ add_assoc A.bottom (q * h) j))
      where
        rows_split : (r : ℕ) → r < rows_of A h → rows_of A h - suc r + suc r ≡ rows_of A h
        rows_split r l = omega arith

    pub covered_windows : sum_to (windows_of A w h) (λ n. covered t (window_of A w h n)) ≡ covered t A
    unfolding covered count
    covered_windows =
        sum_grid (rows_of A h) (columns_of A w) (λ r c. covered t (window_at A w h r c))
        ∙ sum_ext (rows_of A h) row_band
        ∙ sum_back (rows_of A h) band
        ∙ sym (sum_blocks (rows_of A h) h (λ y. across (A.bottom + y)))
        ∙ ap (λ n. sum_to n (λ y. across (A.bottom + y))) (sides A w h s).down
