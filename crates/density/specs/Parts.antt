-- A rectangle inside the area: its cells added to the windows that it meets, row by row of windows from the top. Assumes nothing.
use Rattle.std.specs.Prelude.{◌≡◌, refl, List, ltb, Float, length}
use Rattle.std.proofs.Common.{sym, ap, ap₂, ◌∙◌, suc-mul, add-mul, zero-mul, mul-zero, mul-le-mul_right, mod-lt, div-add-mod', div-lt_iff_lt-mul, div-le_self, div-mul-le_self, arith}
use Prim.Native.Nat.{ℕ, suc, ◌+◌, ◌-◌, ◌*◌, ◌/◌, ◌%◌, ◌≤◌, ◌<◌, ◌^◌, min, max}
use Rattle.std.proofs.Math.Nat.{lt-div-mul-add}
use Rattle.geometry.specs.Cases.{lt_cases, eq_cases, only_le}
use Rattle.geometry.specs.Counting.{only}
use Rattle.seek.specs.Meaning.{Area, RectRight}
use Rattle.density.specs.Meaning.{width_of, height_of, Steps, columns_of, rows_of, windows_of, window_of}
use Rattle.density.specs.Blocks.{step_in, grid_below}
use Rattle.density.specs.Windows.{Inside, sides, some_column}
use Rattle.density.specs.Cover.{part_of, cells_of}
use Rattle.density.specs.Counts.{counts_same}
use Rattle.density.specs.Row.{Grow, grow_same, only_lt, only_ge, row_part, RowFits, AddsRow, part_before, part_from, part_past}

-- the cells of P in window m
abbrev pub cells_in : Area → ℕ → ℕ → Area → ℕ → ℕ
cells_in A w h P m = cells_of (part_of (window_of A w h m) P)

-- a rectangle with cells, inside the area
pub record PartFits (A P : Area) : Type 0 where
  pub inside : Inside P A
  pub wide : P.left < P.right
  pub high : P.bottom < P.top

abbrev pub AddsPart : List Float → List Float → Area → ℕ → ℕ → Area → Type 0
AddsPart old new A w h P = let p = cells_in A w h P in Grow (windows_of A w h) old new p p

-- cuts by two edges, one at a time: omega takes only a few of them together
above : (b t u from : ℕ) → from ≡ max b (min t u) → b < from → from ≡ min t u
above b t u from e l = omega arith

under : (b t e to : ℕ) → to ≡ max e b → e ≤ t → to ≡ max b (min t e)
under b t e to q l = omega arith

-- how far two edges lie under a top
nearer : (top b e : ℕ) → b ≤ top → e ≤ top → min (top - b) e + max b (top - e) ≡ top
nearer top b e h k = omega arith

farther : (top t d : ℕ) → t ≤ top → d ≤ top → max (top - t) d + min t (top - d) ≡ top
farther top t d h k = omega arith

turned : (x m y n top : ℕ) → x + m ≡ top → y + n ≡ top → x - y ≡ n - m
turned x m y n top e d = omega arith

past : (b t u v : ℕ) → u ≤ b → min t u - max b v ≡ 0
past b t u v l = omega arith

module _ (A : Area) (w h : ℕ) (P : Area) where
  abbrev C : ℕ
  C = columns_of A w

  -- the column and the row of the window that holds P's upper left cell, and where that window begins
  abbrev pub column : ℕ
  column = (P.left - A.left) / w

  abbrev pub row₀ : ℕ
  row₀ = (A.top - P.top) / h

  abbrev pub edge : ℕ
  edge = A.left + column * w

  pub record Corner : Type 0 where
    pub left_from : column * w ≤ P.left - A.left
    pub left_near : P.left - A.left < column * w + w
    pub top_from : row₀ * h ≤ A.top - P.top
    pub top_near : A.top - P.top < row₀ * h + h
    pub column_in : column < C
    pub across : C * w ≡ width_of A
    pub down : rows_of A h * h ≡ height_of A

  -- the columns and the rows of P in a window of column c and of row r
  abbrev X : ℕ → ℕ
  X c = min P.right (A.left + c * w + w) - max P.left (A.left + c * w)

  abbrev Y : ℕ → ℕ
  Y r = min P.top (A.top - r * h) - max P.bottom (A.top - (r * h + h))

  cells_none : (m : ℕ) → Y (m / C) ≡ 0 → cells_in A w h P m ≡ 0
  cells_none m e = ap (λ y. X (m % C) * y) e ∙ mul-zero (X (m % C))

  -- ---- where the loop stands: rows of windows over `row` are done

  pub record PartGoes (n depth : ℕ) : Type 0 where
    pub row : ℕ
    pub low : row₀ ≤ row
    pub most : row ≤ rows_of A h
    pub at : n ≡ row * C + column
    pub next : depth ≡ row * h

  abbrev pub by_row : ℕ → (ℕ → ℕ) → ℕ → ℕ
  by_row r p m = only (ltb (m / C) r) (p m)

  abbrev N : ℕ
  N = windows_of A w h

  abbrev p : ℕ → ℕ
  p = cells_in A w h P

  -- the first window's number, and the edges of its row and column
  pub record Start : Type 0 where
    pub step : w ≤ 2 ^ 25
    pub rise : h ≤ 2 ^ 25
    pub columns : C ≤ 2 ^ 25
    pub over : row₀ * C + column < N
    pub above : row₀ * h + h ≤ A.top
    pub wide : column * w ≤ 2 ^ 25

  module _ (a : RectRight A) (s : Steps A w h) (o : PartFits A P) where
    pub corner : Corner
    corner =
        let u = P.left - A.left in
        let v = A.top - P.top in
        let z = sides A w h s in
        record {
          left_from = div-mul-le_self u w;
          left_near = lt-div-mul-add {a = u} {b = w} s.wide;
          top_from = div-mul-le_self v h;
          top_near = lt-div-mul-add {a = v} {b = h} s.high;
          column_in = (div-lt_iff_lt-mul {k = w} {x = u} {y = C} s.wide).1 (omega (arith, z.across, o.inside, o.wide));
          across = z.across;
          down = z.down;
        }

    X_before : (c : ℕ) → c < column → X c ≡ 0
    X_before c l = omega (arith, corner.left_from, step_in c column w l, o.inside)

    Y_before : (r : ℕ) → r < row₀ → Y r ≡ 0
    Y_before r l = omega (arith, corner.top_from, step_in r row₀ h l, o.inside, o.high)

    module _ (n depth rows : ℕ) (g : PartGoes n depth) (more : depth < A.top - P.bottom)
        (e : rows ≡ min (A.top - P.bottom) (depth + h) - max (A.top - P.top) depth) where
      abbrev r : ℕ
      r = g.row

      abbrev part : ℕ → ℕ
      part = row_part n edge w P.left P.right rows

      -- so many rows of windows are before this one
      over : r * h < height_of A
      over = omega (arith, g.next, o.inside)

      pub row_in : r < rows_of A h
      row_in = lt_cases r (rows_of A h) (λ l. l) (λ l. absurd (omega (arith, over, corner.down, mul-le-mul_right {m = rows_of A h} {n = r} h l)))

      -- the window ends over the rectangle's bottom
      ends : r * h + h ≤ A.top
      ends = omega (arith, step_in r (rows_of A h) h row_in, corner.down, a)

      -- the plane's lowest row is a high number: no edge of a window falls below 0
      pub end_room : r * h + h + h ≤ A.top
      end_room = omega (arith, step_in r (rows_of A h) h row_in, corner.down, a)

      -- the window lies no higher than the one that has P's highest row, and ends under P's top
      later : row₀ * h ≤ r * h
      later = mul-le-mul_right {m = row₀} {n = r} h g.low

      end_under : A.top - (r * h + h) < P.top
      end_under = omega (arith, later, corner.top_near, o.inside)

      -- P's rows in the window are those under `from` and from `to` on: there are some
      pub part_less : (from end to : ℕ) → from ≡ max P.bottom (min P.top (A.top - r * h)) → end + (r * h + h) ≡ A.top → to ≡ max end P.bottom → to < from
      part_less from end to at next t = omega (arith, at, next, t, g.next, more, end_under, o.inside, o.high, s.high)

      rows_are : rows ≡ Y r
      rows_are =
          e
          ∙ ap (λ d. min (A.top - P.bottom) (d + h) - max (A.top - P.top) d) g.next
          ∙ turned _ _ _ _ A.top (nearer A.top P.bottom (r * h + h) (omega (arith, o.inside, o.high)) ends) (farther A.top P.top (r * h) (omega (arith, o.inside)) (omega (arith, ends)))

      -- from this row's window on there are as many windows as the row has left
      windows_left : (len : ℕ) → N ≤ len → C - column ≤ len - n
      windows_left len l = omega (arith, g.at, corner.column_in, step_in r (rows_of A h) C row_in)

      reaches : (k : ℕ) → C - column ≤ k → P.right ≤ edge + k * w
      reaches k l =
          let d : column + (C - column) ≡ C = omega (arith, corner.column_in) in
          omega (
            arith,
            corner.across,
            ap (λ c. c * w) d,
            add-mul column (C - column) w,
            mul-le-mul_right {m = C - column} {n = k} w l,
            o.inside,
            a,
          )

      pub row_fits : (len : ℕ) → N ≤ len → RowFits len n edge w P.left P.right rows
      row_fits len l = record {
        from = omega (arith, corner.left_from, o.inside);
        near = omega (arith, corner.left_near, o.inside);
        some = o.wide;
        room = reaches (len - n) (windows_left len l);
        to = omega (arith, o.inside, a);
        wide = omega (arith, o.inside, a);
        step = omega (arith, step_in 0 C w (omega (arith, corner.column_in)), zero-mul w, corner.across, a);
        high = omega (arith, e, o.inside, a);
      }

      pub window_in : n < N
      window_in = omega (arith, g.at, grid_below (rows_of A h) C r column row_in corner.column_in)

      part_on : PartGoes (n + C) (depth + h)
      part_on = record {
        row = suc r;
        low = omega (arith, g.low);
        most = row_in;
        at = omega (arith, g.at, suc-mul r C);
        next = omega (arith, g.next, suc-mul r h);
      }

      -- ---- a row of windows gets its cells, and no other does

      before_row : (m : ℕ) → m / C < r → part m ≡ 0
      before_row m l =
          part_before n edge w P.left P.right rows m
          (omega (arith, g.at, div-add-mod' m C, mod-lt m {m = C} (some_column A a w h s), step_in (m / C) r C l))

      in_row : (m : ℕ) → m / C ≡ r → part m ≡ p m
      in_row m q =
          let c = m % C in
          let d : m ≡ r * C + c = sym (div-add-mod' m C) ∙ ap (λ k. k * C + c) q in
          let y : Y (m / C) ≡ rows = ap Y q ∙ sym rows_are in
          lt_cases c column
          (λ l. part_before n edge w P.left P.right rows m (omega (arith, g.at))
          ∙ sym (ap (λ x. x * Y (m / C)) (X_before c l) ∙ zero-mul (Y (m / C))))
          (λ l.
          let j : m - n ≡ c - column = omega (arith, g.at) in
          let i : column + (c - column) ≡ c = omega arith in
          let x : edge + (m - n) * w ≡ A.left + c * w =
          omega (arith, ap (λ k. k * w) j, ap (λ k. k * w) i, add-mul column (c - column) w) in
          part_from n edge w P.left P.right rows m (omega (arith, g.at))
          ∙ ap₂ ◌*◌ (ap (λ k. min P.right (k + w) - max P.left k) x) (sym y))

      after_row : (m : ℕ) → r < m / C → part m ≡ 0
      after_row m l =
          let b = step_in r (m / C) C l in
          let d = div-add-mod' m C in
          part_past n edge w P.left P.right rows m (omega (arith, g.at, corner.column_in)) (reaches (m - n) (omega (arith, g.at, corner.column_in)))

      row_grows : (m : ℕ) → by_row r p m + part m ≡ by_row (suc r) p m
      row_grows m =
          lt_cases (m / C) r
          (λ l. omega (arith, only_lt (m / C) r (p m) l, only_lt (m / C) (suc r) (p m) (omega arith), before_row m l))
          (λ l. eq_cases (m / C) r
          (λ q. omega (arith, only_ge (m / C) r (p m) l, only_lt (m / C) (suc r) (p m) (omega arith), in_row m q))
          (λ q. omega (arith, only_ge (m / C) r (p m) l, only_ge (m / C) (suc r) (p m) (omega arith), after_row m (omega arith))))

      pub rows_on : (old mid new : List Float) → N ≤ length mid → Grow N old mid p (by_row r p) → AddsRow mid new n edge w P.left P.right rows
          → Grow N old new p (by_row (suc r) p)
      rows_on old mid new l g' u base f c b =
          counts_same base new N (λ m. f m + by_row r p m + part m) (λ m. f m + by_row (suc r) p m)
          (u N l (reaches (N - n) (windows_left N (omega arith))) base (λ m. f m + by_row r p m) (g' base f c b)
          (λ m k. omega (arith, b m k, row_grows m, only_le (ltb (m / C) (suc r)) (p m))))
          (λ m k. omega (arith, row_grows m))

    -- ---- how it begins and ends

    pub start_in : row₀ < rows_of A h
    start_in = (div-lt_iff_lt-mul {k = h} {x = A.top - P.top} {y = rows_of A h} s.high).1 (omega (arith, corner.down, o.inside, o.high))

    pub start : Start
    start = record {
      step = omega (arith, step_in 0 C w (omega (arith, corner.column_in)), zero-mul w, corner.across, a);
      rise = omega (arith, step_in 0 (rows_of A h) h (omega (arith, start_in)), zero-mul h, corner.down, a);
      columns = omega (arith, div-le_self (width_of A) w, a);
      over = grid_below (rows_of A h) C row₀ column start_in corner.column_in;
      above = omega (arith, corner.down, a, step_in row₀ (rows_of A h) h start_in);
      wide = omega (arith, corner.left_from, o.inside, a, o.wide);
    }

    part_starts : PartGoes (row₀ * C + column) (row₀ * h)
    part_starts = record { row = row₀; low = omega arith; most = omega (arith, start_in); at = refl; next = refl }

    pub rows_start : (old : List Float) → Grow N old old p (by_row row₀ p)
    rows_start old base f c b =
        counts_same base _ _ _ _ c
        (λ m k. lt_cases (m / C) row₀
        (λ l. omega (arith, only_lt (m / C) row₀ (p m) l, cells_none m (Y_before (m / C) l)))
        (λ l. omega (arith, only_ge (m / C) row₀ (p m) l)))

    pub rows_end : (old new : List Float) (n depth : ℕ) (g : PartGoes n depth) → A.top - P.bottom ≤ depth → Grow N old new p (by_row g.row p) → AddsPart old new A w h P
    rows_end old new n depth g q =
        grow_same N old new p (by_row g.row p) p
        (λ m k. lt_cases (m / C) g.row
        (λ l. only_lt (m / C) g.row (p m) l)
        (λ l.
        let y : Y (m / C) ≡ 0 = past P.bottom P.top (A.top - m / C * h) _ (omega (arith, g.next, mul-le-mul_right {m = g.row} {n = m / C} h l)) in
        only_ge (m / C) g.row (p m) l ∙ sym (cells_none m y)))

-- ---- the loop of the code: where its numbers are those of some area

pub record Started (A : Area) (w h : ℕ) (P : Area) (area_top columns column row edge len : ℕ) : Type 0 where
  pub rect : RectRight A
  pub steps : Steps A w h
  pub fits : PartFits A P
  pub top_is : area_top ≡ A.top
  pub columns_are : columns ≡ columns_of A w
  pub column_is : column ≡ (P.left - A.left) / w
  pub row_is : row ≡ (A.top - P.top) / h
  pub edge_is : edge ≡ A.left + (P.left - A.left) / w * w
  pub room : windows_of A w h ≤ len

pub record Parting (A : Area) (w h : ℕ) (P : Area) (old new : List Float) (n depth : ℕ) : Type 0 where
  pub goes : PartGoes A w h P n depth
  pub grown : Grow (windows_of A w h) old new (cells_in A w h P) (by_row A w h P goes.row (cells_in A w h P))

module _ (A : Area) (w h : ℕ) (P : Area) (a : RectRight A) (s : Steps A w h) (o : PartFits A P) (old : List Float) where
  pub parting_starts : Parting A w h P old old (row₀ A w h P * columns_of A w + column A w h P) (row₀ A w h P * h)
  unfolding part_starts
  parting_starts = record { goes = part_starts A w h P a s o; grown = rows_start A w h P a s o old }

  pub parting_on : (mid new : List Float) (n depth rows : ℕ) → Parting A w h P old mid n depth → depth < A.top - P.bottom
      → rows ≡ min (A.top - P.bottom) (depth + h) - max (A.top - P.top) depth → windows_of A w h ≤ length mid
      → AddsRow mid new n (edge A w h P) w P.left P.right rows → Parting A w h P old new (n + columns_of A w) (depth + h)
  unfolding part_on
  parting_on mid new n depth rows g more e l u = record {
    goes = part_on A w h P a s o n depth rows g.goes more e;
    grown = rows_on A w h P a s o n depth rows g.goes more e old mid new l g.grown u;
  }

  pub parting_ends : (new : List Float) (n depth : ℕ) → Parting A w h P old new n depth → A.top - P.bottom ≤ depth → AddsPart old new A w h P
  parting_ends new n depth g q = rows_end A w h P a s o old new n depth g.goes q g.grown
