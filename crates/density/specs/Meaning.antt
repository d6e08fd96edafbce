-- Covered cells and windows, as 02's request #101 tells them: what a reader must believe. All numbers are on the ruler. Assumes nothing.
use Rattle.std.specs.Prelude.{◌≡◌, Bool, false, ◌&&◌, ◌||◌, List, ℕ, zero, suc, ◌+◌, ◌-◌, ◌*◌, ◌/◌, ◌%◌, ◌≤◌, ℤ, leb, ltb}
use Rattle.geometry.specs.Counting.{sum_to, count}
use Rattle.geometry.specs.Picture.{Tile}
use Rattle.table.specs.Words.{records_of, tile_of}
use Rattle.table.specs.Sound.{solid_at}
use Rattle.seek.specs.Meaning.{Area}

-- ---- covered cells

-- some number below n passes the test
unfoldable pub any_to : ℕ → (ℕ → Bool) → Bool
any_to zero p = false
any_to (suc n) p = any_to n p || p n

-- the tile holds the cell: the test of `Has`
abbrev pub has_cell : Tile → ℕ → ℕ → Bool
has_cell v x y = (leb v.left x && ltb x v.right) && (leb v.bottom y && ltb y v.top)

-- some solid holds the cell
abbrev pub metal : List ℤ → ℕ → ℕ → Bool
metal t x y = any_to (records_of t) (λ i. solid_at t i && has_cell (tile_of t i) x y)

abbrev pub width_of : Area → ℕ
width_of A = A.right - A.left

abbrev pub height_of : Area → ℕ
height_of A = A.top - A.bottom

-- how many cells of the area some solid holds, counted row by row
unfoldable pub covered : List ℤ → Area → ℕ
covered t A = sum_to (height_of A) (λ j. count (width_of A) (λ i. metal t (A.left + i) (A.bottom + j)))

-- ---- windows of width w and height h

-- what STEP does not refuse: no side is below 1, and both divide the area's sides exactly
pub record Steps (A : Area) (w h : ℕ) : Type 0 where
  pub wide : 1 ≤ w
  pub high : 1 ≤ h
  pub columns : width_of A % w ≡ 0
  pub rows : height_of A % h ≡ 0

abbrev pub columns_of : Area → ℕ → ℕ
columns_of A w = width_of A / w

abbrev pub rows_of : Area → ℕ → ℕ
rows_of A h = height_of A / h

-- how many windows there are
abbrev pub windows_of : Area → ℕ → ℕ → ℕ
windows_of A w h = rows_of A h * columns_of A w

-- the window in a row, counted from the top, and a column, counted from the left
abbrev pub window_at : Area → ℕ → ℕ → ℕ → ℕ → Area
window_at A w h row column =
    record {
      left = A.left + column * w;
      bottom = A.top - (row * h + h);
      right = A.left + column * w + w;
      top = A.top - row * h;
    }

-- window n, row by row from the top, left to right
abbrev pub window_of : Area → ℕ → ℕ → ℕ → Area
window_of A w h n = window_at A w h (n / columns_of A w) (n % columns_of A w)

-- how many cells of window n are covered
abbrev pub count_of : List ℤ → Area → ℕ → ℕ → ℕ → ℕ
count_of t A w h n = covered t (window_of A w h n)
