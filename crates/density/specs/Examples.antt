-- The definitions are tried: covered cells, windows and shares worked out on a table written out, 01's A, B and C. Assumes nothing.
use Rattle.std.specs.Prelude.{◌≡◌, refl, ℕ, pos, Float}
use Rattle.std.proofs.Common.{arith}
use Rattle.std.specs.Float.Ieee as Ieee
use Rattle.std.specs.Float.{binary64}
use Rattle.ruler.specs.Ruler.{ruler}
use Rattle.geometry.specs.Counting.{sum_to, count}
use Rattle.table.specs.Words.{num}
use Rattle.table.specs.Examples.{abc}
use Rattle.seek.specs.Meaning.{Area}
use Rattle.density.specs.Meaning.{any_to, covered, Steps, windows_of, window_of, count_of}
use Rattle.density.specs.Shares.{share_of}

abbrev area : ℕ → ℕ → ℕ → ℕ → Area
area l b r t = record { left = ruler (pos l); bottom = ruler (pos b); right = ruler (pos r); top = ruler (pos t) }

-- ---- covered cells: A is 0 0 10 10, B is 20 0 30 10, C is 5 15 25 20

-- inside A
pub filled : covered abc (area 1 2 4 4) ≡ 6
unfolding abc num ruler sum_to count any_to covered
filled = refl

-- between A and B
pub bare : covered abc (area 11 1 14 4) ≡ 0
unfolding abc num ruler sum_to count any_to covered
bare = refl

-- over A's upper right corner: 4 of 16
pub partly : covered abc (area 8 8 12 12) ≡ 4
unfolding abc num ruler sum_to count any_to covered
partly = refl

-- the right edge is not held, nor the upper one: one cell beyond each
pub beyond_right : covered abc (area 10 9 11 10) ≡ 0
unfolding abc num ruler sum_to count any_to covered
beyond_right = refl

pub beyond_top : covered abc (area 9 10 10 11) ≡ 0
unfolding abc num ruler sum_to count any_to covered
beyond_top = refl

-- the last cell of A and the first of B, and none between
pub of_two : covered abc (area 9 9 21 10) ≡ 2
unfolding abc num ruler sum_to count any_to covered
of_two = refl

-- ---- windows of 4 by 4 in 4 8 12 16: two rows of two, from the top

abbrev pub four : Area
four = area 4 8 12 16

pub four_steps : Steps four 4 4
unfolding ruler
four_steps = record { wide = omega arith; high = omega arith; columns = refl; rows = refl }

pub four_windows : windows_of four 4 4 ≡ 4
unfolding ruler
four_windows = refl

pub upper_left : window_of four 4 4 0 ≡ area 4 12 8 16
unfolding ruler
upper_left = refl

pub upper_right : window_of four 4 4 1 ≡ area 8 12 12 16
unfolding ruler
upper_right = refl

pub lower_left : window_of four 4 4 2 ≡ area 4 8 8 12
unfolding ruler
lower_left = refl

pub lower_right : window_of four 4 4 3 ≡ area 8 8 12 12
unfolding ruler
lower_right = refl

-- C's lowest row in the upper two, A's upper two rows in the lower two
pub first_count : count_of abc four 4 4 0 ≡ 3
unfolding abc num ruler sum_to count any_to covered
first_count = refl

pub second_count : count_of abc four 4 4 1 ≡ 4
unfolding abc num ruler sum_to count any_to covered
second_count = refl

pub third_count : count_of abc four 4 4 2 ≡ 8
unfolding abc num ruler sum_to count any_to covered
third_count = refl

pub fourth_count : count_of abc four 4 4 3 ≡ 4
unfolding abc num ruler sum_to count any_to covered
fourth_count = refl

pub whole_count : covered abc four ≡ 19
unfolding abc num ruler sum_to count any_to covered
whole_count = refl

-- windows of one row each are as wide as the area
pub row_windows : windows_of four 8 1 ≡ 8
unfolding ruler
row_windows = refl

pub top_row : window_of four 8 1 0 ≡ area 4 15 12 16
unfolding ruler
top_row = refl

pub bottom_row : window_of four 8 1 7 ≡ area 4 8 12 9
unfolding ruler
bottom_row = refl

-- what STEP refuses: a side of 0, one that does not divide, one longer than the area's
pub no_width : Steps four 0 4 → ⊥
no_width s = omega (arith, s.wide)

pub no_divisor : Steps four 3 4 → ⊥
unfolding ruler
no_divisor s = omega (arith, s.columns)

pub no_longer : Steps four 4 16 → ⊥
unfolding ruler
no_longer s = omega (arith, s.rows)

-- ---- shares, by the bits of their floats

abbrev pub bits : ℕ → Float
bits n = Ieee.of_bits binary64 n

-- 0.0 and 1.0
pub bare_share : share_of 0 4 ≡ bits 0
unfolding share_of Ieee.of_bits Ieee.of_int
bare_share = refl

-- 0x3FF0000000000000
pub filled_share : share_of 4 4 ≡ bits 4607182418800017408
unfolding share_of Ieee.of_bits Ieee.of_int
filled_share = refl

-- 0x3FD0000000000000
pub quarter_share : share_of 1 4 ≡ bits 4598175219545276416
unfolding share_of Ieee.of_bits Ieee.of_int Ieee.div
quarter_share = refl

-- rounded down: 0x3FD5555555555555
pub third_share : share_of 1 3 ≡ bits 4599676419421066581
unfolding share_of Ieee.of_bits Ieee.of_int Ieee.div
third_share = refl
