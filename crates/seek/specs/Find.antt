-- What the search for a cell gives, and its steps over the words of a table. Assumes nothing.
use Rattle.std.specs.Prelude.{◌≡◌, List, ℕ, ◌≤◌, ◌<◌, ℤ}
use Rattle.std.proofs.Common.{arith}
use Rattle.geometry.specs.Picture.{LOW, HIGH, Has}
use Rattle.geometry.specs.Plane.{Is}
use Rattle.geometry.specs.Find.{Higher, Lower, AtLeft, AtRight, InRow, Crossed, climb, sink, left_first, left_next, right_first, right_next}
use Rattle.table.specs.Words.{num, tile_of, LEFT, BOTTOM, RIGHT, TOP, TR, RT, BL, LB}
use Rattle.table.specs.Sound.{UsedIn}
use Rattle.table.specs.Forms.{plane_in, stitches_in, link, Forms, used_is}

-- record r is used, and holds the cell (x, y)
pub record Finds (t : List ℤ) (x y r : ℕ) : Type 0 where
  pub used : UsedIn t r
  pub has : Has (tile_of t r) x y

-- ---- where the search stands

abbrev pub IsIn : List ℤ → ℕ → Type 0
IsIn t k = Is (plane_in t) k

abbrev pub Row : List ℤ → ℕ → ℕ → Type 0
Row t k y = InRow (plane_in t) k y

pub record Under (t : List ℤ) (k y : ℕ) : Type 0 where
  pub is : IsIn t k
  pub top : y < num t k TOP

-- tile k has the row, and ends or begins where tile a begins or ends
abbrev pub CrossedLeft : List ℤ → ℕ → ℕ → ℕ → Type 0
CrossedLeft t a k y = Crossed (plane_in t) k y (num t k RIGHT ≡ num t a LEFT) (num t k LEFT < num t a LEFT)

abbrev pub CrossedRight : List ℤ → ℕ → ℕ → ℕ → Type 0
CrossedRight t a k y = Crossed (plane_in t) k y (num t k LEFT ≡ num t a RIGHT) (num t a RIGHT < num t k RIGHT)

-- tile k has the row, and does not begin right of the column
pub record From (t : List ℤ) (k x y : ℕ) : Type 0 where
  pub row : Row t k y
  pub left : num t k LEFT ≤ x

-- ---- the steps: each stitch that is followed names a used record

module _ (t : List ℤ) (f : Forms t) where
  pub climbs : (k y : ℕ) → IsIn t k → num t k TOP ≤ y → y < HIGH → Higher (plane_in t) k (link (num t k RT)) y
  climbs = climb (plane_in t) (stitches_in t) f.good

  pub sinks : (k y : ℕ) → IsIn t k → y < num t k BOTTOM → LOW ≤ y → Lower (plane_in t) k (link (num t k LB)) y
  sinks = sink (plane_in t) (stitches_in t) f.good

  pub starts_left : (a y : ℕ) → Row t a y → LOW < num t a LEFT → AtLeft (plane_in t) a (link (num t a BL)) y
  starts_left = left_first (plane_in t) (stitches_in t) f.good

  pub goes_up : (a k y : ℕ) → Row t a y → AtLeft (plane_in t) a k y → num t k TOP ≤ y
      → AtLeft (plane_in t) a (link (num t k RT)) y × (num t k TOP < num t (link (num t k RT)) TOP)
  goes_up = left_next (plane_in t) (stitches_in t) f.good

  pub starts_right : (a y : ℕ) → Row t a y → num t a RIGHT < HIGH → AtRight (plane_in t) a (link (num t a TR)) y
  starts_right = right_first (plane_in t) (stitches_in t) f.good

  pub goes_down : (a k y : ℕ) → Row t a y → AtRight (plane_in t) a k y → y < num t k BOTTOM
      → AtRight (plane_in t) a (link (num t k LB)) y × (num t (link (num t k LB)) BOTTOM < num t k BOTTOM)
  goes_down = right_next (plane_in t) (stitches_in t) f.good

-- one record holds a cell, so where the search starts does not matter
pub finds_one : (t : List ℤ) → Forms t → (x y r s : ℕ) → Finds t x y r → Finds t x y s → r ≡ s
finds_one t f x y r s h k =
    f.good.disjoint r s x y (record { is = used_is t r h.used; at = omega (arith, h.has) }) (record { is = used_is t s k.used; at = omega (arith, k.has) })
