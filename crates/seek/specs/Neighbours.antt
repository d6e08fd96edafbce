-- The neighbours of a tile on a side, as 01 tells them: what a reader must believe about the call of that name. Assumes nothing.
use Rattle.std.specs.Prelude.{◌≡◌, List, ℕ, zero, suc, ◌≤◌, ◌<◌, ℤ, pos}
use Rattle.geometry.specs.Picture.{Tile, Side, top, right, bottom, left}
use Rattle.table.specs.Words.{tile_of}
use Rattle.table.specs.Sound.{UsedIn}
use Rattle.seek.specs.Meaning.{Lists}

-- a side's number, 0 to 3
pub record IsSide (side : ℤ) (s : ℕ) : Type 0 where
  pub is : side ≡ pos s
  pub below : s < 4

-- the sides by 01's numbers: 0 right, 1 left, 2 top, 3 bottom
unfoldable pub side_of : ℕ → Side
side_of zero = right
side_of (suc zero) = left
side_of (suc (suc zero)) = top
side_of (suc (suc (suc n))) = bottom

-- two edges lie on one line, and the spans along it share at least one cell
pub record Meet (edge edge' from to from' to' : ℕ) : Type 0 where
  pub line : edge' ≡ edge
  pub one : from < to'
  pub other : from' < to

-- w shares a side of at least one cell with v, on v's side s
abbrev pub Touches : Side → Tile → Tile → Type 0
Touches right v w = Meet v.right w.left v.bottom v.top w.bottom w.top
Touches left v w = Meet v.left w.right v.bottom v.top w.bottom w.top
Touches top v w = Meet v.top w.bottom v.left v.right w.left w.right
Touches bottom v w = Meet v.bottom w.top v.left v.right w.left w.right

-- v comes before w: right from top to bottom, left from bottom to top, top from right to left, bottom from left to right
abbrev pub Before : Side → Tile → Tile → Type 0
Before right v w = w.top ≤ v.bottom
Before left v w = v.top ≤ w.bottom
Before top v w = w.right ≤ v.left
Before bottom v w = v.right ≤ w.left

pub record Neighbour (t : List ℤ) (s : Side) (i k : ℕ) : Type 0 where
  pub used : UsedIn t k
  pub touches : Touches s (tile_of t i) (tile_of t k)

-- the list of all neighbours of record i on side s, in order
abbrev pub Neighbours : List ℤ → Side → ℕ → List ℕ → Type 0
Neighbours t s i = Lists (Neighbour t s i) (λ j k. Before s (tile_of t j) (tile_of t k))
