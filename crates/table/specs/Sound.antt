-- A sound table, as 01's page on the lent table tells it: what a reader must believe about tables. Assumes nothing.
use Rattle.std.specs.Prelude.{◌≡◌, Bool, List, ℕ, ◌-◌, ◌/◌, ◌%◌, ◌≤◌, ◌<◌, ℤ, length, eqb}
use Rattle.geometry.specs.Picture.{ZERO, FREE, SPACE, SOLID, InPlane, Has, Solids, number, Apart, Used, Drawn}
use Rattle.geometry.specs.Counting.{count}
use Rattle.table.specs.Words.{WIDTH, LEFT, BOTTOM, RIGHT, TOP, TR, RT, BL, LB, KIND, records_of, num, tile_of, LEAST, MOST}

-- a whole number of records, 20 to 4,016 of them
pub record SizeRight (t : List ℤ) : Type 0 where
  pub whole : length t % WIDTH ≡ 0
  pub least : LEAST ≤ records_of t
  pub most : records_of t ≤ MOST

-- how many solids R records take
abbrev pub capacity : ℕ → ℕ
capacity R = (R - 16) / 4

abbrev pub UsedIn : List ℤ → ℕ → Type 0
UsedIn t i = Used (records_of t) (tile_of t) i

-- the stitch word w names a used record, counted from 0, that holds the cell (x, y)
pub record Named (t : List ℤ) (w x y : ℕ) : Type 0 where
  pub from : ZERO ≤ w
  pub used : UsedIn t (w - ZERO)
  pub has : Has (tile_of t (w - ZERO)) x y

-- the word -1
abbrev pub NONE : ℕ
NONE = ZERO - 1

-- a right stitch: it names the tile that holds the cell, and is -1 where the cell lies outside the plane
pub record Names (t : List ℤ) (w x y : ℕ) : Type 0 where
  pub inside : InPlane x y → Named t w x y
  pub outside : (InPlane x y → ⊥) → w ≡ NONE

pub record Stitched (t : List ℤ) (i : ℕ) : Type 0 where
  pub tr : Names t (num t i TR) (num t i RIGHT) (num t i TOP - 1)
  pub rt : Names t (num t i RT) (num t i RIGHT - 1) (num t i TOP)
  pub bl : Names t (num t i BL) (num t i LEFT - 1) (num t i BOTTOM)
  pub lb : Names t (num t i LB) (num t i LEFT) (num t i BOTTOM - 1)

-- a free record is ten zeros
abbrev pub Zeros : List ℤ → ℕ → Type 0
Zeros t i = (k : ℕ) → k < WIDTH → num t i k ≡ ZERO

-- The used records are exactly the tiles of S, at most as many solids as the table takes, that share no cell and keep the limits of RECT and
-- LABEL; each tile once, with right stitches; and free records are zeros.
pub record SoundFor (t : List ℤ) (S : Solids) : Type 0 where
  pub apart : Apart S
  pub few : number S ≤ capacity (records_of t)
  pub drawn : Drawn (records_of t) (tile_of t) S
  pub stitched : (i : ℕ) → UsedIn t i → Stitched t i
  pub free : (i : ℕ) → i < records_of t → num t i KIND ≡ FREE → Zeros t i

pub record Sound (t : List ℤ) : Type 0 where
  pub solids : Solids
  pub for : SoundFor t solids

-- record i is a solid; it is space
pub record SolidIn (t : List ℤ) (i : ℕ) : Type 0 where
  pub below : i < records_of t
  pub kind : num t i KIND ≡ SOLID

pub record SpaceIn (t : List ℤ) (i : ℕ) : Type 0 where
  pub below : i < records_of t
  pub kind : num t i KIND ≡ SPACE

-- the records of kind solid, those of kind space, and how many there are
abbrev pub solid_at : List ℤ → ℕ → Bool
solid_at t i = eqb (num t i KIND) SOLID

abbrev pub space_at : List ℤ → ℕ → Bool
space_at t i = eqb (num t i KIND) SPACE

abbrev pub solids_in : List ℤ → ℕ
solids_in t = count (records_of t) (solid_at t)

abbrev pub spaces_in : List ℤ → ℕ
spaces_in t = count (records_of t) (space_at t)
