-- The plane and its tiles, as 01's page of that name tells them: what a reader must believe about pictures. All numbers are on the ruler. Assumes nothing.
use Rattle.std.specs.Prelude.{◌≡◌, ◌≢◌, Bool, ℕ, ◌+◌, ◌-◌, ◌≤◌, ◌<◌, T}
use Rattle.geometry.specs.declared.Paint.{Paint}
use Rattle.geometry.specs.Counting.{count}

-- the word 0 on the ruler; E is 01's, and the plane is every cell (x, y) with LOW <= x < HIGH and LOW <= y < HIGH
abbrev pub ZERO : ℕ
ZERO = 2147483648

abbrev pub E : ℕ
E = 16777216

abbrev pub LOW : ℕ
LOW = ZERO - E

abbrev pub HIGH : ℕ
HIGH = ZERO + E

pub record InPlane (x y : ℕ) : Type 0 where
  pub x_low : LOW ≤ x
  pub x_high : x < HIGH
  pub y_low : LOW ≤ y
  pub y_high : y < HIGH

-- the words of kind 0 free, 1 space, 2 solid
abbrev pub FREE : ℕ
FREE = ZERO

abbrev pub SPACE : ℕ
SPACE = ZERO + 1

abbrev pub SOLID : ℕ
SOLID = ZERO + 2

-- a tile's rectangle and what is painted on it, kind and label
pub record Tile : Type 0 where
  pub left : ℕ
  pub bottom : ℕ
  pub right : ℕ
  pub top : ℕ
  pub paint : Paint

abbrev pub solid_paint : ℕ → Paint
solid_paint label = record { kind = SOLID; label = label }

-- a tile holds the cells with left <= x < right and bottom <= y < top
pub record Has (v : Tile) (x y : ℕ) : Type 0 where
  pub left : v.left ≤ x
  pub right : x < v.right
  pub bottom : v.bottom ≤ y
  pub top : y < v.top

-- the limits of RECT and LABEL
pub record Limits (v : Tile) : Type 0 where
  pub wide : v.left < v.right
  pub high : v.bottom < v.top
  pub from_left : LOW ≤ v.left
  pub to_right : v.right ≤ HIGH
  pub from_bottom : LOW ≤ v.bottom
  pub to_top : v.top ≤ HIGH
  pub label : ZERO < v.paint.label

-- A set of solids: one for each number k below `size` that `is` accepts.
pub record Solids : Type 0 where
  pub size : ℕ
  pub is : ℕ → Bool
  pub at : ℕ → Tile

pub record In (S : Solids) (k : ℕ) : Type 0 where
  pub below : k < S.size
  pub is : T (S.is k)

abbrev pub number : Solids → ℕ
number S = count S.size S.is

-- solids that keep the limits and share no cell
pub record Apart (S : Solids) : Type 0 where
  pub kind : (k : ℕ) → In S k → (S.at k).paint.kind ≡ SOLID
  pub limits : (k : ℕ) → In S k → Limits (S.at k)
  pub apart : (j k x y : ℕ) → In S j → In S k → Has (S.at j) x y → Has (S.at k) x y → j ≡ k

-- Rectangles touch where they share a side or a corner, or more: their closed rectangles have a point in common.
pub record Touch (v w : Tile) : Type 0 where
  pub left : v.left ≤ w.right
  pub right : w.left ≤ v.right
  pub bottom : v.bottom ≤ w.top
  pub top : w.bottom ≤ v.top

-- metal that touches is joined: no two solids of different labels share a side or a corner
abbrev pub Joined : Solids → Type 0
Joined S = (j k : ℕ) → In S j → In S k → Touch (S.at j) (S.at k) → (S.at j).paint.label ≡ (S.at k).paint.label

-- a cell that no solid holds
abbrev pub Free : Solids → ℕ → ℕ → Type 0
Free S x y = (k : ℕ) → In S k → Has (S.at k) x y → ⊥

-- A free run of row y: a longest stretch of cells, from l on and before r, that no solid holds.
pub record Run (S : Solids) (y l r : ℕ) : Type 0 where
  pub y_low : LOW ≤ y
  pub y_high : y < HIGH
  pub from : LOW ≤ l
  pub some : l < r
  pub to : r ≤ HIGH
  pub free : (x : ℕ) → l ≤ x → x < r → Free S x y
  pub no_longer_left : LOW < l → Free S (l - 1) y → ⊥
  pub no_longer_right : r < HIGH → Free S r y → ⊥

-- A space strip: a free run together with all directly following rows, up and down, that have a run with the same two ends.
pub record Strip (S : Solids) (left bottom right top : ℕ) : Type 0 where
  pub some : bottom < top
  pub rows : (y : ℕ) → bottom ≤ y → y < top → Run S y left right
  pub no_lower : Run S (bottom - 1) left right → ⊥
  pub no_higher : Run S top left right → ⊥

-- space has label 0
pub record SpacePaint (p : Paint) : Type 0 where
  pub kind : p.kind ≡ SPACE
  pub label : p.label ≡ ZERO

-- The tiles of a set of solids: each solid, and each space strip.
pub data TileOf (S : Solids) (v : Tile) : Type 0 where
  solid : (k : ℕ) → In S k → v ≡ S.at k → TileOf S v
  space : SpacePaint v.paint → Strip S v.left v.bottom v.right v.top → TileOf S v

-- Of R records the used ones are exactly the tiles of S, each tile once.
pub record Used (R : ℕ) (tile : ℕ → Tile) (i : ℕ) : Type 0 where
  pub below : i < R
  pub used : (tile i).paint.kind ≢ FREE

pub record Drawn (R : ℕ) (tile : ℕ → Tile) (S : Solids) : Type 0 where
  pub each : (i : ℕ) → Used R tile i → TileOf S (tile i)
  pub all : (v : Tile) → TileOf S v → (i : ℕ) × Used R tile i × (tile i ≡ v)
  pub once : (i j : ℕ) → Used R tile i → Used R tile j → tile i ≡ tile j → i ≡ j

-- the one record whose tile holds a cell
pub record Holder (R : ℕ) (tile : ℕ → Tile) (x y : ℕ) : Type 0 where
  pub number : ℕ
  pub used : Used R tile number
  pub has : Has (tile number) x y
  pub only : (j : ℕ) → Used R tile j → Has (tile j) x y → j ≡ number

-- the four sides of a tile
pub data Side : Type 0 where
  top right bottom left : Side
