-- What the calls that read a plane mean, as 01 says it: what a reader must believe about area search, neighbours and the directed order.
-- All numbers are on the ruler, and nothing here speaks of a way to find the answer. Assumes nothing.
use Rattle.std.specs.Prelude.{◌≡◌, List, [], ◌∷◌, ◌++◌, ℕ, ◌-◌, ◌≤◌, ◌<◌, max, ℤ, length, get_or}
use Rattle.geometry.specs.Picture.{LOW, HIGH, Has}
use Rattle.table.specs.Words.{LEFT, BOTTOM, RIGHT, TOP, num, tile_of}
use Rattle.table.specs.Sound.{UsedIn, SolidIn}

-- ---- areas

pub record Area : Type 0 where
  pub left : ℕ
  pub bottom : ℕ
  pub right : ℕ
  pub top : ℕ

-- what RECT does not refuse
pub record RectRight (A : Area) : Type 0 where
  pub wide : A.left < A.right
  pub high : A.bottom < A.top
  pub from_left : LOW ≤ A.left
  pub to_right : A.right ≤ HIGH
  pub from_bottom : LOW ≤ A.bottom
  pub to_top : A.top ≤ HIGH

pub record InArea (A : Area) (x y : ℕ) : Type 0 where
  pub left : A.left ≤ x
  pub right : x < A.right
  pub bottom : A.bottom ≤ y
  pub top : y < A.top

-- ---- area search

-- the cell (x, y) is read before (x', y'): rows from the top down, and each row from left to right
pub data Before (x y x' y' : ℕ) : Type 0 where
  higher : y' < y → Before x y x' y'
  same_row : y ≡ y' → x < x' → Before x y x' y'

-- no solid holds the cell
abbrev pub FreeCell : List ℤ → ℕ → ℕ → Type 0
FreeCell t x y = (i : ℕ) → SolidIn t i → Has (tile_of t i) x y → ⊥

abbrev pub FreeArea : List ℤ → Area → Type 0
FreeArea t A = (x y : ℕ) → InArea A x y → FreeCell t x y

-- (x, y) is the area's first occupied cell, and solid i holds it
pub record First (t : List ℤ) (A : Area) (x y i : ℕ) : Type 0 where
  pub inside : InArea A x y
  pub solid : SolidIn t i
  pub has : Has (tile_of t i) x y
  pub none_before : (x' y' : ℕ) → InArea A x' y' → Before x' y' x y → FreeCell t x' y'

-- ---- lists of records

-- the entries of ks are exactly the records with Q, each after those that come before it in the order
pub record Lists (Q : ℕ → Type 0) (Precedes : ℕ → ℕ → Type 0) (ks : List ℕ) : Type 0 where
  pub each : (n : ℕ) → n < length ks → Q (get_or ks n 0)
  pub all : (k : ℕ) → Q k → (n : ℕ) × (n < length ks) × (get_or ks n 0 ≡ k)
  pub order : (m n : ℕ) → m < n → n < length ks → Precedes (get_or ks m 0) (get_or ks n 0)

-- record j lies wholly over record k
abbrev pub Over : List ℤ → ℕ → ℕ → Type 0
Over t j k = num t k TOP ≤ num t j BOTTOM

-- ---- directed order

-- tile k shares a cell with the area
pub record Meets (t : List ℤ) (A : Area) (k : ℕ) : Type 0 where
  pub used : UsedIn t k
  pub left : num t k LEFT < A.right
  pub right : A.left < num t k RIGHT
  pub bottom : num t k BOTTOM < A.top
  pub top : A.bottom < num t k TOP

-- those with left <= the area's left are roots
pub record Root (t : List ℤ) (A : Area) (k : ℕ) : Type 0 where
  pub meets : Meets t A k
  pub first : num t k LEFT ≤ A.left

-- any other tile hangs under the tile that holds the cell (left - 1, the larger of its bottom and the area's bottom)
pub record Hangs (t : List ℤ) (A : Area) (p k : ℕ) : Type 0 where
  pub meets : Meets t A k
  pub further : A.left < num t k LEFT
  pub used : UsedIn t p
  pub has : Has (tile_of t p) (num t k LEFT - 1) (max (num t k BOTTOM) A.bottom)

-- each tile is listed, then the tiles hanging under it, top to bottom, each with all that hangs under it
mutual
  pub data Tree (t : List ℤ) (A : Area) : ℕ → List ℕ → Type 0 where
    tree : {p : ℕ} (ks : List ℕ) {under : List ℕ} → Lists (Hangs t A p) (Over t) ks → Trees t A ks under → Tree t A p (p ∷ under)

  pub data Trees (t : List ℤ) (A : Area) : List ℕ → List ℕ → Type 0 where
    none : Trees t A [] []
    more : {k : ℕ} {ks of rest : List ℕ} → Tree t A k of → Trees t A ks rest → Trees t A (k ∷ ks) (of ++ rest)

-- the roots are listed top to bottom, each with all that hangs under it
pub record Directed (t : List ℤ) (A : Area) (list : List ℕ) : Type 0 where
  pub roots : List ℕ
  pub are : Lists (Root t A) (Over t) roots
  pub trees : Trees t A roots list
