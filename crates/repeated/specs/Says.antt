-- What the exported functions answer: 01's refusals, and what the last run gave. Assumes nothing.
use Rattle.std.specs.Prelude.{◌≡◌, refl, ◌≢◌, List, ℕ, ◌*◌, ◌≤◌, ◌<◌, ℤ, Float, length}
use Rattle.std.proofs.Common.{arith}
use Rattle.geometry.specs.Picture.{InPlane}
use Rattle.table.specs.Words.{records_of}
use Rattle.table.specs.Sound.{solids_in}
use Rattle.seek.specs.Find.{Finds}
use Rattle.seek.specs.Meaning.{Area, RectRight, FreeArea, First}
use Rattle.seek.specs.Neighbours.{side_of}
use Rattle.seek.specs.Listing
use Rattle.seek.specs.Listing.{Counts}
use Rattle.seek.specs.Enumerate.{CountsArea, WritesArea}
use Rattle.density.specs.Meaning.{Steps, windows_of}
use Rattle.density.specs.Report.{Reports}
use Rattle.density.specs.declared.windows.Report.{Report}
use Rattle.layout.specs.Order.{Saves}
use Rattle.layout.specs.Bytes.{SAVED}
use Rattle.repeated.specs.Answers.{answered}
use Rattle.repeated.specs.Entry.{Fit, Unfit, Refuses, refuses}
use Rattle.repeated.specs.Edit.{CanEdit, MayEdit, Edited}
use Rattle.repeated.specs.declared.answer.Answer.{Answer}

-- a record that holds the cell
pub data FindSays (t : List ℤ) (x y : ℕ) (a : Answer) : Type 0 where
  unfit : Refuses t a → FindSays t x y a
  point : Fit t → (InPlane x y → ⊥) → a ≡ answered 3 0 → FindSays t x y a
  done : Fit t → (k : ℕ) → Finds t x y k → a ≡ answered 0 k → FindSays t x y a

-- area search: the solid that holds the area's first occupied cell, or the number of the records where it has none
pub data Sees (t : List ℤ) (A : Area) (k : ℕ) : Type 0 where
  nothing : FreeArea t A → k ≡ records_of t → Sees t A k
  solid : (x y : ℕ) → First t A x y k → Sees t A k

pub data SearchSays (t : List ℤ) (A : Area) (a : Answer) : Type 0 where
  unfit : Refuses t a → SearchSays t A a
  rect : Fit t → (RectRight A → ⊥) → a ≡ answered 4 0 → SearchSays t A a
  done : Fit t → (k : ℕ) → Sees t A k → a ≡ answered 0 k → SearchSays t A a

-- the neighbours of the tile that holds the cell are n, and listed where there is room
pub record SideListed (t : List ℤ) (x y side : ℕ) (old new : List ℤ) (n : ℕ) : Type 0 where
  pub tile : ℕ
  pub finds : Finds t x y tile
  pub counts : Counts t (side_of side) tile n
  pub short : length old < n → new ≡ old
  pub lists : n ≤ length old → Listing.Lists t (side_of side) tile old new

pub data NeighboursSays (t : List ℤ) (x y side : ℕ) (old new : List ℤ) (a : Answer) : Type 0 where
  unfit : Refuses t a → new ≡ old → NeighboursSays t x y side old new a
  point : Fit t → (InPlane x y → ⊥) → a ≡ answered 3 0 → new ≡ old → NeighboursSays t x y side old new a
  side : Fit t → 3 < side → a ≡ answered 9 0 → new ≡ old → NeighboursSays t x y side old new a
  short : Fit t → (n : ℕ) → SideListed t x y side old new n → length old < n → a ≡ answered 10 n → NeighboursSays t x y side old new a
  done : Fit t → (n : ℕ) → SideListed t x y side old new n → n ≤ length old → a ≡ answered 0 n → NeighboursSays t x y side old new a

-- the tiles of the area are n, and listed where there is room
pub record AreaListed (t : List ℤ) (A : Area) (old new : List ℤ) (n : ℕ) : Type 0 where
  pub counts : CountsArea t A n
  pub short : length old < n → new ≡ old
  pub lists : n ≤ length old → WritesArea t A old new n

pub data EnumerateSays (t : List ℤ) (A : Area) (old new : List ℤ) (a : Answer) : Type 0 where
  unfit : Refuses t a → new ≡ old → EnumerateSays t A old new a
  rect : Fit t → (RectRight A → ⊥) → a ≡ answered 4 0 → new ≡ old → EnumerateSays t A old new a
  short : Fit t → (n : ℕ) → AreaListed t A old new n → length old < n → a ≡ answered 10 n → EnumerateSays t A old new a
  done : Fit t → (n : ℕ) → AreaListed t A old new n → n ≤ length old → a ≡ answered 0 n → EnumerateSays t A old new a

-- the windows' shares, as every run leaves them
pub data DensitySays (t : List ℤ) (A : Area) (w h : ℕ) (old new : List Float) (a : Answer) : Type 0 where
  unfit : Refuses t a → new ≡ old → DensitySays t A w h old new a
  rect : Fit t → (RectRight A → ⊥) → a ≡ answered 4 0 → new ≡ old → DensitySays t A w h old new a
  step : Fit t → RectRight A → (Steps A w h → ⊥) → a ≡ answered 13 0 → new ≡ old → DensitySays t A w h old new a
  short : Fit t → RectRight A → Steps A w h → length old < windows_of A w h → a ≡ answered 10 (windows_of A w h) → new ≡ old → DensitySays t A w h old new a
  done : Fit t → RectRight A → Steps A w h → windows_of A w h ≤ length old → (r : Report) → Reports t A w h old new r → a ≡ answered 0 (windows_of A w h)
      → DensitySays t A w h old new a

pub data SaveSays (t : List ℤ) (old new : List ℕ) (a : Answer) : Type 0 where
  unfit : Refuses t a → new ≡ old → SaveSays t old new a
  short : Fit t → length old < SAVED * solids_in t → a ≡ answered 10 0 → new ≡ old → SaveSays t old new a
  done : Fit t → (n : ℕ) → Saves t old new n → a ≡ answered 0 n → SaveSays t old new a

-- a solid is created and deleted: the table is sound after that, and has the solids that it had
pub data EditSays (t : List ℤ) (l b r p label : ℕ) (t' : List ℤ) (a : Answer) : Type 0 where
  refused : (number : ℕ) → MayEdit t l b r p label number → number ≢ 0 → a ≡ answered number 0 → t' ≡ t → EditSays t l b r p label t' a
  done : CanEdit t l b r p label → (k : ℕ) → Edited t t' l b r p label k → a ≡ answered 0 k → EditSays t l b r p label t' a

-- what is refused at entry is refused of an edit
pub unfit_edit : (t : List ℤ) (l b r p label : ℕ) (a : Answer) → Refuses t a → EditSays t l b r p label t a
unfit_edit t l b r p label a (refuses (Unfit.size h d) e) = EditSays.refused _ (MayEdit.unfit (Unfit.size h d)) (omega (arith, d)) e refl
unfit_edit t l b r p label a (refuses (Unfit.unsound h f d) e) = EditSays.refused _ (MayEdit.unfit (Unfit.unsound h f d)) (omega (arith, d)) e refl
