-- What each call promises, in the words and the order of 01's page on answers: table before, arguments, lent memory after, answer. Assumes nothing.
use Rattle.std.specs.Prelude.{◌≡◌, ◌≢◌, List, ◌++◌, map, ℕ, ◌+◌, ◌*◌, ◌/◌, ◌%◌, ◌≤◌, ◌<◌, ℤ, pos, Float, length, drop}
use Rattle.geometry.specs.Picture.{ZERO, InPlane}
use Rattle.table.specs.Words.{records_of}
use Rattle.table.specs.Sound.{SizeRight, Sound, capacity, solids_in, SolidIn, SpaceIn}
use Rattle.table.specs.Fresh.{fresh_table}
use Rattle.table.specs.View.{Places, Slice, IsPart}
use Rattle.seek.specs.Meaning.{Area, RectRight, FreeArea, First, Lists, Directed}
use Rattle.seek.specs.Find.{Finds}
use Rattle.seek.specs.Neighbours.{IsSide, side_of, Neighbours}
use Rattle.density.specs.Meaning.{Steps, windows_of}
use Rattle.density.specs.Report.{Reports}
use Rattle.density.specs.declared.windows.Report.{Report}
use Rattle.layout.specs.Bytes.{saved_at, SAVED}
use Rattle.layout.specs.Order.{Comes, Saves}
use Rattle.ushanderi.specs.Answers.{SIZE, UNSOUND, POINT, RECT, LABEL, OCCUPIED, FULL, SPACE, SIDE, SHORT, FILE, ROOM, STEP, answered, accepted, refused, nothing, with_cell, without_cell, reported, unreported}
use Rattle.ushanderi.specs.declared.answer.Answer.{Answer}
use Rattle.ushanderi.specs.declared.answer.MetAnswer.{MetAnswer}
use Rattle.ushanderi.specs.declared.reports.DensityAnswer.{DensityAnswer}
use Rattle.ushanderi.specs.Edits.{drawn, Adds, Removes, Edited, label_in, NoRoom}

-- The checks 1 and 2, which every call but fresh, view and load runs first.
pub data Unfit (t : List ℤ) (a : Answer) : Type 0 where
  size : (SizeRight t → ⊥) → a ≡ refused SIZE → Unfit t a
  unsound : SizeRight t → (Sound t → ⊥) → a ≡ refused UNSOUND → Unfit t a

pub record Fit (t : List ℤ) : Type 0 where
  pub size : SizeRight t
  pub sound : Sound t

-- Fresh: 1. Record 0 becomes the one space tile with four stitches of -1, all other words 0. Value 0.
pub data FreshSays (t t' : List ℤ) (a : Answer) : Type 0 where
  size : (SizeRight t → ⊥) → a ≡ refused SIZE → t' ≡ t → FreshSays t t' a
  done : SizeRight t → a ≡ accepted 0 → t' ≡ fresh_table (length t) → FreshSays t t' a

-- Check: 1, 2. Value: the number of solids.
pub data CheckSays (t : List ℤ) (a : Answer) : Type 0 where
  unfit : Unfit t a → CheckSays t a
  done : Fit t → a ≡ accepted (solids_in t) → CheckSays t a

-- View: the ten words of that record as the caller's own slice shows them. On a SIZE fault, or a number not in 0..R-1, an empty part.
pub record ViewSays (lent : Slice) (index : ℤ) (part : Slice) : Type 0 where
  pub at : ℕ
  pub len : ℕ
  pub place : Places lent.now index at len
  pub is : IsPart lent at len part

-- Find, with a cell: 1, 2, 3. Value: the record that holds the cell. The hint is no part of it.
pub data FindSays (t : List ℤ) (x y : ℕ) (a : Answer) : Type 0 where
  unfit : Unfit t a → FindSays t x y a
  point : Fit t → (InPlane x y → ⊥) → a ≡ refused POINT → FindSays t x y a
  done : Fit t → (i : ℕ) → Finds t x y i → a ≡ accepted i → FindSays t x y a

-- a lent list with record numbers at its start: entries past them keep what they held
abbrev pub listed : List ℕ → List ℤ → List ℤ
listed ks out = map pos ks ++ drop (length ks) out

-- Neighbours of the tile holding a cell: 1, 2, 3, 9, 10. Value: how many.
pub data NeighboursSays (t : List ℤ) (x y : ℕ) (side : ℤ) (out out' : List ℤ) (a : Answer) : Type 0 where
  unfit : Unfit t a → out' ≡ out → NeighboursSays t x y side out out' a
  point : Fit t → (InPlane x y → ⊥) → a ≡ refused POINT → out' ≡ out → NeighboursSays t x y side out out' a
  side : Fit t → InPlane x y → ((s : ℕ) → IsSide side s → ⊥) → a ≡ refused SIDE → out' ≡ out → NeighboursSays t x y side out out' a
  short : Fit t → (s i : ℕ) (ks : List ℕ) → IsSide side s → Finds t x y i → Neighbours t (side_of s) i ks → length out < length ks
      → a ≡ answered SHORT (length ks) → out' ≡ out → NeighboursSays t x y side out out' a
  done : Fit t → (s i : ℕ) (ks : List ℕ) → IsSide side s → Finds t x y i → Neighbours t (side_of s) i ks → length ks ≤ length out
      → a ≡ accepted (length ks) → out' ≡ listed ks out → NeighboursSays t x y side out out' a

-- Area search: 1, 2, 4. Value: -1 if the rectangle is free, else the solid holding its first occupied cell, and that cell.
pub data SearchSays (t : List ℤ) (A : Area) (a : MetAnswer) : Type 0 where
  unfit : (b : Answer) → Unfit t b → a ≡ without_cell b → SearchSays t A a
  rect : Fit t → (RectRight A → ⊥) → a ≡ without_cell (refused RECT) → SearchSays t A a
  free : Fit t → RectRight A → FreeArea t A → a ≡ without_cell nothing → SearchSays t A a
  met : Fit t → RectRight A → (x y i : ℕ) → First t A x y i → a ≡ with_cell (accepted i) x y → SearchSays t A a

-- Enumerate: 1, 2, 4, 10. Value: how many.
pub data EnumerateSays (t : List ℤ) (A : Area) (out out' : List ℤ) (a : Answer) : Type 0 where
  unfit : Unfit t a → out' ≡ out → EnumerateSays t A out out' a
  rect : Fit t → (RectRight A → ⊥) → a ≡ refused RECT → out' ≡ out → EnumerateSays t A out out' a
  short : Fit t → RectRight A → (ks : List ℕ) → Directed t A ks → length out < length ks → a ≡ answered SHORT (length ks) → out' ≡ out
      → EnumerateSays t A out out' a
  done : Fit t → RectRight A → (ks : List ℕ) → Directed t A ks → length ks ≤ length out → a ≡ accepted (length ks) → out' ≡ listed ks out
      → EnumerateSays t A out out' a

-- Density of the windows of width w and height h: 1, 2, 4, 13, 10. Value, and SHORT's value too: the number of windows.
pub data DensitySays (t : List ℤ) (A : Area) (w h : ℕ) (out out' : List Float) (a : DensityAnswer) : Type 0 where
  unfit : (b : Answer) → Unfit t b → a ≡ unreported b → out' ≡ out → DensitySays t A w h out out' a
  rect : Fit t → (RectRight A → ⊥) → a ≡ unreported (refused RECT) → out' ≡ out → DensitySays t A w h out out' a
  step : Fit t → RectRight A → (Steps A w h → ⊥) → a ≡ unreported (refused STEP) → out' ≡ out → DensitySays t A w h out out' a
  short : Fit t → RectRight A → Steps A w h → length out < windows_of A w h → a ≡ unreported (answered SHORT (windows_of A w h)) → out' ≡ out
      → DensitySays t A w h out out' a
  done : Fit t → RectRight A → Steps A w h → windows_of A w h ≤ length out → (r : Report) → Reports t A w h out out' r → a ≡ reported (windows_of A w h) r
      → DensitySays t A w h out out' a

-- Create: 1, 2, 4, 5, 6, 7. Value: the new solid's record. OCCUPIED's value and cell: the record and the cell that area search gives.
pub data CreateRefuses (t : List ℤ) (A : Area) (label : ℕ) (a : MetAnswer) : Type 0 where
  unfit : (b : Answer) → Unfit t b → a ≡ without_cell b → CreateRefuses t A label a
  rect : Fit t → (RectRight A → ⊥) → a ≡ without_cell (refused RECT) → CreateRefuses t A label a
  label : Fit t → RectRight A → label ≤ ZERO → a ≡ without_cell (refused LABEL) → CreateRefuses t A label a
  occupied : Fit t → RectRight A → ZERO < label → (x y i : ℕ) → First t A x y i → a ≡ with_cell (answered OCCUPIED i) x y → CreateRefuses t A label a
  full : Fit t → RectRight A → ZERO < label → FreeArea t A → solids_in t ≡ capacity (records_of t) → a ≡ without_cell (refused FULL)
      → CreateRefuses t A label a

-- what holds where none of them does
pub record CreateAllows (t : List ℤ) (A : Area) (label : ℕ) : Type 0 where
  pub fit : Fit t
  pub rect : RectRight A
  pub named : ZERO < label
  pub free : FreeArea t A
  pub few : solids_in t < capacity (records_of t)

pub record CreateDone (t : List ℤ) (A : Area) (label : ℕ) (t' : List ℤ) (k : ℕ) : Type 0 where
  pub allows : CreateAllows t A label
  pub edited : Edited t t'
  pub adds : Adds t t' k (drawn A label)

pub data CreateSays (t : List ℤ) (A : Area) (label : ℕ) (t' : List ℤ) (a : MetAnswer) : Type 0 where
  refuses : CreateRefuses t A label a → t' ≡ t → CreateSays t A label t' a
  done : (k : ℕ) → CreateDone t A label t' k → a ≡ without_cell (accepted k) → CreateSays t A label t' a

-- Delete at a cell: 1, 2, 3, 8, 12. Value: the label removed.
pub data DeleteRefuses (t : List ℤ) (x y : ℕ) (a : Answer) : Type 0 where
  unfit : Unfit t a → DeleteRefuses t x y a
  point : Fit t → (InPlane x y → ⊥) → a ≡ refused POINT → DeleteRefuses t x y a
  space : Fit t → (i : ℕ) → Finds t x y i → SpaceIn t i → a ≡ refused SPACE → DeleteRefuses t x y a
  room : Fit t → (i : ℕ) → Finds t x y i → SolidIn t i → NoRoom t → a ≡ refused ROOM → DeleteRefuses t x y a

-- what holds where none of them does: the solid of record i holds the cell
pub record DeleteAllows (t : List ℤ) (x y i : ℕ) : Type 0 where
  pub fit : Fit t
  pub finds : Finds t x y i
  pub solid : SolidIn t i
  pub room : NoRoom t → ⊥

pub record DeleteDone (t : List ℤ) (x y : ℕ) (t' : List ℤ) (i : ℕ) : Type 0 where
  pub allows : DeleteAllows t x y i
  pub edited : Edited t t'
  pub removes : Removes t t' i

pub data DeleteSays (t : List ℤ) (x y : ℕ) (t' : List ℤ) (a : Answer) : Type 0 where
  refuses : DeleteRefuses t x y a → t' ≡ t → DeleteSays t x y t' a
  done : (i : ℕ) → DeleteDone t x y t' i → a ≡ accepted (label_in t i) → DeleteSays t x y t' a

-- Save: 1, 2, 10. Value: bytes written.
pub data SaveSays (t : List ℤ) (out out' : List ℕ) (a : Answer) : Type 0 where
  unfit : Unfit t a → out' ≡ out → SaveSays t out out' a
  short : Fit t → (ks : List ℕ) → Lists (SolidIn t) (Comes t) ks → length out < SAVED * length ks → a ≡ answered SHORT (SAVED * length ks) → out' ≡ out
      → SaveSays t out out' a
  done : Fit t → (bytes : ℕ) → Saves t out out' bytes → bytes ≤ length out → a ≡ accepted bytes → SaveSays t out out' a

-- record n of a file as the rectangle of a create
abbrev pub area_in : List ℕ → ℕ → Area
area_in bs n = let s = saved_at bs n in record { left = s.left; bottom = s.bottom; right = s.right; top = s.top }

-- the table u is the fresh plane after one accepted create for each of the file's first n records, in file order
pub data Built (words : ℕ) (bs : List ℕ) : ℕ → List ℤ → Type 0 where
  none : Built words bs 0 (fresh_table words)
  more : {n : ℕ} {u u' : List ℤ} → Built words bs n u → (k : ℕ) → CreateDone u (area_in bs n) (saved_at bs n).label u' k → Built words bs (n + 1) u'

-- a load that comes to a refused create: the answer is that refusal's number, the value its index, and no cell
pub data LoadStops (t : List ℤ) (bs : List ℕ) (a : MetAnswer) : Type 0 where
  stops : SizeRight t → length bs % SAVED ≡ 0 → (n number : ℕ) (u : List ℤ) (r : MetAnswer) → n < length bs / SAVED → Built (length t) bs n u
      → CreateRefuses u (area_in bs n) (saved_at bs n).label r → r.number ≡ pos number → a ≡ without_cell (answered number n) → LoadStops t bs a

-- Load: 1, 11, then fresh, then one create for each record in file order; at the first refused one a fresh plane. Value: the number of records.
pub data LoadSays (t : List ℤ) (bs : List ℕ) (t' : List ℤ) (a : MetAnswer) : Type 0 where
  size : (SizeRight t → ⊥) → a ≡ without_cell (refused SIZE) → t' ≡ t → LoadSays t bs t' a
  file : SizeRight t → length bs % SAVED ≢ 0 → a ≡ without_cell (refused FILE) → t' ≡ t → LoadSays t bs t' a
  stopped : LoadStops t bs a → t' ≡ fresh_table (length t) → LoadSays t bs t' a
  done : SizeRight t → length bs % SAVED ≡ 0 → Built (length t) bs (length bs / SAVED) t' → a ≡ without_cell (accepted (length bs / SAVED))
      → LoadSays t bs t' a
