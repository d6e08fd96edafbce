-- Histories: calls in any order, refused ones among them, and the account of the solids accepted and not deleted; and what is kept over them.
-- What a reader must believe about demand 3. Assumes nothing.
use Rattle.std.specs.Prelude.{◌≡◌, ◌≢◌, ◌↔◌, ◌⊎◌, Bool, true, false, ◌&&◌, ℕ, zero, suc, ◌+◌, ◌*◌, ◌/◌, ◌≤◌, ◌<◌, ◌^◌, ℤ, pos, Float, length, get_or, leb, ltb}
use mathlib.Core.List.{List, [], ◌∷◌, Memᴰ}
use Rattle.geometry.specs.Picture.{ZERO, SPACE, InPlane, Tile, Solids, Strip, Holder}
use Rattle.table.specs.Words.{LEFT, BOTTOM, RIGHT, TOP, KIND, records_of, num, tile_of}
use Rattle.table.specs.Sound.{SizeRight, Sound, SoundFor, UsedIn, Stitched, capacity, solids_in, spaces_in}
use Rattle.table.specs.View.{Slice}
use Rattle.seek.specs.Meaning.{Area}
use Rattle.layout.specs.Bytes.{saved_at, SAVED}
use Rattle.ushanderi.specs.Answers.{DONE, SIZE, FILE}
use Rattle.ushanderi.specs.declared.answer.Answer.{Answer}
use Rattle.ushanderi.specs.declared.answer.MetAnswer.{MetAnswer}
use Rattle.ushanderi.specs.declared.reports.DensityAnswer.{DensityAnswer}
use Rattle.ushanderi.specs.Edits.{drawn}
use Rattle.ushanderi.specs.Promises.{FreshSays, CheckSays, ViewSays, FindSays, NeighboursSays, SearchSays, EnumerateSays, DensitySays, CreateRefuses, CreateDone, DeleteRefuses, DeleteDone, SaveSays, area_in, LoadStops, LoadSays}
use Rattle.claims.specs.Terms.{Shows, Tiles}

-- ---- the account

-- v is among the tiles of S
abbrev pub Among : List Tile → Tile → Type 0
Among S v = Memᴰ v S

pub data Distinct : List Tile → Type 0 where
  none : Distinct []
  more : {v : Tile} {S : List Tile} → (Among S v → ⊥) → Distinct S → Distinct (v ∷ S)

-- whether a tile holds a cell: Picture's `Has` as a test
abbrev pub within : ℕ → ℕ → ℕ → Bool
within from to x = leb from x && ltb x to

abbrev pub holds : Tile → ℕ → ℕ → Bool
holds v x y = within v.left v.right x && within v.bottom v.top y

abbrev pub unless : Bool → Tile → List Tile → List Tile
unless true v S = S
unless false v S = v ∷ S

-- S without the tile that holds the cell
unfoldable pub without : ℕ → ℕ → List Tile → List Tile
without x y [] = []
without x y (v ∷ S) = unless (holds v x y) v (without x y S)

-- the solid of a file's record n, and those of its first n records, the last one first
abbrev pub filed_at : List ℕ → ℕ → Tile
filed_at bs n = drawn (area_in bs n) (saved_at bs n).label

unfoldable pub filed : List ℕ → ℕ → List Tile
filed bs zero = []
filed bs (suc n) = filed_at bs n ∷ filed bs n

-- ---- histories

-- The calls that a history begins with, or begins anew: no solid after a fresh call or a load that stops at a refused create, the records of a load that
-- ends well.
pub data Begins (t t' : List ℤ) : List Tile → Type 0 where
  fresh : {a : Answer} → FreshSays t t' a → a.number ≡ pos DONE → Begins t t' []
  load : {bs : List ℕ} {a : MetAnswer} → LoadSays t bs t' a → a.number ≡ pos DONE → Begins t t' (filed bs (length bs / SAVED))
  load_refused : {bs : List ℕ} {a : MetAnswer} → LoadSays t bs t' a → LoadStops t bs a → Begins t t' []

-- One call: the table and the account before it and after it. That a call which only reads leaves the table is said here, since its promise names one
-- table; and that a label is a word's number, since the promise speaks of any number. A refused create or delete leaves the table by its promise.
pub data Step (t : List ℤ) (S : List Tile) : List ℤ → List Tile → Type 0 where
  begins : {t' : List ℤ} {S' : List Tile} → Begins t t' S' → Step t S t' S'
  fresh_refused : {t' : List ℤ} {a : Answer} → FreshSays t t' a → a.number ≢ pos DONE → Step t S t' S
  load_unread : {bs : List ℕ} {t' : List ℤ} {a : MetAnswer} → LoadSays t bs t' a → (a.number ≡ pos SIZE) ⊎ (a.number ≡ pos FILE) → Step t S t' S
  create : {A : Area} {label : ℕ} {t' : List ℤ} {k : ℕ} → label < 2 ^ 32 → CreateDone t A label t' k → Step t S t' (drawn A label ∷ S)
  create_refused : {A : Area} {label : ℕ} {a : MetAnswer} → CreateRefuses t A label a → Step t S t S
  delete : {x y : ℕ} {t' : List ℤ} {i : ℕ} → DeleteDone t x y t' i → Step t S t' (without x y S)
  delete_refused : {x y : ℕ} {a : Answer} → DeleteRefuses t x y a → Step t S t S
  check : {a : Answer} → CheckSays t a → Step t S t S
  view : {lent part : Slice} {index : ℤ} → lent.now ≡ t → ViewSays lent index part → Step t S t S
  find : {x y : ℕ} {a : Answer} → FindSays t x y a → Step t S t S
  neighbours : {x y : ℕ} {side : ℤ} {out out' : List ℤ} {a : Answer} → NeighboursSays t x y side out out' a → Step t S t S
  search : {A : Area} {a : MetAnswer} → SearchSays t A a → Step t S t S
  enumerate : {A : Area} {out out' : List ℤ} {a : Answer} → EnumerateSays t A out out' a → Step t S t S
  density : {A : Area} {w h : ℕ} {out out' : List Float} {a : DensityAnswer} → DensitySays t A w h out out' a → Step t S t S
  save : {out out' : List ℕ} {a : Answer} → SaveSays t out out' a → Step t S t S

pub data History : List ℤ → List Tile → Type 0 where
  start : {t t' : List ℤ} {S : List Tile} → Begins t t' S → History t' S
  step : {t t' : List ℤ} {S S' : List Tile} → History t S → Step t S t' S' → History t' S'

-- ---- what is kept

-- the account as a set of solids
abbrev pub blank : Tile
blank = record { left = 0; bottom = 0; right = 0; top = 0; paint = record { kind = 0; label = 0 } }

abbrev pub set_of : List Tile → Solids
set_of S = record { size = length S; is = λ k. true; at = λ k. get_or S k blank }

abbrev pub space_tile : ℕ → ℕ → ℕ → ℕ → Tile
space_tile left bottom right top = record { left = left; bottom = bottom; right = right; top = top; paint = record { kind = SPACE; label = ZERO } }

pub record Kept (t : List ℤ) (S : List Tile) : Type 0 where
  pub size : SizeRight t
  pub sound : Sound t
  -- the solids are exactly those accepted and not deleted, each once
  pub solids : (v : Tile) → Among S v ↔ Shows t v
  pub once : Distinct S
  -- and their labels are words
  pub labels : (v : Tile) → Among S v → v.paint.label < 2 ^ 32
  pub number : length S ≡ solids_in t
  pub fits : length S ≤ capacity (records_of t)
  -- each cell is held exactly once
  pub held : (x y : ℕ) → InPlane x y → Holder (records_of t) (tile_of t) x y
  -- the space tiles are the widest strips
  pub spaces : (i : ℕ) → UsedIn t i → num t i KIND ≡ SPACE → Strip (set_of S) (num t i LEFT) (num t i BOTTOM) (num t i RIGHT) (num t i TOP)
  pub strips : (left bottom right top : ℕ) → Strip (set_of S) left bottom right top → Tiles t (space_tile left bottom right top)
  -- every stitch names the right tile
  pub stitched : (i : ℕ) → UsedIn t i → Stitched t i
  pub few : spaces_in t ≤ 3 * solids_in t + 1
  -- the table is sound for the account's own solids
  pub for : SoundFor t (set_of S)
