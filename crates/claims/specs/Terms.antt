-- The terms in which the claims are stated: when two tables are the same picture, and what agrees where 01 leaves record numbers open. Assumes nothing.
use Rattle.std.specs.Prelude.{List, ◌↔◌, ◌≢◌, ◌≡◌, Bool, ℕ, ◌+◌, ◌<◌, ◌%◌, ◌/◌, ◌≤◌, ℤ, pos, Float, eqb, length}
use Rattle.geometry.specs.Picture.{Tile, FREE, ZERO, Has}
use Rattle.geometry.specs.Counting.{count}
use Rattle.table.specs.Sound.{SolidIn, UsedIn, NONE, Zeros}
use Rattle.table.specs.Words.{tile_of, BL, KIND, LB, RT, TR, num, records_of}
use Rattle.seek.specs.Meaning.{Area, InArea, RectRight}
use Rattle.density.specs.Meaning.{Steps, windows_of}
use Rattle.density.specs.Report.{Reports}
use Rattle.density.specs.declared.windows.Report.{Report}
use Rattle.layout.specs.Bytes.{saved_at, SAVED}
use Rattle.ushanderi.specs.declared.answer.Answer.{Answer}
use Rattle.ushanderi.specs.declared.answer.MetAnswer.{MetAnswer}
use Rattle.ushanderi.specs.declared.reports.DensityAnswer.{DensityAnswer}
use Rattle.ushanderi.specs.Promises.{CreateDone, area_in, Built, CreateRefuses}
use Rattle.ushanderi.specs.Answers.{DONE, accepted, without_cell, reported}

-- some record of t is the solid w
pub record Shows (t : List ℤ) (w : Tile) : Type 0 where
  pub at : ℕ
  pub solid : SolidIn t at
  pub is : tile_of t at ≡ w

-- 01: two tables have the same picture when their solids and labels agree
abbrev pub SamePicture : List ℤ → List ℤ → Type 0
SamePicture u v = (w : Tile) → Shows u w ↔ Shows v w

-- some used record of t, space or solid, is the tile w
pub record Tiles (t : List ℤ) (w : Tile) : Type 0 where
  pub at : ℕ
  pub used : UsedIn t at
  pub is : tile_of t at ≡ w

abbrev pub SameTiles : List ℤ → List ℤ → Type 0
SameTiles u v = (w : Tile) → Tiles u w ↔ Tiles v w

-- record j of u is the tile that record i of t is
pub record Twins (t u : List ℤ) (i j : ℕ) : Type 0 where
  pub used : UsedIn t i
  pub twin : UsedIn u j
  pub same : tile_of u j ≡ tile_of t i

-- the stitches w of u and z of v both name none, or name records that are one tile
pub data SameStitch (u v : List ℤ) (w z : ℕ) : Type 0 where
  none : w ≡ NONE → z ≡ NONE → SameStitch u v w z
  tile : (i j : ℕ) → w ≡ ZERO + i → z ≡ ZERO + j → Twins u v i j → SameStitch u v w z

pub record SameStitches (u v : List ℤ) (i j : ℕ) : Type 0 where
  pub tr : SameStitch u v (num u i TR) (num v j TR)
  pub rt : SameStitch u v (num u i RT) (num v j RT)
  pub bl : SameStitch u v (num u i BL) (num v j BL)
  pub lb : SameStitch u v (num u i LB) (num v j LB)

-- the free records, how many there are, and that they are zeros
abbrev pub free_at : List ℤ → ℕ → Bool
free_at t i = eqb (num t i KIND) FREE

abbrev pub free_in : List ℤ → ℕ
free_in t = count (records_of t) (free_at t)

abbrev pub FreeZeros : List ℤ → Type 0
FreeZeros t = (i : ℕ) → i < records_of t → num t i KIND ≡ FREE → Zeros t i

-- one table, but for the numbers of its records
pub record Renumbered (u v : List ℤ) : Type 0 where
  pub size : length u ≡ length v
  pub picture : SamePicture u v
  pub tiles : SameTiles u v
  pub stitches : (i j : ℕ) → Twins u v i j → SameStitches u v i j
  pub free : free_in u ≡ free_in v
  pub zeros : FreeZeros u × FreeZeros v

-- every solid of t stands in u at its record number
abbrev pub Keeps : List ℤ → List ℤ → Type 0
Keeps t u = (i : ℕ) → SolidIn t i → SolidIn u i × (tile_of u i ≡ tile_of t i)

pub record CreatedAgree (t u v : List ℤ) : Type 0 where
  pub table : Renumbered u v
  pub kept : Keeps t u
  pub kept_too : Keeps t v

-- two answers name one cell
abbrev pub OneCell : MetAnswer → MetAnswer → Type 0
OneCell a b = (a.x ≡ b.x) × (a.y ≡ b.y)

pub record CreateAgrees (t u v : List ℤ) (a b : MetAnswer) : Type 0 where
  pub number : a.number ≡ b.number
  pub cell : OneCell a b
  pub refused : a.number ≢ pos DONE → (a ≡ b) × (u ≡ v)
  pub done : a.number ≡ pos DONE → CreatedAgree t u v

-- an accepted create and its answer
pub record Created (t : List ℤ) (A : Area) (label : ℕ) (t' : List ℤ) (a : MetAnswer) : Type 0 where
  pub at : ℕ
  pub done : CreateDone t A label t' at
  pub is : a ≡ without_cell (accepted at)

-- an accepted density report and its answer
pub record Given (t : List ℤ) (A : Area) (w h : ℕ) (out out' : List Float) (a : DensityAnswer) : Type 0 where
  pub rect : RectRight A
  pub steps : Steps A w h
  pub report : Report
  pub reports : Reports t A w h out out' report
  pub is : a ≡ reported (windows_of A w h) report

-- the solids of u and v agree record by record
pub record SameRecords (u v : List ℤ) : Type 0 where
  pub solids : (i : ℕ) → SolidIn u i ↔ SolidIn v i
  pub tiles : (i : ℕ) → SolidIn u i → tile_of u i ≡ tile_of v i

pub record DeletedAgree (u v : List ℤ) : Type 0 where
  pub solids : SameRecords u v
  pub table : Renumbered u v

pub record DeleteAgrees (u v : List ℤ) (a b : Answer) : Type 0 where
  pub answer : a ≡ b
  pub refused : a.number ≢ pos DONE → u ≡ v
  pub done : a.number ≡ pos DONE → DeletedAgree u v

pub record LoadAgrees (u v : List ℤ) (a b : MetAnswer) : Type 0 where
  pub answer : a ≡ b
  pub refused : a.number ≢ pos DONE → u ≡ v
  pub done : a.number ≡ pos DONE → Renumbered u v

-- whole records, each within the limits of RECT and LABEL, no two that share a cell, no more than N
pub record Clean (bs : List ℕ) (N : ℕ) : Type 0 where
  pub whole : length bs % SAVED ≡ 0
  pub rect : (n : ℕ) → n < length bs / SAVED → RectRight (area_in bs n)
  pub label : (n : ℕ) → n < length bs / SAVED → ZERO < (saved_at bs n).label
  pub apart : (m n x y : ℕ) → m < n → n < length bs / SAVED → InArea (area_in bs m) x y → InArea (area_in bs n) x y → ⊥
  pub few : length bs / SAVED ≤ N

-- the tile v shares a cell with the rectangle
pub record Shares (v : Tile) (A : Area) : Type 0 where
  pub x : ℕ
  pub y : ℕ
  pub inside : InArea A x y
  pub has : Has v x y

-- a record of a file at which its load is refused
pub record Stop (t : List ℤ) (bs : List ℕ) (n number : ℕ) : Type 0 where
  pub before : List ℤ
  pub built : Built (length t) bs n before
  pub refusal : MetAnswer
  pub refuses : CreateRefuses before (area_in bs n) (saved_at bs n).label refusal
  pub is : refusal.number ≡ pos number
