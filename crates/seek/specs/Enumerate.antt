-- What the directed listing gives for one tile and for a whole area: a list that is settled, written or only counted. Assumes nothing.
use Rattle.std.specs.Prelude.{◌≡◌, List, ℕ, ◌≤◌, ℤ}
use Rattle.std.proofs.Common.{arith}
use Rattle.table.specs.Words.{records_of}
use Rattle.table.specs.Forms.{Forms}
use Rattle.seek.specs.Meaning.{Area, Tree, Directed}
use Rattle.seek.specs.Once.{directed_short}
use Rattle.seek.specs.Order.{directed_one}
use Rattle.seek.specs.Writing.{Writes, CountOf, count_one}
use Rattle.seek.specs.declared.area.Area as Given

-- the area with these edges
abbrev pub edges : ℕ → ℕ → ℕ → ℕ → Area
edges left bottom right top = record { left = left; bottom = bottom; right = right; top = top }

abbrev pub area_of : Given.Area → Area
area_of a = edges a.left a.bottom a.right a.top

-- the tree of tile p is written
abbrev pub WritesTree : List ℤ → Area → ℕ → List ℤ → List ℤ → ℕ → Type 0
WritesTree t A p = Writes (Tree t A p)

-- the whole directed order is written, or only counted
abbrev pub WritesArea : List ℤ → Area → List ℤ → List ℤ → ℕ → Type 0
WritesArea t A = Writes (Directed t A)

abbrev pub CountsArea : List ℤ → Area → ℕ → Type 0
CountsArea t A = CountOf (Directed t A)

-- ---- what is counted and written is settled

module _ (t : List ℤ) (f : Forms t) (A : Area) where
  pub counts_area_one : (m n : ℕ) → CountsArea t A m → CountsArea t A n → m ≡ n
  counts_area_one = count_one (Directed t A) (directed_one t f A)

  pub counts_area_short : (n : ℕ) → CountsArea t A n → n ≤ records_of t
  counts_area_short n c = omega (arith, c.count, directed_short t f A c.list c.is)
