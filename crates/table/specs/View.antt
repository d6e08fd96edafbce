-- The words of one record as the table itself shows them: where they lie, and the part of the lent slice that they are. Assumes nothing.
use Rattle.std.specs.Prelude.{◌≡◌, List, ℕ, ◌+◌, ◌*◌, ◌≤◌, ◌<◌, ℤ, pos, length, take, drop}
use Rattle.std.proofs.Common.{ap, ◌∙◌, arith}
use Rattle.std.specs.Borrow.{Bor}
use Rattle.ruler.specs.Ruler.{ruler, ruler_pos}
use Rattle.geometry.specs.Picture.{ZERO}
use Rattle.table.specs.Words.{WIDTH, records_of}
use Rattle.table.specs.Sound.{SizeRight}

-- the word `index` numbers record i of a table of the right size
pub record Numbers (t : List ℤ) (index : ℤ) (i : ℕ) : Type 0 where
  pub size : SizeRight t
  pub below : i < records_of t
  pub is : index ≡ pos i

-- where the record's words lie: `len` words from `at` on, none where no record is numbered
pub data Places (t : List ℤ) (index : ℤ) (at len : ℕ) : Type 0 where
  nowhere : ((i : ℕ) → Numbers t index i → ⊥) → at ≡ 0 → len ≡ 0 → Places t index at len
  there : (i : ℕ) → Numbers t index i → at ≡ WIDTH * i → len ≡ WIDTH → Places t index at len

-- a lent slice of words: where it begins, as a block of memory and a byte of it, and the words there
abbrev pub Slice : Type 0
Slice = Bor (List ℤ)

-- the part of a lent slice that is its `len` words from `at` on, four bytes to a word
pub record IsPart (s : Slice) (at len : ℕ) (part : Slice) : Type 0 where
  pub block : part.ref_ptr.0 ≡ s.ref_ptr.0
  pub byte : part.ref_ptr.1 ≡ s.ref_ptr.1 + 4 * at
  pub words : part.now ≡ take len (drop at s.now)

-- no record is numbered by a word below 0, by one past the records, or where the size is wrong
pub numbers_is : (t : List ℤ) (index : ℤ) (i : ℕ) → Numbers t index i → ruler index ≡ i + ZERO
numbers_is t index i h = ap ruler h.is ∙ ruler_pos i

-- the place lies in the table
pub places_in : (t : List ℤ) (index : ℤ) (at len : ℕ) → Places t index at len → at + len ≤ length t
places_in t index at len (nowhere h a e) = omega arith
places_in t index at len (there i h a e) = let b = h.below in omega arith
