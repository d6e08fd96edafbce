-- What an edit does to the solids of a table: what a create adds and a delete takes away. A page of Promises. Assumes nothing.
use Rattle.std.specs.Prelude.{◌≡◌, ◌≢◌, List, ℕ, ◌-◌, ◌<◌, ℤ, length}
use Rattle.geometry.specs.Picture.{ZERO, FREE, Tile, solid_paint}
use Rattle.table.specs.Words.{KIND, LABEL, records_of, num, tile_of}
use Rattle.table.specs.Sound.{Sound, SolidIn}
use Rattle.seek.specs.Meaning.{Area}

-- the solid that a create draws
abbrev pub drawn : Area → ℕ → Tile
drawn A label = record { left = A.left; bottom = A.bottom; right = A.right; top = A.top; paint = solid_paint label }

-- the solids of t' are those of t, at their record numbers, and one more at record k
pub record Adds (t t' : List ℤ) (k : ℕ) (v : Tile) : Type 0 where
  pub new : SolidIn t' k
  pub is : tile_of t' k ≡ v
  pub was_none : SolidIn t k → ⊥
  pub kept : (i : ℕ) → SolidIn t i → SolidIn t' i × (tile_of t' i ≡ tile_of t i)
  pub only : (i : ℕ) → SolidIn t' i → i ≢ k → SolidIn t i

-- the solids of t' are those of t but that of record k, at their record numbers
pub record Removes (t t' : List ℤ) (k : ℕ) : Type 0 where
  pub kept : (i : ℕ) → SolidIn t i → i ≢ k → SolidIn t' i × (tile_of t' i ≡ tile_of t i)
  pub only : (i : ℕ) → SolidIn t' i → SolidIn t i × (i ≢ k)

-- the table after an accepted edit: sound, and of the same length
pub record Edited (t t' : List ℤ) : Type 0 where
  pub sound : Sound t'
  pub size : length t' ≡ length t

-- the label of record i
abbrev pub label_in : List ℤ → ℕ → ℕ
label_in t i = num t i LABEL - ZERO

-- no record of the table is free
abbrev pub NoRoom : List ℤ → Type 0
NoRoom t = (j : ℕ) → j < records_of t → num t j KIND ≢ FREE
