-- The order of a saved layout, as 01 says it, and what save writes: what a reader must believe about save. Assumes nothing.
use Rattle.std.specs.Prelude.{◌≡◌, List, ◌++◌, map, ℕ, ◌*◌, ◌<◌, ◌^◌, ℤ, length, drop}
use Rattle.table.specs.Words.{LEFT, BOTTOM, RIGHT, TOP, LABEL, num}
use Rattle.table.specs.Sound.{SolidIn}
use Rattle.seek.specs.Meaning.{Lists}
use Rattle.layout.specs.declared.bytes.Saved.{Saved}
use Rattle.layout.specs.Bytes.{file_bytes, SAVED}

-- record j comes before record k: highest top first, ties by smaller left
pub data Comes (t : List ℤ) (j k : ℕ) : Type 0 where
  higher : num t k TOP < num t j TOP → Comes t j k
  level : num t j TOP ≡ num t k TOP → num t j LEFT < num t k LEFT → Comes t j k

-- what is saved of record i
unfoldable pub saved_of : List ℤ → ℕ → Saved
saved_of t i =
    record { left = num t i LEFT; bottom = num t i BOTTOM; right = num t i RIGHT; top = num t i TOP; label = num t i LABEL }

-- The solids in order, their bytes at the start of the lent ones, whose rest is kept, and how many bytes that is.
pub record Saves (t : List ℤ) (out out' : List ℕ) (bytes : ℕ) : Type 0 where
  pub solids : List ℕ
  pub lists : Lists (SolidIn t) (Comes t) solids
  pub number : bytes ≡ SAVED * length solids
  pub writes : out' ≡ file_bytes (map (saved_of t) solids) ++ drop bytes out

-- every label is a word's
abbrev pub LabelsFit : List ℤ → Type 0
LabelsFit t = (i : ℕ) → SolidIn t i → num t i LABEL < 2 ^ 32
