-- Saved layouts, as 01's page of that name tells them: what a reader must believe about bytes. Words are numbers on the ruler. Assumes nothing.
use Rattle.std.specs.Prelude.{◌≡◌, List, [], ◌∷◌, ◌++◌, ℕ, ◌+◌, ◌*◌, ◌/◌, ◌%◌, ◌<◌, ◌^◌, length, get_or}
use Rattle.geometry.specs.Picture.{ZERO}
use Rattle.layout.specs.declared.bytes.Saved.{Saved}

-- 32-bit two's complement: the number that the bits of a word say, and back; the ruler number of the word x is x + 2^31
abbrev pub complement : ℕ → ℕ
complement w = (w + ZERO) % 2 ^ 32

-- a word as four bytes, low byte first
unfoldable pub bytes_of : ℕ → List ℕ
bytes_of w =
    complement w % 256
    ∷ complement w / 256 % 256
    ∷ complement w / 65536 % 256
    ∷ complement w / 16777216 % 256
    ∷ []

-- how many bytes a saved record has
abbrev pub SAVED : ℕ
SAVED = 20

-- a record's bytes: left, bottom, right, top, label
unfoldable pub record_bytes : Saved → List ℕ
record_bytes s = bytes_of s.left ++ (bytes_of s.bottom ++ (bytes_of s.right ++ (bytes_of s.top ++ bytes_of s.label)))

-- a file is its records, one after another
unfoldable pub file_bytes : List Saved → List ℕ
file_bytes [] = []
file_bytes (s ∷ ss) = record_bytes s ++ file_bytes ss

-- the word at a byte position, and record n of a file
unfoldable pub word_at : List ℕ → ℕ → ℕ
word_at bs at = complement (get_or bs at 0 + 256 * get_or bs (at + 1) 0 + 65536 * get_or bs (at + 2) 0 + 16777216 * get_or bs (at + 3) 0)

unfoldable pub saved_at : List ℕ → ℕ → Saved
saved_at bs n =
    record {
      left = word_at bs (SAVED * n);
      bottom = word_at bs (SAVED * n + 4);
      right = word_at bs (SAVED * n + 8);
      top = word_at bs (SAVED * n + 12);
      label = word_at bs (SAVED * n + 16);
    }

-- every number is a word's
pub record SavedFits (s : Saved) : Type 0 where
  pub left : s.left < 2 ^ 32
  pub bottom : s.bottom < 2 ^ 32
  pub right : s.right < 2 ^ 32
  pub top : s.top < 2 ^ 32
  pub label : s.label < 2 ^ 32

abbrev pub AllFit : List Saved → Type 0
AllFit ss = (n : ℕ) (d : Saved) → n < length ss → SavedFits (get_or ss n d)

-- what reading a word, and a record, gives
pub record WordAt (bs : List ℕ) (at r : ℕ) : Type 0 where
  pub is : r ≡ word_at bs at
  pub fits : r < 2 ^ 32

pub record SavedIs (bs : List ℕ) (n : ℕ) (s : Saved) : Type 0 where
  pub is : s ≡ saved_at bs n
  pub fits : SavedFits s
