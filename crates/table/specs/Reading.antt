-- What reading words of a table gives, and what writing them leaves. Assumes nothing.
use Rattle.std.specs.Prelude.{◌≡◌, List, ℕ, ◌+◌, ◌*◌, ◌<◌, ◌^◌, ℤ, pos, length, set}
use Rattle.std.proofs.Common.{ap, ◌∙◌, length-set, get_or-set_same, get_or-set_other}
use Rattle.ruler.specs.Ruler.{ruler, word, ruler_word}
use Rattle.table.specs.Words.{WIDTH, LEFT, BOTTOM, RIGHT, TOP, TR, RT, BL, LB, KIND, LABEL, num}
use Rattle.table.specs.declared.Record.{Record}

pub record WordIs (t : List ℤ) (i k r : ℕ) : Type 0 where
  pub is : r ≡ num t i k
  pub fits : r < 2 ^ 32

-- every number is a word's
pub record Fits (v : Record) : Type 0 where
  pub left : v.left < 2 ^ 32
  pub bottom : v.bottom < 2 ^ 32
  pub right : v.right < 2 ^ 32
  pub top : v.top < 2 ^ 32
  pub tr : v.tr < 2 ^ 32
  pub rt : v.rt < 2 ^ 32
  pub bl : v.bl < 2 ^ 32
  pub lb : v.lb < 2 ^ 32
  pub kind : v.kind < 2 ^ 32
  pub label : v.label < 2 ^ 32

-- record i, number by number: what omega reads
pub record Reads (t : List ℤ) (i : ℕ) (v : Record) : Type 0 where
  pub left : v.left ≡ num t i LEFT
  pub bottom : v.bottom ≡ num t i BOTTOM
  pub right : v.right ≡ num t i RIGHT
  pub top : v.top ≡ num t i TOP
  pub tr : v.tr ≡ num t i TR
  pub rt : v.rt ≡ num t i RT
  pub bl : v.bl ≡ num t i BL
  pub lb : v.lb ≡ num t i LB
  pub kind : v.kind ≡ num t i KIND
  pub label : v.label ≡ num t i LABEL
  pub fits : Fits v

-- the table with one word written
unfoldable pub write : List ℤ → ℕ → ℕ → ℕ → List ℤ
write t i k n = set t (WIDTH * i + k) (word n)

pub write_length : (t : List ℤ) (i k n : ℕ) → length (write t i k n) ≡ length t
unfolding write
write_length t i k n = length-set t (WIDTH * i + k) (word n)

pub num_write_same : (t : List ℤ) (i k n : ℕ) → WIDTH * i + k < length t → n < 2 ^ 32 → num (write t i k n) i k ≡ n
unfolding num write
num_write_same t i k n h f = ap ruler (get_or-set_same t (WIDTH * i + k) (word n) (pos 0) h) ∙ ruler_word n f

pub num_write_other : (t : List ℤ) (i k n j l : ℕ) → (WIDTH * j + l ≡ WIDTH * i + k → ⊥) → num (write t i k n) j l ≡ num t j l
unfolding num write
num_write_other t i k n j l h = ap ruler (get_or-set_other t (WIDTH * i + k) (WIDTH * j + l) (word n) (pos 0) h)
