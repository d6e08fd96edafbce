-- A table: a list of words, ten to a record, each read as its number on the ruler. Assumes nothing.
use Rattle.std.specs.Prelude.{List, ℕ, ◌+◌, ◌*◌, ◌/◌, ℤ, pos, length, get_or}
use Rattle.ruler.specs.Ruler.{ruler}
use Rattle.geometry.specs.declared.Paint.{Paint}
use Rattle.geometry.specs.Picture.{Tile}

-- the words of a record, and the place of each
abbrev pub WIDTH : ℕ
WIDTH = 10

abbrev pub LEFT : ℕ
LEFT = 0

abbrev pub BOTTOM : ℕ
BOTTOM = 1

abbrev pub RIGHT : ℕ
RIGHT = 2

abbrev pub TOP : ℕ
TOP = 3

abbrev pub TR : ℕ
TR = 4

abbrev pub RT : ℕ
RT = 5

abbrev pub BL : ℕ
BL = 6

abbrev pub LB : ℕ
LB = 7

abbrev pub KIND : ℕ
KIND = 8

abbrev pub LABEL : ℕ
LABEL = 9

-- how few and how many records a table may have
abbrev pub LEAST : ℕ
LEAST = 20

abbrev pub MOST : ℕ
MOST = 4016

-- how many records a table has
abbrev pub records_of : List ℤ → ℕ
records_of t = length t / WIDTH

-- the number of word k of record i
unfoldable pub num : List ℤ → ℕ → ℕ → ℕ
num t i k = ruler (get_or t (WIDTH * i + k) (pos 0))

-- what is painted on record i, and the record as a tile
abbrev pub paint_of : List ℤ → ℕ → Paint
paint_of t i = record { kind = num t i KIND; label = num t i LABEL }

abbrev pub tile_of : List ℤ → ℕ → Tile
tile_of t i =
    record {
      left = num t i LEFT;
      bottom = num t i BOTTOM;
      right = num t i RIGHT;
      top = num t i TOP;
      paint = paint_of t i;
    }
