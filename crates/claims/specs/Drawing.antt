-- The drawn rectangles of 01's examples, and what it is that a table draws certain solids. Assumes nothing.
use Rattle.std.specs.Prelude.{List, ◌++◌, ◌∷◌, [], ◌-◌, ℕ, ◌*◌, negsuc, pos, ℤ, replicate}
use Rattle.ruler.specs.Ruler.{ruler}
use Rattle.geometry.specs.Picture.{SPACE, Tile, solid_paint}
use Rattle.table.specs.Sound.{SolidIn}
use Rattle.table.specs.Words.{tile_of, WIDTH}
use Rattle.table.specs.Fresh.{fresh_table}
use Rattle.seek.specs.Meaning.{Area}
use Rattle.ushanderi.specs.Promises.{Fit}
use Rattle.claims.specs.History.{Among}
use Rattle.claims.specs.Terms.{Shows}

abbrev pub solid : ℤ → ℤ → ℤ → ℤ → ℕ → Tile
solid l b r t label = record { left = ruler l; bottom = ruler b; right = ruler r; top = ruler t; paint = solid_paint (ruler (pos label)) }

abbrev pub space : ℤ → ℤ → ℤ → ℤ → Tile
space l b r t = record { left = ruler l; bottom = ruler b; right = ruler r; top = ruler t; paint = record { kind = SPACE; label = ruler (pos 0) } }

abbrev pub area : ℤ → ℤ → ℤ → ℤ → Area
area l b r t = record { left = ruler l; bottom = ruler b; right = ruler r; top = ruler t }

-- 01's E, and words below 0
abbrev pub neg : ℕ → ℤ
neg n = negsuc (n - 1)

abbrev pub E : ℤ
E = pos 16777216

abbrev pub -E : ℤ
-E = neg 16777216

abbrev pub A : Tile
A = solid (pos 0) (pos 0) (pos 10) (pos 10) 1

abbrev pub B : Tile
B = solid (pos 20) (pos 0) (pos 30) (pos 10) 2

abbrev pub C : Tile
C = solid (pos 5) (pos 15) (pos 25) (pos 20) 3

-- the gap between A and B as a solid, and the whole plane as one
abbrev pub D : Tile
D = solid (pos 10) (pos 0) (pos 20) (pos 10) 4

abbrev pub W : Tile
W = solid -E -E E E 1

pub record Draws (t : List ℤ) (vs : List Tile) : Type 0 where
  pub fit : Fit t
  pub each : (i : ℕ) → SolidIn t i → Among vs (tile_of t i)
  pub all : (v : Tile) → Among vs v → Shows t v

-- a solid's rectangle
abbrev pub area_of : Tile → Area
area_of v = record { left = v.left; bottom = v.bottom; right = v.right; top = v.top }

-- a record: left, bottom, right, top, tr, rt, bl, lb, kind, label
abbrev pub rec : ℤ → ℤ → ℤ → ℤ → ℤ → ℤ → ℤ → ℤ → ℕ → ℕ → List ℤ
rec l b r t tr rt bl lb kind label = l ∷ b ∷ r ∷ t ∷ tr ∷ rt ∷ bl ∷ lb ∷ pos kind ∷ pos label ∷ []

-- so many free records
abbrev pub free : ℕ → List ℤ
free n = replicate (WIDTH * n) (pos 0)

-- a table of 20 records with the whole plane as a solid
unfoldable pub full : List ℤ
full = rec -E -E E E (neg 1) (neg 1) (neg 1) (neg 1) 2 1 ++ free 19

-- the same in the next record
unfoldable pub full_next : List ℤ
full_next = free 1 ++ rec -E -E E E (neg 1) (neg 1) (neg 1) (neg 1) 2 1 ++ free 18

-- the fresh plane of 20 records
unfoldable pub blank : List ℤ
blank = fresh_table 200
