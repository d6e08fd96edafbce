-- The density of a window, and its number for the list: what a reader must believe. Assumes nothing.
use Rattle.std.specs.Prelude.{Bool, true, false, ℕ, pos, eqb, Float}
use Rattle.std.specs.Float.Ieee as Ieee
use Rattle.std.specs.Float.{binary64}
use Rattle.density.specs.declared.shares.Density.{Density}
use Rattle.density.specs.declared.shares.Density.TheVariants.{Bare, Filled, Share}

-- a whole number as a 64-bit float; up to 2^53, and so for every count of cells, without loss
abbrev pub float : ℕ → Float
float n = Ieee.of_int binary64 (pos n)

-- one division of the two whole counts, rounded once
abbrev pub quotient : ℕ → ℕ → Float
quotient count cells = Ieee.div binary64 (float count) (float cells)

abbrev pub pick : Bool → Density → Density → Density
pick true a b = a
pick false a b = b

-- so many of a window's cells are covered
abbrev pub density_of : ℕ → ℕ → Density
density_of count cells = pick (eqb count 0) Bare (pick (eqb count cells) Filled (Share (quotient count cells)))

-- its number for the list: 0.0 for Bare, 1.0 for Filled
abbrev pub float_of : Density → Float
float_of Bare = float 0
float_of Filled = float 1
float_of (Share s) = s

unfoldable pub share_of : ℕ → ℕ → Float
share_of count cells = float_of (density_of count cells)
