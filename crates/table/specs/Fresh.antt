-- The fresh plane: record 0 is the one space tile, and all other words are 0. Assumes nothing.
use Rattle.std.specs.Prelude.{List, [], ◌∷◌, ◌++◌, ℕ, ◌-◌, ℤ, pos, negsuc, replicate}
use Rattle.table.specs.Words.{WIDTH}

-- the whole plane as one space tile whose four stitches are -1
abbrev pub whole_plane : List ℤ
whole_plane =
    negsuc 16777215 ∷ negsuc 16777215 ∷ pos 16777216 ∷ pos 16777216 ∷ negsuc 0 ∷ negsuc 0 ∷ negsuc 0 ∷ negsuc 0 ∷ pos 1 ∷ pos 0 ∷ []

abbrev pub fresh_table : ℕ → List ℤ
fresh_table n = whole_plane ++ replicate (n - WIDTH) (pos 0)
