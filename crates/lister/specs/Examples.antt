-- Lines, drawn out byte by byte, beside what the definitions give. Assumes nothing.
use Rattle.std.specs.Prelude.{◌≡◌, refl, [], ◌∷◌, ◌+◌, ◌-◌}
use Rattle.geometry.specs.Picture.{ZERO, E, SPACE, solid_paint}
use Rattle.lister.specs.Text.{digits_by, decimal, signed_text, spaced, kind_text, line_of, refused_line}

-- "solid 1 0 0 10 10", of 01
pub line_solid : line_of (record { left = ZERO; bottom = ZERO; right = ZERO + 10; top = ZERO + 10; paint = solid_paint (ZERO + 1) })
    ≡ 115 ∷ 111 ∷ 108 ∷ 105 ∷ 100 ∷ 32 ∷ 49 ∷ 32 ∷ 48 ∷ 32 ∷ 48 ∷ 32 ∷ 49 ∷ 48 ∷ 32 ∷ 49 ∷ 48 ∷ 10 ∷ []
unfolding line_of kind_text spaced signed_text decimal digits_by
line_solid = refl

-- "space 0 -16777216 0 0 10", of 01
pub line_space : line_of (record { left = ZERO - E; bottom = ZERO; right = ZERO; top = ZERO + 10; paint = record { kind = SPACE; label = ZERO } })
    ≡ 115 ∷ 112 ∷ 97 ∷ 99 ∷ 101 ∷ 32 ∷ 48 ∷ 32 ∷ 45 ∷ 49 ∷ 54 ∷ 55 ∷ 55 ∷ 55 ∷ 50 ∷ 49 ∷ 54 ∷ 32 ∷ 48 ∷ 32 ∷ 48 ∷ 32 ∷ 49 ∷ 48 ∷ 10 ∷ []
unfolding line_of kind_text spaced signed_text decimal digits_by
line_space = refl

-- "refused 6 12"
pub line_refused : refused_line (ZERO + 6) (ZERO + 12) ≡ 114 ∷ 101 ∷ 102 ∷ 117 ∷ 115 ∷ 101 ∷ 100 ∷ 32 ∷ 54 ∷ 32 ∷ 49 ∷ 50 ∷ 10 ∷ []
unfolding refused_line spaced signed_text decimal digits_by
line_refused = refl
