-- Words, drawn out byte by byte, beside what the definition gives. Assumes nothing.
use Rattle.std.specs.Prelude.{◌≡◌, refl, [], ◌∷◌, ◌+◌, ◌-◌}
use Rattle.geometry.specs.Picture.{ZERO}
use Rattle.layout.specs.Bytes.{bytes_of}

-- 258 is 2, 1, 0, 0; -1 is four times 255
pub bytes_258 : bytes_of (ZERO + 258) ≡ 2 ∷ 1 ∷ 0 ∷ 0 ∷ []
unfolding bytes_of
bytes_258 = refl

pub bytes_minus_1 : bytes_of (ZERO - 1) ≡ 255 ∷ 255 ∷ 255 ∷ 255 ∷ []
unfolding bytes_of
bytes_minus_1 = refl
