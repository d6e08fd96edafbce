-- The lines that the lister prints, as 01 shows them: what a reader must believe about its text. Bytes are ASCII. Assumes nothing.
use Rattle.std.specs.Prelude.{cond, List, [], ◌∷◌, ◌++◌, ℕ, zero, suc, ◌+◌, ◌-◌, ◌/◌, ◌%◌, ltb, eqb}
use Rattle.geometry.specs.Picture.{ZERO, SOLID, Tile}

-- the byte of a digit
abbrev pub glyph : ℕ → ℕ
glyph d = 48 + d

-- The decimal digits of n, most significant first, and "0" for 0. The first argument only bounds the recursion: any number above n serves.
-- What a `let` binds is not computed before it is asked for.
unfoldable pub digits_by : ℕ → ℕ → List ℕ
digits_by zero n = []
digits_by (suc f) n =
    let more : List ℕ = digits_by f (n / 10) ++ (glyph (n % 10) ∷ []) in
    cond (ltb n 10) (glyph n ∷ []) more

unfoldable pub decimal : ℕ → List ℕ
decimal n = digits_by (suc n) n

-- the signed word whose ruler number is w: "-" and the digits of what it lacks to 0, or its digits
unfoldable pub signed_text : ℕ → List ℕ
signed_text w = cond (ltb w ZERO) (45 ∷ decimal (ZERO - w)) (decimal (w - ZERO))

-- a space and a number
unfoldable pub spaced : ℕ → List ℕ
spaced w = 32 ∷ signed_text w

-- "solid", and "space" for every other kind
abbrev pub solid_text : List ℕ
solid_text = 115 ∷ 111 ∷ 108 ∷ 105 ∷ 100 ∷ []

abbrev pub space_text : List ℕ
space_text = 115 ∷ 112 ∷ 97 ∷ 99 ∷ 101 ∷ []

unfoldable pub kind_text : ℕ → List ℕ
kind_text k = cond (eqb k SOLID) solid_text space_text

abbrev pub newline : List ℕ
newline = 10 ∷ []

-- a tile's line: kind, label, left, bottom, right, top
unfoldable pub line_of : Tile → List ℕ
line_of v =
    kind_text v.paint.kind
    ++ (spaced v.paint.label ++ (spaced v.left ++ (spaced v.bottom ++ (spaced v.right ++ (spaced v.top ++ newline)))))

-- the line of a refused load: "refused", the number, the value
abbrev pub refused_text : List ℕ
refused_text = 114 ∷ 101 ∷ 102 ∷ 117 ∷ 115 ∷ 101 ∷ 100 ∷ []

unfoldable pub refused_line : ℕ → ℕ → List ℕ
refused_line number value = refused_text ++ (spaced number ++ (spaced value ++ newline))
