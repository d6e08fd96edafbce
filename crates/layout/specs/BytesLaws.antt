-- Words and records go to bytes and back. Assumes nothing.
use Rattle.std.specs.Prelude.{◌≡◌, refl, List, [], ◌∷◌, ◌++◌, ℕ, zero, suc, ◌+◌, ◌-◌, ◌*◌, ◌/◌, ◌%◌, ◌≤◌, ◌<◌, ◌^◌, length, get_or}
use Rattle.std.proofs.Common.{ap, ◌∙◌, arith, not-suc-le-zero, length-append, get_or-append-add}
use Rattle.layout.specs.declared.bytes.Saved.{Saved}
use Rattle.layout.specs.Patch.{patch, patch_then}
use Rattle.layout.specs.Bytes.{complement, bytes_of, record_bytes, file_bytes, word_at, saved_at, SavedFits, AllFit, SAVED}

-- the two directions of two's complement
pub complement_twice : (w : ℕ) → w < 2 ^ 32 → complement (complement w) ≡ w
complement_twice w h = omega arith

pub complement_fits : (w : ℕ) → complement w < 2 ^ 32
complement_fits w = omega arith

-- the bytes of a number below 2^32 add up to it
div_256 : (u : ℕ) → u / 256 / 256 ≡ u / 65536
div_256 u = omega arith

div_65536 : (u : ℕ) → u / 65536 / 256 ≡ u / 16777216
div_65536 u = omega arith

bytes_sum : (u : ℕ) → u < 2 ^ 32 → u % 256 + 256 * (u / 256 % 256) + 65536 * (u / 65536 % 256) + 16777216 * (u / 16777216 % 256) ≡ u
bytes_sum u h =
    let a : u / 256 % 256 ≡ u / 256 - 256 * (u / 65536) = omega (arith, div_256 u) in
    let b : u / 65536 % 256 ≡ u / 65536 - 256 * (u / 16777216) = omega (arith, div_65536 u) in
    let c : u / 16777216 % 256 ≡ u / 16777216 = omega arith in
    omega arith

-- ---- a word and its bytes

word_first : (w : ℕ) (rest : List ℕ) → w < 2 ^ 32 → word_at (bytes_of w ++ rest) 0 ≡ w
unfolding word_at bytes_of
word_first w rest h = ap complement (bytes_sum (complement w) (complement_fits w)) ∙ complement_twice w h

word_shift : (p q : List ℕ) (n m : ℕ) → m ≡ length p + n → word_at (p ++ q) m ≡ word_at q n
unfolding word_at
word_shift p q n m e =
    let a : get_or (p ++ q) m 0 ≡ get_or q n 0 = ap (λ k. get_or (p ++ q) k 0) e ∙ get_or-append-add p q n 0 in
    let b : get_or (p ++ q) (m + 1) 0 ≡ get_or q (n + 1) 0 = at 1 in
    let c : get_or (p ++ q) (m + 2) 0 ≡ get_or q (n + 2) 0 = at 2 in
    let d : get_or (p ++ q) (m + 3) 0 ≡ get_or q (n + 3) 0 = at 3 in
    rw (a, b, c, d)
  where
    at : (k : ℕ) → get_or (p ++ q) (m + k) 0 ≡ get_or q (n + k) 0
    at k = let f : m + k ≡ length p + (n + k) = omega arith in ap (λ j. get_or (p ++ q) j 0) f ∙ get_or-append-add p q (n + k) 0

pub record_length : (s : Saved) → length (record_bytes s) ≡ SAVED
unfolding record_bytes bytes_of
record_length s = refl

pub file_length : (ss : List Saved) → length (file_bytes ss) ≡ SAVED * length ss
unfolding file_bytes
file_length [] = refl
file_length (s ∷ ss) = length-append (record_bytes s) (file_bytes ss) ∙ omega (arith, record_length s, file_length ss)

-- ---- writing a record word by word

pub put_record : (old : List ℕ) (at : ℕ) (s : Saved) (o₁ o₂ o₃ o₄ o₅ : List ℕ) → at + SAVED ≤ length old
    → o₁ ≡ patch old at (bytes_of s.left)
    → o₂ ≡ patch o₁ (at + 4) (bytes_of s.bottom)
    → o₃ ≡ patch o₂ (at + 8) (bytes_of s.right)
    → o₄ ≡ patch o₃ (at + 12) (bytes_of s.top)
    → o₅ ≡ patch o₄ (at + 16) (bytes_of s.label)
    → o₅ ≡ patch old at (record_bytes s)
unfolding record_bytes bytes_of
put_record old at s o₁ o₂ o₃ o₄ o₅ h e₁ e₂ e₃ e₄ e₅ =
    let f₂ : o₂ ≡ patch old at (bytes_of s.left ++ bytes_of s.bottom) =
    e₂ ∙ ap (λ o. patch o (at + 4) (bytes_of s.bottom)) e₁ ∙ patch_then old at (bytes_of s.left) (bytes_of s.bottom) (at + 4) refl (omega arith) in
    let f₃ : o₃ ≡ patch old at ((bytes_of s.left ++ bytes_of s.bottom) ++ bytes_of s.right) =
    e₃ ∙ ap (λ o. patch o (at + 8) (bytes_of s.right)) f₂ ∙ patch_then old at (bytes_of s.left ++ bytes_of s.bottom) (bytes_of s.right) (at + 8) refl (omega arith) in
    let f₄ : o₄ ≡ patch old at (((bytes_of s.left ++ bytes_of s.bottom) ++ bytes_of s.right) ++ bytes_of s.top) =
    e₄ ∙ ap (λ o. patch o (at + 12) (bytes_of s.top)) f₃
    ∙ patch_then old at ((bytes_of s.left ++ bytes_of s.bottom) ++ bytes_of s.right) (bytes_of s.top) (at + 12) refl (omega arith) in
    e₅ ∙ ap (λ o. patch o (at + 16) (bytes_of s.label)) f₄
    ∙ patch_then old at (((bytes_of s.left ++ bytes_of s.bottom) ++ bytes_of s.right) ++ bytes_of s.top) (bytes_of s.label) (at + 16) refl (omega arith)

-- ---- a file and its records

saved_ext : (s : Saved) (l b r t a : ℕ) → l ≡ s.left → b ≡ s.bottom → r ≡ s.right → t ≡ s.top → a ≡ s.label
    → ◌≡◌ {A = Saved} (record { left = l; bottom = b; right = r; top = t; label = a }) s
saved_ext s l b r t a e₁ e₂ e₃ e₄ e₅ = go
  where
    go : ◌≡◌ {A = Saved} (record { left = l; bottom = b; right = r; top = t; label = a })
        (record { left = s.left; bottom = s.bottom; right = s.right; top = s.top; label = s.label })
    go = cc

saved_first : (s : Saved) (rest : List ℕ) → SavedFits s → saved_at (record_bytes s ++ rest) 0 ≡ s
unfolding saved_at record_bytes bytes_of word_at
saved_first s rest f =
    saved_ext s _ _ _ _ _ (word_first s.left [] f.left) (word_first s.bottom [] f.bottom) (word_first s.right [] f.right)
    (word_first s.top [] f.top) (word_first s.label [] f.label)

saved_next : (s : Saved) (rest : List ℕ) (n : ℕ) → saved_at (record_bytes s ++ rest) (suc n) ≡ saved_at rest n
unfolding saved_at
saved_next s rest n =
    rw (
      word_shift (record_bytes s) rest (SAVED * n) (SAVED * suc n) (omega (arith, record_length s)),
      word_shift (record_bytes s) rest (SAVED * n + 4) (SAVED * suc n + 4) (at 4),
      word_shift (record_bytes s) rest (SAVED * n + 8) (SAVED * suc n + 8) (at 8),
      word_shift (record_bytes s) rest (SAVED * n + 12) (SAVED * suc n + 12) (at 12),
      word_shift (record_bytes s) rest (SAVED * n + 16) (SAVED * suc n + 16) (at 16),
    )
  where
    at : (k : ℕ) → SAVED * suc n + k ≡ length (record_bytes s) + (SAVED * n + k)
    at k = omega (arith, record_length s)

pub saved_file_lem : (ss : List Saved) (n : ℕ) (d : Saved) → AllFit ss → n < length ss → saved_at (file_bytes ss) n ≡ get_or ss n d
unfolding file_bytes
saved_file_lem [] n d f h = absurd (not-suc-le-zero h)
saved_file_lem (s ∷ ss) zero d f h = saved_first s (file_bytes ss) (f 0 d h)
saved_file_lem (s ∷ ss) (suc n) d f h =
    saved_next s (file_bytes ss) n ∙ saved_file_lem ss n d (λ k e l. f (suc k) e (omega arith)) (omega arith)
