-- The ruler: a word, an i32, read as the natural number that is 2^31 more, so that omega reads it. Assumes nothing.
use Rattle.std.specs.Prelude.{◌≡◌, refl, Bool, true, false, cond, ℕ, suc, ◌+◌, ◌-◌, ◌%◌, ◌<◌, ◌≤◌, ◌^◌, ltb, ℤ, pos, negsuc, ◌+ℤ◌, ◌-ℤ◌, ◌<ℤ◌}
use Rattle.std.proofs.Common.{sym, ap, ◌∙◌, arith, ltb→lt, lt→ltb, lt-ltb, le-ltb, ltb-true, ltb-false, SFits, to_z, of_z, to_z-of_z}
use Rattle.std.specs.Int.Signed.{lt_z_yes}
use Rattle.std.specs.Int.{w32, w64}

unfoldable pub ruler : ℤ → ℕ
ruler (pos n) = n + 2147483648
ruler (negsuc n) = 2147483647 - n

-- the word at a number of the ruler
unfoldable pub word_by : Bool → ℕ → ℤ
word_by true n = negsuc (2147483647 - n)
word_by false n = pos (n - 2147483648)

unfoldable pub word : ℕ → ℤ
word n = word_by (ltb n 2147483648) n

pub ruler_fits : (x : ℤ) → SFits w32 x → ruler x < 2 ^ 32
unfolding ruler
ruler_fits (pos n) f = omega arith
ruler_fits (negsuc n) f = omega arith

pub word_low : (n : ℕ) → n < 2147483648 → word n ≡ negsuc (2147483647 - n)
unfolding word word_by
word_low n h = ap (λ (b : Bool). word_by b n) (lt-ltb n 2147483648 h)

pub word_high : (n : ℕ) → 2147483648 ≤ n → word n ≡ pos (n - 2147483648)
unfolding word word_by
word_high n h = ap (λ (b : Bool). word_by b n) (le-ltb n 2147483648 h)

-- a word is the word at its number: so the ruler tells words apart
pub word_ruler : (x : ℤ) → SFits w32 x → word (ruler x) ≡ x
unfolding ruler
word_ruler (pos n) f = word_high (n + 2147483648) (omega arith) ∙ ap pos (omega arith)
word_ruler (negsuc n) f = word_low (2147483647 - n) (omega arith) ∙ ap negsuc (omega arith)

pub ruler_inj : (x y : ℤ) → SFits w32 x → SFits w32 y → ruler x ≡ ruler y → x ≡ y
ruler_inj x y f g e = sym (word_ruler x f) ∙ ap word e ∙ word_ruler y g

pub word_fits : (n : ℕ) → n < 2 ^ 32 → SFits w32 (word n)
unfolding word word_by
word_fits n h = go (ltb n 2147483648) (λ e. ltb-true n 2147483648 e) (λ e. ltb-false n 2147483648 e)
  where
    go : (b : Bool) → (b ≡ true → n < 2147483648) → (b ≡ false → 2147483648 ≤ n) → SFits w32 (word_by b n)
    go true y k = let l = y refl in record { sfits = omega arith }
    go false y k = let l = k refl in record { sfits = omega arith }

-- a number is the number of its word
pub ruler_word : (n : ℕ) → n < 2 ^ 32 → ruler (word n) ≡ n
unfolding ruler word word_by
ruler_word n h = go (ltb n 2147483648) (λ e. ltb-true n 2147483648 e) (λ e. ltb-false n 2147483648 e)
  where
    go : (b : Bool) → (b ≡ true → n < 2147483648) → (b ≡ false → 2147483648 ≤ n) → ruler (word_by b n) ≡ n
    go true y k = let l = y refl in omega arith
    go false y k = let l = k refl in omega arith

-- the order of words is that of their numbers
pub ruler_lt : (x y : ℤ) → SFits w32 x → SFits w32 y → x <ℤ y → ruler x < ruler y
unfolding ruler
ruler_lt (pos a) (pos b) f g h = let l = ltb→lt a b h.lt in omega arith
ruler_lt (pos a) (negsuc b) f g h = absurd h.lt
ruler_lt (negsuc a) (pos b) f g h = omega arith
ruler_lt (negsuc a) (negsuc b) f g h = let l = ltb→lt b a h.lt in omega (arith, f.sfits, g.sfits)

pub lt_ruler : (x y : ℤ) → SFits w32 x → SFits w32 y → ruler x < ruler y → x <ℤ y
unfolding ruler
lt_ruler (pos a) (pos b) f g h = lt_z_yes (lt→ltb a b (omega arith))
lt_ruler (pos a) (negsuc b) f g h = absurd (omega arith)
lt_ruler (negsuc a) (pos b) f g h = lt_z_yes tt
lt_ruler (negsuc a) (negsuc b) f g h = lt_z_yes (lt→ltb b a (omega arith))

-- what the code of `at` and of `word_at` computes
pub plus_half : (x : ℤ) → SFits w32 x → x +ℤ pos 2147483648 ≡ pos (ruler x)
unfolding ruler
plus_half (pos n) f = refl
plus_half (negsuc n) f =
    ap (λ (b : Bool). cond b (negsuc (suc n - 2147483649)) (pos (2147483648 - suc n))) (le-ltb 2147483648 (suc n) (omega arith))
    ∙ ap pos (omega arith)

pub minus_half : (n : ℕ) → pos n -ℤ pos 2147483648 ≡ word n
unfolding word word_by
minus_half n = go (ltb n 2147483648)
  where
    go : (b : Bool) → cond b (negsuc (2147483648 - suc n)) (pos (n - 2147483648)) ≡ word_by b n
    go true = ap negsuc (omega arith)
    go false = refl

-- the number of a word's bits, read without a sign, from its number on the ruler, and what the code of `bits` computes
abbrev pub bits : ℕ → ℕ
bits n = (n + 2147483648) % 4294967296

pub bits_of : (x : ℤ) → SFits w32 x → of_z w32 x ≡ bits (ruler x)
unfolding ruler
bits_of (pos n) f = omega (arith, f.sfits)
bits_of (negsuc n) f = omega (arith, f.sfits)

-- 2^32 more than a word, by its number on the ruler
pub plus_whole : (x : ℤ) → SFits w32 x → x +ℤ pos 4294967296 ≡ pos (ruler x + 2147483648)
unfolding ruler
plus_whole (pos n) f = ap pos (omega arith)
plus_whole (negsuc n) f =
    ap (λ (b : Bool). cond b (negsuc (suc n - 4294967297)) (pos (4294967296 - suc n))) (le-ltb 4294967296 (suc n) (omega arith))
    ∙ ap pos (omega arith)

-- a word as a length: itself, and 0 where it is below 0
unfoldable pub length_of : ℤ → ℕ
length_of (pos n) = n
length_of (negsuc n) = 0

pub length_ruler : (x : ℤ) → length_of x ≡ ruler x - 2147483648
unfolding length_of ruler
length_ruler (pos n) = omega arith
length_ruler (negsuc n) = omega arith

-- what `at` gives
pub record AtIs (x : ℤ) (r : ℕ) : Type 0 where
  pub is : r ≡ ruler x
  pub fits : r < 2 ^ 32

-- a signed local holds bits: what is read back from them
pub ruler_bits : (x : ℤ) → SFits w32 x → ruler (to_z w32 (of_z w32 x)) ≡ ruler x
ruler_bits x f = ap ruler (to_z-of_z f)

-- a count and its number
pub ruler_pos : (n : ℕ) → ruler (pos n) ≡ n + 2147483648
unfolding ruler
ruler_pos n = refl

pub pos_ruler : (x : ℤ) → 2147483648 ≤ ruler x → x ≡ pos (ruler x - 2147483648)
unfolding ruler
pos_ruler (pos n) h = let e : n ≡ n + 2147483648 - 2147483648 = omega arith in ap pos e
pos_ruler (negsuc n) h = absurd (omega arith)

pub count_bits : (n : ℕ) (r : ℤ) → r ≡ pos n → n < 2 ^ 31 → to_z w32 (of_z w32 r) ≡ pos n
count_bits n r e h = ap (λ z. to_z w32 (of_z w32 z)) e ∙ to_z-of_z {w = w32} (record { sfits = h })

-- the same in 64 bits
pub long_bits : (n : ℕ) (r : ℤ) → r ≡ pos n → n < 2 ^ 63 → to_z w64 (of_z w64 r) ≡ pos n
long_bits n r e h = ap (λ z. to_z w64 (of_z w64 z)) e ∙ to_z-of_z {w = w64} (record { sfits = h })

pub length_bits : (x : ℤ) → SFits w32 x → length_of (to_z w32 (of_z w32 x)) ≡ length_of x
length_bits x f = ap length_of (to_z-of_z f)
