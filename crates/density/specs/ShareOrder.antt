-- The larger of two counts of one window size has the larger share, as 64-bit floats: for readers who rank windows by the list's numbers. Assumes nothing.
use Rattle.std.specs.Prelude.{◌≡◌, refl, Bool, true, false, not, cond, ℕ, suc, ◌+◌, ◌*◌, ◌/◌, ◌^◌, ◌≤◌, ◌<◌, T, eqb, Float}
use Rattle.std.proofs.Common.{sym, ap, ◌∙◌, subst, inl, inr, true≢false, zero-lt-suc, le_refl, le_trans, le_of_eq, le_of_lt, lt_of_lt_of_le, lt_of_not-le, not-le_of_lt, lt_irrefl, eq-zero-or-pos, mul-one, one-mul, zero-mul, mul_assoc, mul_comm, mul_left_comm, mul-pos, mul-le-mul_right, add-mul, le_of_mul-le-mul_right, div-mul-le_self, div-lt_iff_lt-mul, arith, eqb→eq, ltb→lt, lt→ltb, lit≤, pow-add, pow_pos, pow_mono, shl_lt}
use Rattle.std.specs.Float.Ieee as Ieee
use Rattle.std.specs.Float.{nan, inf, fin, Format, binary64}
use Rattle.std.specs.Float.Ieee.{up, down, below}
use Rattle.geometry.specs.Cases.{and_l, and_r}
use Rattle.std.specs.Float.Ieee.Fits.{up_pos, down_pos}
use Rattle.std.specs.Float.Ieee.Exact.{HasValue, round_exact}
use Rattle.std.specs.Float.Ieee.Back.{round_whole}
use Rattle.std.specs.Float.Ieee.Order.{transfer, round_mono}
use Rattle.std.specs.Float.Ieee.Scale.{round_same}
use Rattle.std.specs.Float.Ieee.Positive.{num, den, den_pos, positive, own_value, positive_of_value, values_of_le, value_pos, first_pos, through, between}
use Rattle.density.specs.declared.shares.Density.TheVariants.{Bare, Filled, Share}
use Rattle.density.specs.Shares.{float, quotient, pick, float_of, share_of}

-- ---- both counts are exact floats, so their quotient is one rounding of their fraction

pub float_value : (n : ℕ) → n ≤ 2 ^ 50 → HasValue (float n) false n 1
unfolding Ieee.of_int
float_value n h = let k : n ≤ 2 ^ 53 = omega arith in round_whole binary64 false n k

-- a value above zero is not written with the number zero
no_zero : (n : ℕ) → 0 < n → T (eqb n 0) → ⊥
no_zero n h t = lt_irrefl 0 (subst (λ (x : ℕ). 0 < x) (eqb→eq n 0 t) h)

past_zero : (b : Bool) (x y : Float) → (T b → ⊥) → cond b x y ≡ y
past_zero true x y h = absurd (h tt)
past_zero false x y h = refl

-- x / p is a and y / q is b, so x * q / (y * p) is a / b
cross : (x p y q a b : ℕ) → x * 1 ≡ a * p → y * 1 ≡ b * q → x * q * b ≡ a * (y * p)
cross x p y q a b h k =
    let u : x ≡ a * p = sym (mul-one x) ∙ h in
    let v : y ≡ b * q = sym (mul-one y) ∙ k in
    rw (u, v) (simp (mul_assoc, mul_comm, mul_left_comm))

div_whole : (f : Format) (x y : Float) (a b : ℕ) → 0 < b → HasValue x false a 1 → HasValue y false b 1 → Ieee.div f x y ≡ Ieee.round f false a b
unfolding Ieee.div
div_whole f nan y a b B p q = absurd p
div_whole f (inf s) y a b B p q = absurd p
div_whole f (fin true m e) y a b B p q = absurd (true≢false p.0)
div_whole f (fin false m e) nan a b B p q = absurd q
div_whole f (fin false m e) (inf t) a b B p q = absurd q
div_whole f (fin false m e) (fin true n d) a b B p q = absurd (true≢false q.0)
div_whole f (fin false m e) (fin false n d) a b B p q =
    let P : 0 < n * up d * 1 = subst (λ (x : ℕ). 0 < x) (sym q.1) (mul-pos B (down_pos d)) in
    let N : 0 < n = first_pos n (up d) (first_pos (n * up d) 1 P) in
    past_zero (eqb n 0) (cond (eqb m 0) nan (inf false)) (Ieee.round f false (m * up e * down d) (n * up d * down e)) (no_zero n N)
    ∙ round_same f false (m * up e * down d) (n * up d * down e) a b (mul-pos (mul-pos N (up_pos d)) (down_pos e)) B
    (cross (m * up e) (down e) (n * up d) (down d) a b p.1 q.1)

pub quotient_round : (count cells : ℕ) → 1 ≤ cells → count ≤ 2 ^ 50 → cells ≤ 2 ^ 50 → quotient count cells ≡ Ieee.round binary64 false count cells
quotient_round count cells C h k = div_whole binary64 (float count) (float cells) count cells C (float_value count h) (float_value cells k)

-- ---- Bare and Filled are no exceptions: 0 / cells is 0.0, and cells / cells is 1.0

pub whole_is : (n : ℕ) → float n ≡ Ieee.round binary64 false n 1
unfolding Ieee.of_int
whole_is n = refl

bare_is : (cells : ℕ) → 1 ≤ cells → float 0 ≡ Ieee.round binary64 false 0 cells
bare_is cells C = whole_is 0 ∙ round_same binary64 false 0 1 0 cells (le_refl 1) C (zero-mul cells)

filled_is : (cells : ℕ) → 1 ≤ cells → float 1 ≡ Ieee.round binary64 false cells cells
filled_is cells C = whole_is 1 ∙ round_same binary64 false 1 1 cells cells (le_refl 1) C (one-mul cells ∙ sym (mul-one cells))

picked : (a b : Bool) (s r : Float) → (T a → float 0 ≡ r) → (T b → float 1 ≡ r) → s ≡ r → float_of (pick a Bare (pick b Filled (Share s))) ≡ r
picked true b s r z o e = z tt
picked false true s r z o e = o tt
picked false false s r z o e = e

-- every share is one rounding
pub share_round : (count cells : ℕ) → 1 ≤ cells → count ≤ 2 ^ 50 → cells ≤ 2 ^ 50 → share_of count cells ≡ Ieee.round binary64 false count cells
unfolding share_of
share_round count cells C h k =
    picked (eqb count 0) (eqb count cells) (quotient count cells) (Ieee.round binary64 false count cells)
    (λ (t : T (eqb count 0)). bare_is cells C ∙ ap (λ (x : ℕ). Ieee.round binary64 false x cells) (sym (eqb→eq count 0 t)))
    (λ (t : T (eqb count cells)). filled_is cells C ∙ ap (λ (x : ℕ). Ieee.round binary64 false x cells) (sym (eqb→eq count cells t)))
    (quotient_round count cells C h k)

pub share_is : (count cells : ℕ) → 1 ≤ cells → count ≤ cells → cells ≤ 2 ^ 50 → share_of count cells ≡ quotient count cells
share_is count cells C h k = let l : count ≤ 2 ^ 50 = omega arith in share_round count cells C l k ∙ sym (quotient_round count cells C l k)

-- ---- more cells covered: no smaller a share

-- a relation of two shares, by the two roundings
by_rounds : (R : Float → Float → Bool) (c d cells : ℕ) → 1 ≤ cells → c ≤ 2 ^ 50 → d ≤ 2 ^ 50 → cells ≤ 2 ^ 50
    → T (R (Ieee.round binary64 false c cells) (Ieee.round binary64 false d cells)) → T (R (share_of c cells) (share_of d cells))
by_rounds R c d cells C h k l t = rw (share_round c cells C h l, share_round d cells C k l) t

pub share_le : (c d cells : ℕ) → c ≤ d → d ≤ cells → 1 ≤ cells → cells ≤ 2 ^ 50 → T (Ieee.le (share_of c cells) (share_of d cells))
share_le c d cells h k C l = by_rounds Ieee.le c d cells C (omega arith) (omega arith) l (round_mono binary64 c cells d cells C C (mul-le-mul_right cells h))

-- ---- More cells covered: a larger share. Two fractions with one denominator of at most 2 ^ 50 lie 2 ^ -50 apart or more, so two multiples
-- of 2 ^ -52 lie between them. Those are floats up to 1, and rounding passes neither.

-- the multiples of 2 ^ -52 up to 1 are floats
fine_value : (q : ℕ) → q ≤ 2 ^ 52 → HasValue (Ieee.round binary64 false q (2 ^ 52)) false q (2 ^ 52)
fine_value q h =
    let k : q < 2 ^ 53 = omega arith in
    round_exact binary64 false q (2 ^ 52) q 1022 (pow_pos 52) k (lt_of_lt_of_le (shl_lt 53 1022 k) (pow_mono {i = 53 + 1022} {j = 1074 + 1024} (lit≤ tt)))
    (ap (λ (x : ℕ). q * x) (pow-add 2 1022 52) ∙ sym (mul_assoc q (2 ^ 1022) (2 ^ 52)))

-- the first of the two: at least c / cells
abbrev first : ℕ → ℕ → ℕ
first c cells = suc (c * 2 ^ 52 / cells)

first_above : (c cells : ℕ) → 0 < cells → c * 2 ^ 52 ≤ first c cells * cells
first_above c cells C = le_of_lt ((div-lt_iff_lt-mul C).0 (le_refl (first c cells)))

-- the second, the next multiple: at most d / cells
room : (t c d cells : ℕ) → t * cells ≤ c * 2 ^ 52 → c < d → cells ≤ 2 ^ 50 → suc (suc t) * cells ≤ d * 2 ^ 52
room t c d cells h l k = let e : (2 + t) * cells ≡ 2 * cells + t * cells = add-mul 2 t cells in omega arith

second_below : (c d cells : ℕ) → c < d → cells ≤ 2 ^ 50 → suc (first c cells) * cells ≤ d * 2 ^ 52
second_below c d cells h k = room (c * 2 ^ 52 / cells) c d cells (div-mul-le_self (c * 2 ^ 52) cells) h k

second_le : (q d cells : ℕ) → 0 < cells → q * cells ≤ d * 2 ^ 52 → d ≤ cells → q ≤ 2 ^ 52
second_le q d cells C h k = le_of_mul-le-mul_right (le_trans h (le_trans (mul-le-mul_right (2 ^ 52) k) (le_of_eq (mul_comm cells (2 ^ 52))))) C

-- ---- the order of two values that are not negative, by fractions that they equal

transfer_lt : (x y de dd a b c c' : ℕ) → 0 < de → 0 < dd → x * c ≡ a * de → y * c' ≡ b * dd → a * c' < b * c → x * dd < y * de
transfer_lt x y de dd a b c c' E D p q h = lt_of_not-le (λ (g : y * de ≤ x * dd). not-le_of_lt h (transfer b a c' c y x dd de D E (sym q) (sym p) g))

lt_of_values : (x y : Float) (a c b c' : ℕ) → HasValue x false a c → HasValue y false b c' → a * c' < b * c → T (Ieee.lt x y)
unfolding Ieee.lt
lt_of_values nan y a c b c' p q h = absurd p
lt_of_values (inf s) y a c b c' p q h = absurd p
lt_of_values (fin true m e) y a c b c' p q h = absurd (true≢false p.0)
lt_of_values (fin false m e) nan a c b c' p q h = absurd q
lt_of_values (fin false m e) (inf t) a c b c' p q h = absurd q
lt_of_values (fin false m e) (fin true n d) a c b c' p q h = absurd (true≢false q.0)
lt_of_values (fin false m e) (fin false n d) a c b c' p q h =
    lt→ltb (m * up e * down d) (n * up d * down e) (transfer_lt (m * up e) (n * up d) (down e) (down d) a b c c' (down_pos e) (down_pos d) p.1 q.1 h)

-- x / p ≤ a / k and b / k ≤ y / q, with a below b
squeeze : (x p y q a b k : ℕ) → 0 < p → 0 < q → x * k ≤ a * p → b * q ≤ y * k → a < b → x * q < y * p
squeeze x p y q a b k P Q h l s = lt_of_not-le (λ (g : y * p ≤ x * q). not-le_of_lt s (le_of_mul-le-mul_right (le_trans l (through y x a q p k P g h)) Q))

-- two positive values with two multiples of 2 ^ -52 between them
lt_between : (x y : Float) (q : ℕ) → T (positive x) → T (positive y) → 0 < q → suc q ≤ 2 ^ 52
    → T (Ieee.le x (Ieee.round binary64 false q (2 ^ 52))) → T (Ieee.le (Ieee.round binary64 false (suc q) (2 ^ 52)) y) → T (Ieee.lt x y)
lt_between x y q p r Q h l u =
    let lo = Ieee.round binary64 false q (2 ^ 52) in
    let hi = Ieee.round binary64 false (suc q) (2 ^ 52) in
    let v : HasValue lo false q (2 ^ 52) = fine_value q (le_of_lt h) in
    let w : HasValue hi false (suc q) (2 ^ 52) = fine_value (suc q) h in
    lt_of_values x y (num x) (den x) (num y) (den y) (own_value x p) (own_value y r)
    (squeeze (num x) (den x) (num y) (den y) q (suc q) (2 ^ 52) (den_pos x) (den_pos y)
    (values_of_le x lo (num x) (den x) q (2 ^ 52) p (positive_of_value lo q (2 ^ 52) v Q) (own_value x p) v l)
    (values_of_le hi y (suc q) (2 ^ 52) (num y) (den y) (positive_of_value hi (suc q) (2 ^ 52) w (zero-lt-suc q)) r w (own_value y r) u)
    (le_refl (suc q)))

-- ---- a share of one cell or more is a positive float: it is 2 ^ -52 at least, and 1 at most

fine_positive : (q : ℕ) → 0 < q → q ≤ 2 ^ 52 → T (positive (Ieee.round binary64 false q (2 ^ 52)))
fine_positive q Q h = positive_of_value (Ieee.round binary64 false q (2 ^ 52)) q (2 ^ 52) (fine_value q h) Q

round_positive : (c cells : ℕ) → 0 < c → c ≤ cells → cells ≤ 2 ^ 50 → T (positive (Ieee.round binary64 false c cells))
round_positive c cells P h k =
    let C : 0 < cells = omega arith in
    let low : 1 * cells ≤ c * 2 ^ 52 = omega arith in
    let high : c * 2 ^ 52 ≤ 2 ^ 52 * cells = omega arith in
    between (Ieee.round binary64 false 1 (2 ^ 52)) (Ieee.round binary64 false c cells) (Ieee.round binary64 false (2 ^ 52) (2 ^ 52))
    (fine_positive 1 (le_refl 1) (lit≤ tt)) (fine_positive (2 ^ 52) (pow_pos 52) (le_refl (2 ^ 52)))
    (round_mono binary64 1 (2 ^ 52) c cells (pow_pos 52) C low) (round_mono binary64 c cells (2 ^ 52) (2 ^ 52) C (pow_pos 52) high)

-- 0 / 1 is below n / d
zero_lt : (n d : ℕ) → 0 < n → 0 * d < n * 1
zero_lt n d h = rw (zero-mul, mul-one) h

zero_below : (x : Float) → T (positive x) → T (Ieee.lt (float 0) x)
zero_below x p =
    lt_of_values (float 0) x 0 1 (num x) (den x) (float_value 0 (lit≤ tt)) (own_value x p)
    (zero_lt (num x) (den x) (value_pos x (num x) (den x) p (den_pos x) (own_value x p)))

-- 0 / cells rounds to 0.0, which is no positive float, so this asks for a covered cell
round_lt : (c d cells : ℕ) → 0 < c → c < d → d ≤ cells → cells ≤ 2 ^ 50 → T (Ieee.lt (Ieee.round binary64 false c cells) (Ieee.round binary64 false d cells))
round_lt c d cells P h k l =
    let C : 0 < cells = omega arith in
    let D : 0 < d = omega arith in
    let n : c ≤ cells = omega arith in
    let q = first c cells in
    let s : suc q * cells ≤ d * 2 ^ 52 = second_below c d cells h l in
    lt_between (Ieee.round binary64 false c cells) (Ieee.round binary64 false d cells) q (round_positive c cells P n l) (round_positive d cells D k l)
    (zero-lt-suc (c * 2 ^ 52 / cells)) (second_le (suc q) d cells C s k)
    (round_mono binary64 c cells q (2 ^ 52) C (pow_pos 52) (first_above c cells C))
    (round_mono binary64 (suc q) (2 ^ 52) d cells (pow_pos 52) C s)

pub share_lt : (c d cells : ℕ) → c < d → d ≤ cells → cells ≤ 2 ^ 50 → T (Ieee.lt (share_of c cells) (share_of d cells))
share_lt c d cells h k l =
    let C : 1 ≤ cells = omega arith in
    let D : 0 < d = omega arith in
    by_rounds Ieee.lt c d cells C (omega arith) (omega arith) l
    (elim (eq-zero-or-pos c) [
      | inl z ↦ subst (λ (x : Float). T (Ieee.lt x (Ieee.round binary64 false d cells)))
          (bare_is cells C ∙ ap (λ (x : ℕ). Ieee.round binary64 false x cells) (sym z)) (zero_below (Ieee.round binary64 false d cells) (round_positive d cells D k l))
      | inr P ↦ round_lt c d cells P h k l
    ])

-- ---- no float is below another and above it

sign_once : (s : Bool) → T s → T (not s) → ⊥
sign_once true h k = k
sign_once false h k = h

below_once : (s r : Bool) (a b : ℕ) → T (below s a r b) → T (below r b s a) → ⊥
below_once false false a b h k = omega (arith, ltb→lt a b h, ltb→lt b a k)
below_once false true a b h k = h
below_once true false a b h k = k
below_once true true a b h k = omega (arith, ltb→lt b a h, ltb→lt a b k)

pub lt_once : (x y : Float) → T (Ieee.lt x y) → T (Ieee.lt y x) → ⊥
unfolding Ieee.lt
lt_once nan y h k = h
lt_once (inf s) nan h k = h
lt_once (inf s) (inf r) h k = sign_once s (and_l s (not r) h) (and_r r (not s) k)
lt_once (inf s) (fin r n d) h k = sign_once s h k
lt_once (fin s m e) nan h k = h
lt_once (fin s m e) (inf r) h k = sign_once r k h
lt_once (fin s m e) (fin r n d) h k = below_once s r (m * up e * down d) (n * up d * down e) h k
