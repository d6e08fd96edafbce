-- Finite sums over 0 .. n - 1. Assumes nothing.
use Rattle.std.specs.Prelude.{◌≡◌, refl, ◌≢◌, ℕ, zero, suc, ◌+◌, ◌-◌, ◌*◌, ◌≤◌, ◌<◌, min}
use Rattle.std.proofs.Common.{ap₂, zero-le, le_refl, arith}
use Rattle.geometry.specs.Cases.{lt_cases, below_suc}
use Rattle.geometry.specs.Counting.{sum_to}

pub sum_ext : (n : ℕ) {f g : ℕ → ℕ} → ((k : ℕ) → k < n → f k ≡ g k) → sum_to n f ≡ sum_to n g
unfolding sum_to
sum_ext zero e = refl
sum_ext (suc n) e = ap₂ ◌+◌ (sum_ext n (λ k h. e k (omega arith))) (e n (le_refl (suc n)))

pub sum_mono : (n : ℕ) {f g : ℕ → ℕ} → ((k : ℕ) → k < n → f k ≤ g k) → sum_to n f ≤ sum_to n g
unfolding sum_to
sum_mono zero e = zero-le
sum_mono (suc n) e = omega (arith, sum_mono n (λ k h. e k (omega arith)), e n (le_refl (suc n)))

pub sum_const : (n c : ℕ) → sum_to n (λ k. c) ≡ n * c
unfolding sum_to
sum_const zero c = omega arith
sum_const (suc n) c = omega (arith, sum_const n c)

pub sum_add : (n : ℕ) (f g : ℕ → ℕ) → sum_to n (λ k. f k + g k) ≡ sum_to n f + sum_to n g
unfolding sum_to
sum_add zero f g = refl
sum_add (suc n) f g = omega (arith, sum_add n f g)

pub sum_mul : (n c : ℕ) (f : ℕ → ℕ) → sum_to n (λ k. c * f k) ≡ c * sum_to n f
unfolding sum_to
sum_mul zero c f = omega arith
sum_mul (suc n) c f = omega (arith, sum_mul n c f)

pub sum_mul_right : (n c : ℕ) (f : ℕ → ℕ) → sum_to n (λ k. f k * c) ≡ sum_to n f * c
unfolding sum_to
sum_mul_right zero c f = omega arith
sum_mul_right (suc n) c f = omega (arith, sum_mul_right n c f)

-- the order of two sums
pub sum_swap : (n m : ℕ) (f : ℕ → ℕ → ℕ) → sum_to n (λ i. sum_to m (f i)) ≡ sum_to m (λ j. sum_to n (λ i. f i j))
unfolding sum_to
sum_swap zero m f = omega (arith, sum_const m 0)
sum_swap (suc n) m f = omega (arith, sum_swap n m f, sum_add m (λ j. sum_to n (λ i. f i j)) (f n))

-- the first term apart
pub sum_head : (n : ℕ) (f : ℕ → ℕ) → sum_to (suc n) f ≡ f 0 + sum_to n (λ k. f (suc k))
unfolding sum_to
sum_head zero f = omega arith
sum_head (suc n) f = omega (arith, sum_head n f)

-- a prefix of a sum, with its next term, is at most the sum
pub sum_prefix : (f : ℕ → ℕ) (s n : ℕ) → s < n → sum_to s f + f s ≤ sum_to n f
unfolding sum_to
sum_prefix f s zero h = omega arith
sum_prefix f s (suc n) h = below_suc s n h (λ k. omega (arith, sum_prefix f s n k)) (λ e. rw e (omega arith))

-- terms of one sum at most those of another, and the sums the other way: the terms are equal
pub sum_tight : (n : ℕ) {f g : ℕ → ℕ} → ((k : ℕ) → k < n → f k ≤ g k) → sum_to n g ≤ sum_to n f → (k : ℕ) → k < n → g k ≤ f k
unfolding sum_to
sum_tight zero e s k h = omega arith
sum_tight (suc n) {f} {g} e s k h =
    let less : (k : ℕ) → k < n → f k ≤ g k = λ k h. e k (omega arith) in
    below_suc k n h
    (λ h'. sum_tight n {f = f} {g = g} less (omega (arith, e n (le_refl (suc n)))) k h')
    (λ q. rw q (omega (arith, sum_mono n less)))

pub sum_strict : (n : ℕ) {f g : ℕ → ℕ} → ((k : ℕ) → k < n → f k ≤ g k) → (s : ℕ) → s < n → f s < g s → sum_to n f < sum_to n g
sum_strict n {f} {g} e s h p =
    lt_cases (sum_to n f) (sum_to n g) (λ k. k) (λ k. omega (arith, sum_tight n {f = f} {g = g} e k s h))

-- two places with a positive term, in a sum that is at most 1, are one place
pub sum_one : (n : ℕ) (f : ℕ → ℕ) → sum_to n f ≤ 1 → {i j : ℕ} → i < n → j < n → 1 ≤ f i → 1 ≤ f j → i ≡ j
unfolding sum_to
sum_one zero f s h k p q = omega arith
sum_one (suc n) f s {i} {j} h k p q =
    below_suc i n h
    (λ a. below_suc j n k (λ c. sum_one n f (omega arith) a c p q) (λ e. omega (arith, sum_prefix f i n a, (rw e at q))))
    (λ e. below_suc j n k (λ c. omega (arith, sum_prefix f j n c, (rw e at p))) (λ e'. omega arith))

-- 1 where x < a, and otherwise 0; 1 where l ≤ x < r, and otherwise 0: `omega` sees through both
abbrev pub under : ℕ → ℕ → ℕ
under a x = min 1 (a - x)

abbrev pub inb : ℕ → ℕ → ℕ → ℕ
inb l r x = under r x - under l x

pub sum_under : (n lo a : ℕ) → sum_to n (λ k. under a (lo + k)) ≡ min n (a - lo)
unfolding sum_to
sum_under zero lo a = omega arith
sum_under (suc n) lo a = omega (arith, sum_under n lo a)

-- over an interval that contains it, the indicator of l ≤ x < r sums to r - l
pub sum_inb : (n lo l r : ℕ) → lo ≤ l → l ≤ r → r ≤ lo + n → sum_to n (λ k. inb l r (lo + k)) ≡ r - l
sum_inb n lo l r h k q =
    let e : sum_to n (λ k. inb l r (lo + k) + under l (lo + k)) ≡ sum_to n (λ k. under r (lo + k)) = sum_ext n (λ j p. omega arith) in
    omega (arith, e, sum_add n (λ k. inb l r (lo + k)) (λ k. under l (lo + k)), sum_under n lo l, sum_under n lo r)

-- at most one term is positive, and it is at most 1
pub sum_le_one : (n : ℕ) (f : ℕ → ℕ) → ((i : ℕ) → i < n → f i ≤ 1) → ((i j : ℕ) → i < n → j < n → 1 ≤ f i → 1 ≤ f j → i ≡ j) → sum_to n f ≤ 1
unfolding sum_to
sum_le_one zero f small one = zero-le
sum_le_one (suc n) f small one =
    lt_cases 0 (f n)
    (λ h.
    let rest : sum_to n f ≡ sum_to n (λ k. 0) =
    sum_ext n (λ k l. lt_cases 0 (f k) (λ g. omega (arith, one k n (omega arith) (omega arith) g h)) (λ g. omega arith)) in
    omega (arith, sum_const n 0, small n (le_refl (suc n))))
    (λ h. omega (arith, sum_le_one n f (λ i l. small i (omega arith)) (λ i j l k. one i j (omega arith) (omega arith))))

-- two functions that differ at most at i
pub sum_set : (n : ℕ) (f g : ℕ → ℕ) (i : ℕ) → i < n → ((k : ℕ) → k < n → k ≢ i → f k ≡ g k) → sum_to n f + g i ≡ sum_to n g + f i
unfolding sum_to
sum_set zero f g i h e = omega arith
sum_set (suc n) f g i h e =
    below_suc i n h
    (λ l. omega (arith, sum_set n f g i l (λ k m d. e k (omega arith) d), e n (le_refl (suc n)) (omega arith)))
    (λ q.
    let r : sum_to n f ≡ sum_to n g = sum_ext n (λ k m. e k (omega arith) (omega arith)) in
    rw q (omega arith))
