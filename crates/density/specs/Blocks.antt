-- Sums taken in blocks, backwards, and over a grid; counts by a test. Assumes nothing.
use Rattle.std.specs.Prelude.{◌≡◌, refl, Bool, true, false, not, ◌&&◌, ◌||◌, ◌↔◌, ℕ, zero, suc, ◌+◌, ◌-◌, ◌*◌, ◌/◌, ◌%◌, ◌≤◌, ◌<◌, min, max, T, leb, ltb}
use Rattle.std.proofs.Common.{ap, ap₂, ◌∙◌, subst, add-zero, add-suc, zero-mul, suc-mul, mul-le-mul_right, mod-eq_of_lt, arith, leb→le, ltb→lt, nltb→le}
use Rattle.std.proofs.Math.Nat.{mul-add-div_right, mul-add-mod_self_right, div-eq_of_lt}
use Rattle.std.proofs.Math.Dec.{nleb→lt}
use Rattle.geometry.specs.Cases.{below_suc}
use Rattle.geometry.specs.Counting.{only, sum_to}
use Rattle.geometry.specs.Sums.{sum_ext, sum_add, sum_head, sum_under, under, inb}
use Rattle.density.specs.Meaning.{any_to}

pub sum_split : (a b : ℕ) (f : ℕ → ℕ) → sum_to (a + b) f ≡ sum_to a f + sum_to b (λ k. f (a + k))
unfolding sum_to
sum_split a zero f = omega (arith, ap (λ n. sum_to n f) (add-zero a))
sum_split a (suc b) f = rw add-suc (omega (arith, sum_split a b f))

-- n blocks of w terms
pub sum_blocks : (n w : ℕ) (f : ℕ → ℕ) → sum_to (n * w) f ≡ sum_to n (λ c. sum_to w (λ i. f (c * w + i)))
unfolding sum_to
sum_blocks zero w f = rw zero-mul refl
sum_blocks (suc n) w f = rw suc-mul (omega (arith, sum_split (n * w) w f, sum_blocks n w f))

-- the last term first
pub sum_back : (n : ℕ) (f : ℕ → ℕ) → sum_to n (λ k. f (n - suc k)) ≡ sum_to n f
unfolding sum_to
sum_back zero f = refl
sum_back (suc n) f =
    let e : sum_to n (λ k. f (suc n - suc (suc k))) ≡ sum_to n (λ k. f (n - suc k)) =
    sum_ext n (λ k h. let d : suc n - suc (suc k) ≡ n - suc k = omega arith in ap f d) in
    let d : suc n - 1 ≡ n = omega arith in
    omega (arith, sum_head n (λ k. f (suc n - suc k)), ap f d, e, sum_back n f)

-- step c of n steps of width w ends within them
pub step_in : (c n w : ℕ) → c < n → c * w + w ≤ n * w
step_in c n w h = omega (arith, suc-mul c w, mul-le-mul_right {m = suc c} {n = n} w (omega arith))

-- n rows of w terms, each by its row and column
pub grid_below : (n w r c : ℕ) → r < n → c < w → r * w + c < n * w
grid_below n w r c h k = omega (arith, step_in r n w h)

pub grid_row : (w r c : ℕ) → c < w → (r * w + c) / w ≡ r
grid_row w r c k = mul-add-div_right (omega arith) r c ∙ ap (λ q. r + q) (div-eq_of_lt k) ∙ add-zero r

pub grid_column : (w r c : ℕ) → c < w → (r * w + c) % w ≡ c
grid_column w r c k = mul-add-mod_self_right r w c ∙ mod-eq_of_lt k

pub sum_grid : (n w : ℕ) (g : ℕ → ℕ → ℕ) → sum_to (n * w) (λ k. g (k / w) (k % w)) ≡ sum_to n (λ r. sum_to w (g r))
sum_grid n w g =
    sum_blocks n w (λ k. g (k / w) (k % w)) ∙ sum_ext n (λ r l. sum_ext w (λ c k. ap₂ g (grid_row w r c k) (grid_column w r c k)))

-- ---- tests as numbers

or_cases : {C : Type 0} (a c : Bool) → T (a || c) → (T a → C) → (T c → C) → C
or_cases true c h f g = f tt
or_cases false c h f g = g h

or_l : (a c : Bool) → T a → T (a || c)
or_l true c h = tt
or_l false c h = elim h [ ]

or_r : (a c : Bool) → T c → T (a || c)
or_r true c h = tt
or_r false c h = h

pub any_sum : (n : ℕ) (p : ℕ → Bool) → only (any_to n p) 1 ≡ min 1 (sum_to n (λ i. only (p i) 1))
unfolding any_to sum_to
any_sum zero p = omega arith
any_sum (suc n) p = go (any_to n p) (p n) (sum_to n (λ i. only (p i) 1)) (any_sum n p)
  where
    go : (a c : Bool) (s : ℕ) → only a 1 ≡ min 1 s → only (a || c) 1 ≡ min 1 (s + only c 1)
    go true true s e = omega arith
    go true false s e = omega arith
    go false true s e = omega arith
    go false false s e = omega arith

pub some_any : (n : ℕ) (p : ℕ → Bool) → T (any_to n p) ↔ ((i : ℕ) × (i < n) × T (p i))
unfolding any_to
some_any n p = (there n, λ (i, h, k). here n i h k)
  where
    there : (n : ℕ) → T (any_to n p) → (i : ℕ) × (i < n) × T (p i)
    there zero h = absurd h
    there (suc n) h = or_cases (any_to n p) (p n) h (λ a. let (i, l, k) = there n a in (i, omega arith, k)) (λ k. (n, omega arith, k))

    here : (n i : ℕ) → i < n → T (p i) → T (any_to n p)
    here zero i h k = absurd (omega arith)
    here (suc n) i h k = below_suc i n h (λ l. or_l (any_to n p) (p n) (here n i l k)) (λ e. or_r (any_to n p) (p n) (subst (λ i. T (p i)) e k))

pub within : (l r x : ℕ) → only (leb l x && ltb x r) 1 ≡ inb l r x
within l r x = go (leb l x) (ltb x r) (leb→le l x) (nleb→lt l x) (ltb→lt x r) (nltb→le x r)
  where
    go : (a c : Bool) → (T a → l ≤ x) → (T (not a) → x < l) → (T c → x < r) → (T (not c) → r ≤ x) → only (a && c) 1 ≡ inb l r x
    go true true p q u v = omega (arith, p tt, u tt)
    go true false p q u v = omega (arith, p tt, v tt)
    go false c p q u v = omega (arith, q tt)

pub both : (s a c : Bool) → only (s && (a && c)) 1 ≡ only s (only a 1 * only c 1)
both true true true = refl
both true true false = refl
both true false true = refl
both true false false = refl
both false a c = refl

-- over any interval the indicator of l ≤ x < r sums to the part of it in the interval
part : (lo hi a : ℕ) → lo ≤ hi → lo + min (hi - lo) (a - lo) ≡ min hi (max a lo)
part lo hi a h = omega arith

cut_part : (lo hi l r s : ℕ) → lo ≤ hi → l ≤ r → s + min hi (max l lo) ≡ min hi (max r lo) → s ≡ min r hi - max l lo
cut_part lo hi l r s h k e = omega arith

pub sum_cut : (lo hi l r : ℕ) → lo ≤ hi → l ≤ r → sum_to (hi - lo) (λ k. inb l r (lo + k)) ≡ min r hi - max l lo
sum_cut lo hi l r h k = cut_part lo hi l r (sum_to n (λ k. inb l r (lo + k))) h k
    (omega (arith, e, sum_add n (λ k. inb l r (lo + k)) (λ k. under l (lo + k)), sum_under n lo l, sum_under n lo r, part lo hi l h, part lo hi r h))
  where
    n : ℕ
    n = hi - lo

    e : sum_to n (λ k. inb l r (lo + k) + under l (lo + k)) ≡ sum_to n (λ k. under r (lo + k))
    e = sum_ext n (λ j p. omega arith)
