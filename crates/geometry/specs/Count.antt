-- Counts of the numbers below n that pass a test, and the pigeonhole principle. Assumes nothing.
use Rattle.std.specs.Prelude.{◌≡◌, refl, Bool, true, false, not, ◌&&◌, ℕ, zero, suc, ◌+◌, ◌*◌, ◌≤◌, ◌<◌, T, eqb}
use Rattle.std.proofs.Common.{sym, ap, ◌∙◌, subst, subst₂, zero-le, le_refl, arith, eqb→eq}
use Rattle.std.proofs.Math.Dec.{eqb_refl, not_T}
use Rattle.geometry.specs.Cases.{lt_cases, only_le, T_and}
use Rattle.geometry.specs.Sums.{sum_ext, sum_mono, sum_const, sum_mul, sum_prefix, sum_strict}
use Rattle.geometry.specs.Counting.{only, sum_to, count}

pub count_le : (n : ℕ) (p : ℕ → Bool) → count n p ≤ n
unfolding count
count_le n p = omega (arith, sum_const n 1, sum_mono n {f = λ k. only (p k) 1} {g = λ k. 1} (λ k h. only_le (p k) 1))

-- the same number for each that passes
pub sum_weight : (n c : ℕ) (p : ℕ → Bool) → sum_to n (λ k. only (p k) c) ≡ c * count n p
unfolding count
sum_weight n c p = sum_ext n (λ k h. go (p k)) ∙ sum_mul n c (λ k. only (p k) 1)
  where
    go : (b : Bool) → only b c ≡ c * only b 1
    go true = omega arith
    go false = omega arith

-- two counts by their tests
pub count_mono : (n : ℕ) (p q : ℕ → Bool) → ((k : ℕ) → k < n → T (p k) → T (q k)) → count n p ≤ count n q
unfolding count
count_mono n p q e = sum_mono n (λ k h. go (p k) (q k) (e k h))
  where
    go : (b c : Bool) → (T b → T c) → only b 1 ≤ only c 1
    go false c f = omega arith
    go true true f = omega arith
    go true false f = absurd (f tt)

-- ---- the pigeonhole principle

-- a test that passes, without one number
abbrev but : (ℕ → Bool) → ℕ → ℕ → Bool
but q s k = q k && not (eqb k s)

count_but : (q : ℕ → Bool) (s n : ℕ) → s < n → T (q s) → count n (but q s) < count n q
unfolding count
count_but q s n h t = sum_strict n (λ k h. less (q k) (not (eqb k s))) s h (strict (q s) (eqb s s) t (eqb_refl s))
  where
    less : (b c : Bool) → only (b && c) 1 ≤ only b 1
    less true true = omega arith
    less true false = omega arith
    less false c = omega arith

    strict : (b c : Bool) → T b → T c → only (b && not c) 1 < only b 1
    strict true true t u = omega arith
    strict false c t u = elim t [ ]
    strict true false t u = elim u [ ]

-- Where each i below R that passes p has a code s below m that passes q, and no two have the same code, those i are at most as many as those s.
-- The code is a relation, so that it need not be named where p fails.
pub inject : (R m : ℕ) (p q : ℕ → Bool) (G : ℕ → ℕ → Type 0)
    → ((i : ℕ) → i < R → T (p i) → (s : ℕ) × (s < m) × T (q s) × G i s) → ((i j s : ℕ) → G i s → G j s → i ≡ j) → count R p ≤ count m q
unfolding count
inject zero m p q G code one = zero-le
inject (suc R) m p q G code one = go (p R) (code R (le_refl (suc R)))
    (λ s n. inject R m p (but q s) G (λ i h t.
    let c = code i (omega arith) t in
    (c.0, c.1, T_and (q c.0) (not (eqb c.0 s)) c.2 (not_T (eqb c.0 s) (λ e. n i h (subst (λ z. G i z) (eqb→eq c.0 s e) c.3))), c.3)) one)
    (inject R m p q G (λ i h t. code i (omega arith) t) one)
  where
    go : (b : Bool) → (T b → (s : ℕ) × (s < m) × T (q s) × G R s)
        → ((s : ℕ) → ((i : ℕ) → i < R → G i s → ⊥) → count R p ≤ count m (but q s)) → count R p ≤ count m q → count R p + only b 1 ≤ count m q
    go false c f g = omega arith
    go true c f g =
        let (s, h, t, w) = c tt in
        let n : (i : ℕ) → i < R → G i s → ⊥ = λ i h v. let e = one i R s v w in omega arith in
        omega (arith, f s n, count_but q s m h t)

pub pigeonhole : (R m : ℕ) (p : ℕ → Bool) (G : ℕ → ℕ → Type 0)
    → ((i : ℕ) → i < R → T (p i) → (s : ℕ) × (s < m) × G i s) → ((i j s : ℕ) → G i s → G j s → i ≡ j) → count R p ≤ m
pigeonhole R m p G code one =
    omega (arith, count_le m (λ k. true), inject R m p (λ k. true) G (λ i h t. let c = code i h t in (c.0, c.1, tt, c.2)) one)

-- Codes of two parts: place s has room for q s of them. The i below R that pass p are at most as many as there is room.
pub rooms : (R m : ℕ) (p : ℕ → Bool) (q : ℕ → ℕ) (G : ℕ → ℕ → ℕ → Type 0)
    → ((i : ℕ) → i < R → T (p i) → (s k : ℕ) × (s < m) × (k < q s) × G i s k) → ((i j s k : ℕ) → G i s k → G j s k → i ≡ j) → count R p ≤ sum_to m q
rooms R m p q G code one =
    pigeonhole R (sum_to m q) p (λ i c. (s k : ℕ) × (k < q s) × (sum_to s q + k ≡ c) × G i s k)
    (λ i h t. let c = code i h t in (sum_to c.0 q + c.1, omega (arith, sum_prefix q c.0 m c.2, c.3), (c.0, c.1, c.3, refl, c.4)))
    (λ i j c v w.
    let e : v.0 ≡ w.0 = same v.0 v.1 w.0 w.1 v.2 w.2 (v.3 ∙ sym w.3) in
    let d : v.1 ≡ w.1 = omega (arith, v.3, w.3, ap (λ s. sum_to s q) e) in
    one i j w.0 w.1 (subst₂ (G i) e d v.4) w.4)
  where
    same : (s k s' k' : ℕ) → k < q s → k' < q s' → sum_to s q + k ≡ sum_to s' q + k' → s ≡ s'
    same s k s' k' h h' e =
        lt_cases s s' (λ l. omega (arith, sum_prefix q s s' l))
        (λ l. lt_cases s' s (λ l'. omega (arith, sum_prefix q s' s l')) (λ l'. omega arith))
