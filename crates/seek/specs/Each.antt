-- Numbers that stand each once at the places below n: how such a listing grows, how long it is, and what a sum over it gives. And the law of the directed list:
-- its entries are exactly the tiles that meet the area, each once. Assumes nothing.
use Rattle.std.specs.Prelude.{◌≡◌, refl, ◌⊎◌, List, [], ◌∷◌, ℕ, zero, suc, ◌+◌, ◌*◌, ◌≤◌, ◌<◌, ℤ, eqb, length, get_or}
use Rattle.std.proofs.Common.{sym, ap, ◌∙◌, subst, ⊎_elim, zero-mul, mul-zero, one-mul, arith, eqb→eq}
use Rattle.geometry.specs.Cases.{lt_cases, eq_cases, T_only, only_le}
use Rattle.geometry.specs.Counting.{only, sum_to}
use Rattle.geometry.specs.Sums.{sum_ext, sum_mono, sum_const, sum_set, sum_prefix, sum_le_one}
use Rattle.table.specs.Forms.{Forms}
use Rattle.seek.specs.Meaning.{Area, RectRight, Meets, Directed}
use Rattle.seek.specs.Once.{one_if, none_unless, times, times_here, times_other, times_none, directed_once}
use Rattle.seek.specs.Order.{directed_lists}

-- f 0 .. f (n - 1) are exactly the numbers with Q, each once
pub record Each (Q : ℕ → Type 0) (n : ℕ) (f : ℕ → ℕ) : Type 0 where
  pub each : (m : ℕ) → m < n → Q (f m)
  pub all : (k : ℕ) → Q k → (m : ℕ) × (m < n) × (f m ≡ k)
  pub once : (i j : ℕ) → i < n → j < n → f i ≡ f j → i ≡ j

pub each_none : (Q : ℕ → Type 0) (f : ℕ → ℕ) → ((k : ℕ) → Q k → ⊥) → Each Q 0 f
each_none Q f empty = record { each = λ m h. absurd (omega arith); all = λ k q. absurd (empty k q); once = λ i j h l e. omega arith }

-- the same numbers by another name, at the same places
pub each_same : (Q Q' : ℕ → Type 0) (n : ℕ) (f g : ℕ → ℕ) → ((k : ℕ) → Q k → Q' k) → ((k : ℕ) → Q' k → Q k) → ((m : ℕ) → m < n → g m ≡ f m)
    → Each Q n f → Each Q' n g
each_same Q Q' n f g to from same e = record {
  each = λ m h. subst Q' (sym (same m h)) (to (f m) (e.each m h));
  all = λ k q. let (m, h, d) = e.all k (from k q) in (m, h, same m h ∙ d);
  once = λ i j h l d. e.once i j h l (sym (same i h) ∙ d ∙ same j l);
}

-- one number more, at the next place
module _ (Q Q' : ℕ → Type 0) (n k : ℕ) (f g : ℕ → ℕ) (e : Each Q n f) (same : (m : ℕ) → m < n → g m ≡ f m) (here : g n ≡ k)
    (old : (j : ℕ) → Q j → Q' j) (one : Q' k) (no_other : (j : ℕ) → Q' j → Q j ⊎ (j ≡ k)) (new : Q k → ⊥) where
  at : {C : Type 0} (m : ℕ) → m < n + 1 → (m < n → C) → (m ≡ n → C) → C
  at m h low last = lt_cases m n low (λ o. last (omega arith))

  is_new : (m : ℕ) → m < n → g m ≡ k → ⊥
  is_new m h d = new (subst Q (sym (same m h) ∙ d) (e.each m h))

  pub each_more : Each Q' (n + 1) g
  each_more = record {
    each = λ m h. at m h (λ l. subst Q' (sym (same m l)) (old (f m) (e.each m l))) (λ d. subst Q' (sym (ap g d ∙ here)) one);
    all = λ j q. ⊎_elim
        (λ p. let (m, h, d) = e.all j p in (m, omega arith, same m h ∙ d))
        (λ d. (n, omega arith, here ∙ sym d))
        (no_other j q);
    once = λ i j h l d. at i h
        (λ a. at j l (λ b. e.once i j a b (sym (same i a) ∙ d ∙ same j b)) (λ b. absurd (is_new i a (d ∙ ap g b ∙ here))))
        (λ a. at j l (λ b. absurd (is_new j b (sym d ∙ ap g a ∙ here))) (λ b. omega arith));
  }

-- ---- sums

-- at how many places k stands
abbrev places : ℕ → (ℕ → ℕ) → ℕ → ℕ
places n f k = sum_to n (λ m. only (eqb (f m) k) 1)

sum_places : (R : ℕ) (g : ℕ → ℕ) (n : ℕ) (f : ℕ → ℕ) → ((m : ℕ) → m < n → f m < R) → sum_to n (λ m. g (f m)) ≡ sum_to R (λ k. places n f k * g k)
unfolding sum_to
sum_places R g zero f h = omega (arith, sum_const R 0, sum_ext R {f = λ k. 0 * g k} {g = λ k. 0} (λ k l. zero-mul (g k)))
sum_places R g (suc n) f h =
    let x : ℕ = f n in
    let s = sum_set R (λ k. places (suc n) f k * g k) (λ k. places n f k * g k) x (h n (omega arith))
    (λ k l d. ap (λ m. m * g k) (let z : places (suc n) f k ≡ places n f k = omega (arith, none_unless x k (λ q. d (sym q))) in z)) in
    let here : places (suc n) f x * g x ≡ places n f x * g x + g x =
    ap (λ m. m * g x) (let z : places (suc n) f x ≡ places n f x + 1 = omega (arith, one_if x x refl) in z) ∙ omega arith in
    omega (arith, sum_places R g n f (λ m l. h m (omega arith)))

module _ (Q : ℕ → Type 0) (n : ℕ) (f : ℕ → ℕ) (e : Each Q n f) (R : ℕ) (below : (k : ℕ) → Q k → k < R) where
  in_range : (m : ℕ) → m < n → f m < R
  in_range m h = below (f m) (e.each m h)

  places_most : (k : ℕ) → places n f k ≤ 1
  places_most k =
      sum_le_one n (λ m. only (eqb (f m) k) 1) (λ i h. only_le (eqb (f i) k) 1)
      (λ i j h l p q. e.once i j h l (eqb→eq (f i) k (T_only (eqb (f i) k) 1 p) ∙ sym (eqb→eq (f j) k (T_only (eqb (f j) k) 1 q))))

  places_some : (k : ℕ) → Q k → places n f k ≡ 1
  places_some k q =
      let (m, h, d) = e.all k q in
      omega (arith, places_most k, sum_prefix (λ m. only (eqb (f m) k) 1) m n h, one_if (f m) k d)

  -- so it is short
  pub each_short : n ≤ R
  each_short =
      let a : sum_to n (λ m. 1) ≡ sum_to R (λ k. places n f k * 1) = sum_places R (λ k. 1) n f in_range in
      omega (arith, a, sum_const n 1, sum_const R 1, sum_mono R {f = λ k. places n f k * 1} {g = λ k. 1} (λ k l. omega (arith, places_most k)))

  -- and where only numbers with Q give something, a sum over it is the sum over all
  pub sum_each : (g : ℕ → ℕ) → ((k : ℕ) → k < R → 1 ≤ g k → Q k) → sum_to n (λ m. g (f m)) ≡ sum_to R g
  sum_each g only-those =
      sum_places R g n f in_range
      ∙ sum_ext R (λ k l. lt_cases 0 (g k)
      (λ h. ap (λ m. m * g k) (places_some k (only-those k l h)) ∙ one-mul (g k))
      (λ h. let z : g k ≡ 0 = omega arith in rw (z, mul-zero)))

-- ---- the directed list, by places and by count

times_rest : (k x : ℕ) (w : List ℕ) → times k w ≤ times k (x ∷ w)
times_rest k x w = eq_cases x k (λ e. omega (arith, times_here k x w e)) (λ d. omega (arith, times_other k x w d))

counted_at : (k : ℕ) (w : List ℕ) → 1 ≤ times k w → (n : ℕ) × (n < length w) × (get_or w n 0 ≡ k)
counted_at k [] h = absurd (omega (arith, times_none k))
counted_at k (x ∷ w) h =
    eq_cases x k (λ e. (0, omega arith, e))
    (λ d. let (n, l, e) = counted_at k w (omega (arith, times_other k x w d)) in (suc n, omega arith, e))

at_counted : (w : List ℕ) (n : ℕ) → n < length w → 1 ≤ times (get_or w n 0) w
at_counted [] n h = absurd (omega arith)
at_counted (x ∷ w) zero h = omega (arith, times_here x x w refl)
at_counted (x ∷ w) (suc n) h = omega (arith, times_rest (get_or w n 0) x w, at_counted w n (omega arith))

-- the head stands at no second place
head_once : (x : ℕ) (w : List ℕ) → ((k : ℕ) → times k (x ∷ w) ≤ 1) → (n : ℕ) → n < length w → x ≡ get_or w n 0 → ⊥
head_once x w h n l e = omega (arith, h (get_or w n 0), times_here (get_or w n 0) x w e, at_counted w n l)

counted_once : (w : List ℕ) → ((k : ℕ) → times k w ≤ 1) → (m n : ℕ) → m < length w → n < length w → get_or w m 0 ≡ get_or w n 0 → m ≡ n
counted_once [] h m n a b e = absurd (omega arith)
counted_once (x ∷ w) h zero zero a b e = refl
counted_once (x ∷ w) h zero (suc n) a b e = absurd (head_once x w h n (omega arith) e)
counted_once (x ∷ w) h (suc m) zero a b e = absurd (head_once x w h m (omega arith) (sym e))
counted_once (x ∷ w) h (suc m) (suc n) a b e =
    ap suc (counted_once w (λ j. omega (arith, h j, times_rest j x w)) m n (omega arith) (omega arith) e)

pub directed_each : (t : List ℤ) → Forms t → (A : Area) → RectRight A → (list : List ℕ) → Directed t A list → Each (Meets t A) (length list) (λ n. get_or list n 0)
directed_each t f A a list d = record {
  each = λ n h. (directed_lists t f A a list d (get_or list n 0)).0 (at_counted list n h);
  all = λ k m. counted_at k list ((directed_lists t f A a list d k).1 m);
  once = counted_once list (directed_once t f A list d);
}
