-- Counts of cells, kept as floats in the lent list until they become shares: a float holds them without loss. Assumes nothing.
use Rattle.std.specs.Prelude.{◌≡◌, refl, ◌≢◌, true, false, List, [], ◌∷◌, ◌++◌, ℕ, zero, suc, ◌+◌, ◌-◌, ◌*◌, ◌≤◌, ◌<◌, ◌^◌, T, eqb, ℤ, Float, length, get_or, set}
use Rattle.std.proofs.Common.{sym, ap, ap₂, ◌∙◌, subst, true≢false, le_refl, not-suc-le-zero, le_of_suc-le-suc, mul-one, mul_assoc, mul_comm, mul-pos, add-mul, add-zero, arith, eq-eqb, ne_eqb, drop, length-append, length-drop, length-set, get_or-set_same, get_or-set_other}
use Rattle.std.proofs.lemmas.List.{get_or-append_right, get_or-drop}
use Rattle.std.proofs.Math.ListN.{get_or-append}
use Rattle.std.specs.Float.Ieee as Ieee
use Rattle.std.specs.Float.{nan, inf, fin, Format, binary64}
use Rattle.std.specs.Float.Ieee.{up, down}
use Rattle.std.specs.Float.Ieee.Fits.{down_pos}
use Rattle.std.specs.Float.Ieee.Exact.{HasValue}
use Rattle.std.specs.Float.Ieee.Back.{unsigned_back}
use Rattle.std.specs.Float.Ieee.Scale.{round_same}
use Rattle.geometry.specs.Cases.{lt_cases, eq_cases}
use Rattle.geometry.specs.Counting.{only}
use Rattle.seek.specs.Meaning.{Area}
use Rattle.density.specs.Meaning.{windows_of, count_of}
use Rattle.density.specs.Shares.{float}
use Rattle.density.specs.ShareLaws.{exact}
use Rattle.density.specs.ShareOrder.{float_value, whole_is}

-- the first n entries are the counts f 0 .. f (n - 1), and what follows keeps what it held
pub record Counts (old new : List Float) (n : ℕ) (f : ℕ → ℕ) : Type 0 where
  pub long : length new ≡ length old
  pub counts : (m : ℕ) → m < n → get_or new m (float 0) ≡ float (f m)
  pub rest : (m : ℕ) → n ≤ m → get_or new m (float 0) ≡ get_or old m (float 0)

-- the entry of every window is its count
abbrev pub Counted : List ℤ → Area → ℕ → ℕ → List Float → Type 0
Counted t A w h out = (m : ℕ) → m < windows_of A w h → get_or out m (float 0) ≡ float (count_of t A w h m)

-- ---- whole numbers as floats

-- x / p is a and y / q is b, so (x * q + y * p) / (p * q) is a + b
cross : (x p y q a b : ℕ) → x * 1 ≡ a * p → y * 1 ≡ b * q → (x * q + y * p) * 1 ≡ (a + b) * (p * q)
cross x p y q a b h k =
    let u : x ≡ a * p = sym (mul-one x) ∙ h in
    let v : y ≡ b * q = sym (mul-one y) ∙ k in
    mul-one (x * q + y * p)
    ∙ ap₂ ◌+◌ (ap (λ z. z * q) u ∙ mul_assoc a p q) (ap (λ z. z * p) v ∙ mul_assoc b q p ∙ ap (λ z. b * z) (mul_comm q p))
    ∙ sym (add-mul a b (p * q))

add_whole : (f : Format) (x y : Float) (a b : ℕ) → HasValue x false a 1 → HasValue y false b 1 → Ieee.add f x y ≡ Ieee.round f false (a + b) 1
unfolding Ieee.add Ieee.sum
add_whole f nan y a b p q = absurd p
add_whole f (inf s) y a b p q = absurd p
add_whole f (fin true m e) y a b p q = absurd (true≢false p.0)
add_whole f (fin false m e) nan a b p q = absurd q
add_whole f (fin false m e) (inf t) a b p q = absurd q
add_whole f (fin false m e) (fin true n d) a b p q = absurd (true≢false q.0)
add_whole f (fin false m e) (fin false n d) a b p q =
    round_same f false (m * up e * down d + n * up d * down e) (down e * down d) (a + b) 1 (mul-pos (down_pos e) (down_pos d)) (le_refl 1)
    (cross (m * up e) (down e) (n * up d) (down d) a b p.1 q.1)

pub float_add : (a b : ℕ) → a + b ≤ 2 ^ 50 → Ieee.add binary64 (float a) (float b) ≡ float (a + b)
float_add a b h =
    add_whole binary64 (float a) (float b) a b (float_value a (omega arith)) (float_value b (omega arith)) ∙ sym (whole_is (a + b))

-- what holds a count comes back as the count
pub float_back : (x : Float) (n : ℕ) → x ≡ float n → n ≤ 2 ^ 50 → T (Ieee.in_unsigned binary64 64 x) × (Ieee.to_unsigned 64 x ≡ n)
float_back x n e h =
    subst (λ y. T (Ieee.in_unsigned binary64 64 y) × (Ieee.to_unsigned 64 y ≡ n)) (sym e) (unsigned_back binary64 64 n (exact n h) (omega arith))

-- ---- the list of counts

-- inside the list no default is read
pub read_any : (l : List Float) (n : ℕ) (d e : Float) → n < length l → get_or l n d ≡ get_or l n e
read_any [] n d e h = absurd (not-suc-le-zero h)
read_any (x ∷ xs) zero d e h = refl
read_any (x ∷ xs) (suc n) d e h = read_any xs n d e (le_of_suc-le-suc h)

-- no entry is a count yet, and one more
pub counts_none : (old : List Float) (f : ℕ → ℕ) → Counts old old 0 f
counts_none old f = record { long = refl; counts = λ m l. absurd (omega arith); rest = λ m l. refl }

pub counts_next : (old new : List Float) (n : ℕ) (f : ℕ → ℕ) (s : Float) → Counts old new n f → n < length new → s ≡ float (f n)
    → Counts old (set new n s) (n + 1) f
counts_next old new n f s r l e = record {
  long = length-set new n s ∙ r.long;
  counts = λ m k.
      lt_cases m n (λ b. get_or-set_other new n m s (float 0) (λ q. omega arith) ∙ r.counts m b)
      (λ b.
      let q : m ≡ n = omega arith in
      subst (λ m. get_or (set new n s) m (float 0) ≡ float (f m)) (sym q) (get_or-set_same new n s (float 0) l ∙ e));
  rest = λ m k. get_or-set_other new n m s (float 0) (λ q. omega arith) ∙ r.rest m (omega arith);
}

-- a list whose first n entries are written anew, and the rest kept
module _ (front old : List Float) (n : ℕ) (e : length front ≡ n) (l : n ≤ length old) where
  pub front_long : length (front ++ drop n old) ≡ length old
  front_long = omega (arith, length-append front (drop n old), length-drop n old)

  pub front_has : (m : ℕ) → m < n → get_or (front ++ drop n old) m (float 0) ≡ get_or front m (float 0)
  front_has m h = get_or-append front (drop n old) (float 0) m (omega arith)

  pub front_rest : (m : ℕ) → n ≤ m → get_or (front ++ drop n old) m (float 0) ≡ get_or old m (float 0)
  front_rest m h =
      let k : n + (m - n) ≡ m = omega arith in
      get_or-append_right front (drop n old) n m (float 0) e h ∙ get_or-drop n old (m - n) (float 0) ∙ ap (λ i. get_or old i (float 0)) k

  pub counts_front : (f : ℕ → ℕ) → ((m : ℕ) → m < n → get_or front m (float 0) ≡ float (f m)) → Counts old (front ++ drop n old) n f
  counts_front f h = record { long = front_long; counts = λ m k. front_has m k ∙ h m k; rest = front_rest }

-- c more at entry m, and at no other
more_same : (f : ℕ → ℕ) (m c : ℕ) → f m + c ≡ f m + only (eqb m m) c
more_same f m c = sym (ap (λ b. f m + only b c) (eq-eqb m m refl))

more_other : (f : ℕ → ℕ) (m k c : ℕ) → k ≢ m → f k ≡ f k + only (eqb k m) c
more_other f m k c n = sym (ap (λ b. f k + only b c) (ne_eqb k m n) ∙ add-zero (f k))

pub counts_add : (old new : List Float) (n : ℕ) (f : ℕ → ℕ) (m c : ℕ) → Counts old new n f → m < n → n ≤ length old → f m + c ≤ 2 ^ 50
    → Counts old (set new m (Ieee.add binary64 (get_or new m (float 0)) (float c))) n (λ k. f k + only (eqb k m) c)
counts_add old new n f m c r l b h =
    let s = Ieee.add binary64 (get_or new m (float 0)) (float c) in
    let i : m < length new = omega (arith, r.long) in
    let e : s ≡ float (f m + c) = ap (λ x. Ieee.add binary64 x (float c)) (r.counts m l) ∙ float_add (f m) c h in
    record {
      long = length-set new m s ∙ r.long;
      counts = λ k j.
          eq_cases k m
          (λ q.
          subst (λ k. get_or (set new m s) k (float 0) ≡ float (f k + only (eqb k m) c)) (sym q)
          (get_or-set_same new m s (float 0) i ∙ e ∙ ap float (more_same f m c)))
          (λ q. get_or-set_other new m k s (float 0) q ∙ r.counts k j ∙ ap float (more_other f m k c q));
      rest = λ k j. get_or-set_other new m k s (float 0) (λ q. omega arith) ∙ r.rest k j;
    }

pub counts_same : (old new : List Float) (n : ℕ) (f g : ℕ → ℕ) → Counts old new n f → ((m : ℕ) → m < n → f m ≡ g m) → Counts old new n g
counts_same old new n f g r e = record { long = r.long; counts = λ m h. r.counts m h ∙ ap float (e m h); rest = r.rest }
