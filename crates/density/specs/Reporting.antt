-- The loop that works a report out, window by window, and that it gives one. Assumes nothing.
use Rattle.std.specs.Prelude.{◌≡◌, refl, List, ℤ, Float, length, get_or}
use Rattle.std.proofs.Common.{ap, ap₂, ◌∙◌, subst, mul-le-mul, mul_comm, div-le_self, add-one}
use Prim.Native.Nat.{ℕ, zero, suc, ◌+◌, ◌*◌, ◌≤◌, ◌<◌, ◌^◌, min, max}
use native.Mathlib.Omega.{arith}
use Rattle.geometry.specs.Cases.{lt_cases, below_suc}
use Rattle.geometry.specs.Counting.{sum_to}
use Rattle.geometry.specs.Sums.{sum_prefix}
use Rattle.seek.specs.Meaning.{Area, RectRight}
use Rattle.density.specs.Meaning.{width_of, height_of, Steps, columns_of, rows_of, windows_of, window_of, count_of}
use Rattle.density.specs.Shares.{float, share_of}
use Rattle.density.specs.Report.{Written, Reports}
use Rattle.density.specs.Cover.{covered_most}
use Rattle.density.specs.Summing.{covered_small}
use Rattle.density.specs.Windows.{place, some_window, covered_windows}
use Rattle.density.specs.declared.windows.Report.{Report}

-- ---- least and greatest, as the loop finds them

unfoldable pub least_to : ℕ → ℕ → (ℕ → ℕ) → ℕ
least_to zero top f = top
least_to (suc n) top f = min (least_to n top f) (f n)

unfoldable pub most_to : ℕ → (ℕ → ℕ) → ℕ
most_to zero f = 0
most_to (suc n) f = max (most_to n f) (f n)

least_le : (n top : ℕ) (f : ℕ → ℕ) (k : ℕ) → k < n → least_to n top f ≤ f k
unfolding least_to
least_le zero top f k h = absurd (omega arith)
least_le (suc n) top f k h = below_suc k n h (λ l. omega (arith, least_le n top f k l)) (λ e. omega (arith, ap f e))

most_ge : (n : ℕ) (f : ℕ → ℕ) (k : ℕ) → k < n → f k ≤ most_to n f
unfolding most_to
most_ge zero f k h = absurd (omega arith)
most_ge (suc n) f k h = below_suc k n h (λ l. omega (arith, most_ge n f k l)) (λ e. omega (arith, ap f e))

least_at : (n top : ℕ) (f : ℕ → ℕ) → 0 < n → ((k : ℕ) → k < n → f k ≤ top) → (k : ℕ) × (k < n) × (f k ≡ least_to n top f)
unfolding least_to
least_at zero top f h small = absurd (omega arith)
least_at (suc zero) top f h small = (0, omega arith, omega (arith, small 0 (omega arith)))
least_at (suc (suc n)) top f h small =
    let (k, l, e) = least_at (suc n) top f (omega arith) (λ k l. small k (omega arith)) in
    lt_cases (f (suc n)) (least_to (suc n) top f) (λ c. (suc n, omega arith, omega arith)) (λ c. (k, omega arith, omega arith))

most_at : (n : ℕ) (f : ℕ → ℕ) → 0 < n → (k : ℕ) × (k < n) × (f k ≡ most_to n f)
unfolding most_to
most_at zero f h = absurd (omega arith)
most_at (suc zero) f h = (0, omega arith, omega arith)
most_at (suc (suc n)) f h =
    let (k, l, e) = most_at (suc n) f (omega arith) in
    lt_cases (most_to (suc n) f) (f (suc n)) (λ c. (suc n, omega arith, omega arith)) (λ c. (k, omega arith, omega arith))

pub least_next : (n top : ℕ) (f : ℕ → ℕ) → least_to (n + 1) top f ≡ min (least_to n top f) (f n)
unfolding least_to
least_next n top f = ap (λ k. least_to k top f) (add-one n)

pub most_next : (n : ℕ) (f : ℕ → ℕ) → most_to (n + 1) f ≡ max (most_to n f) (f n)
unfolding most_to
most_next n f = ap (λ k. most_to k f) (add-one n)

-- ---- the loop: n windows are done

pub record Reporting (t : List ℤ) (A : Area) (w h : ℕ) (old new : List Float) (n low high sum : ℕ) : Type 0 where
  pub to : n ≤ windows_of A w h
  pub written : Written t A w h old new n
  pub lowest : low ≡ least_to n (w * h) (count_of t A w h)
  pub highest : high ≡ most_to n (count_of t A w h)
  pub total : sum ≡ sum_to n (count_of t A w h)

pub report_starts : (t : List ℤ) (A : Area) (w h : ℕ) (old : List Float) → Reporting t A w h old old 0 (w * h) 0 0
unfolding least_to most_to sum_to
report_starts t A w h old = record {
  to = omega arith;
  written = record { long = refl; shares = λ m l. absurd (omega arith); rest = λ m l. refl };
  lowest = refl;
  highest = refl;
  total = refl;
}

-- a window is not larger than the plane
pub record Small (w h : ℕ) : Type 0 where
  pub wide : w ≤ 2 ^ 25
  pub high : h ≤ 2 ^ 25
  pub cells : w * h ≤ 2 ^ 50

module _ (A : Area) (a : RectRight A) (w h : ℕ) (s : Steps A w h) where
  pub small : Small w h
  small =
      let p = place A a w h s 0 (some_window A a w h s) in
      let i : w ≤ 2 ^ 25 = omega (arith, a) in
      let j : h ≤ 2 ^ 25 = omega (arith, a) in
      record { wide = i; high = j; cells = omega (arith, mul-le-mul {n₁ = w} {m₁ = h} {n₂ = 2 ^ 25} {m₂ = 2 ^ 25} i j) }

  pub windows_small : windows_of A w h ≤ 2 ^ 50
  windows_small =
      let i : rows_of A h ≤ 2 ^ 25 = omega (arith, a, div-le_self (height_of A) h) in
      let j : columns_of A w ≤ 2 ^ 25 = omega (arith, a, div-le_self (width_of A) w) in
      mul-le-mul {n₁ = rows_of A h} {m₁ = columns_of A w} {n₂ = 2 ^ 25} {m₂ = 2 ^ 25} i j

module _ (t : List ℤ) (A : Area) (a : RectRight A) (w h : ℕ) (s : Steps A w h) where
  -- a window has w * h cells
  pub count_most : (n : ℕ) → n < windows_of A w h → count_of t A w h n ≤ w * h
  count_most n l =
      let p = place A a w h s n l in
      let e : height_of (window_of A w h n) ≡ h = omega arith in
      let d : width_of (window_of A w h n) ≡ w = omega arith in
      omega (arith, covered_most t (window_of A w h n), ap₂ ◌*◌ e d, mul_comm h w)

  -- the total so far, with the next count
  pub total_small : (n : ℕ) → n < windows_of A w h → sum_to n (count_of t A w h) + count_of t A w h n ≤ 2 ^ 50
  total_small n l =
      omega (arith, sum_prefix (count_of t A w h) n (windows_of A w h) l, covered_windows A a w h s t, covered_small t A a)

  -- lowest and highest so far
  least_most : (n : ℕ) → least_to n (w * h) (count_of t A w h) ≤ w * h
  unfolding least_to
  least_most zero = omega arith
  least_most (suc n) = omega (arith, least_most n)

  most_most : (n : ℕ) → n ≤ windows_of A w h → most_to n (count_of t A w h) ≤ w * h
  unfolding most_to
  most_most zero l = omega arith
  most_most (suc n) l = omega (arith, most_most n (omega arith), count_most n l)

  pub lowest_small : (old new : List Float) (n lowest highest total : ℕ) → Reporting t A w h old new n lowest highest total → lowest ≤ 2 ^ 50
  lowest_small old new n lowest highest total r = omega (arith, r.lowest, least_most n, (small A a w h s).cells)

  pub highest_small : (old new : List Float) (n lowest highest total : ℕ) → Reporting t A w h old new n lowest highest total → highest ≤ 2 ^ 50
  highest_small old new n lowest highest total r = omega (arith, r.highest, most_most n r.to, (small A a w h s).cells)

  pub report_ends : (old new : List Float) (n lowest highest total : ℕ) (given : Report) → Reporting t A w h old new n lowest highest total
      → windows_of A w h ≤ n → given.lowest ≡ share_of lowest (w * h) → given.highest ≡ share_of highest (w * h) → given.covered ≡ total
      → Reports t A w h old new given
  report_ends old new n lowest highest total given r l p q c =
      let e : n ≡ windows_of A w h = omega (arith, r.to) in
      let f = count_of t A w h in
      let least = least_at (windows_of A w h) (w * h) f (some_window A a w h s) count_most in
      let most = most_at (windows_of A w h) f (some_window A a w h s) in
      record {
        written = subst (Written t A w h old new) e r.written;
        least = least_to (windows_of A w h) (w * h) f;
        least_is = record { at = least.0; below = least.1; is = least.2; least = least_le (windows_of A w h) (w * h) f };
        lowest = p ∙ ap (λ m. share_of m (w * h)) (r.lowest ∙ ap (λ n. least_to n (w * h) f) e);
        most = most_to (windows_of A w h) f;
        most_is = record { at = most.0; below = most.1; is = most.2; most = most_ge (windows_of A w h) f };
        highest = q ∙ ap (λ m. share_of m (w * h)) (r.highest ∙ ap (λ n. most_to n f) e);
        total = c ∙ r.total ∙ ap (λ n. sum_to n f) e;
      }

-- ---- a report on what somebody else wrote first

-- it is one on the list as it was, where only the windows' entries were written
pub report_from : (t : List ℤ) (A : Area) (w h : ℕ) (old mid new : List Float) (r : Report) → length mid ≡ length old
    → ((m : ℕ) → windows_of A w h ≤ m → get_or mid m (float 0) ≡ get_or old m (float 0)) → Reports t A w h mid new r → Reports t A w h old new r
report_from t A w h old mid new r long rest o = record {
  written = record { long = o.written.long ∙ long; shares = o.written.shares; rest = λ m l. o.written.rest m l ∙ rest m l };
  least = o.least;
  least_is = o.least_is;
  lowest = o.lowest;
  most = o.most;
  most_is = o.most_is;
  highest = o.highest;
  total = o.total;
}
