-- `all` over a range that begins at 0, said of the numbers in it and not of a list. Assumes nothing.
use Rattle.std.proofs.Common.{◌≡◌, Bool, true, false, List, ℕ, ◌<◌, Option, MatchOption, MatchBool, length, get_or, arith, subst}
use Rattle.std.specs.List.{range_with_len, FoldsTo, AllWithin, HoldsAt}
use Rattle.std.specs.Fn.{Called}
use Rattle.std.specs.Iterator.{YieldsThen}
use Rattle.std.proofs.iter.Yields.{nat_range_steps}
use Rattle.std.proofs.lemmas.Iterator.{cases_from_all, YieldsList-from_range}
use Rattle.std.proofs.lemmas.List.FromFn.{length-range_with_len, get_or-range_with_len}
use Rattle.std.specs.declared.ops.Range.{Range}
use denote.Param.Members.{Mut}

module _ (n : ℕ) (Yes No : ℕ → Type 0) where
  below : List ℕ
  below = range_with_len 0 n

  long : length below ≡ n
  unfolding below
  long = length-range_with_len 0 n

  at : (k : ℕ) → k < n → get_or below k 0 ≡ k
  unfolding below
  at k h = omega (arith, get_or-range_with_len 0 n k 0 h)

  by : (r : Bool) → MatchBool r (AllWithin Yes below 0 (length below)) ((k : ℕ) × (k < length below) × HoldsAt No below k)
      → MatchBool r ((k : ℕ) → k < n → Yes k) ((k : ℕ) × (k < n) × No k)
  by true a = λ k h. subst Yes (at k h) (a k 0 (omega arith) (omega (arith, long)))
  by false (k, h, a) = let l : k < n = omega (arith, long) in (k, l, subst No (at k l) (a 0))

  pub all_from_Range : {F : Type 0} {g : Mut F (ℕ × Unit {0}) Bool} {s : Range ℕ} (u : Range ℕ) (f : F) (r : Bool) → s ≡ record { start = 0; end = n }
      → (xs : List ℕ) × (o : Option ℕ) × (j : F) × YieldsThen nat_range_steps s xs o u × FoldsTo (λ p x q. Called g p (x, tt) true q) f xs j
      × MatchOption o (r ≡ true) (λ x. (r ≡ false) × ((h : F) × Called g j (x, tt) false h))
      → ((x : ℕ) (q : F) → Called g f (x, tt) true q → (q ≡ f) × Yes x) → ((x : ℕ) (q : F) → Called g f (x, tt) false q → No x)
      → MatchBool r ((k : ℕ) → k < n → Yes k) ((k : ℕ) × (k < n) × No k)
  unfolding below
  all_from_Range u f r e ran t w = by r (cases_from_all u f r Yes No ran (YieldsList-from_range 0 n n e (omega arith)) t w)
