-- Counting: sums over the numbers below n, and how many of them pass a test. Assumes nothing.
use Rattle.std.specs.Prelude.{Bool, false, true, ℕ, ◌+◌, suc, zero}

-- a number where a test passes, and 0 where it fails
abbrev pub only : Bool → ℕ → ℕ
only true n = n
only false n = 0

unfoldable pub sum_to : ℕ → (ℕ → ℕ) → ℕ
sum_to zero f = 0
sum_to (suc n) f = sum_to n f + f n

-- how many of 0 .. n - 1 pass a test
unfoldable pub count : ℕ → (ℕ → Bool) → ℕ
unfolding sum_to
count n p = sum_to n (λ k. only (p k) 1)
