-- A law of lists that are filled entry by entry. Assumes nothing.
use mathlib.Core.Path.{◌≡◌, refl, sym, ap, subst}
use mathlib.Core.List.{List, [], ◌∷◌, ◌++◌}
use Prim.Native.Nat.{ℕ, zero, suc, ◌+◌, ◌<◌}
use native.Mathlib.Nat.{not-suc-le-zero, le_of_suc-le-suc}
use native.Mathlib.Numerals.{add-one}
use lib.ListN.{length, set, drop, replicate}

fill_suc : {A : Type 0} (n : ℕ) (v : A) (d : List A) → n < length d → set (replicate n v ++ drop n d) n v ≡ replicate (suc n) v ++ drop (suc n) d
fill_suc n v [] l = absurd (not-suc-le-zero l)
fill_suc zero v (x ∷ d) l = refl
fill_suc (suc n) v (x ∷ d) l = ap (λ t. v ∷ t) (fill_suc n v d (le_of_suc-le-suc l))

-- a list filled with v up to n, and one more stored
pub fill_more : {A : Type 0} (n : ℕ) (v : A) (d : List A) → n < length d → set (replicate n v ++ drop n d) n v ≡ replicate (n + 1) v ++ drop (n + 1) d
fill_more n v d l = subst (λ k. set (replicate n v ++ drop n d) n v ≡ replicate k v ++ drop k d) (sym (add-one n)) (fill_suc n v d l)
