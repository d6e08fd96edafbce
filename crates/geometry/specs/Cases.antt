-- Case splits in one expression, and what a Boolean test says. Assumes nothing.
use Rattle.std.specs.Prelude.{◌≡◌, refl, Bool, true, false, not, ◌&&◌, ◌≢◌, ◌↔◌, ℕ, suc, ◌≤◌, ◌<◌, T}
use Rattle.std.proofs.Common.{sym, subst, arith}
use Rattle.std.proofs.Math.Decide.{dec_lt, ℕ_discrete}
use Rattle.geometry.specs.Counting.{only}

-- cases, with what each proves handed over: no helper is needed at a use
pub lt_cases : {C : Type 0} (a b : ℕ) → (a < b → C) → (b ≤ a → C) → C
lt_cases {C} a b f g = go (dec_lt a b)
  where
    go : Dec (a < b) → C
    go (Prim.yes h) = f h
    go (Prim.no n) = g (omega arith)

pub eq_cases : {C : Type 0} (a b : ℕ) → (a ≡ b → C) → (a ≢ b → C) → C
eq_cases {C} a b f g = go (ℕ_discrete a b)
  where
    go : Dec (a ≡ b) → C
    go (Prim.yes h) = f h
    go (Prim.no n) = g n

pub below_suc : {C : Type 0} (i n : ℕ) → i < suc n → (i < n → C) → (i ≡ n → C) → C
below_suc i n h f g = lt_cases i n f (λ k. g (omega arith))

-- ---- Boolean tests

pub T_and : (a c : Bool) → T a → T c → T (a && c)
T_and true c t u = u
T_and false c t u = elim t [ ]

pub and_l : (a c : Bool) → T (a && c) → T a
and_l true c t = tt
and_l false c t = elim t [ ]

pub and_r : (a c : Bool) → T (a && c) → T c
and_r true c t = t
and_r false c t = elim t [ ]

pub T_of : (a : Bool) → (T (not a) → ⊥) → T a
T_of true f = tt
T_of false f = f tt

pub T_cases : {C : Type 0} (a : Bool) → (T a → C) → (T (not a) → C) → C
T_cases true f g = f tt
T_cases false f g = g tt

pub only_T : (b : Bool) {n : ℕ} → T b → only b n ≡ n
only_T true t = refl
only_T false {n = n} t = elim t [ ]

pub T_only : (b : Bool) (n : ℕ) → 1 ≤ only b n → T b
T_only true n h = tt
T_only false n h = omega arith

pub only_le : (b : Bool) (n : ℕ) → only b n ≤ n
only_le true n = omega arith
only_le false n = omega arith

-- what a bool answer of the contract `T r ↔ P` says, where a branch went by it
pub yes : {P : Type 0} {r : Bool} → T r ↔ P → r ≡ true → P
yes h e = h.0 (subst T (sym e) tt)

pub no : {P : Type 0} {r : Bool} → T r ↔ P → r ≡ false → P → ⊥
no h e p = subst T e (h.1 p)
