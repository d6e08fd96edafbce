-- Where a search starts: at the record that a hint names, or at the first used record. Assumes nothing.
use Rattle.std.specs.Prelude.{◌≡◌, List, ℕ, ◌+◌, ◌-◌, ◌≤◌, ◌<◌, ℤ}
use Rattle.std.proofs.Common.{subst, arith}
use Rattle.geometry.specs.Cases.{eq_cases}
use Rattle.geometry.specs.Picture.{ZERO, LOW, FREE}
use Rattle.table.specs.Words.{records_of, num, KIND}
use Rattle.table.specs.Sound.{UsedIn}
use Rattle.table.specs.Forms.{Forms, is_used}

pub record FirstUsed (t : List ℤ) (r : ℕ) : Type 0 where
  pub used : UsedIn t r
  pub first : (k : ℕ) → UsedIn t k → r ≤ k

-- the word at `hint` on the ruler names a used record
pub record Hints (t : List ℤ) (hint : ℕ) : Type 0 where
  pub from : ZERO ≤ hint
  pub used : UsedIn t (hint - ZERO)

pub record Starts (t : List ℤ) (hint r : ℕ) : Type 0 where
  pub used : UsedIn t r
  pub hinted : Hints t hint → r ≡ hint - ZERO
  pub first : (Hints t hint → ⊥) → FirstUsed t r

-- ---- the loop at record i: no used record is passed, and there is one

abbrev pub NonePassed : List ℤ → ℕ → Type 0
NonePassed t i = (k : ℕ) → UsedIn t k → i ≤ k

pub some_used : (t : List ℤ) → Forms t → (k : ℕ) × UsedIn t k
some_used t f = let (k, h) = f.good.covered LOW LOW (omega arith) in (k, is_used t k h.is)

pub not_past : (t : List ℤ) (i : ℕ) → Forms t → NonePassed t i → i < records_of t
not_past t i f h = let (k, u) = some_used t f in omega (arith, h k u, u.below)

-- a free record is passed
pub pass_free : (t : List ℤ) (i : ℕ) → NonePassed t i → num t i KIND ≡ FREE → NonePassed t (i + 1)
pass_free t i h e k u = eq_cases i k (λ c. absurd (u.used (subst (λ k. num t k KIND ≡ FREE) c e))) (λ n. omega (arith, h k u))

-- the search starts where the hint names a used record
pub starts_hinted : (t : List ℤ) (hint r : ℕ) → ZERO ≤ hint → r ≡ hint - ZERO → UsedIn t r → Starts t hint r
starts_hinted t hint r h e u = record { used = u; hinted = λ _. e; first = λ n. absurd (n (record { from = h; used = subst (UsedIn t) e u })) }
