-- Runs of a step, one after another. Assumes nothing.
use Rattle.std.specs.Prelude.{◌≡◌, refl, ℕ, ◌+◌, ◌<◌, Option, None, Some, IsSome}
use Rattle.std.proofs.Common.{◌∙◌, subst, arith, MutBor}

-- `Often S from f to r g`: runs of S, one at each hint from `from` on and below `to`, take f to g, and r is what the last of them gives
pub data Often {F R : Type 0} (S : F → ℕ → R → F → Type 0) (from : ℕ) (f : F) : ℕ → Option R → F → Type 0 where
  none : Often S from f from None f
  run : (h : ℕ) (q : Option R) (e : F) (r : R) (g : F) → Often S from f h q e → S e h r g → Often S from f (h + 1) (Some r) g

pub often_some : {F R : Type 0} (S : F → ℕ → R → F → Type 0) (from : ℕ) (f : F) (to : ℕ) (r : Option R) (g : F) → Often S from f to r g → from < to → IsSome r
often_some S from f to r g Often.none h = absurd (omega arith)
often_some S from f to r g (Often.run _ _ _ _ _ o s) h = refl

-- What one run gives where K holds, and two runs give where each gives it, all the runs give.
pub often_gives : {F R : Type 0} (S : F → ℕ → R → F → Type 0) (K : F → Type 0) (G : F → R → F → Type 0)
    → ((f : F) (h : ℕ) (r : R) (g : F) → K f → S f h r g → K g × G f r g)
    → ((f : F) (q : R) (e : F) (r : R) (g : F) → G f q e → G e r g → G f r g)
    → (from : ℕ) (f : F) (to : ℕ) (r : R) (g : F) → K f → Often S from f to (Some r) g → K g × G f r g
often_gives {F} {R} S K G one two from f to r g k o = go to (Some r) g o
  where
    Given : Option R → F → Type 0
    Given None g = g ≡ f
    Given (Some r) g = K g × G f r g

    more : (q : Option R) (e : F) (h : ℕ) (r : R) (g : F) → Given q e → S e h r g → K g × G f r g
    more None e h r g i s = one f h r g k (subst (λ e. S e h r g) i s)
    more (Some q) e h r g a s = let b = one e h r g a.0 s in (b.0, two f q e r g a.1 b.1)

    go : (to : ℕ) (r : Option R) (g : F) → Often S from f to r g → Given r g
    go _ _ _ Often.none = refl
    go _ _ _ (Often.run h q e r g o s) = more q e h r g (go h q e o) s

-- The same of runs that write what is lent to them, where a run keeps the loan.
pub often_writes : {F R L : Type 0} (S : F → ℕ → R → F → Type 0) (K : F → Type 0) (lent : F → MutBor L) (G : L → L → R → Type 0)
    → ((f : F) (h : ℕ) (r : R) (g : F) → K f → S f h r g → K g × (((lent g).ghost_name ≡ (lent f).ghost_name) × G (lent f).now (lent g).now r))
    → ((old mid new : L) (q r : R) → G old mid q → G mid new r → G old new r)
    → (from : ℕ) (f : F) (to : ℕ) (r : R) (g : F) → K f → Often S from f to (Some r) g → ((lent g).ghost_name ≡ (lent f).ghost_name) × G (lent f).now (lent g).now r
often_writes S K lent G one two from f to r g k o =
    (often_gives S K (λ f r g. ((lent g).ghost_name ≡ (lent f).ghost_name) × G (lent f).now (lent g).now r) one
    (λ f q e r g a b. (b.0 ∙ a.0, two (lent f).now (lent e).now (lent g).now q r a.1 b.1)) from f to r g k o).1
