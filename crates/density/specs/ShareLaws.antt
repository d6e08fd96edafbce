-- What the code's floats are. Assumes nothing.
use Rattle.std.specs.Prelude.{◌≡◌, refl, Bool, true, false, ℕ, ◌≤◌, ◌^◌, pos, T, eqb}
use Rattle.std.proofs.Common.{ap, arith, eqb→eq, le→leb}
use Rattle.std.proofs.Math.Dec.{eqb_refl}
use Rattle.std.specs.Float.Ieee as Ieee
use Rattle.std.specs.Float.{binary64}
use Rattle.density.specs.Shares.{float, quotient, pick, density_of, float_of, share_of}
use Rattle.density.specs.declared.shares.Density.{Density}
use Rattle.density.specs.declared.shares.Density.TheVariants.{Bare, Filled, Share}

pub zero_is : Ieee.of_bits binary64 0 ≡ float 0
unfolding Ieee.of_bits Ieee.of_int
zero_is = refl

pub one_is : Ieee.of_bits binary64 4607182418800017408 ≡ float 1
unfolding Ieee.of_bits Ieee.of_int
one_is = refl

pub share_by : (count cells : ℕ) (d : Density) → d ≡ density_of count cells → float_of d ≡ share_of count cells
unfolding share_of
share_by count cells d e = ap float_of e

-- a number to 2 ^ 50 is exact: the format holds every integer to 2 ^ 53
pub exact : (n : ℕ) → n ≤ 2 ^ 50 → T (Ieee.in_float binary64 (pos n))
unfolding Ieee.in_float
exact n h = let k : n ≤ 2 ^ 53 = omega arith in le→leb n (2 ^ 53) k

-- all cells covered
pub share_filled : (cells : ℕ) → 1 ≤ cells → share_of cells cells ≡ float 1
unfolding share_of
share_filled cells l = go (eqb cells 0) (eqb cells cells) (λ t. omega (arith, eqb→eq cells 0 t)) (eqb_refl cells)
  where
    go : (a b : Bool) → (T a → ⊥) → T b → float_of (pick a Bare (pick b Filled (Share (quotient cells cells)))) ≡ float 1
    go true b n t = absurd (n tt)
    go false true n t = refl
    go false false n t = absurd t
