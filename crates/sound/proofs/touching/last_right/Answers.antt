-- `sound::touching::last_right` meets its contract. Every tile that the loop meets begins at the right side of a, and bottoms fall. Assumes nothing.
use native.Mathlib.Omega.{arith}
use Rattle.sound.specs.Touching.{down_start, down_next}
use Rattle.sound.proofs.touching.last_right.Goals as goal

pub loop-k-init : goal.loop-k-init
loop-k-init c =
    (c.word-y.ensures.is, rw c.follow-k.ensures (down_start _ c.requires.forms _ c.requires.used_in c.requires.a_bound))

pub loop-k-preserved : goal.loop-k-preserved
loop-k-preserved c =
    (c.loop-k.invariant.0, rw c.follow-k-in-loop-k.ensures (down_next _ c.requires.forms _ c.requires.used_in c.loop-k.k c.loop-k.invariant.1 (omega arith)).0)
