-- `sound::touching::last_right` meets its contract. Every tile that the loop meets begins at the right side of a, and bottoms fall. Assumes nothing.
use mathlib.Core.Path.{◌≡◌}
use Rattle.table.specs.Words.{num, BOTTOM}
use Rattle.sound.specs.Touching.{GoingDown}
use Rattle.sound.proofs.touching.last_right.Given as goal

abbrev pub invariant-loop-k : goal.invariant-loop-k
invariant-loop-k l = (l.y ≡ num l.t l.a BOTTOM) × GoingDown l.t l.a l.k

abbrev pub decreases-loop-k : goal.decreases-loop-k
decreases-loop-k l = num l.t l.k BOTTOM
