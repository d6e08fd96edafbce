-- `sound::sides::column` meets its contract. The loop's invariant is `Walked`; the walk ends because bottom falls. Assumes nothing.
use Rattle.table.specs.Words.{BOTTOM, num}
use Rattle.sound.specs.Columns.{Walked}
use Rattle.sound.proofs.sides.column.Given as goal

abbrev pub invariant-loop-at : goal.invariant-loop-at
invariant-loop-at l = Walked l.t l.k l.x l.of l.floor l.at

abbrev pub decreases-loop-at : goal.decreases-loop-at
decreases-loop-at l = num l.t l.at BOTTOM
