-- `seek::cell::to_column_left` meets its contract. Each turn crosses one left side in the row, so left edges fall. Assumes nothing.
use Rattle.table.specs.Words.{num, LEFT}
use Rattle.seek.specs.Find.{Row}
use Rattle.seek.proofs.cell.to_column_left.Given as goal

abbrev pub invariant-loop-k : goal.invariant-loop-k
invariant-loop-k l = Row l.t l.k l.y

abbrev pub decreases-loop-k : goal.decreases-loop-k
decreases-loop-k l = num l.t l.k LEFT
