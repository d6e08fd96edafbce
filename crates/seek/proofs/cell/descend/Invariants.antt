-- `seek::cell::descend` meets its contract. Each turn is one step down, and bottoms fall. Assumes nothing.
use Rattle.table.specs.Words.{num, BOTTOM}
use Rattle.seek.specs.Find.{IsIn}
use Rattle.seek.specs.Legs.{Downward}
use Rattle.seek.proofs.cell.descend.Given as goal

abbrev pub invariant-loop-k : goal.invariant-loop-k
invariant-loop-k l = record { is : IsIn l.t l.k; way : Downward l.t l.from l.y l.k }

abbrev pub decreases-loop-k : goal.decreases-loop-k
decreases-loop-k l = num l.t l.k BOTTOM
