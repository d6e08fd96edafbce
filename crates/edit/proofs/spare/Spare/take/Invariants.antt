-- `Spare::take` meets its contract. The measure of the loop is how many are kept. Assumes nothing.
use Rattle.edit.specs.Free.{kept}
use Rattle.edit.proofs.spare.Spare.take.Given as goal

abbrev pub invariant-loop-k : goal.invariant-loop-k
invariant-loop-k l = Unit {0}

abbrev pub decreases-loop-k : goal.decreases-loop-k
decreases-loop-k l = kept l.self.freed
