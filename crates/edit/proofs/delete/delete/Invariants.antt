-- `delete::delete` meets its contract. The invariant: the solids but a are the solids but the rest of a. The measure is the top of the rest. Assumes nothing.
use Rattle.edit.specs.Delete.{Deleting, to_do}
use Rattle.edit.proofs.delete.delete.Given as goal

abbrev pub invariant-loop-rest : goal.invariant-loop-rest
invariant-loop-rest l = Deleting l.initial.t l.t l.fn.a l.rest

abbrev pub decreases-loop-rest : goal.decreases-loop-rest
decreases-loop-rest l = to_do l.t l.rest
