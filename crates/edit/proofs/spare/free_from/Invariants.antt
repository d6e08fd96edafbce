-- `spare::free_from` meets its contract. The loop's invariant: no record passed is free. Assumes nothing.
use Rattle.edit.specs.Free.{NoneFree}
use Rattle.edit.proofs.spare.free_from.Given as goal

abbrev pub invariant-loop-k : goal.invariant-loop-k
invariant-loop-k l = NoneFree l.t l.from l.k
