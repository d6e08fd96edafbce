-- `edit::steps::copy_record` meets its contract. The loop's invariant: the words before k are copied, and no other record is touched. Assumes nothing.
use Rattle.table.specs.Words.{num}
use Rattle.edit.specs.Writes.{Filled}
use Rattle.edit.proofs.steps.copy_record.Given as goal

abbrev pub invariant-loop-k : goal.invariant-loop-k
invariant-loop-k l = Filled l.initial.t l.t l.j (num l.initial.t l.a) l.k
