-- `edit::steps::clear_record` meets its contract. The loop's invariant: the words before k are zeros, and no other record is touched. Assumes nothing.
use Rattle.geometry.specs.Picture.{ZERO}
use Rattle.edit.specs.Writes.{Filled}
use Rattle.edit.proofs.steps.clear_record.Given as goal

abbrev pub invariant-loop-k : goal.invariant-loop-k
invariant-loop-k l = Filled l.initial.t l.t l.j (λ l. ZERO) l.k
