-- `layout::saving::write_all` meets its contract: the records of the keys passed are written. Assumes nothing.
use Rattle.layout.specs.Saving.{Writing}
use Rattle.layout.proofs.saving.write_all.Given as goal

abbrev pub invariant-loop-k : goal.invariant-loop-k
invariant-loop-k l = Writing l.t l.keys l.initial.out l.out l.k
