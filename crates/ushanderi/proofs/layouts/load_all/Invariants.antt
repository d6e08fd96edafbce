-- `ushanderi::layouts::load_all` meets its contract. The loop's invariant: the creates of the records before n are done. Assumes nothing.
use Rattle.ushanderi.specs.Layouts.{Loading}
use Rattle.ushanderi.proofs.layouts.load_all.Given as goal

abbrev pub invariant-loop-n : goal.invariant-loop-n
invariant-loop-n l = Loading l.initial.t l.bytes l.t l.from l.n
