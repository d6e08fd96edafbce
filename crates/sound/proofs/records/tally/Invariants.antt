-- `sound::records::tally` meets its contract. The loop's invariant: each record passed was found right, and the sums are those over them. Assumes nothing.
use Rattle.sound.specs.Tally.{Summed}
use Rattle.sound.proofs.records.tally.Given as goal

abbrev pub invariant-loop-i : goal.invariant-loop-i
invariant-loop-i l = Summed l.t l.i l.area l.solids
