-- `seek::first::first_used` meets its contract. No used record is passed, and there is one, so the loop does not come to the table's end. Assumes nothing.
use Rattle.seek.specs.Start.{NonePassed}
use Rattle.seek.proofs.first.first_used.Given as goal

abbrev pub invariant-loop-i : goal.invariant-loop-i
invariant-loop-i l = NonePassed l.t l.i
