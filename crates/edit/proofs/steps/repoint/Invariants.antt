-- `edit::steps::repoint` meets its contract. The loop's invariant: what lies before k is turned, for every plane whose side these words are.
-- The measure: how many stitches still name a. Assumes nothing.
use Rattle.edit.specs.Loops.{Beside, Coming, naming}
use Rattle.edit.proofs.steps.repoint.Given as goal

abbrev pub invariant-loop-k : goal.invariant-loop-k
invariant-loop-k l = Beside l.initial.t l.t l.back × Coming l.initial.t l.t l.next l.back l.from l.stop l.a l.j l.k

abbrev pub decreases-loop-k : goal.decreases-loop-k
decreases-loop-k l = naming l.t l.back l.a
