-- `seek::side::Walk::step` meets its contract. A step brings the walk from each place of the list to the next. Assumes nothing.
use Rattle.std.proofs.Common.{arith}
use Rattle.seek.specs.Walk.{steps_end, steps_on}
use Rattle.seek.proofs.side.Walk.step.Goals as goal
use Rattle.seek.proofs.side.Walk.step.Goals.{then-seen-self, else-seen-self}

pub returns : goal.returns
returns c =
    let f = c.requires.forms in
    let z = c.requires.size_right in
    elim c.if-seen-self.branch [
      | then-seen-self v ↦ rw v.self-is (steps_end _ f z _ c.in-Some.k c.in-Some.is (omega (arith, c.seen.ensures, v.if-seen-self.true)))
      | else-seen-self v ↦
          rw (v.self-is, v.follow.ensures) (steps_on _ f z _ c.in-Some.k c.in-Some.is (omega (arith, c.seen.ensures, v.if-seen-self.false)))
    ]
