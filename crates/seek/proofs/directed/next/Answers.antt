-- `seek::directed::next` meets its contract. Assumes nothing.
use Rattle.std.proofs.Common.{refl, arith}
use Rattle.seek.specs.RightSide.{stops, steps}
use Rattle.seek.proofs.directed.next.Goals as goal

pub returns-then-word-bottom : goal.returns-then-word-bottom
returns-then-word-bottom c = stops c.in-Some.k c.in-Some.is (omega (arith, c.word.ensures.is, c.if-word-bottom.true)) refl

pub returns : goal.returns
returns c = steps c.in-Some.k c.in-Some.is (omega (arith, c.word.ensures.is, c.if-word-bottom.false)) c.step.ensures
