-- `seek::side::along` meets its contract. The first stitch names the first neighbour, where the side is not the plane's. Assumes nothing.
use Rattle.std.proofs.Common.{arith}
use Rattle.seek.specs.Walk.{begins_none, begins_some}
use Rattle.seek.proofs.side.along.Goals as goal

pub returns-then-seen-ge-HIGH : goal.returns-then-seen-ge-HIGH
returns-then-seen-ge-HIGH c =
    begins_none _ c.requires.forms c.requires.size_right _ _ c.requires.used_in _ c.words-start.ensures _ c.seen.ensures (omega arith)

pub returns : goal.returns
returns c =
    rw c.follow.ensures (begins_some _ c.requires.forms c.requires.size_right _ _ c.requires.used_in _ c.words-start.ensures _ c.seen.ensures (omega arith))
