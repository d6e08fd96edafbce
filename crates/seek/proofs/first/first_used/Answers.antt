-- `seek::first::first_used` meets its contract. No used record is passed, and there is one, so the loop does not come to the table's end. Assumes nothing.
use Rattle.std.proofs.Common.{arith}
use Rattle.seek.specs.Start.{not_past}
use Rattle.seek.proofs.first.first_used.Goals as goal

pub unreachable-requires : goal.unreachable-requires
unreachable-requires c = omega (arith, not_past _ _ c.requires c.loop-i.invariant)
