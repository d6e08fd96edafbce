-- `seek::cell::to_column_left` meets its contract. Each turn crosses one left side in the row, so left edges fall. Assumes nothing.
use Rattle.std.proofs.Common.{arith}
use Rattle.seek.specs.Find.{CrossedLeft}
use Rattle.seek.specs.Legs.{crossed_left}
use Rattle.seek.proofs.cell.to_column_left.Goals as goal

crossed : (c : goal.After-climb-k) → CrossedLeft c.args.t.now c.loop-k.k c.climb-k.result c.args.y
crossed c =
    crossed_left _ c.requires.forms _ _ c.loop-k.invariant _ (omega arith) (rw c.follow.ensures at c.climb-k.ensures)

pub loop-k-smaller : goal.loop-k-smaller
loop-k-smaller c = (crossed c).beyond

pub loop-k-preserved : goal.loop-k-preserved
loop-k-preserved c = (crossed c).row
