-- `seek::cell::to_column_right` meets its contract. Each turn crosses one right side in the row and never passes the column, so right edges rise. Assumes nothing.
use Rattle.std.proofs.Common.{arith}
use Rattle.seek.specs.Find.{CrossedRight}
use Rattle.seek.specs.Legs.{crossed_right}
use Rattle.seek.proofs.cell.to_column_right.Goals as goal

crossed : (c : goal.After-descend-k) → CrossedRight c.args.t.now c.loop-k.k c.descend-k.result c.args.y
crossed c =
    crossed_right _ c.requires.forms _ _ c.loop-k.invariant.row _ (omega arith) (rw c.follow.ensures at c.descend-k.ensures)

pub loop-k-smaller : goal.loop-k-smaller
loop-k-smaller c = let s = crossed c in omega arith

pub loop-k-preserved : goal.loop-k-preserved
loop-k-preserved c = let s = crossed c in record { row = s.row; left = omega arith }
