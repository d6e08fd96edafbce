-- `seek::cell::to_column_right` meets its contract. Each turn crosses one right side in the row and never passes the column, so right edges rise. Assumes nothing.
use Prim.Native.Nat.{◌-◌}
use Rattle.geometry.specs.Picture.{HIGH}
use Rattle.table.specs.Words.{num, RIGHT}
use Rattle.seek.specs.Find.{From}
use Rattle.seek.proofs.cell.to_column_right.Given as goal

abbrev pub invariant-loop-k : goal.invariant-loop-k
invariant-loop-k l = From l.t l.k l.x l.y

abbrev pub decreases-loop-k : goal.decreases-loop-k
decreases-loop-k l = HIGH - num l.t l.k RIGHT
