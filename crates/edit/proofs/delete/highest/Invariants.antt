-- `delete::highest` meets its contract. The invariant: what stands beside the slab so far. Assumes nothing.
use Rattle.edit.specs.Delete.{Depth}
use Rattle.edit.proofs.delete.highest.Given as goal

abbrev pub invariant-loop-s : goal.invariant-loop-s
invariant-loop-s l = Depth l.t l.i l.s.left l.s.right l.s.row

abbrev pub decreases-loop-s : goal.decreases-loop-s
decreases-loop-s l = l.s.row
