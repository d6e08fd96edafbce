-- The walk has met some tiles of p's right side, and the trees of those that hang under p are written. The falling number is the area's right less
-- the tile's left. Assumes nothing.
use Rattle.std.proofs.Common.{◌-◌}
use Rattle.table.specs.Words.{num, LEFT}
use Rattle.seek.specs.Enumerate.{area_of}
use Rattle.seek.specs.RightSide.{left_of_walk}
use Rattle.seek.specs.Subtree.{Going}
use Rattle.seek.proofs.directed.+subtree.Given as goal

abbrev pub decreases-subtree : goal.decreases-subtree
decreases-subtree l = l.area.now.right - num l.t.now l.p LEFT

abbrev pub invariant-loop-w : goal.invariant-loop-w
invariant-loop-w l = Going l.t (area_of l.area) l.p l.initial.out l.out l.n l.w

abbrev pub decreases-loop-w : goal.decreases-loop-w
decreases-loop-w l = left_of_walk l.t l.w
