-- `seek::queue::put_hanging` meets its contract. The tiles of the entry's right side that the walk has met and that hang under the entry are written.
-- Assumes nothing.
use Rattle.seek.specs.Enumerate.{area_of}
use Rattle.seek.specs.RightSide.{left_of_walk}
use Rattle.seek.specs.Queue.{Queueing}
use Rattle.seek.proofs.queue.put_hanging.Given as goal

abbrev pub invariant-loop-w : goal.invariant-loop-w
invariant-loop-w l = Queueing l.t (area_of l.area) l.initial.list l.i l.n l.list l.m l.w

abbrev pub decreases-loop-w : goal.decreases-loop-w
decreases-loop-w l = left_of_walk l.t l.w
