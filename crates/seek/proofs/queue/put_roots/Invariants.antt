-- `seek::queue::put_roots` meets its contract. The roots that hold a cell of the area's left edge in the row y or a higher one are written. Assumes nothing.
use Rattle.seek.specs.Enumerate.{area_of}
use Rattle.seek.specs.Queue.{Rooting}
use Rattle.seek.proofs.queue.put_roots.Given as goal

abbrev pub invariant-loop-y : goal.invariant-loop-y
invariant-loop-y l = Rooting l.t (area_of l.fn.rect.area) l.initial.list l.list l.n l.k l.y

abbrev pub decreases-loop-y : goal.decreases-loop-y
decreases-loop-y l = l.y
