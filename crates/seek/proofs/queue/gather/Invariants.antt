-- `seek::queue::gather` meets its contract. What hangs under the first i entries stands in the list. Assumes nothing.
use Rattle.std.specs.Prelude.{◌-◌}
use Rattle.table.specs.Words.{records_of}
use Rattle.seek.specs.Enumerate.{area_of}
use Rattle.seek.specs.Queue.{Queue}
use Rattle.seek.proofs.queue.gather.Given as goal

abbrev pub invariant-loop-i : goal.invariant-loop-i
invariant-loop-i l = Queue l.t (area_of l.fn.area) l.list l.i l.n

abbrev pub decreases-loop-i : goal.decreases-loop-i
decreases-loop-i l = records_of l.t - l.i
