-- `seek::queue::gather` meets its contract. What hangs under the first i entries stands in the list. Assumes nothing.
use Rattle.std.proofs.Common.{◌≡◌, subst, arith}
use Rattle.seek.specs.Enumerate.{area_of}
use Rattle.seek.specs.Queue.{Queue, queue_short, queue_gathers}
use Rattle.seek.proofs.queue.gather.Goals as goal

pub loop-i-smaller : goal.loop-i-smaller
loop-i-smaller c = omega (arith, queue_short _ _ _ _ _ c.loop-i.invariant, c.loop-i-test.true)

pub returns : goal.returns
returns c =
    let q = c.loop-i.invariant in
    let e : c.loop-i.i ≡ c.loop-i.n = omega (arith, c.loop-i-test.false, q.to) in
    queue_gathers _ c.requires.forms _ c.requires.rect_right _ _
    (subst (λ i. Queue c.args.t.now (area_of c.args.area) c.loop-i.list i c.loop-i.n) e q)
