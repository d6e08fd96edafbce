-- `seek::queue::put_roots` meets its contract. The roots that hold a cell of the area's left edge in the row y or a higher one are written. Assumes nothing.
use Rattle.std.proofs.Common.{◌+◌, sym, subst, arith}
use Rattle.table.specs.Words.{BOTTOM, num}
use Rattle.seek.specs.Enumerate.{area_of}
use Rattle.seek.specs.Queue.{Rooting, rooting_short, rooting_on, rooting_ends}
use Rattle.seek.proofs.queue.put_roots.Goals as goal

pub put-requires-clause-n_in_bounds : goal.put-requires-clause-n_in_bounds
put-requires-clause-n_in_bounds c =
    omega (arith, rooting_short _ c.requires.forms _ c.args.rect.right _ _ _ _ _ c.loop-y.invariant, c.loop-y.invariant.long, c.requires.t_in_bounds)

pub overflow_add-n : goal.overflow_add-n
overflow_add-n c =
    omega (arith, rooting_short _ c.requires.forms _ c.args.rect.right _ _ _ _ _ c.loop-y.invariant, c.requires.size_right.most)

pub loop-y-preserved : goal.loop-y-preserved
loop-y-preserved c =
    let k = c.find-k.result in
    rw c.word-y.ensures.is
    (subst (λ z. Rooting c.args.t.now (area_of c.args.rect.area) c.args.list.now z (c.loop-y.n + 1) k (num c.args.t.now k BOTTOM)) (sym c.put.ensures)
    (rooting_on _ c.requires.forms _ c.args.rect.right c.requires.size_right _ _ _ _ _ _ c.requires.t_in_bounds c.loop-y.invariant c.loop-y-test.true c.find-k.ensures))

pub returns : goal.returns
returns c =
    rooting_ends _ c.requires.forms _ c.args.rect.right _ _ _ _ _ c.requires.t_in_bounds c.loop-y.invariant c.loop-y-test.false
