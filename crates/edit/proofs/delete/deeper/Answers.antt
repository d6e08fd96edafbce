-- `delete::deeper` meets its contract. Assumes nothing.
use Rattle.edit.specs.Delete.{next_slab}
use Rattle.edit.proofs.delete.deeper.Goals as goal

pub depth-row-requires-clause-slabs : goal.depth-row-requires-clause-slabs
depth-row-requires-clause-slabs c =
    let u = c.if-not-together.ensures in
    let v = c.if-not-together-2.ensures in
    next_slab c.args.t.now c.args.i c.args.s.left c.args.s.right c.next_left-left.result c.next_right-right.result c.args.s.row c.requires.can_shrink c.requires.depth c.requires.i_bound
    c.next_left-left.ensures c.next_right-right.ensures (v tt) (u tt)
