-- `delete::top_slab` meets its contract. Assumes nothing.
use native.Mathlib.Omega.{arith}
use Rattle.edit.specs.Tidy.{solid_is}
use Rattle.edit.specs.Delete.{top_slab}
use Rattle.edit.proofs.delete.top_slab.Goals as goal

pub depth-row-requires-clause-slabs : goal.depth-row-requires-clause-slabs
depth-row-requires-clause-slabs c =
    let t = c.args.t.now in
    let i = c.args.i in
    let f = c.requires.forms.good.formed i (solid_is t i c.requires.solid) in
    let e = c.word-top.ensures.is in
    top_slab t i c.left_of-left.result c.follow-right.result _ c.requires (omega arith) c.left_of-left.ensures c.follow-right.ensures
