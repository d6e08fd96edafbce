-- `delete::depth` meets its contract. Assumes nothing.
use Rattle.edit.specs.Delete.{depth}
use Rattle.edit.proofs.delete.depth.Goals as goal

pub returns : goal.returns
returns c =
    depth c.args.t.now c.args.i c.args.n c.args.m c.word-low.result c.higher-left.result c.higher.result
    c.word-low.ensures.is c.requires.can_shrink c.requires.slabs c.higher-left.ensures c.higher.ensures
