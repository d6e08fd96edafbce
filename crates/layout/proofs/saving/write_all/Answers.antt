-- `layout::saving::write_all` meets its contract: the records of the keys passed are written. Assumes nothing.
use Rattle.std.proofs.Common.{arith}
use Rattle.layout.specs.Saving.{writing_none, writing_more, written}
use Rattle.layout.proofs.saving.write_all.Goals as goal

pub loop-k-init : goal.loop-k-init
loop-k-init c = writing_none _ _ _

pub loop-k-preserved : goal.loop-k-preserved
loop-k-preserved c =
    let l = c.loop-k in
    let a = c.args in
    writing_more a.t.now a.keys.now a.out.now l.out l.k c.saved_of.result c.put_saved.new.out l.invariant (omega arith) (omega arith)
    c.saved_of.ensures.is c.put_saved.ensures c.put_saved.auto.out

pub returns-clause-out_after : goal.returns-clause-out_after
returns-clause-out_after c = written _ _ _ _ _ c.loop-k.invariant (omega arith)
