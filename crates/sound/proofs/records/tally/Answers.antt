-- `sound::records::tally` meets its contract. The loop's invariant: each record passed was found right, and the sums are those over them. Assumes nothing.
use Rattle.std.proofs.Common.{subst, arith}
use Rattle.sound.specs.Links.{Tested}
use Rattle.sound.specs.Tally.{summed_none, summed_more, summed_all}
use Rattle.sound.proofs.records.tally.Goals as goal

pub loop-i-init : goal.loop-i-init
loop-i-init c = summed_none _

pub loop-i-preserved : goal.loop-i-preserved
loop-i-preserved c =
    summed_more _ _ _ _ _ _ c.loop-i.invariant (subst (Tested _ _) c.if-not-tested.false c.tested.ensures) c.cells-area.ensures c.one-solids.ensures

pub returns : goal.returns
returns c = summed_all _ _ _ _ c.requires c.loop-i.invariant (omega arith)
