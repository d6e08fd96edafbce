-- `density::spread::spread` meets its contract: the first j entries have given their cells. Assumes nothing.
use Rattle.std.proofs.Common.{arith}
use Rattle.seek.specs.Enumerate.{area_of}
use Rattle.density.specs.Spreading.{spread_starts, spread_on, spread_ends}
use Rattle.density.proofs.spread.spread.Goals as goal

pub loop-j-init : goal.loop-j-init
loop-j-init c =
    let a = c.args in
    let v = a.windows in
    spread_starts a.t.now (area_of v.rect.area) v.width v.height a.list.now a.out.now

pub loop-j-preserved : goal.loop-j-preserved
loop-j-preserved c =
    let v = c.args.windows in
    spread_on _ c.requires.forms _ v.rect.right _ _ v.divides c.args.list.now c.requires.each _ _ _ c.loop-j.j c.loop-j-test.true c.loop-j.invariant
    (rw c.named-k.ensures at c.add_tile.ensures)

pub returns : goal.returns
returns c =
    let v = c.args.windows in
    spread_ends _ c.requires.forms _ v.rect.right _ _ v.divides c.args.list.now c.requires.each _ _ c.loop-j.j (omega arith) c.loop-j.invariant
