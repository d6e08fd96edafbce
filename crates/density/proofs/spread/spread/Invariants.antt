-- `density::spread::spread` meets its contract: the first j entries have given their cells. Assumes nothing.
use Rattle.seek.specs.Enumerate.{area_of}
use Rattle.density.specs.Spreading.{Spreading}
use Rattle.density.proofs.spread.spread.Given as goal

abbrev pub invariant-loop-j : goal.invariant-loop-j
invariant-loop-j l =
    let v = l.windows in Spreading l.t (area_of v.rect.area) v.width v.height l.list l.initial.out l.out l.j
