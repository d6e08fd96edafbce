-- `density::spread::add_part` meets its contract: rows of windows over the one that comes next have got their cells. Assumes nothing.
use Rattle.seek.specs.Enumerate.{area_of}
use Rattle.density.specs.Parts.{Parting}
use Rattle.density.proofs.spread.add_part.Given as goal

abbrev pub invariant-loop-depth : goal.invariant-loop-depth
invariant-loop-depth l =
    let v = l.fn.windows in Parting (area_of v.rect.area) v.width v.height (area_of l.fn.part) l.initial.out l.out l.n l.depth
