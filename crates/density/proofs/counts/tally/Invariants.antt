-- `density::counts::tally` meets its contract: windows before the entry are done. Assumes nothing.
use Rattle.seek.specs.Enumerate.{area_of}
use Rattle.density.specs.Reporting.{Reporting}
use Rattle.density.proofs.counts.tally.Given as goal

abbrev pub invariant-loop-entry : goal.invariant-loop-entry
invariant-loop-entry l =
    let v = l.fn.windows in
    Reporting l.t (area_of v.rect.area) v.width v.height l.initial.entry-items l.entry-items l.entry-index l.lowest l.highest l.covered
