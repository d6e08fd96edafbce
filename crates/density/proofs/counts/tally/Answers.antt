-- `density::counts::tally` meets its contract: windows before the entry are done. Assumes nothing.
use Rattle.std.proofs.Common.{refl, ap, ◌∙◌, arith, length-take-le}
use Rattle.seek.specs.Enumerate.{area_of}
use Rattle.density.specs.Shares.{share_of}
use Rattle.density.specs.Reporting.{report_starts, report_ends, lowest_small, highest_small}
use Rattle.density.specs.Tallying.{Ready, tally_back, tally_sum, report_front}
use Rattle.density.proofs.Written.{tally_on}
use Rattle.density.proofs.counts.tally.Goals as goal
use Rattle.density.proofs.counts.tally.Goals.{In-loop-entry}

ready : (c : In-loop-entry)
    → Ready c.args.t.now (area_of c.args.windows.rect.area) c.args.windows.width c.args.windows.height c.count-count.result c.args.out.now
ready c =
    let v = c.args.windows in
    record { rect = v.rect.right; steps = v.divides; windows = c.count-count.ensures; room = c.requires.h_in_bounds; counted = c.requires.counted }

pub loop-entry-init : goal.loop-entry-init
loop-entry-init c =
    let v = c.args.windows in
    rw c.cells-cells.ensures.value (report_starts c.args.t.now (area_of v.rect.area) v.width v.height _)

pub float_to_int-c : goal.float_to_int-c
float_to_int-c c = (tally_back _ _ _ _ _ _ _ _ _ _ _ (ready (goal.at.float_to_int-c c).In-loop-entry) c.loop-entry.invariant c.loop-entry-test.true).0

pub share-requires : goal.share-requires
share-requires c = omega (arith, tally_sum _ _ _ _ _ _ _ _ _ _ _ (ready (goal.at.share-requires c).In-loop-entry) c.loop-entry.invariant c.loop-entry-test.true)

pub overflow_add-covered : goal.overflow_add-covered
overflow_add-covered c = omega (arith, tally_sum _ _ _ _ _ _ _ _ _ _ _ (ready (goal.at.overflow_add-covered c).In-loop-entry) c.loop-entry.invariant c.loop-entry-test.true)

pub loop-entry-preserved : goal.loop-entry-preserved
loop-entry-preserved c =
    rw (c.min-lowest.ensures, c.max-highest.ensures)
    (tally_on _ _ _ _ _ _ _ _ _ _ _ _ (ready (goal.at.loop-entry-preserved c).In-loop-entry) c.loop-entry.invariant c.loop-entry-test.true
    (c.share.ensures ∙ ap (share_of _) c.cells-cells.ensures.value))

pub share-requires-2 : goal.share-requires-2
share-requires-2 c =
    let v = c.args.windows in omega (arith, lowest_small _ _ v.rect.right _ _ v.divides _ _ _ _ _ _ c.loop-entry.invariant)

pub share-requires-3 : goal.share-requires-3
share-requires-3 c =
    let v = c.args.windows in omega (arith, highest_small _ _ v.rect.right _ _ v.divides _ _ _ _ _ _ c.loop-entry.invariant)

pub returns : goal.returns
returns c =
    let v = c.args.windows in
    let l = c.loop-entry in
    let e = c.cells-cells.ensures.value in
    report_front _ _ _ _ _ _ _ _ c.count-count.ensures c.requires.h_in_bounds
    (report_ends _ _ v.rect.right _ _ v.divides _ _ _ _ _ _ _ l.invariant
    (omega (arith, c.loop-entry-test.false, length-take-le c.count-count.result c.args.out.now (omega arith)))
    (c.share-2.ensures ∙ ap (share_of l.lowest) e) (c.share-3.ensures ∙ ap (share_of l.highest) e) refl)
