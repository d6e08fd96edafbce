-- `ushanderi::reading::list_side` meets its contract: what is counted is what is listed. Assumes nothing.
use Rattle.seek.specs.Listing.{counts_fits}
use Rattle.ushanderi.specs.Reading.{fit_forms}
use Rattle.ushanderi.specs.ReadingSides.{counts_low, side_short, side_done}
use Rattle.ushanderi.proofs.reading.list_side.Goals as goal

pub count_side-n-requires : goal.count_side-n-requires
count_side-n-requires c =
    record { forms = fit_forms _ c.requires.fit; size_right = c.requires.fit.size; used_in = c.requires.used_in }

pub refused_with-requires : goal.refused_with-requires
refused_with-requires c =
    counts_low _ (fit_forms _ c.requires.fit) _ _ _ c.requires.used_in c.count_side-n.ensures

pub returns-then-out-n : goal.returns-then-out-n
returns-then-out-n c =
    rw c.refused_with.ensures (side_short _ _ _ _ _ c.count_side-n.ensures c.if-out-n.true)

pub list_side-requires : goal.list_side-requires
list_side-requires c =
    record { forms = fit_forms _ c.requires.fit; size_right = c.requires.fit.size; used_in = c.requires.used_in; fits = counts_fits _ _ _ _ _ c.count_side-n.ensures c.if-out-n.false }

pub done-requires : goal.done-requires
done-requires c =
    counts_low _ (fit_forms _ c.requires.fit) _ _ _ c.requires.used_in c.count_side-n.ensures

pub returns : goal.returns
returns c =
    rw c.done.ensures (side_done _ (fit_forms _ c.requires.fit) _ _ _ _ _ c.requires.used_in c.count_side-n.ensures c.if-out-n.false c.list_side.ensures)
