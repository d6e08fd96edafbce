-- `ushanderi::reading::enumerate_in` meets its contract: what is counted is what is listed, and it is at most the records. Assumes nothing.
use Prim.Native.Nat.{◌≤◌}
use native.Mathlib.Omega.{arith}
use lib.ListN.{length}
use Rattle.seek.specs.Writing.{writes_count}
use Rattle.seek.specs.Enumerate.{counts_area_one, counts_area_short}
use Rattle.ushanderi.specs.Reading.{fit_forms}
use Rattle.ushanderi.specs.ReadingAreas.{area_low, enumerate_short, enumerate_done}
use Rattle.ushanderi.proofs.reading.enumerate_in.Goals as goal
use Rattle.ushanderi.proofs.reading.enumerate_in.Goals.{then-out-records+else-out-needed, else-out-records}

pub first_used-from-requires : goal.first_used-from-requires
first_used-from-requires c = fit_forms _ c.requires

pub count_area-needed-requires : goal.count_area-needed-requires
count_area-needed-requires c =
    record { forms = fit_forms _ c.requires; size_right = c.requires.size; used_in = c.first_used-from.ensures.used; rect_right = c.args.rect.right }

pub refused_with-requires : goal.refused_with-requires
refused_with-requires c = area_low _ _ _ c.requires c.count_area-needed.ensures

pub returns-then-out-needed : goal.returns-then-out-needed
returns-then-out-needed c =
    rw c.refused_with.ensures (enumerate_short _ _ _ _ c.requires c.args.rect.right c.count_area-needed.ensures c.if-out-needed.true)

pub list_area-written-requires : goal.list_area-written-requires
list_area-written-requires c =
    record { forms = fit_forms _ c.requires; size_right = c.requires.size; used_in = c.first_used-from.ensures.used; rect_right = c.args.rect.right }

pub done-requires : goal.done-requires
done-requires c =
    area_low _ _ _ c.requires (writes_count _ _ _ _ c.list_area-written.ensures)

pub returns : goal.returns
returns c =
    let f = fit_forms _ c.requires in
    let n = writes_count _ _ _ _ c.list_area-written.ensures in
    let room : c.list_area-written.result ≤ length c.args.out.now =
    elim c.if-out-records.branch [
      | then-out-records+else-out-needed w ↦ omega (arith, w.if-out-needed.false, counts_area_one _ f _ _ _ w.count_area-needed.ensures n)
      | else-out-records w ↦ omega (arith, w.if-out-records.false, c.records.ensures, counts_area_short _ f _ _ n)
    ] in
    rw c.done.ensures (enumerate_done _ _ _ _ _ c.requires c.args.rect.right room c.list_area-written.ensures)
