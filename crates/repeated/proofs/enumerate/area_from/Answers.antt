-- `enumerate::area_from` meets its contract: what is counted is what is listed, and it is at most the records. Assumes nothing.
use Prim.Native.Nat.{◌≤◌}
use native.Mathlib.Omega.{arith}
use lib.ListN.{length}
use Rattle.seek.specs.Writing.{writes_count}
use Rattle.seek.specs.Enumerate.{counts_area_one, counts_area_short}
use Rattle.repeated.proofs.enumerate.area_from.Goals as goal
use Rattle.repeated.proofs.enumerate.area_from.Goals.{then-list-records+else-list-n, else-list-records}

pub returns : goal.returns
returns c =
    let f = c.requires.forms in
    let n = writes_count _ _ _ _ c.list_area.ensures in
    let room : c.list_area.result ≤ length c.args.list.now =
    elim c.if-list-records.branch [
      | then-list-records+else-list-n w ↦ omega (arith, w.if-list-n.false, counts_area_one _ f _ _ _ w.count_area-n.ensures n)
      | else-list-records w ↦ omega (arith, w.if-list-records.false, c.records.ensures, counts_area_short _ f _ _ n)
    ] in
    record { counts = n; short = λ g. absurd (omega arith); lists = λ g. c.list_area.ensures }
