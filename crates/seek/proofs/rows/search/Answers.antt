-- `seek::rows::search` meets its contract. From the row y up the area is free. Assumes nothing.
use Rattle.std.proofs.Common.{arith}
use Rattle.std.proofs.lemmas.Result.{err_from_is_err_and}
use Rattle.seek.specs.Search.{free_on, free_ends, first_of_area}
use Rattle.seek.proofs.rows.search.Goals as goal

pub returns-in_err-k : goal.returns-in_err-k
returns-in_err-k c =
    let p = err_from_is_err_and c.from_residual.result c.from_residual.ensures.1 in
    rw (p.1, p.2) (first_of_area _ _ _ _ _ c.loop-y.invariant c.loop-y-test.true c.in_err-k.ensures)

pub loop-y-preserved : goal.loop-y-preserved
loop-y-preserved c = rw c.word-y.ensures.is (free_on _ c.requires.forms _ _ _ _ c.loop-y.invariant c.loop-y-test.true c.in_ok-k.ensures)

pub returns : goal.returns
returns c = (free_ends _ _ _ _ c.loop-y.invariant (omega arith), c.loop-y.invariant.used)
