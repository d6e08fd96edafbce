-- `seek::rows::search` meets its contract. From the row y up the area is free. Assumes nothing.
use Rattle.seek.specs.Enumerate.{area_of}
use Rattle.seek.specs.Search.{FreeFrom}
use Rattle.seek.proofs.rows.search.Given as goal

abbrev pub invariant-loop-y : goal.invariant-loop-y
invariant-loop-y l = FreeFrom l.t (area_of l.fn.area) l.y l.k

abbrev pub decreases-loop-y : goal.decreases-loop-y
decreases-loop-y l = l.y
