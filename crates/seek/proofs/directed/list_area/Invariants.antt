-- `seek::directed::list_area` meets its contract. The roots that hold a cell of the area's left edge in the row y or a higher one are written,
-- each with its tree. Assumes nothing.
use Rattle.seek.specs.Enumerate.{area_of}
use Rattle.seek.specs.Roots.{Descending}
use Rattle.seek.proofs.directed.list_area.Given as goal

abbrev pub invariant-loop-y : goal.invariant-loop-y
invariant-loop-y l = Descending l.t (area_of l.fn.area) l.initial.out l.out l.n l.k l.y

abbrev pub decreases-loop-y : goal.decreases-loop-y
decreases-loop-y l = l.y
