-- `seek::directed::list_area` meets its contract. The roots that hold a cell of the area's left edge in the row y or a higher one are written,
-- each with its tree. Assumes nothing.
use Rattle.std.proofs.Common.{arith}
use Rattle.seek.specs.Once.{tree_short}
use Rattle.seek.specs.Roots.{descending_starts, descending_ends, descending_short, descending_on}
use Rattle.seek.proofs.directed.list_area.Goals as goal

pub loop-y-init : goal.loop-y-init
loop-y-init c = descending_starts _ c.requires.forms _ c.requires.rect_right _ _ c.requires.used_in

pub overflow_add-n : goal.overflow_add-n
overflow_add-n c =
    let r = c.subtree-c.ensures in
    omega (
      arith,
      descending_short _ c.requires.forms _ c.requires.rect_right _ _ _ _ _ c.loop-y.invariant,
      tree_short _ c.requires.forms _ _ _ c.find-k.ensures.used r.is,
      r.count,
      c.requires.size_right.most,
    )

pub loop-y-preserved : goal.loop-y-preserved
loop-y-preserved c =
    rw c.word-y.ensures.is
    (descending_on _ c.requires.forms _ c.requires.rect_right _ _ c.loop-y-test.true c.loop-y.invariant.to c.find-k.ensures _ _ _ _ c.loop-y.invariant _ _ _
    c.min-at.ensures c.subtree-c.ensures)

pub returns : goal.returns
returns c =
    descending_ends _ c.requires.forms _ c.requires.rect_right _ _ _ _ _ c.loop-y.invariant c.loop-y-test.false
