-- `seek::neighbours::count_side` meets its contract. After n turns the walk stands at place n of the list. Assumes nothing.
use Rattle.std.proofs.Common.{subst, arith}
use Rattle.seek.specs.Walk.{Begins}
use Rattle.seek.specs.Listing.{counting_starts, counting_short, counting_on}
use Rattle.seek.proofs.neighbours.count_side.Goals as goal

pub loop-w-init : goal.loop-w-init
loop-w-init c =
    counting_starts _ c.requires.forms c.requires.size_right _ _ c.requires.used_in _
    (subst (λ s. Begins c.args.t.now s c.args.i c.along-w.result) c.from.ensures c.along-w.ensures)

pub overflow_add-n : goal.overflow_add-n
overflow_add-n c =
    omega (arith, counting_short _ c.requires.forms c.requires.size_right _ _ c.requires.used_in _ _ c.loop-w.invariant _ c.in-Some.is)

pub loop-w-smaller : goal.loop-w-smaller
loop-w-smaller c =
    omega (arith, counting_short _ c.requires.forms c.requires.size_right _ _ c.requires.used_in _ _ c.loop-w.invariant _ c.in-Some.is)

pub loop-w-preserved : goal.loop-w-preserved
loop-w-preserved c =
    counting_on _ c.requires.forms c.requires.size_right _ _ c.requires.used_in _ _ c.loop-w.invariant _ c.in-Some.is _ c.step-w.ensures
