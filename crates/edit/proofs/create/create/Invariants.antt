-- `create::create` meets its contract. The invariant: from the first strip on, k is the new solid as far as it is done, up to y. The measure is what is left. Assumes nothing.
use Prim.Native.Nat.{◌-◌}
use Rattle.edit.specs.Create.{Growing}
use Rattle.edit.proofs.create.create.Given as goal

abbrev pub invariant-loop-y : goal.invariant-loop-y
invariant-loop-y l = Growing l.initial.t l.t l.k l.area.left l.area.bottom l.area.right l.area.top l.initial.y l.y l.ink

abbrev pub decreases-loop-y : goal.decreases-loop-y
decreases-loop-y l = l.area.top - l.y
