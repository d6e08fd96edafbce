-- `ushanderi::editing::delete` meets its promise: the decision's refusal, or the act's label. Assumes nothing.
use mathlib.Core.Path.{refl, sym, subst}
use Rattle.ushanderi.specs.Promises.{DeleteSays}
use Rattle.ushanderi.specs.Editing.{taken_says, delete_bits}
use Rattle.ushanderi.proofs.editing.delete.Goals as goal

pub returns-in-Ok : goal.returns-in-Ok
returns-in-Ok c =
    delete_bits _ _ _ _ _ c.ranges.x c.ranges.y
    (subst (DeleteSays _ _ _ _) (sym c.done.ensures) (taken_says _ _ _ _ _ _ c.in-Ok.ensures c.remove.ensures))

pub returns-in-Err : goal.returns-in-Err
returns-in-Err c =
    delete_bits _ _ _ _ _ c.ranges.x c.ranges.y (DeleteSays.refuses c.in-Err.ensures refl)
