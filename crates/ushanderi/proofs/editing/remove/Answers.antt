-- `ushanderi::editing::remove` meets its contract: the label is read before the edit. Assumes nothing.
use mathlib.Core.Path.{ap}
use Prim.Native.Nat.{◌-◌}
use native.Mathlib.Omega.{arith}
use Rattle.geometry.specs.Picture.{ZERO}
use Rattle.ushanderi.specs.Editing.{can_delete, label_low, taken}
use Rattle.ushanderi.proofs.editing.remove.Goals as goal

pub delete-requires : goal.delete-requires
delete-requires c =
    let f = c.requires.fit in
    let k = c.requires.solid_in in
    can_delete _ _ f k

pub overflow_sub-result : goal.overflow_sub-result
overflow_sub-result c =
    let f = c.requires.fit in
    let k = c.requires.solid_in in
    omega (arith, c.word-label.ensures.is, label_low _ _ f k)

pub returns : goal.returns
returns c =
    let f = c.requires.fit in
    let k = c.requires.solid_in in
    taken _ _ _ _ f c.delete.ensures (ap (λ n. n - ZERO) c.word-label.ensures.is) (omega (arith, c.word-label.ensures))
