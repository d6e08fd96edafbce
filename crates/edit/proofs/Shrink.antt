-- A table whose solid shrinks has a free record: of specs/Delete, what rests on `room`. Assumes nothing.
use Rattle.std.specs.Prelude.{List, ℕ, ℤ}
use Rattle.std.proofs.Common.{arith}
use Rattle.edit.specs.Steps.{FreeIn}
use Rattle.edit.specs.Tidy.{room}
use Rattle.edit.specs.Delete.{CanShrink, shrink_tidy}

pub shrink_room : (t : List ℤ) (i : ℕ) → CanShrink t i → (j : ℕ) × FreeIn t j
shrink_room t i c = room t (shrink_tidy t i c) c.size.least (omega (arith, c.forms.few))
