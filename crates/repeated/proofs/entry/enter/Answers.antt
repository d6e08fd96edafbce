-- `entry::enter` meets its contract. Assumes nothing.
use mathlib.Core.Path.{refl}
use mathlib.Core.List.{List}
use Prim.Native.Nat.{ℕ}
use lib.IntN.{ℤ}
use Rattle.std.specs.Prelude.{Option, Some, None, ok_or}
use Rattle.geometry.specs.Cases.{yes, no}
use Rattle.table.specs.Sound.{SizeRight}
use Rattle.sound.specs.Verdict.{Checks}
use Rattle.repeated.specs.Entry.{Unfit, Enters, refuses}
use Rattle.repeated.specs.declared.answer.Refusal.TheVariants.{Unsound}
use Rattle.repeated.proofs.entry.enter.Goals as goal

enters : (t : List ℤ) (o : Option ℕ) → SizeRight t → Checks t o → Enters t (ok_or o Unsound)
enters t (Some n) s v = (record { forms = v.sound.0 tt; size = s }, v.solids tt)
enters t None s v = refuses (Unfit.unsound s v.sound.1 refl) refl

pub returns-then-not-size_right : goal.returns-then-not-size_right
returns-then-not-size_right c = refuses (Unfit.size (no c.size_right.ensures c.if-not-size_right.true) refl) refl

pub returns : goal.returns
returns c = rw c.ok_or.ensures.value (enters _ _ (yes c.size_right.ensures c.if-not-size_right.false) c.check.ensures)
