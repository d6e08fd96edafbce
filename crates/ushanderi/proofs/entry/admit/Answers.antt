-- `ushanderi::entry::admit` meets its contract: the check's table is the definition's. Assumes nothing.
use Rattle.std.specs.Prelude.{List, ℕ, ℤ, Option, Some, None}
use Rattle.std.specs.Option.{ok_or}
use mathlib.Core.Path.{refl}
use Rattle.geometry.specs.Cases.{yes, no}
use Rattle.table.specs.Sound.{SizeRight}
use Rattle.table.proofs.Forms.{sound_forms, forms_sound}
use Rattle.sound.specs.Verdict.{Checks}
use Rattle.ushanderi.specs.Promises.{Unfit}
use Rattle.ushanderi.specs.Entry.{Admits}
use Rattle.ushanderi.specs.declared.answer.Refusal.TheVariants.{Unsound}
use Rattle.ushanderi.proofs.entry.admit.Goals as goal

checked : (t : List ℤ) (v : Option ℕ) → SizeRight t → Checks t v → Admits t (ok_or v Unsound)
checked t (Some n) s v = (record { size = s; sound = forms_sound t s.most (v.sound.0 tt) }, v.solids tt)
checked t None s v = Unfit.unsound s (λ h. no v.sound refl (sound_forms t s.most h)) refl

pub returns-then-size_right : goal.returns-then-size_right
returns-then-size_right c =
    rw c.ok_or.ensures.value (checked _ _ (yes c.size_right.ensures c.if-size_right.true) c.check.ensures)
