-- What is asked once, before the work. Assumes nothing.
use Rattle.std.specs.Prelude.{◌≡◌, List, ℕ, ℤ, Result, Ok, Err}
use Rattle.table.specs.Sound.{SizeRight, solids_in}
use Rattle.table.specs.Forms.{Forms}
use Rattle.repeated.specs.Answers.{answered, answer_of}
use Rattle.repeated.specs.declared.answer.Answer.{Answer}
use Rattle.repeated.specs.declared.answer.Refusal.{Refusal}

pub record Fit (t : List ℤ) : Type 0 where
  pub forms : Forms t
  pub size : SizeRight t

pub data Unfit (t : List ℤ) (number : ℕ) : Type 0 where
  size : (SizeRight t → ⊥) → number ≡ 1 → Unfit t number
  unsound : SizeRight t → (Forms t → ⊥) → number ≡ 2 → Unfit t number

-- the number alone
pub data Refuses (t : List ℤ) (a : Answer) : Type 0 where
  refuses : {number : ℕ} → Unfit t number → a ≡ answered number 0 → Refuses t a

-- how many solids a sound table has, or why the work is not begun
abbrev pub Enters : List ℤ → Result ℕ Refusal → Type 0
Enters t (Ok solids) = Fit t × (solids ≡ solids_in t)
Enters t (Err why) = Refuses t (answer_of (Err why))
