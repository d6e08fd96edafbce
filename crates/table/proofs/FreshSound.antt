-- A table of one tile is sound, and so is the fresh one: the theorems of specs/FreshSound that end in `Sound`. Assumes nothing.
use Rattle.std.specs.Prelude.{List, ℕ, ◌/◌, ◌≤◌, ℤ}
use Rattle.table.specs.Words.{WIDTH, records_of, MOST}
use Rattle.table.specs.Sound.{Sound}
use Rattle.table.specs.Fresh.{fresh_table}
use Rattle.table.specs.FreshSound.{OneTile, one_forms, fresh_one, fresh_few}
use Rattle.table.proofs.Forms.{forms_sound}

module _ (t : List ℤ) (few : records_of t ≤ MOST) (o : OneTile t) where
  pub one_sound : Sound t
  one_sound = forms_sound t few (one_forms t few o)

pub fresh_sound : (n : ℕ) → WIDTH ≤ n → n / WIDTH ≤ MOST → Sound (fresh_table n)
fresh_sound n h f = one_sound (fresh_table n) (fresh_few n h f) (fresh_one n h)
