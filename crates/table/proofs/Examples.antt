-- The definitions are tried: tables written out that are sound, and damaged ones that are not. Assumes nothing.
use Rattle.std.specs.Prelude.{pos}
use Rattle.std.proofs.Common.{arith}
use Rattle.ruler.specs.Ruler.{ruler}
use Rattle.geometry.specs.Counting.{sum_to, count}
use Rattle.table.specs.Words.{RT, LABEL, num}
use Rattle.table.specs.Sound.{Sound}
use Rattle.table.specs.Fresh.{fresh_table}
use Rattle.table.specs.Decide.{soundb}
use Rattle.table.specs.Examples.{one, abc, stacked, paired, many, changed}
use Rattle.table.proofs.FreshSound.{fresh_sound}
use Rattle.table.proofs.Decide.{soundb_sound, sound_soundb}

-- ---- sound tables

pub one_sound : Sound one
unfolding one soundb num ruler sum_to count
one_sound = soundb_sound one tt

pub abc_sound : Sound abc
unfolding abc soundb num ruler sum_to count
abc_sound = soundb_sound abc tt

-- the fresh plane of 20 records
pub fresh_sound_20 : Sound (fresh_table 200)
fresh_sound_20 = fresh_sound 200 (omega arith) (omega arith)

-- ---- tables that are not sound

-- A's rt names the tile left of C
pub wrong_stitch : Sound (changed abc 0 RT (pos 8)) → ⊥
unfolding abc soundb num ruler sum_to count
wrong_stitch s = sound_soundb (changed abc 0 RT (pos 8)) s

-- a space tile with a label
pub wrong_label : Sound (changed abc 5 LABEL (pos 1)) → ⊥
unfolding abc soundb num ruler sum_to count
wrong_label s = sound_soundb (changed abc 5 LABEL (pos 1)) s

-- a free record that is not zeros
pub stray_word : Sound (changed abc 27 LABEL (pos 1)) → ⊥
unfolding abc soundb num ruler sum_to count
stray_word s = sound_soundb (changed abc 27 LABEL (pos 1)) s

-- two space tiles of equal span, stacked
pub stacked_unsound : Sound stacked → ⊥
unfolding stacked soundb num ruler sum_to count
stacked_unsound s = sound_soundb stacked s

-- space beside space
pub paired_unsound : Sound paired → ⊥
unfolding paired soundb num ruler sum_to count
paired_unsound s = sound_soundb paired s

-- more solids than the table takes
pub many_unsound : Sound many → ⊥
unfolding many soundb num ruler sum_to count
many_unsound s = sound_soundb many s
