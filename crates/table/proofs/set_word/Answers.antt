use borrow.Author.Rules.{sfits_of}
use mir.Facts.{to_z-of_z}
use Rattle.table.specs.Reading.{write}
use Rattle.table.proofs.set_word.Goals as goal

pub returns : goal.returns
unfolding write
returns c = rw (to_z-of_z (sfits_of c.word_at.type_inv), c.word_at.ensures)
