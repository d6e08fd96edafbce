-- `delete::next_left` meets its contract. Assumes nothing.
use native.Mathlib.Omega.{arith}
use Rattle.table.specs.Words.{TOP, num}
use Rattle.edit.specs.Delete.{left_still, shrink_tidy}
use Rattle.edit.proofs.delete.next_left.Goals as goal

pub returns-then-word-row : goal.returns-then-word-row
returns-then-word-row c =
    let t = c.args.t.now in
    let i = c.args.i in
    let p = c.requires.can_shrink in
    left_still t (shrink_tidy t i p) i p.solid c.args.n c.args.row (num t i TOP) (λ _. omega (arith, c.word.ensures.is)) c.requires.left_of
