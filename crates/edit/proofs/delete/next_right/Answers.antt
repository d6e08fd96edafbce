-- `delete::next_right` meets its contract. Assumes nothing.
use native.Mathlib.Omega.{arith}
use Rattle.table.specs.Words.{TOP, num}
use Rattle.edit.specs.Delete.{right_still, right_under, shrink_tidy}
use Rattle.edit.proofs.delete.next_right.Goals as goal
use Rattle.edit.proofs.delete.next_right.Goals.{else-n-records-via-then-n-records+else-row-word, else-n-records-via-else-n-records}

pub returns-then-row-word : goal.returns-then-row-word
returns-then-row-word c =
    let t = c.args.t.now in
    let i = c.args.i in
    let p = c.requires.can_shrink in
    right_under t (shrink_tidy t i p) i p.solid c.args.n c.follow.result c.args.row (num t i TOP)
    (omega arith) (omega (arith, c.word.ensures.is))
    c.requires.i_bound.0 c.requires.i_bound.1 c.follow.ensures c.requires.right_of

pub returns-else-n-records : goal.returns-else-n-records
returns-else-n-records c =
    let t = c.args.t.now in
    let i = c.args.i in
    let p = c.requires.can_shrink in
    right_still t (shrink_tidy t i p) i p.solid c.args.n c.args.row (num t i TOP)
    (λ h. elim c.else-n-records.branch [
      | else-n-records-via-then-n-records+else-row-word w ↦ omega (arith, w.word.ensures.is)
      | else-n-records-via-else-n-records w ↦ omega arith
    ])
    c.requires.right_of
