-- `delete::left_of` meets its contract. Assumes nothing.
use Rattle.edit.specs.Delete.{left_found, shrink_tidy}
use Rattle.edit.proofs.delete.left_of.Goals as goal

pub returns-then-left-gt-LOW : goal.returns-then-left-gt-LOW
returns-then-left-gt-LOW c =
    let t = c.args.t.now in
    let i = c.args.i in
    let p = c.requires.can_shrink in
    left_found t (shrink_tidy t i p) i p.solid c.find.result c.word-left.result c.args.y
    c.word-left.ensures.is c.requires.i_bound.0 c.requires.i_bound.1 c.if-left-gt-LOW.true c.find.ensures.used c.find.ensures.has
