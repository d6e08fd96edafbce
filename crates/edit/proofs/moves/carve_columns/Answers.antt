-- `moves::carve_columns` meets its contract. Assumes nothing.
use Rattle.table.specs.Words.{LEFT, BOTTOM, TOP, num}
use Rattle.edit.specs.Carve.{columns_trimmed}
use Rattle.edit.proofs.moves.carve_columns.Goals as goal

pub returns : goal.returns
returns c =
    let t = c.args.t.now in
    let a = c.args.a in
    columns_trimmed t c.carve_right.new.t c.carve_left.new.t a c.carve_left.result (num t a LEFT)
    (num t a BOTTOM) c.args.right (num t a TOP) c.args.left c.carve_right.ensures.trim c.carve_left.ensures
