-- `moves::carve_rows` meets its contract. Assumes nothing.
use native.Mathlib.Omega.{arith}
use Rattle.table.specs.Words.{LEFT, BOTTOM, RIGHT, num}
use Rattle.edit.specs.Tidy.{solid_is}
use Rattle.edit.specs.Walls.{wall_keeps}
use Rattle.edit.specs.Carve.{rows_trimmed}
use Rattle.edit.proofs.moves.carve_rows.Goals as goal

pub carve_lower-requires-clause-wall_at : goal.carve_lower-requires-clause-wall_at
carve_lower-requires-clause-wall_at c =
    let t = c.args.t.now in
    let a = c.args.a in
    let r = c.requires.rows in
    let x = c.carve_upper.ensures.trim in
    let wide = (c.requires.cuttable.tidy.whole.good.formed a (solid_is t a c.requires.cuttable.solid)).wide in
    λ h. wall_keeps t c.carve_upper.new.t a a c.args.bottom c.args.wall wide x.left x.keeps (c.requires.wall_at (omega (arith, h, x.bottom)))

pub returns : goal.returns
returns c =
    let t = c.args.t.now in
    let a = c.args.a in
    rows_trimmed t c.carve_upper.new.t c.carve_lower.new.t a c.carve_lower.result (num t a LEFT)
    (num t a BOTTOM) (num t a RIGHT) c.args.top c.args.bottom c.carve_upper.ensures c.carve_lower.ensures
