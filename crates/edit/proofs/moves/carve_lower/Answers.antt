-- `moves::carve_lower` meets its contract. Assumes nothing.
use native.Mathlib.Omega.{arith}
use Rattle.edit.specs.Tidy.{solid_is}
use Rattle.edit.specs.Walls.{wall_beside}
use Rattle.edit.specs.Carve.{row_splits, lower_piece, lower_off}
use Rattle.edit.proofs.Carve.{cut_room}
use Rattle.edit.proofs.moves.carve_lower.Goals as goal

pub take-j-requires : goal.take-j-requires
take-j-requires c =
    cut_room c.args.t.now c.args.a c.requires.cuttable

pub split_at-requires : goal.split_at-requires
split_at-requires c =
    let t = c.args.t.now in
    let a = c.args.a in
    let h = c.requires.a_bound.1 in
    record { splits = row_splits t a c.take-j.result c.args.c c.requires.cuttable c.take-j.ensures (omega arith) h; beside_cut = wall_beside t a c.args.c c.args.wall c.requires.cuttable.tidy.whole (solid_is t a c.requires.cuttable.solid) h (c.requires.wall_at (omega arith)) }

pub open_up-requires : goal.open_up-requires
open_up-requires c =
    lower_piece c.args.t.now c.split_at.new.t c.args.a c.take-j.result c.args.c
    c.requires.cuttable.tidy c.requires.cuttable.solid
    c.split_at.ensures c.requires.shut

pub returns-then-word-c : goal.returns-then-word-c
returns-then-word-c c =
    lower_off c.args.t.now c.split_at.new.t c.args.a
    c.take-j.result c.args.c c.requires.cuttable.tidy c.requires.cuttable.solid
    c.split_at.ensures c.requires.shut c.open_up.new.t c.open_up.ensures
