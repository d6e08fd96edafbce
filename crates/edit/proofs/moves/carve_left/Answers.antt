-- `moves::carve_left` meets its contract. Assumes nothing.
use native.Mathlib.Omega.{arith}
use Rattle.edit.specs.Carve.{column_splits, left_piece, left_off}
use Rattle.edit.proofs.Carve.{cut_room}
use Rattle.edit.proofs.moves.carve_left.Goals as goal

pub take-j-requires : goal.take-j-requires
take-j-requires c =
    cut_room c.args.t.now c.args.a c.requires.cuttable

pub split-requires : goal.split-requires
split-requires c =
    column_splits c.args.t.now c.args.a c.take-j.result c.args.c c.requires.cuttable c.take-j.ensures (omega arith)
    (omega arith)

pub open_up-requires : goal.open_up-requires
open_up-requires c =
    left_piece c.args.t.now c.split.new.t c.args.a c.take-j.result c.args.c
    c.requires.cuttable.tidy c.requires.cuttable.solid
    c.split.ensures c.requires.left_shut

pub returns-then-word-c : goal.returns-then-word-c
returns-then-word-c c =
    left_off c.args.t.now c.split.new.t c.args.a
    c.take-j.result c.args.c c.requires.cuttable.tidy c.requires.cuttable.solid
    c.split.ensures c.requires.left_shut c.open_up.new.t c.open_up.ensures
