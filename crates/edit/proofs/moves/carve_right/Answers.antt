-- `moves::carve_right` meets its contract. Assumes nothing.
use native.Mathlib.Omega.{arith}
use Rattle.edit.specs.Carve.{column_splits, right_piece, right_off}
use Rattle.edit.proofs.Carve.{cut_room}
use Rattle.edit.proofs.moves.carve_right.Goals as goal

pub take-right-requires : goal.take-right-requires
take-right-requires c =
    cut_room c.args.t.now c.args.a c.requires.cuttable

pub split-requires : goal.split-requires
split-requires c =
    column_splits c.args.t.now c.args.a c.take-right.result c.args.c c.requires.cuttable c.take-right.ensures (omega arith)
    (omega arith)

pub open_up-requires : goal.open_up-requires
open_up-requires c =
    right_piece c.args.t.now c.split.new.t c.args.a c.take-right.result c.args.c
    c.requires.cuttable.tidy c.requires.cuttable.solid
    c.split.ensures c.requires.shut.left c.requires.shut.right

pub returns-then-c-word : goal.returns-then-c-word
returns-then-c-word c =
    right_off c.args.t.now c.split.new.t c.args.a
    c.take-right.result c.args.c c.requires.cuttable.tidy c.requires.cuttable.solid
    c.split.ensures c.requires.shut.left c.open_up.new.t c.open_up.ensures
