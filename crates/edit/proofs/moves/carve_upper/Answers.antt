-- `moves::carve_upper` meets its contract. Assumes nothing.
use native.Mathlib.Omega.{arith}
use Rattle.edit.specs.Carve.{row_splits, upper_piece, upper_off}
use Rattle.edit.proofs.Carve.{cut_room}
use Rattle.edit.proofs.moves.carve_upper.Goals as goal

pub take-upper-requires : goal.take-upper-requires
take-upper-requires c =
    cut_room c.args.t.now c.args.a c.requires.cuttable

pub split-requires : goal.split-requires
split-requires c =
    row_splits c.args.t.now c.args.a c.take-upper.result c.args.c c.requires.cuttable c.take-upper.ensures (omega arith) (omega arith)

pub open_up-requires : goal.open_up-requires
open_up-requires c =
    upper_piece c.args.t.now c.split.new.t c.args.a c.take-upper.result c.args.c
    c.requires.cuttable.tidy c.requires.cuttable.solid
    c.split.ensures c.requires.shut

pub returns-then-c-word : goal.returns-then-c-word
returns-then-c-word c =
    upper_off c.args.t.now c.split.new.t c.args.a
    c.take-upper.result c.args.c c.requires.cuttable.tidy c.requires.cuttable.solid
    c.split.ensures c.requires.shut c.open_up.new.t c.open_up.ensures
