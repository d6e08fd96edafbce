-- `delete::cut_off` meets its contract. Assumes nothing.
use native.Mathlib.Omega.{arith}
use Rattle.edit.specs.Carve.{row_splits}
use Rattle.edit.proofs.Carve.{cut_room}
use Rattle.edit.specs.Delete.{left_beside, slab_cut}
use Rattle.edit.proofs.delete.cut_off.Goals as goal

pub take-j-requires : goal.take-j-requires
take-j-requires c =
    cut_room c.args.t.now c.args.i c.requires.cuttable

pub split_at-requires : goal.split_at-requires
split_at-requires c =
    let t = c.args.t.now in
    let i = c.args.i in
    record { splits = row_splits t i c.take-j.result c.args.stop c.requires.cuttable c.take-j.ensures (omega arith) (omega arith); beside_cut = left_beside t i c.args.n c.args.stop c.requires.cuttable.tidy.whole c.requires.cuttable.solid (omega arith) c.requires.left_of }

pub returns-then-word-stop : goal.returns-then-word-stop
returns-then-word-stop c =
    slab_cut c.args.t.now c.split_at.new.t c.args.i c.take-j.result c.args.stop c.requires.cuttable.tidy
    c.requires.cuttable.solid c.split_at.ensures
