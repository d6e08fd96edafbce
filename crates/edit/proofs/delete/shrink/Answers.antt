-- `delete::shrink` meets its contract. Assumes nothing.
use Rattle.edit.specs.Delete.{shrink_tidy, shrink_cuttable, slab_left, slab_wall, slab_right, shrunk, shrunk_away}
use Rattle.edit.proofs.delete.shrink.Goals as goal

pub cut_off-slab-requires-clause-cuttable : goal.cut_off-slab-requires-clause-cuttable
cut_off-slab-requires-clause-cuttable c = shrink_cuttable c.args.t.now c.args.i c.requires

pub vacate-requires-clause-left_of : goal.vacate-requires-clause-left_of
vacate-requires-clause-left_of c =
    let d = shrink_tidy c.args.t.now c.args.i c.requires in
    rw c.word-top.ensures.is (slab_left c.args.t.now c.cut_off-slab.new.t c.args.i c.cut_off-slab.result c.highest-s.result.left c.highest-s.result.row _ c.highest-s.result.row d c.cut_off-slab.ensures c.highest-s.ensures.left)

pub vacate-requires-clause-space_wall : goal.vacate-requires-clause-space_wall
vacate-requires-clause-space_wall c =
    let d = shrink_tidy c.args.t.now c.args.i c.requires in
    let r = c.highest-s.result.row in
    slab_wall c.args.t.now c.cut_off-slab.new.t c.args.i c.cut_off-slab.result c.highest-s.result.left r _ r r c.wall_of-wall.result d c.requires.solid c.cut_off-slab.ensures c.highest-s.ensures.left c.wall_of-wall.ensures

pub vacate-requires-clause-right_of : goal.vacate-requires-clause-right_of
vacate-requires-clause-right_of c =
    let d = shrink_tidy c.args.t.now c.args.i c.requires in
    rw c.word-top.ensures.is (slab_right c.args.t.now c.cut_off-slab.new.t c.args.i c.cut_off-slab.result c.highest-s.result.right c.highest-s.result.row _ c.highest-s.result.row d c.cut_off-slab.ensures c.highest-s.ensures.right)

pub returns-then-slab-i : goal.returns-then-slab-i
returns-then-slab-i c =
    shrunk_away c.args.t.now c.cut_off-slab.new.t c.args.i c.cut_off-slab.result c.highest-s.result.row c.requires c.cut_off-slab.ensures c.highest-s.ensures.high c.vacate.new.t c.vacate.ensures
    c.if-slab-i.true

pub returns-else-slab-i : goal.returns-else-slab-i
returns-else-slab-i c =
    shrunk c.args.t.now c.cut_off-slab.new.t c.args.i c.cut_off-slab.result c.highest-s.result.row c.requires c.cut_off-slab.ensures c.highest-s.ensures.high c.vacate.new.t c.vacate.ensures c.if-slab-i.false
