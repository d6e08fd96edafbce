-- `delete::take_left` meets its contract. Assumes nothing.
use Rattle.geometry.specs.Cases.{yes, no}
use Rattle.edit.specs.Delete.{beside_ready, neighbour_wall, left_joins, left_taken, left_kept}
use Rattle.edit.proofs.delete.take_left.Goals as goal

pub carve_rows-q-requires : goal.carve_rows-q-requires
carve_rows-q-requires c =
    let t = c.args.t.now in
    let n = c.args.n in
    let k = c.args.k in
    let b = c.args.bottom in
    let p = c.args.top in
    let (g, e) = yes c.is_kind.ensures c.if-is_kind.true in
    let w = beside_ready t c.paint.new.t n k _ b p c.requires.takes (c.requires.left_of.beside g) e c.paint.ensures in
    record { cuttable = w.cuttable; shut = w.filled.shut; rows = w.rows; wall_at = neighbour_wall t c.paint.new.t n k b p c.args.wall c.requires.takes.tidy.whole w c.requires.space_wall }

pub join-requires : goal.join-requires
join-requires c =
    let t = c.args.t.now in
    let n = c.args.n in
    let k = c.args.k in
    let b = c.args.bottom in
    let p = c.args.top in
    let (g, e) = yes c.is_kind.ensures c.if-is_kind.true in
    let w = beside_ready t c.paint.new.t n k _ b p c.requires.takes (c.requires.left_of.beside g) e c.paint.ensures in
    left_joins t c.paint.new.t c.carve_rows-q.new.t n k c.carve_rows-q.result b p c.requires.takes c.requires.left_of w c.carve_rows-q.ensures

pub returns-then-is_kind : goal.returns-then-is_kind
returns-then-is_kind c =
    let t = c.args.t.now in
    let n = c.args.n in
    let k = c.args.k in
    let b = c.args.bottom in
    let p = c.args.top in
    let (g, e) = yes c.is_kind.ensures c.if-is_kind.true in
    let w = beside_ready t c.paint.new.t n k _ b p c.requires.takes (c.requires.left_of.beside g) e c.paint.ensures in
    left_taken t c.paint.new.t c.carve_rows-q.new.t n k c.carve_rows-q.result b p c.requires.takes c.requires.left_of w c.carve_rows-q.ensures
    c.join.new.t c.join.ensures

pub returns : goal.returns
returns c =
    left_kept c.args.t.now c.args.k c.args.n c.args.bottom c.args.top c.requires.takes c.requires.left_of (λ g e. no c.is_kind.ensures c.if-is_kind.false (g, e))
