-- `delete::take_right` meets its contract. Assumes nothing.
use Rattle.geometry.specs.Cases.{yes, no}
use Rattle.edit.specs.Delete.{beside_ready, beside_slab, right_joins, right_taken, right_kept}
use Rattle.edit.proofs.delete.take_right.Goals as goal

pub carve_rows-q-requires : goal.carve_rows-q-requires
carve_rows-q-requires c =
    let t = c.args.t.now in
    let n = c.args.n in
    let k = c.args.k in
    let b = c.args.bottom in
    let p = c.args.top in
    let (g, e) = yes c.is_kind.ensures c.if-is_kind.true in
    let w = beside_ready t c.paint.new.t n k _ b p c.requires.takes (c.requires.right_of.beside g) e c.paint.ensures in
    record { cuttable = w.cuttable; shut = w.filled.shut; rows = w.rows; wall_at = λ _. beside_slab t c.paint.new.t n k b p c.requires.takes c.requires.right_of w }

pub join-requires : goal.join-requires
join-requires c =
    let t = c.args.t.now in
    let n = c.args.n in
    let k = c.args.k in
    let b = c.args.bottom in
    let p = c.args.top in
    let (g, e) = yes c.is_kind.ensures c.if-is_kind.true in
    let w = beside_ready t c.paint.new.t n k _ b p c.requires.takes (c.requires.right_of.beside g) e c.paint.ensures in
    right_joins t c.paint.new.t c.carve_rows-q.new.t n k c.carve_rows-q.result b p c.requires.takes c.requires.right_of w c.carve_rows-q.ensures

pub returns-then-is_kind : goal.returns-then-is_kind
returns-then-is_kind c =
    let t = c.args.t.now in
    let n = c.args.n in
    let k = c.args.k in
    let b = c.args.bottom in
    let p = c.args.top in
    let (g, e) = yes c.is_kind.ensures c.if-is_kind.true in
    let w = beside_ready t c.paint.new.t n k _ b p c.requires.takes (c.requires.right_of.beside g) e c.paint.ensures in
    right_taken t c.paint.new.t c.carve_rows-q.new.t n k c.carve_rows-q.result b p c.requires.takes c.requires.right_of w c.carve_rows-q.ensures
    c.join.new.t c.join.ensures

pub returns-else-is_kind : goal.returns-else-is_kind
returns-else-is_kind c =
    right_kept c.args.t.now c.args.k c.args.n c.args.bottom c.args.top c.requires.takes c.requires.right_of (λ g e. no c.is_kind.ensures c.if-is_kind.false (g, e))
