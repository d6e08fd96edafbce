-- `delete::vacate` meets its contract. Assumes nothing.
use Rattle.edit.specs.Delete.{took_right_of, run_openable, vacated}
use Rattle.edit.proofs.delete.vacate.Goals as goal

pub take_right-q-requires-clause-right_of : goal.take_right-q-requires-clause-right_of
take_right-q-requires-clause-right_of c =
    let t = c.args.t.now in
    let i = c.args.i in
    let b = c.args.s.row in
    let p = c.args.top in
    took_right_of t c.take_left-k.new.t i c.take_left-k.result c.args.s.right b p c.requires.takes c.take_left-k.ensures c.requires.right_of

pub open_up-requires : goal.open_up-requires
open_up-requires c =
    run_openable c.args.t.now c.take_left-k.new.t c.take_right-q.new.t c.args.i c.take_left-k.result c.take_right-q.result c.args.s.row c.args.top c.take_left-k.ensures c.take_right-q.ensures

pub returns : goal.returns
returns c =
    vacated c.args.t.now c.take_left-k.new.t c.take_right-q.new.t c.args.i c.take_left-k.result c.take_right-q.result c.args.s.row c.args.top c.take_left-k.ensures c.take_right-q.ensures
    c.open_up.new.t c.open_up.ensures
