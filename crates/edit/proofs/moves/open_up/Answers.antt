-- `moves::open_up` meets its contract. Assumes nothing.
use Rattle.edit.specs.Paint.{emptied}
use Rattle.edit.specs.Mend.{opened}
use Rattle.edit.proofs.moves.open_up.Goals as goal

pub mend-requires : goal.mend-requires
mend-requires c =
    (emptied c.args.t.now c.paint.new.t c.args.p c.requires c.paint.ensures).ajar

pub returns : goal.returns
returns c =
    let t = c.args.t.now in
    opened t c.paint.new.t c.mend.new.t c.args.p
    (emptied t c.paint.new.t c.args.p c.requires c.paint.ensures)
    c.mend.ensures
