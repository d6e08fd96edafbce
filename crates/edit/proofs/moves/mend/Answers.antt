-- `moves::mend` meets its contract. Assumes nothing.
use Rattle.edit.specs.Mend.{mended}
use Rattle.edit.proofs.moves.mend.Goals as goal

pub returns : goal.returns
returns c =
    mended c.args.t.now c.mend_over.new.t c.mend_under.new.t c.args.p
    c.mend_over.ensures c.mend_under.ensures
