-- `edits::rep_edit` meets its contract. Assumes nothing.
use Rattle.repeated.proofs.edits.rep_edit.Goals as goal

pub returns : goal.returns
returns c = rw c.into.ensures c.edited.ensures
