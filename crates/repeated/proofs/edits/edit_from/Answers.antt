-- `edits::edit_from` meets its contract. Assumes nothing.
use Rattle.repeated.specs.Edit.{edited_once}
use Rattle.repeated.proofs.edits.edit_from.Goals as goal

pub returns : goal.returns
returns c = edited_once _ _ _ _ _ _ _ _ _ c.requires c.create-k.ensures c.delete.ensures
