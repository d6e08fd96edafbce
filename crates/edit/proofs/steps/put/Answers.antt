-- `edit::steps::put` meets its contract: the law of one store. Assumes nothing.
use Rattle.edit.specs.Writes as writes
use Rattle.edit.proofs.steps.put.Goals as goal

pub returns : goal.returns
returns c = writes.put _ _ _ _ _ c.requires c.set_word.ensures
