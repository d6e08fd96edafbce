-- `edit::steps::split` meets its contract: the walk ends beside the cut. Assumes nothing.
use Rattle.edit.specs.Restitch.{split_left, split_beside}
use Rattle.edit.proofs.steps.split.Goals as goal

pub walk-kl-requires : goal.walk-kl-requires
walk-kl-requires c =
    split_left _ _ _ _ _ c.requires _ c.follow-left.ensures

pub split_at-requires-clause-beside_cut : goal.split_at-requires-clause-beside_cut
split_at-requires-clause-beside_cut c =
    let h = c.requires in
    split_beside _ _ _ _ _ h _ _ c.follow-left.ensures c.walk-kl.ensures
