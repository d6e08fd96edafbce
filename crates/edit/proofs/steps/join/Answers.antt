-- `edit::steps::join` meets its contract: the law of the turned sides and of the words merged. Assumes nothing.
use Rattle.edit.specs.Rejoin.{join_merge, join_done}
use Rattle.edit.proofs.steps.join.Goals as goal

pub merge-requires : goal.merge-requires
merge-requires c =
    join_merge _ _ _ _ c.requires _ _ c.turn_sides.ensures

pub returns : goal.returns
returns c =
    join_done _ _ _ _ _ _ _ c.requires c.follow-left.ensures c.turn_sides.ensures c.merge.ensures
