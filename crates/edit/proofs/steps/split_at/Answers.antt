-- `edit::steps::split_at` meets its contract: what each call asks follows from what the step asks, and the law of the whole. Assumes nothing.
use Rattle.edit.specs.Restitch.{walked, split_right, split_divide, split_done}
use Rattle.edit.proofs.steps.split_at.Goals as goal

pub walk-kr-requires : goal.walk-kr-requires
walk-kr-requires c =
    split_right _ _ _ _ _ c.requires.splits _ c.follow-right.ensures

pub divide-requires : goal.divide-requires
divide-requires c =
    let k = walked _ _ _ _ _ _ _ c.follow-right.ensures c.walk-kr.ensures c.requires.beside_cut in
    split_divide _ _ _ _ _ c.requires.splits _ _ _ k c.turn_sides.ensures

pub returns : goal.returns
returns c =
    let k = walked _ _ _ _ _ _ _ c.follow-right.ensures c.walk-kr.ensures c.requires.beside_cut in
    split_done _ _ _ _ _ _ _ _ _ c.requires.splits k c.turn_sides.ensures c.divide.ensures
