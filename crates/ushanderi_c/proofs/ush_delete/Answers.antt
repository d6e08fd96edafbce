-- `ushanderi_c::ush_delete` meets the promise of delete. Assumes nothing.
use Rattle.ushanderi.specs.Editing.{delete_bits}
use Rattle.ushanderi_c.proofs.ush_delete.Goals as goal

pub returns : goal.returns
returns c =
    delete_bits _ _ _ _ _ c.ranges.x c.ranges.y c.ush_delete.ensures
