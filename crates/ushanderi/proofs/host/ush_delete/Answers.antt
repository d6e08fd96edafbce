-- `ushanderi::host::ush_delete` meets the promise of delete. Assumes nothing.
use Rattle.ushanderi.specs.Editing.{delete_bits}
use Rattle.ushanderi.proofs.host.ush_delete.Goals as goal

pub returns : goal.returns
returns c =
    delete_bits _ _ _ _ _ c.ranges.x c.ranges.y c.delete.ensures
