-- `ushanderi::host::ush_enumerate` meets the promise of enumerate. Assumes nothing.
use Rattle.ushanderi.specs.ReadingAreas.{area_bits, enumerate_same}
use Rattle.ushanderi.proofs.host.ush_enumerate.Goals as goal

pub returns : goal.returns
returns c =
    enumerate_same (area_bits _ _ _ _ c.ranges.left c.ranges.bottom c.ranges.right c.ranges.top) c.enumerate.ensures
