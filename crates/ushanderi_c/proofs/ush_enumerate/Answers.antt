-- `ushanderi_c::ush_enumerate` meets the promise of enumerate. Assumes nothing.
use Rattle.ushanderi.specs.ReadingAreas.{area_bits, enumerate_same}
use Rattle.ushanderi_c.proofs.ush_enumerate.Goals as goal

pub returns : goal.returns
returns c =
    enumerate_same (area_bits _ _ _ _ c.ranges.left c.ranges.bottom c.ranges.right c.ranges.top) c.ush_enumerate.ensures
