-- `ushanderi_c::ush_find` meets the promise of find. Assumes nothing.
use Rattle.ushanderi.specs.Reading.{find_bits}
use Rattle.ushanderi_c.proofs.ush_find.Goals as goal

pub returns : goal.returns
returns c = find_bits _ _ _ _ c.ranges.x c.ranges.y c.ush_find.ensures
