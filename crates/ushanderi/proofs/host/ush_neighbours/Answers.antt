-- `ushanderi::host::ush_neighbours` meets the promise of neighbours. Assumes nothing.
use Rattle.ushanderi.specs.ReadingSides.{neighbours_bits}
use Rattle.ushanderi.proofs.host.ush_neighbours.Goals as goal

pub returns : goal.returns
returns c =
    neighbours_bits _ _ _ c.ranges.x c.ranges.y c.ranges.side c.neighbours.ensures
