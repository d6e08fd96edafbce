-- `ushanderi::host::ush_density` meets the promise of density. Assumes nothing.
use Rattle.ruler.specs.Ruler.{length_bits}
use Rattle.ushanderi.specs.ReadingAreas.{area_bits}
use Rattle.ushanderi.specs.Reports.{density_same}
use Rattle.ushanderi.proofs.host.ush_density.Goals as goal

pub returns : goal.returns
returns c =
    density_same (area_bits _ _ _ _ c.ranges.left c.ranges.bottom c.ranges.right c.ranges.top) (length_bits c.args.width c.ranges.width)
    (length_bits c.args.height c.ranges.height) c.density.ensures
