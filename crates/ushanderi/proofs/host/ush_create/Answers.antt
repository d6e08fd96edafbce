-- `ushanderi::host::ush_create` meets the promise of create. Assumes nothing.
use Rattle.ruler.specs.Ruler.{ruler_bits}
use Rattle.ushanderi.specs.ReadingAreas.{area_bits}
use Rattle.ushanderi.specs.Editing.{create_same}
use Rattle.ushanderi.proofs.host.ush_create.Goals as goal

pub returns : goal.returns
returns c =
    let e = area_bits _ _ _ _ c.ranges.left c.ranges.bottom c.ranges.right c.ranges.top in
    create_same e (ruler_bits c.args.label c.ranges.label) c.create.ensures
