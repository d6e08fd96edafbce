use mathlib.Core.Path.{subst}
use mir.Facts.{to_z-of_z}
use Rattle.table.specs.View.{Places}
use Rattle.ushanderi.proofs.host.ush_view.Goals as goal

pub returns : goal.returns
returns c =
    subst (λ i. Places c.args.t.now i c.place.result.at c.place.result.len) (to_z-of_z c.ranges.index) c.place.ensures
