use mathlib.Core.Path.{subst}
use mir.Facts.{to_z-of_z}
use Rattle.table.specs.View.{Places}
use Rattle.ushanderi_c.proofs.ush_view.Goals as goal

pub returns : goal.returns
returns c =
    subst (λ i. Places c.args.t.now i c.ush_view.result.at c.ush_view.result.len) (to_z-of_z c.ranges.index) c.ush_view.ensures
