-- `ushanderi::reports::density` meets its promise. Assumes nothing.
use mathlib.Core.Path.{◌∙◌}
use Rattle.std.specs.Prelude.{Ok, Err}
use Rattle.ruler.specs.Ruler.{length_bits}
use Rattle.ushanderi.specs.Entry.{admits_bits, density_refused}
use Rattle.ushanderi.specs.Reports.{density_same}
use Rattle.ushanderi.proofs.reports.density.Goals as goal

pub returns-in-Ok : goal.returns-in-Ok
returns-in-Ok c =
    let (_, e) = admits_bits _ _ _ _ _ c.ranges.left c.ranges.bottom c.ranges.right c.ranges.top (Ok c.in-Ok.rect) c.in-Ok.ensures in
    density_same e (c.length.ensures ∙ length_bits c.args.width c.ranges.width) (c.length-in-Ok.ensures ∙ length_bits c.args.height c.ranges.height)
    c.density_in.ensures

pub returns-in-Err : goal.returns-in-Err
returns-in-Err c =
    density_refused _ _ _ _ _ (admits_bits _ _ _ _ _ c.ranges.left c.ranges.bottom c.ranges.right c.ranges.top (Err c.in-Err.refusal) c.in-Err.ensures) c.from.ensures
