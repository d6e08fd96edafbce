-- `ushanderi::host::ush_find` meets the promise of find. Assumes nothing.
use mathlib.Core.Path.{sym, subst}
use Rattle.ushanderi.specs.Promises.{FindSays}
use Rattle.ushanderi.specs.Reading.{find_bits}
use Rattle.ushanderi.proofs.host.ush_find.Goals as goal

pub returns : goal.returns
returns c =
    subst (FindSays _ _ _) (sym c.answer_of.ensures) (find_bits _ _ _ _ c.ranges.x c.ranges.y c.find.ensures)
