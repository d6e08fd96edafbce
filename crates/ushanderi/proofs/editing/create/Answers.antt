-- `ushanderi::editing::create` meets its promise: the refusal, or the new solid's record. Assumes nothing.
use mathlib.Core.Path.{ap, ◌∙◌}
use Rattle.ruler.specs.Ruler.{ruler_bits}
use Rattle.ushanderi.specs.Answers.{without_cell}
use Rattle.ushanderi.specs.Promises.{CreateSays}
use Rattle.ushanderi.specs.ReadingAreas.{area_bits}
use Rattle.ushanderi.specs.Editing.{create_same}
use Rattle.ushanderi.proofs.editing.create.Goals as goal

pub returns-in-Ok : goal.returns-in-Ok
returns-in-Ok c =
    let e = area_bits _ _ _ _ c.ranges.left c.ranges.bottom c.ranges.right c.ranges.top in
    create_same e (ruler_bits c.args.label c.ranges.label)
    (CreateSays.done _ c.in-Ok.ensures (c.from.ensures ∙ ap without_cell c.done.ensures))

pub returns-in-Err : goal.returns-in-Err
returns-in-Err c =
    let e = area_bits _ _ _ _ c.ranges.left c.ranges.bottom c.ranges.right c.ranges.top in
    let (r, w) = c.in-Err.ensures in
    create_same e (ruler_bits c.args.label c.ranges.label) (CreateSays.refuses r w)
