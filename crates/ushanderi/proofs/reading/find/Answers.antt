-- `ushanderi::reading::find` meets its promise. Assumes nothing.
use mathlib.Core.Path.{subst₂, ◌∙◌}
use Rattle.std.proofs.lemmas.Result.{err_from_is_err_and}
use Rattle.ruler.specs.Ruler.{ruler_bits}
use Rattle.ushanderi.specs.Promises.{FindSays}
use Rattle.ushanderi.specs.Answers.{answer_of}
use Rattle.ushanderi.proofs.reading.find.Goals as goal

pub returns-in_err-admit : goal.returns-in_err-admit
returns-in_err-admit c =
    let p = err_from_is_err_and c.from_residual.result c.from_residual.ensures.1 in
    rw (p.1, p.2) (FindSays.unfit c.in_err-admit.ensures)

pub returns : goal.returns
returns c =
    subst₂ (λ x y. FindSays c.args.t.now x y (answer_of c.find_in.result))
    (c.at.ensures.is ∙ ruler_bits c.args.x c.ranges.x)
    (c.at-2.ensures.is ∙ ruler_bits c.args.y c.ranges.y)
    c.find_in.ensures
