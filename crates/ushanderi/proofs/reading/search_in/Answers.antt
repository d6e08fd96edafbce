-- `ushanderi::reading::search_in` meets its contract, case by case. Assumes nothing.
use mathlib.Core.Path.{ap, ◌∙◌}
use Rattle.ushanderi.specs.Answers.{with_cell}
use Rattle.ushanderi.specs.Promises.{SearchSays}
use Rattle.ushanderi.specs.Reading.{fit_forms}
use Rattle.ushanderi.proofs.reading.search_in.Goals as goal

pub first_used-from-requires : goal.first_used-from-requires
first_used-from-requires c = fit_forms _ c.requires

pub search-requires : goal.search-requires
search-requires c =
    record { forms = fit_forms _ c.requires; size_right = c.requires.size; used_in = c.first_used-from.ensures.used; rect_right = c.args.rect.right }

pub returns-in-Err : goal.returns-in-Err
returns-in-Err c =
    let x = c.in-Err.met.x in
    let y = c.in-Err.met.y in
    SearchSays.met c.requires c.args.rect.right _ _ _ c.in-Err.ensures (c.with_cell.ensures ∙ ap (λ a. with_cell a x y) c.done.ensures)
