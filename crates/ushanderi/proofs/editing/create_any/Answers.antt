-- `ushanderi::editing::create_any` meets its contract: where the checks refuse, what they say; else what `create_one` gives. Assumes nothing.
use mathlib.Core.Path.{refl}
use Rattle.std.proofs.lemmas.Result.{err_from_is_err_and}
use Rattle.ushanderi.specs.Promises.{CreateRefuses}
use Rattle.ushanderi.specs.Reading.{fit_forms}
use Rattle.ushanderi.proofs.editing.create_any.Goals as goal

pub returns-in_err-solids : goal.returns-in_err-solids
returns-in_err-solids c =
    let p = err_from_is_err_and c.from_residual.result c.from_residual.ensures.1 in
    rw (p.1, p.2) (CreateRefuses.unfit _ c.in_err-solids.ensures refl, refl)

pub first_used-from-requires : goal.first_used-from-requires
first_used-from-requires c = fit_forms _ c.in_ok-solids.ensures.0
