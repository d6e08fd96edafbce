-- `search::searched` meets its contract. Assumes nothing.
use mathlib.Core.Path.{refl}
use Rattle.std.proofs.lemmas.Result.{err_from_is_err_and}
use Rattle.repeated.specs.Says.{Sees, SearchSays}
use Rattle.repeated.proofs.search.searched.Goals as goal

pub returns-in_err-enter : goal.returns-in_err-enter
returns-in_err-enter c =
    let p = err_from_is_err_and c.from_residual.result c.from_residual.ensures.1 in
    rw (p.1, p.2) (SearchSays.unfit c.in_err-enter.ensures)

pub returns-in-Ok : goal.returns-in-Ok
returns-in-Ok c = SearchSays.done c.in_ok-enter.ensures.0 c.records.result (Sees.nothing (rw (← c.in-Some.ensures) c.in-Ok.ensures.0) c.records.ensures) refl

pub returns-in-Err : goal.returns-in-Err
returns-in-Err c = let m = c.in-Err.met in SearchSays.done c.in_ok-enter.ensures.0 m.tile (Sees.solid m.x m.y (rw (← c.in-Some.ensures) c.in-Err.ensures)) refl
