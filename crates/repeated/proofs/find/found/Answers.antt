-- `find::found` meets its contract. Assumes nothing.
use mathlib.Core.Path.{refl}
use Rattle.std.proofs.lemmas.Result.{err_from_is_err_and}
use Rattle.repeated.specs.Says.{FindSays}
use Rattle.repeated.proofs.find.found.Goals as goal

pub returns-in_err-enter : goal.returns-in_err-enter
returns-in_err-enter c =
    let p = err_from_is_err_and c.from_residual.result c.from_residual.ensures.1 in
    rw (p.1, p.2) (FindSays.unfit c.in_err-enter.ensures)

pub returns : goal.returns
returns c = let e = c.in-Some.ensures in FindSays.done c.in_ok-enter.ensures.0 c.find_often-k.result (rw (← e.0, ← e.1) c.find_often-k.ensures) refl
