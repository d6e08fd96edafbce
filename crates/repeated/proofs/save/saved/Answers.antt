-- `save::saved` meets its contract. Assumes nothing.
use mathlib.Core.Path.{refl}
use Rattle.std.proofs.lemmas.Result.{err_from_is_err_and}
use Rattle.repeated.specs.Says.{SaveSays}
use Rattle.repeated.proofs.save.saved.Goals as goal

pub returns-in_err-solids : goal.returns-in_err-solids
returns-in_err-solids c =
    let p = err_from_is_err_and c.from_residual.result c.from_residual.ensures.1 in
    rw (p.1, p.2) (SaveSays.unfit c.in_err-solids.ensures refl)

pub returns : goal.returns
returns c = SaveSays.done c.in_ok-solids.ensures.0 _ c.save_often-n.ensures refl
