-- `edits::edited` meets its contract. Assumes nothing.
use mathlib.Core.Path.{refl}
use Rattle.std.proofs.lemmas.Result.{err_from_is_err_and}
use Rattle.repeated.specs.Says.{EditSays}
use Rattle.repeated.proofs.edits.edited.Goals as goal

pub returns-in_err-may_edit : goal.returns-in_err-may_edit
returns-in_err-may_edit c =
    let p = err_from_is_err_and c.from_residual.result c.from_residual.ensures.1 in
    rw (p.1, p.2) c.in_err-may_edit.ensures

pub returns : goal.returns
returns c = EditSays.done c.in_ok-may_edit.ensures _ c.edit_often-k.ensures refl
