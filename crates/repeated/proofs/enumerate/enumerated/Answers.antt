-- `enumerate::enumerated` meets its contract. Assumes nothing.
use mathlib.Core.Path.{refl}
use Rattle.std.proofs.lemmas.Result.{err_from_is_err_and}
use Rattle.repeated.specs.Says.{EnumerateSays}
use Rattle.repeated.proofs.enumerate.enumerated.Goals as goal

pub returns-in_err-enter : goal.returns-in_err-enter
returns-in_err-enter c =
    let p = err_from_is_err_and c.from_residual.result c.from_residual.ensures.1 in
    rw (p.1, p.2) (EnumerateSays.unfit c.in_err-enter.ensures refl)

pub returns-then-room-n : goal.returns-then-room-n
returns-then-room-n c =
    EnumerateSays.short c.in_ok-enter.ensures.0 c.area_often-n.result (rw (← c.in-Some.ensures) c.area_often-n.ensures) c.if-room-n.true refl

pub returns : goal.returns
returns c =
    EnumerateSays.done c.in_ok-enter.ensures.0 c.area_often-n.result (rw (← c.in-Some.ensures) c.area_often-n.ensures) c.if-room-n.false refl
