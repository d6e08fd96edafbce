-- `neighbours::listed` meets its contract. Assumes nothing.
use mathlib.Core.Path.{refl}
use Rattle.std.proofs.lemmas.Result.{err_from_is_err_and}
use Rattle.repeated.specs.Says.{NeighboursSays}
use Rattle.repeated.proofs.neighbours.listed.Goals as goal

pub returns-in_err-enter : goal.returns-in_err-enter
returns-in_err-enter c =
    let p = err_from_is_err_and c.from_residual.result c.from_residual.ensures.1 in
    rw (p.1, p.2) (NeighboursSays.unfit c.in_err-enter.ensures refl)

pub returns-then-room-n : goal.returns-then-room-n
returns-then-room-n c = let e = c.in-Some.ensures in NeighboursSays.short c.in_ok-enter.ensures.0 c.list_often-n.result (rw (← e.0, ← e.1) c.list_often-n.ensures) c.if-room-n.true refl

pub returns : goal.returns
returns c = let e = c.in-Some.ensures in NeighboursSays.done c.in_ok-enter.ensures.0 c.list_often-n.result (rw (← e.0, ← e.1) c.list_often-n.ensures) c.if-room-n.false refl
