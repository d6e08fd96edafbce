-- `reports::reported` meets its contract: a slice that is too short is seen before the runs. Assumes nothing.
use mathlib.Core.Path.{refl, ap}
use native.Mathlib.Omega.{arith}
use Rattle.std.proofs.lemmas.Result.{err_from_is_err_and}
use Rattle.repeated.specs.Answers.{answered}
use Rattle.repeated.specs.Says.{DensitySays}
use Rattle.repeated.proofs.reports.reported.Goals as goal

pub returns-in_err-enter : goal.returns-in_err-enter
returns-in_err-enter c =
    let p = err_from_is_err_and c.from_residual.result c.from_residual.ensures.1 in
    rw (p.1, p.2) (DensitySays.unfit c.in_err-enter.ensures refl)

pub returns : goal.returns
returns c =
    let v = c.in-Some-new.windows in
    let e = c.in-Some-new.ensures in
    let d = DensitySays.done c.in_ok-enter.ensures.0 v.rect.right v.divides (omega (arith, c.count-count.ensures, c.if-out-count.false)) _ c.density_often.ensures (ap (answered 0) c.count-count.ensures) in
    rw (← e.1, ← e.2, ← c.in-Some.ensures, ← e.0) d
