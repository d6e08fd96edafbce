-- `often::often` meets its contract. The invariant: the runs so far took the step where it is. Assumes nothing.
use Rattle.std.proofs.Common.{◌≡◌, ◌+◌, arith, of_calls}
use Rattle.geometry.specs.Picture.{ZERO}
use Rattle.repeated.specs.Often.{Often, often_some}
use Rattle.repeated.proofs.often.often.Goals as goal

pub loop-hint-init : goal.loop-hint-init
loop-hint-init g c = record { callable = c.requires; runs = Often.none }

pub loop-hint-preserved : goal.loop-hint-preserved
loop-hint-preserved g c =
    let i = c.loop-hint.invariant.callable in
    record { callable = search of_calls; runs = Often.run _ _ _ _ _ c.loop-hint.invariant.runs c.step.ensures }

pub unwrap-requires : goal.unwrap-requires
unwrap-requires g c = often_some _ _ _ _ _ _ c.loop-hint.invariant.runs (omega arith)

pub returns : goal.returns
returns g c =
    let e : c.args.from + ZERO + 1 + c.args.times ≡ c.loop-hint.hint = omega arith in
    rw (e, ← c.unwrap.ensures) c.loop-hint.invariant.runs
