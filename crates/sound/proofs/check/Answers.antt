-- `sound::check` meets its contract: a table that passes every test has the form of a sound one, and one that has it passes each. Assumes nothing.
use Rattle.std.proofs.Common.{sym, subst, T}
use Rattle.sound.specs.Verdict.{LaidIs, not_ready, not_measured, not_laid, passed}
use Rattle.geometry.specs.Cases.{yes, no}
use Rattle.sound.proofs.check.Goals as goal
use Rattle.sound.proofs.check.Goals.{else-measured-via-then-measured+else-laid, else-measured-via-else-measured}

pub returns-in_err-area : goal.returns-in_err-area
returns-in_err-area c = rw c.from_residual.ensures (not_ready _ _ _ c.requires c.in_err-area.ensures)

pub returns-then-laid : goal.returns-then-laid
returns-then-laid c =
    passed _ _ _ c.requires c.in_ok-area.ensures (yes c.measured.ensures c.if-measured.true) (c.laid.ensures.laid (subst T (sym c.if-laid.true) tt))

pub returns-else-measured : goal.returns-else-measured
returns-else-measured c =
    elim c.else-measured.branch [
      | else-measured-via-then-measured+else-laid w ↦ not_laid _ (subst (LaidIs _) w.if-laid.false w.laid.ensures)
      | else-measured-via-else-measured w ↦ not_measured _ _ _ c.in_ok-area.ensures (no c.measured.ensures w.if-measured.false)
    ]
