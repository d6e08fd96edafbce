-- `sound::touching::ahead` meets its contract. Assumes nothing.
use Rattle.std.proofs.Common.{sym, ◌∙◌}
use Rattle.geometry.specs.Cases.{yes, no}
use Rattle.sound.specs.Touching.{fails, via, ahead_all, not_over, not_right}
use Rattle.sound.proofs.touching.ahead.Goals as goal
use Rattle.sound.proofs.touching.ahead.Goals.{then-agree, else-agree}

pub returns-then-agree-2 : goal.returns-then-agree-2
returns-then-agree-2 c =
    elim c.if-agree.branch [
      | then-agree w ↦ via c.corner_agrees.ensures
          (ahead_all _ _ _ _ c.follow.ensures w.follow-then-agree.ensures (yes c.agree.ensures w.if-agree.true) (yes w.agree-then-agree.ensures (sym w.value-is ∙ c.if-agree-2.true)))
      | else-agree w ↦ absurd (cc (w.value-is, c.if-agree-2.true))
    ]

pub returns-else-agree-2 : goal.returns-else-agree-2
returns-else-agree-2 c =
    rw c.if-agree-2.false (elim c.if-agree.branch [
      | then-agree w ↦ fails (not_over _ _ _ _ c.follow.ensures w.follow-then-agree.ensures (no w.agree-then-agree.ensures (sym w.value-is ∙ c.if-agree-2.false)))
      | else-agree w ↦ fails (not_right _ _ _ c.follow.ensures (no c.agree.ensures w.if-agree.false))
    ])
