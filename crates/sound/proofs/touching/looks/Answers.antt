-- `sound::touching::looks` meets its contract. Assumes nothing.
use Rattle.std.proofs.Common.{arith}
use Rattle.geometry.specs.Cases.{yes}
use Rattle.geometry.specs.Picture.{SOLID}
use Rattle.geometry.specs.Tiling.{neq→eqb}
use Rattle.sound.specs.Touching.{via, looks_space, looks_solid}
use Rattle.sound.proofs.touching.looks.Goals as goal

pub returns-then-kind-ne-SOLID : goal.returns-then-kind-ne-SOLID
returns-then-kind-ne-SOLID c = (
  λ _. looks_space _ _ _ _ c.follow.ensures c.follow-else-kind-eq-FREE.ensures (λ e. omega arith) (yes c.agree.ensures c.if-agree.true),
  λ _. neq→eqb c.word-kind.result SOLID c.if-kind-ne-SOLID.true,
)

pub returns-else-kind-ne-SOLID : goal.returns-else-kind-ne-SOLID
returns-else-kind-ne-SOLID c =
    via c.ahead.ensures (looks_solid _ _ _ _ c.follow.ensures c.follow-else-kind-eq-FREE.ensures (λ e. omega arith) (yes c.agree.ensures c.if-agree.true))
