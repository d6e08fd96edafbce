-- `sound::laid` meets its contract, from what its two tests say. Assumes nothing.
use Rattle.std.proofs.Common.{subst}
use Rattle.sound.specs.Verdict.{laid_all}
use Rattle.sound.specs.Sides.{LeftColumn}
use Rattle.sound.proofs.laid.Goals as goal

pub returns-then-left_column : goal.returns-then-left_column
returns-then-left_column c = laid_all _ _ (subst (LeftColumn _) c.if-left_column.true c.left_column.ensures) c.all_beside.ensures
