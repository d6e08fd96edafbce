-- `sound::touching::corner_agrees` meets its contract. Assumes nothing.
use Rattle.std.proofs.Common.{arith}
use Rattle.sound.specs.Touching.{via, over_used, corner_last}
use Rattle.sound.proofs.touching.corner_agrees.Goals as goal

pub last_right-requires-clause-used_in : goal.last_right-requires-clause-used_in
last_right-requires-clause-used_in c = over_used _ _ _ c.follow-over.ensures c.requires.forms c.requires.used_in (omega arith)

pub returns : goal.returns
returns c =
    let l = corner_last _ _ _ c.follow-over.ensures c.requires.forms c.requires.used_in (omega arith) _ (omega arith) (omega arith) (λ e. omega arith) c.last_right.ensures in
    via c.agree.ensures l
