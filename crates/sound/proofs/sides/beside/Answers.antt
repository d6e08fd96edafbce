-- `sound::sides::beside` meets its contract, from what its two tests say. Assumes nothing.
use Rattle.std.proofs.Common.{subst, arith}
use Rattle.sound.specs.Sides.{Side, space_used, beside_space}
use Rattle.sound.proofs.sides.beside.Goals as goal

pub returns-then-side : goal.returns-then-side
returns-then-side c =
    let p = c.requires in
    let u = space_used _ _ p.1 (omega arith) in
    beside_space _ _ _ p.0 u (subst (Side _ _) c.if-side.true c.side.ensures) c.unstacked.ensures
