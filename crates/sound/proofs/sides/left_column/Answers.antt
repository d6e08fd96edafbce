-- `sound::sides::left_column` meets its contract: the walk from the corner goes along the whole column. Assumes nothing.
use Rattle.std.proofs.Common.{arith}
use Rattle.sound.specs.Sides.{corner_none, corner_used, corner_column}
use Rattle.sound.proofs.sides.left_column.Goals as goal

pub column-requires : goal.column-requires
column-requires c =
    let (b, k) = c.in-Some.ensures in
    (c.requires, (corner_used _ _ c.requires k b, (omega arith, omega arith)))

pub returns-in-Some : goal.returns-in-Some
returns-in-Some c = let (b, k) = c.in-Some.ensures in corner_column _ _ _ k b c.column.ensures

pub returns-in-None : goal.returns-in-None
returns-in-None c = corner_none _ _ c.in-None.ensures (omega arith)
