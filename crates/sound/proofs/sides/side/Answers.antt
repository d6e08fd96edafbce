-- `sound::sides::side` meets its contract: the walk from tr goes along the whole side. Assumes nothing.
use Rattle.sound.specs.Sides.{side_start, side_column}
use Rattle.sound.proofs.sides.side.Goals as goal

pub column-requires : goal.column-requires
column-requires c =
    let p = c.requires in
    let s = side_start _ _ _ _ p.0 p.1 c.read-bottom.ensures c.if-right-ge-HIGH.false c.follow.ensures in
    (p.0, (s.0, (s.1, c.read-bottom.ensures.fits.bottom)))

pub returns-else-right-ge-HIGH : goal.returns-else-right-ge-HIGH
returns-else-right-ge-HIGH c =
    let p = c.requires in
    side_column _ _ _ _ p.0 p.1 c.read-bottom.ensures c.if-right-ge-HIGH.false c.follow.ensures _ c.column.ensures
