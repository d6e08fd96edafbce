-- `ushanderi::reading::enumerate` meets its promise: where the checks refuse, what they say; else what `enumerate_in` gives. Assumes nothing.
use Rattle.std.specs.Prelude.{Ok}
use Rattle.ushanderi.specs.Entry.{admits_bits}
use Rattle.ushanderi.specs.ReadingAreas.{enumerate_same}
use Rattle.ushanderi.proofs.reading.enumerate.Goals as goal

pub returns-in-Ok : goal.returns-in-Ok
returns-in-Ok c =
    let (_, e) = admits_bits _ _ _ _ _ c.ranges.left c.ranges.bottom c.ranges.right c.ranges.top (Ok c.in-Ok.rect) c.in-Ok.ensures in
    enumerate_same e c.enumerate_in.ensures
