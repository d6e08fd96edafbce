-- `ushanderi::reading::search` meets its promise: where the checks refuse, what they say; else what `search_in` gives. Assumes nothing.
use Rattle.std.specs.Prelude.{Ok, Err}
use Rattle.ushanderi.specs.Entry.{admits_bits, search_refused}
use Rattle.ushanderi.specs.ReadingAreas.{search_same}
use Rattle.ushanderi.proofs.reading.search.Goals as goal

pub returns-in-Ok : goal.returns-in-Ok
returns-in-Ok c =
    let (_, e) = admits_bits _ _ _ _ _ c.ranges.left c.ranges.bottom c.ranges.right c.ranges.top (Ok c.in-Ok.rect) c.in-Ok.ensures in
    search_same e c.search_in.ensures

pub returns-in-Err : goal.returns-in-Err
returns-in-Err c =
    search_refused _ _ (admits_bits _ _ _ _ _ c.ranges.left c.ranges.bottom c.ranges.right c.ranges.top (Err c.in-Err.refusal) c.in-Err.ensures) c.from.ensures
