-- `ushanderi_c::ush_search` meets the promise of area search. Assumes nothing.
use Rattle.ushanderi.specs.ReadingAreas.{area_bits, search_same}
use Rattle.ushanderi_c.proofs.ush_search.Goals as goal

pub returns : goal.returns
returns c =
    search_same (area_bits _ _ _ _ c.ranges.left c.ranges.bottom c.ranges.right c.ranges.top) c.ush_search.ensures
