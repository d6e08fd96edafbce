-- `ushanderi::reading::neighbours` meets its promise: a find's refusal goes out unchanged; else what `list_side` gives. Assumes nothing.
use mathlib.Core.Path.{refl, ◌∙◌}
use Rattle.ruler.specs.Ruler.{ruler_bits}
use Rattle.geometry.specs.Cases.{yes, no}
use Rattle.ushanderi.specs.Promises.{NeighboursSays}
use Rattle.ushanderi.specs.Reading.{fit_forms, find_at, find_bits}
use Rattle.ushanderi.specs.ReadingSides.{finds_in_plane, side_is, side_not, side_neighbours}
use Rattle.ushanderi.proofs.reading.neighbours.Goals as goal

pub list_side-requires : goal.list_side-requires
list_side-requires c =
    let (f, h) = find_at _ _ _ _ c.in-Ok.ensures in
    record { fit = f; used_in = h.used }

pub returns-then-is_side : goal.returns-then-is_side
returns-then-is_side c =
    let (f, h) = find_at _ _ _ _ (find_bits _ _ _ _ c.ranges.x c.ranges.y c.in-Ok.ensures) in
    let e = c.at-s.ensures.is ∙ ruler_bits c.args.side c.ranges.side in
    let r = yes c.is_side.ensures c.if-is_side.true in
    side_neighbours _ _ _ _ _ _ _ _ _ f (side_is _ _ e r) h c.list_side.ensures

pub returns-else-is_side : goal.returns-else-is_side
returns-else-is_side c =
    let (f, h) = find_at _ _ _ _ (find_bits _ _ _ _ c.ranges.x c.ranges.y c.in-Ok.ensures) in
    let e = c.at-s.ensures.is ∙ ruler_bits c.args.side c.ranges.side in
    NeighboursSays.side f (finds_in_plane _ (fit_forms _ f) _ _ _ h) (side_not _ _ e (no c.is_side.ensures c.if-is_side.false)) c.from.ensures refl
