-- `ushanderi::reading::find_in` meets its contract: any used record serves as the start. Assumes nothing.
use mathlib.Core.Path.{refl}
use Rattle.geometry.specs.Cases.{yes}
use Rattle.ushanderi.specs.Promises.{FindSays}
use Rattle.ushanderi.specs.Reading.{fit_forms}
use Rattle.ushanderi.proofs.reading.find_in.Goals as goal

pub start-from-requires : goal.start-from-requires
start-from-requires c = fit_forms _ c.requires

pub find-requires : goal.find-requires
find-requires c =
    let f = c.requires in
    record { forms = fit_forms _ f; size_right = f.size; used_in = c.start-from.ensures.used; in_plane = yes c.in_plane.ensures c.if-in_plane.true }

pub returns-then-in_plane : goal.returns-then-in_plane
returns-then-in_plane c = FindSays.done c.requires c.find.result c.find.ensures refl
