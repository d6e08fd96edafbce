use Rattle.std.proofs.Common.{refl, to_z-of_z}
use Rattle.table.specs.View.{there}
use Rattle.table.proofs.place.Goals as goal

pub returns-in-Some : goal.returns-in-Some
returns-in-Some c = there c.in-Some.i (rw (to_z-of_z c.ranges.index) at c.in-Some.ensures) refl refl
