-- `seek::cell::climb` meets its contract. Each turn is one step up, and tops rise. Assumes nothing.
use Rattle.std.specs.Prelude.{◌-◌}
use Rattle.geometry.specs.Picture.{HIGH}
use Rattle.table.specs.Words.{num, TOP}
use Rattle.seek.specs.Find.{IsIn}
use Rattle.seek.specs.Legs.{Upward}
use Rattle.seek.proofs.cell.climb.Given as goal

abbrev pub invariant-loop-k : goal.invariant-loop-k
invariant-loop-k l = record { is : IsIn l.t l.k; way : Upward l.t l.from l.y l.k }

abbrev pub decreases-loop-k : goal.decreases-loop-k
decreases-loop-k l = HIGH - num l.t l.k TOP
