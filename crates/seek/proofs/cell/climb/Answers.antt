-- `seek::cell::climb` meets its contract. Each turn is one step up, and tops rise. Assumes nothing.
use Rattle.std.proofs.Common.{refl, arith}
use Rattle.seek.specs.Find.{climbs}
use Rattle.seek.specs.Legs.{here, up}
use Rattle.seek.proofs.cell.climb.Goals as goal

pub loop-k-init : goal.loop-k-init
loop-k-init c = record { is = c.requires.is_in; way = here refl }

pub loop-k-preserved : goal.loop-k-preserved
loop-k-preserved c = record {
  is = rw c.follow-k.ensures (climbs _ c.requires.forms c.loop-k.k c.args.y c.loop-k.invariant.is (omega arith) c.requires.y_bound).is;
  way = up _ c.loop-k.invariant.way (omega arith) c.follow-k.ensures;
}
