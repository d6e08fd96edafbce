-- `seek::cell::descend` meets its contract. Each turn is one step down, and bottoms fall. Assumes nothing.
use Rattle.std.proofs.Common.{refl, arith}
use Rattle.seek.specs.Find.{sinks}
use Rattle.seek.specs.Legs.{here, down}
use Rattle.seek.proofs.cell.descend.Goals as goal

pub loop-k-init : goal.loop-k-init
loop-k-init c = record { is = c.requires.is_in; way = here refl }

pub loop-k-preserved : goal.loop-k-preserved
loop-k-preserved c = record {
  is = rw c.follow-k.ensures (sinks _ c.requires.forms c.loop-k.k c.args.y c.loop-k.invariant.is (omega arith) c.requires.le_y).is;
  way = down _ c.loop-k.invariant.way (omega arith) c.follow-k.ensures;
}
