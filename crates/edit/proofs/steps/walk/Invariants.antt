-- `edit::steps::walk` meets its contract. The loop's invariant: k is on the side, at q or before it. Assumes nothing.
use Rattle.table.specs.Words.{num}
use Rattle.edit.specs.Ways.{Going, way, to_walk}
use Rattle.edit.specs.contracts.steps.walk.{RISES-type}
use denote.Param.{number}
use Rattle.edit.proofs.steps.walk.Given as goal

abbrev pub invariant-loop-k : goal.invariant-loop-k
invariant-loop-k g l = Going (way (RISES-type (number g.row.RISES))) l.t l.next l.at l.from l.q l.k

abbrev pub decreases-loop-k : goal.decreases-loop-k
decreases-loop-k g l = to_walk (RISES-type (number g.row.RISES)) (num l.t l.k l.at) l.q
