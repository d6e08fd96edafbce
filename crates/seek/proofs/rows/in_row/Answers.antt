-- `seek::rows::in_row` meets its contract. Assumes nothing.
use Rattle.std.proofs.Common.{arith, refl}
use Rattle.seek.specs.Search.{solid_beside}
use Rattle.seek.proofs.rows.in_row.Goals as goal

pub returns-then-x-right : goal.returns-then-x-right
returns-then-x-right c =
    (solid_beside _ c.requires.forms _ _ _ _ _ _ c.find-k.ensures (λ e. c.if-word-eq-SOLID.false (omega arith)) (omega arith) (omega arith) c.find-beside.ensures, refl)
