-- `density::spread::add_row` meets its contract: windows before i have got their parts. Assumes nothing.
use Rattle.std.proofs.Common.{ap₂, arith, ◌+◌, ◌-◌, ◌*◌}
use Rattle.density.specs.Row.{Adding, adding_starts, adding_on, adding_ends}
use Rattle.density.proofs.spread.add_row.Goals as goal
use Rattle.density.proofs.spread.add_row.Goals.{After-add}

pub loop-start-init : goal.loop-start-init
loop-start-init c = adding_starts _ _ _ _ _ _ _ c.requires _

-- the next window has got its part
turn : (c : After-add) → let a = c.args in Adding a.n a.edge a.w a.left a.right a.rows a.out.now c.add.new.out (c.loop-start.i + 1) (c.loop-start.start + a.w)
turn c =
    let l = c.loop-start in
    adding_on _ _ _ _ _ _ _ c.requires _ _ _ _ _ _ l.invariant c.loop-start-test.true (ap₂ (λ m n. (m - n) * c.args.rows) c.min.ensures c.max.ensures) l.auto.out
    c.add.ensures

pub loop-start-preserved : goal.loop-start-preserved
loop-start-preserved c = turn (goal.at.loop-start-preserved c).After-add

pub returns : goal.returns
returns c = adding_ends _ _ _ _ _ _ _ c.requires _ _ _ _ c.loop-start.invariant (omega arith)

-- the window after it would begin past the columns
pub returns-2 : goal.returns-2
returns-2 c = adding_ends _ _ _ _ _ _ _ c.requires _ _ _ _ (turn (goal.at.returns-2 c).After-add) (omega arith)
