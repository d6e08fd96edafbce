-- `density::spread::add_row` meets its contract: windows before i have got their parts. Assumes nothing.
use Rattle.density.specs.Row.{Adding}
use Rattle.density.proofs.spread.add_row.Given as goal

abbrev pub invariant-loop-start : goal.invariant-loop-start
invariant-loop-start l = Adding l.n l.edge l.w l.left l.right l.rows l.initial.out l.out l.i l.start
