-- `ushanderi::layouts::save_in` meets its contract: what it needs is twenty bytes for each solid. Assumes nothing.
use native.Mathlib.Omega.{arith}
use Rattle.layout.specs.OneOrder.{saves_bytes}
use Rattle.ushanderi.specs.Reading.{fit_forms}
use Rattle.ushanderi.specs.Layouts.{save_low, save_short, save_done}
use Rattle.ushanderi.proofs.layouts.save_in.Goals as goal

pub overflow_mul-need : goal.overflow_mul-need
overflow_mul-need c = record { fits = omega (arith, c.requires.solids_value, save_low _ c.requires.fit) }

pub refused_with-requires : goal.refused_with-requires
refused_with-requires c =
    omega (arith, c.requires.solids_value, save_low _ c.requires.fit)

pub returns-then-out-need : goal.returns-then-out-need
returns-then-out-need c =
    rw c.refused_with.ensures (save_short _ _ _ c.requires.fit (omega (arith, c.requires.solids_value)) c.if-out-need.true)

pub save-written-requires : goal.save-written-requires
save-written-requires c =
    record { forms = fit_forms _ c.requires.fit; size_right = c.requires.fit.size; t_in_bounds = omega (arith, c.requires.solids_value, c.if-out-need.false) }

pub done-requires : goal.done-requires
done-requires c =
    omega (arith, saves_bytes _ _ _ _ c.save-written.ensures, save_low _ c.requires.fit)

pub returns : goal.returns
returns c =
    rw c.done.ensures (save_done _ _ _ _ c.requires.fit (omega (arith, c.requires.solids_value, c.if-out-need.false)) c.save-written.ensures)
