-- `density::spread::add_part` meets its contract: rows of windows over the one that comes next have got their cells. Assumes nothing.
use Rattle.std.proofs.Common.{ap₂, arith, ◌+◌, ◌-◌}
use Rattle.seek.specs.Enumerate.{area_of}
use Rattle.density.specs.Parts.{Parting, row_fits, parting_starts, parting_on, parting_ends}
use Rattle.density.proofs.spread.add_part.Goals as goal
use Rattle.density.proofs.spread.add_part.Goals.{After-add_row}

pub loop-depth-init : goal.loop-depth-init
loop-depth-init c =
    let v = c.args.windows in
    rw (c.requires.columns_value, c.steps_in-column.ensures, c.steps_in-row.ensures) (parting_starts _ _ _ _ v.rect.right v.divides c.requires.part_fits _)

pub add_row-requires : goal.add_row-requires
add_row-requires c =
    let v = c.args.windows in
    let l = c.loop-depth in
    rw c.steps_in-column.ensures
    (row_fits _ _ _ _ v.rect.right v.divides c.requires.part_fits _ _ _ l.invariant.goes c.loop-depth-test.true (ap₂ ◌-◌ c.min.ensures c.max.ensures) _
    (omega (arith, c.requires.h_in_bounds, l.auto.out)))

-- the next row of windows has got its cells
turn : (c : After-add_row)
    → let v = c.args.windows in
    Parting (area_of v.rect.area) v.width v.height (area_of c.args.part) c.args.out.now c.add_row.new.out (c.loop-depth.n + c.args.columns) (c.loop-depth.depth + v.height)
turn c =
    let v = c.args.windows in
    let l = c.loop-depth in
    rw c.requires.columns_value
    (parting_on _ _ _ _ v.rect.right v.divides c.requires.part_fits _ _ _ _ _ _ l.invariant c.loop-depth-test.true (ap₂ ◌-◌ c.min.ensures c.max.ensures)
    (omega (arith, c.requires.h_in_bounds, l.auto.out)) (rw c.steps_in-column.ensures at c.add_row.ensures))

pub loop-depth-preserved : goal.loop-depth-preserved
loop-depth-preserved c = turn (goal.at.loop-depth-preserved c).After-add_row

pub returns : goal.returns
returns c =
    let v = c.args.windows in parting_ends _ _ _ _ v.rect.right v.divides c.requires.part_fits _ _ _ _ c.loop-depth.invariant (omega arith)

-- the row after it would begin under the part
pub returns-2 : goal.returns-2
returns-2 c =
    let v = c.args.windows in
    parting_ends _ _ _ _ v.rect.right v.divides c.requires.part_fits _ _ _ _ (turn (goal.at.returns-2 c).After-add_row) (omega arith)
