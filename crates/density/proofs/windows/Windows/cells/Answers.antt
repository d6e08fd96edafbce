-- `density::windows::Windows::cells` meets its contract. Assumes nothing.
use Rattle.density.specs.Reporting.{small}
use Rattle.density.proofs.windows.Windows.cells.Goals as goal

pub returns-clause-small : goal.returns-clause-small
returns-clause-small c = let v = c.args.self in (small _ v.rect.right _ _ v.divides).cells
