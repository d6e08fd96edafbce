-- `seek::cell::find` meets its contract. The four legs hand each other what they need. Assumes nothing.
use Rattle.seek.specs.Legs.{row_reached}
use Rattle.seek.proofs.cell.find.Goals as goal

pub to_column_left-near-requires-clause-row : goal.to_column_left-near-requires-clause-row
to_column_left-near-requires-clause-row c =
    row_reached _ c.requires.forms _ _ _ _ c.requires.in_plane.y_low c.climb-up.ensures c.descend-row.ensures
