-- `sound::records::cells` meets its contract: two sides of the plane, multiplied, fit. Assumes nothing.
use Rattle.sound.specs.Tally.{cells_are}
use Rattle.sound.proofs.records.cells.Goals as goal

pub returns : goal.returns
returns c = cells_are _ _ _ c.read-left.ensures c.requires.1
