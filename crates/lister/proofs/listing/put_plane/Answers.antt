-- `lister::listing::put_plane` meets its contract: the tiles listed are those whose lines are put. Assumes nothing.
use Rattle.lister.specs.Listing.{listed_records, adds_plane}
use Rattle.lister.proofs.listing.put_plane.Goals as goal

pub put_lines-requires-clause-records : goal.put_lines-requires-clause-records
put_lines-requires-clause-records c = listed_records _ _ _ _ c.requires.fit c.list_plane-n.ensures

pub returns : goal.returns
returns c = adds_plane _ _ _ _ c.requires.fit c.list_plane-n.ensures _ _ c.put_lines.ensures
