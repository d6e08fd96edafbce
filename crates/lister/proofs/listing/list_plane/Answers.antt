-- `lister::listing::list_plane` meets its contract: the list has room, so the enumeration is not refused. Assumes nothing.
use Rattle.lister.specs.Listing.{lists_plane}
use Rattle.lister.proofs.listing.list_plane.Goals as goal

pub returns : goal.returns
returns c = (lists_plane _ _ _ _ _ c.requires.fit c.requires.t_in_bounds c.enumerate-a.ensures c.length.ensures).1
