-- `seek::neighbours::list_side` meets its contract. At an entry the walk stands at its place of the list, and the entries before are written. Assumes nothing.
use Rattle.seek.specs.Neighbours.{side_of}
use Rattle.seek.specs.Listing.{Listing}
use Rattle.seek.proofs.neighbours.list_side.Given as goal

abbrev pub invariant-loop-entry : goal.invariant-loop-entry
invariant-loop-entry l = Listing l.t (side_of l.side) l.i l.entry-index l.w l.initial.entry-items l.entry-items
