-- `lister::listing::put_lines` meets its contract: the lines of the entries passed are put. Assumes nothing.
use Rattle.lister.specs.Listing.{Putting}
use Rattle.lister.proofs.listing.put_lines.Given as goal

abbrev pub invariant-loop-entry : goal.invariant-loop-entry
invariant-loop-entry l = Putting l.t l.list l.fn.text l.text l.entry-index
