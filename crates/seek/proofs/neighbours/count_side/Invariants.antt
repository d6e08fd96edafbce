-- `seek::neighbours::count_side` meets its contract. After n turns the walk stands at place n of the list. Assumes nothing.
use Prim.Native.Nat.{◌+◌, ◌-◌}
use Rattle.geometry.specs.Picture.{HIGH}
use Rattle.seek.specs.Neighbours.{side_of}
use Rattle.seek.specs.Listing.{Counting}
use Rattle.seek.proofs.neighbours.count_side.Given as goal

abbrev pub invariant-loop-w : goal.invariant-loop-w
invariant-loop-w l = Counting l.t (side_of l.side) l.i l.n l.w

abbrev pub decreases-loop-w : goal.decreases-loop-w
decreases-loop-w l = HIGH + 1 - l.n
