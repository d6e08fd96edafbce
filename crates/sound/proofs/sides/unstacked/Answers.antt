-- `sound::sides::unstacked` meets its contract. Assumes nothing.
use Rattle.std.proofs.Math.Dec.{T_not, not_T}
use Rattle.sound.specs.Sides.{above, twin_of, of_twin}
use Rattle.sound.proofs.sides.unstacked.Goals as goal

pub twin-requires : goal.twin-requires
twin-requires c =
    let p = c.requires in
    above _ _ _ _ p.0 p.1.0 c.read-left.ensures c.if-top-ge-HIGH.false c.follow.ensures

pub returns-else-top-ge-HIGH : goal.returns-else-top-ge-HIGH
returns-else-top-ge-HIGH c =
    let p = c.requires in (
      λ h. of_twin _ _ _ _ p.0 p.1.0 c.read-left.ensures c.if-top-ge-HIGH.false c.follow.ensures (λ w. T_not _ h (c.twin.ensures.1 w)),
      λ u. not_T _ (λ h. twin_of _ _ _ _ p.0 p.1.0 c.read-left.ensures c.if-top-ge-HIGH.false c.follow.ensures p.1.1 (c.twin.ensures.0 h) u),
    )
