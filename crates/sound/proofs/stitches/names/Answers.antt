-- `sound::stitches::names` meets its contract, by whether the word numbers a record. Assumes nothing.
use Rattle.std.proofs.Common.{arith}
use Rattle.sound.specs.Links.{held_names, names_held}
use Rattle.sound.proofs.stitches.names.Goals as goal

pub returns-then-k-records : goal.returns-then-k-records
returns-then-k-records c a =
    let few = c.requires.size_right.0.most in (
      λ h. held_names _ _ _ _ _ few c.follow-k.ensures a (omega arith) (c.holds.ensures.0 h),
      λ n. c.holds.ensures.1 (names_held _ _ _ _ _ few c.follow-k.ensures (omega arith) n),
    )
