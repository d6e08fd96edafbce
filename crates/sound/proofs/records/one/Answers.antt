-- `sound::records::one` meets its contract. Assumes nothing.
use Rattle.std.proofs.Common.{ap, eqb}
use Rattle.geometry.specs.Picture.{SOLID}
use Rattle.sound.specs.Tally.{one_is}
use Rattle.sound.proofs.records.one.Goals as goal

pub returns : goal.returns
returns c = rw c.from.ensures (one_is _ _ _ (ap (λ n. eqb n SOLID) c.word.ensures.is))
