-- `ushanderi::reports::refused_with` meets its contract: the shares are 0.0 and the numbers are read back from their bits. Assumes nothing.
use mir.Syntax.{w32}
use borrow.Author.Rules.{sfits_of}
use mathlib.Core.Path.{◌∙◌}
use mir.Facts.{to_z-of_z}
use lib.IntN.{pos}
use Rattle.ruler.specs.Ruler.{long_bits}
use Rattle.density.specs.ShareLaws.{zero_is}
use Rattle.ushanderi.proofs.reports.refused_with.Goals as goal

pub returns : goal.returns
returns c =
    let n = to_z-of_z (sfits_of {w = w32} c.number.type_inv) ∙ c.number.ensures in
    let v = long_bits _ c.long_count.result c.long_count.ensures c.requires in
    λ i. record { number = n i; value = v i; lowest = zero_is i; highest = zero_is i; covered = pos 0 }
