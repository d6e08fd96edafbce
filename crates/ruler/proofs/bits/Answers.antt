-- `ruler::bits` meets its contract: the word's bits, from its number on the ruler. Assumes nothing.
use Rattle.std.proofs.Common.{ap, ◌∙◌, w32, of_z, to_z-of_z}
use Rattle.ruler.specs.Ruler.{bits_of}
use Rattle.ruler.proofs.bits.Goals as goal

pub returns : goal.returns
returns c = c.cast_unsigned.ensures ∙ ap (of_z w32) (to_z-of_z c.ranges.x) ∙ bits_of c.args.x c.ranges.x
