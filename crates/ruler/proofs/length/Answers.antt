use Rattle.std.proofs.Common.{arith}
use Rattle.ruler.specs.Ruler.{length_ruler, ruler_bits}
use Rattle.ruler.proofs.length.Goals as goal

pub returns : goal.returns
returns c = omega (arith, length_ruler c.args.x, ruler_bits c.args.x c.ranges.x, c.at.ensures.is)
