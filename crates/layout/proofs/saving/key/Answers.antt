-- `layout::saving::key` meets its contract: a solid lies in the plane, so its key fits. Assumes nothing.
use Rattle.std.proofs.Common.{arith}
use Rattle.layout.specs.Keys.{key}
use Rattle.layout.proofs.saving.key.Goals as goal

pub returns : goal.returns
unfolding key
returns c = omega arith
