-- `Spare::last` meets its contract. Assumes nothing.
use Rattle.edit.specs.Free.{set_fewer}
use Rattle.edit.proofs.spare.Spare.last.Goals as goal

pub returns : goal.returns
returns c = set_fewer c.args.self.now.freed _
