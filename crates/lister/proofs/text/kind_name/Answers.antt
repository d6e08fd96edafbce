-- `lister::text::kind_name` meets its contract: a solid's word, or every other kind's. Assumes nothing.
use Rattle.std.proofs.Common.{sym}
use Rattle.lister.specs.TextLaws.{kind_solid, kind_other}
use Rattle.lister.proofs.text.kind_name.Goals as goal

pub returns-then-kind-eq-SOLID-clause-name : goal.returns-then-kind-eq-SOLID-clause-name
returns-then-kind-eq-SOLID-clause-name c = sym (kind_solid c.args.kind c.if-kind-eq-SOLID.true)

pub returns-else-kind-eq-SOLID-clause-name : goal.returns-else-kind-eq-SOLID-clause-name
returns-else-kind-eq-SOLID-clause-name c = sym (kind_other c.args.kind c.if-kind-eq-SOLID.false)
