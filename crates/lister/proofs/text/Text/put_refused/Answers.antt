-- `lister::text::Text::put_refused` meets its contract: the row of the number and the value is the line. Assumes nothing.
use Rattle.lister.specs.TextLaws.{refused_row, adds_is}
use Rattle.lister.proofs.text.Text.put_refused.Goals as goal

pub returns-clause-puts : goal.returns-clause-puts
returns-clause-puts c = adds_is _ _ _ _ (refused_row c.args.number c.args.value) c.put_row.ensures.puts
