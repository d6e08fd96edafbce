-- `lister::text::Text::put_line` meets its contract: the row of a tile's words is its line. Assumes nothing.
use Rattle.lister.specs.TextLaws.{tile, line_row, adds_is}
use Rattle.lister.proofs.text.Text.put_line.Goals as goal

pub returns-clause-puts : goal.returns-clause-puts
returns-clause-puts c = adds_is _ _ _ _ (line_row (tile c.args.v) _ c.kind_name.ensures.name) c.put_row.ensures.puts
