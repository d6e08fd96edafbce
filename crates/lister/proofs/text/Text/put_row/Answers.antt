-- `lister::text::Text::put_row` meets its contract: the name, each word, the line's end. Assumes nothing.
use Rattle.std.proofs.Common.{refl, arith}
use Rattle.lister.specs.TextLaws.{adds_word, adds_row}
use Rattle.lister.proofs.text.Text.put_row.Goals as goal

pub loop-w-preserved : goal.loop-w-preserved
loop-w-preserved c =
    let l = c.loop-w in
    record { adds = adds_word _ _ _ _ _ _ _ (omega arith) refl l.invariant.adds c.put_spaced.ensures.puts; low = omega arith }

pub returns-clause-puts : goal.returns-clause-puts
returns-clause-puts c = adds_row _ _ _ _ _ _ (omega arith) c.loop-w.invariant.adds c.put-2.ensures
