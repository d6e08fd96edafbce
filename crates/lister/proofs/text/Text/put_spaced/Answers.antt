-- `lister::text::Text::put_spaced` meets its contract: a space, then the word. Assumes nothing.
use Rattle.std.proofs.Common.{ap, ◌∙◌, ◌∷◌}
use Rattle.lister.specs.TextLaws.{spaced_is, adds_then, adds_is}
use Rattle.lister.proofs.text.Text.put_spaced.Goals as goal

pub returns-clause-puts : goal.returns-clause-puts
returns-clause-puts c =
    let e = c.as_bytes.ensures.value ∙ c.format.ensures.text in
    adds_is _ _ _ _ (ap (λ ds. 32 ∷ ds) e ∙ spaced_is _ _ c.requires.w_bound c.word_at.ensures) (adds_then _ _ _ _ _ c.put.ensures c.put-2.ensures)
