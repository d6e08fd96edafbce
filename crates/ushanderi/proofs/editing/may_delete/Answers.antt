-- `ushanderi::editing::may_delete` meets its contract: a find's refusal goes out unchanged; SPACE where the tile is no solid. Assumes nothing.
use mathlib.Core.Path.{sym, ◌∙◌}
use Rattle.ushanderi.specs.Promises.{DeleteRefuses}
use Rattle.ushanderi.specs.Reading.{find_at, find_bits}
use Rattle.ushanderi.specs.Editing.{delete_allows, is_space}
use Rattle.ushanderi.proofs.editing.may_delete.Goals as goal

pub returns-then-word-eq-SOLID : goal.returns-then-word-eq-SOLID
returns-then-word-eq-SOLID c =
    let (f, h) = find_at _ _ _ _ (find_bits _ _ _ _ c.ranges.x c.ranges.y c.in-Ok.ensures) in
    delete_allows _ _ _ _ f h (sym c.word.ensures.is ∙ c.if-word-eq-SOLID.true)

pub returns-else-word-eq-SOLID : goal.returns-else-word-eq-SOLID
returns-else-word-eq-SOLID c =
    let (f, h) = find_at _ _ _ _ (find_bits _ _ _ _ c.ranges.x c.ranges.y c.in-Ok.ensures) in
    DeleteRefuses.space f _ h (is_space _ _ f h.used (λ e. c.if-word-eq-SOLID.false (c.word.ensures.is ∙ e))) c.from.ensures
