-- `ushanderi::editing::may_create` meets its contract, check by check. Assumes nothing.
use mathlib.Core.Path.{sym, ap, ◌∙◌, subst}
use native.Mathlib.Omega.{arith}
use Rattle.seek.specs.Meaning.{RectRight, FreeArea}
use Rattle.ushanderi.specs.Answers.{with_cell}
use Rattle.ushanderi.specs.Promises.{CreateRefuses}
use Rattle.ushanderi.specs.Reading.{fit_forms}
use Rattle.ushanderi.specs.Entry.{passes_ok}
use Rattle.ushanderi.specs.Editing.{at_capacity}
use Rattle.ushanderi.proofs.editing.may_create.Goals as goal

pub search-requires : goal.search-requires
search-requires c = record { forms = fit_forms _ c.requires.fit; size_right = c.requires.fit.size; used_in = c.requires.used; rect_right = c.in_ok-rect.rect.right }

pub returns-in-Err : goal.returns-in-Err
returns-in-Err c =
    let e = passes_ok _ _ _ _ c.new.ensures (sym c.ok_or.ensures.value ∙ c.in_ok-rect.was) in
    let x = c.in-Err.met.x in
    let y = c.in-Err.met.y in
    subst (λ A. CreateRefuses c.args.t.now A c.args.label c.with_cell.result) e
    (CreateRefuses.occupied c.requires.fit c.in_ok-rect.rect.right c.if-label-le-ZERO.false _ _ _ c.in-Err.ensures
    (c.with_cell.ensures ∙ ap (λ a. with_cell a x y) c.refused_with.ensures))

pub returns-then-solids-capacity : goal.returns-then-solids-capacity
returns-then-solids-capacity c =
    let e = passes_ok _ _ _ _ c.new.ensures (sym c.ok_or.ensures.value ∙ c.in_ok-rect.was) in
    let (free, used) = c.in-Ok.ensures in (
      used,
      record {
        fit = c.requires.fit;
        rect = subst RectRight e c.in_ok-rect.rect.right;
        named = c.if-label-le-ZERO.false;
        free = subst (FreeArea c.args.t.now) e free;
        few = omega (arith, c.requires.number, c.capacity.ensures, c.if-solids-capacity.true);
      },
    )

pub returns-else-solids-capacity : goal.returns-else-solids-capacity
returns-else-solids-capacity c =
    let e = passes_ok _ _ _ _ c.new.ensures (sym c.ok_or.ensures.value ∙ c.in_ok-rect.was) in
    CreateRefuses.full c.requires.fit (subst RectRight e c.in_ok-rect.rect.right) c.if-label-le-ZERO.false
    (subst (FreeArea c.args.t.now) e c.in-Ok.ensures.0)
    (at_capacity _ c.requires.fit (omega (arith, c.requires.number, c.capacity.ensures, c.if-solids-capacity.false)))
    c.from-else-solids-capacity.ensures
