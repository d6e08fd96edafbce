-- `edits::may_edit` meets its contract. Assumes nothing.
use native.Mathlib.Omega.{arith}
use mathlib.Core.Path.{refl, subst}
use Rattle.std.proofs.lemmas.Result.{err_from_is_err_and}
use Rattle.seek.specs.Meaning.{RectRight, FreeArea}
use Rattle.repeated.specs.Edit.{MayEdit, free_clear, right_rect}
use Rattle.repeated.specs.Says.{EditSays, unfit_edit}
use Rattle.repeated.proofs.edits.may_edit.Goals as goal

pub returns-in_err-solids : goal.returns-in_err-solids
returns-in_err-solids c =
    let p = err_from_is_err_and c.from_residual.result c.from_residual.ensures.1 in
    rw (p.1, p.2) (unfit_edit _ _ _ _ _ _ _ c.in_err-solids.ensures)

pub returns-in_default : goal.returns-in_default
returns-in_default c = EditSays.refused _ (MayEdit.rect c.in_ok-solids.ensures.0 c.in_default.ensures refl) (λ e. omega arith) refl refl

pub returns-then-label-le-ZERO : goal.returns-then-label-le-ZERO
returns-then-label-le-ZERO c = EditSays.refused _ (MayEdit.unnamed c.in_ok-solids.ensures.0 (λ a b. omega (arith, c.then-label-le-ZERO.either)) refl) (λ e. omega arith) refl refl

pub returns-in_default-search_from : goal.returns-in_default-search_from
returns-in_default-search_from c =
    let m = c.in_default-search_from.field-0 in
    EditSays.refused _ (MayEdit.occupied c.in_ok-solids.ensures.0 m.x m.y m.tile (rw (← c.in-Some.ensures) c.in_default-search_from.ensures) refl) (λ e. omega arith) refl refl

pub returns-then-solids-capacity : goal.returns-then-solids-capacity
returns-then-solids-capacity c = record {
  fit = c.in_ok-solids.ensures.0;
  rect = right_rect _ _ _ _ (subst RectRight c.in-Some.ensures c.in-Some.rect.right);
  clear = free_clear _ _ _ _ _ (subst (FreeArea c.args.t.now) c.in-Some.ensures c.in-Ok.ensures.0);
  named = omega (arith, c.if-label-le-ZERO.false);
  word = omega (arith, c.if-label-ge-WORDS.false);
  room = omega (arith, c.in_ok-solids.ensures.1, c.capacity.ensures, c.if-solids-capacity.true);
}

pub returns-else-solids-capacity : goal.returns-else-solids-capacity
returns-else-solids-capacity c = EditSays.refused _ (MayEdit.full c.in_ok-solids.ensures.0 (omega (arith, c.in_ok-solids.ensures.1, c.capacity.ensures, c.if-solids-capacity.false)) refl) (λ e. omega arith) refl refl
