-- Wrong answers that no promise allows, beside the shams: each lemma says what every allowed answer keeps to. Assumes nothing.
use Rattle.std.specs.Prelude.{◌≡◌, refl, ◌≢◌, List, ℕ, ◌≤◌, ℤ, Float}
use Rattle.std.proofs.Common.{sym, arith}
use Rattle.geometry.specs.Picture.{ZERO, InPlane}
use Rattle.seek.specs.Meaning.{Area, RectRight}
use Rattle.density.specs.Meaning.{Steps}
use Rattle.ushanderi.specs.Answers.{DONE, POINT, RECT, LABEL, STEP, refused, without_cell, unreported}
use Rattle.ushanderi.specs.declared.answer.Answer.{Answer}
use Rattle.ushanderi.specs.declared.answer.MetAnswer.{MetAnswer}
use Rattle.ushanderi.specs.declared.reports.DensityAnswer.{DensityAnswer}
use Rattle.ushanderi.specs.Promises.{Fit, NeighboursSays, DensitySays, CreateRefuses, CreateSays}
use Rattle.claims.specs.AgreeChecks.{not_done}
use Rattle.claims.specs.AgreeReads.{neighbours_agrees}
use Rattle.claims.specs.AgreeReports.{density_agrees}
use Rattle.claims.proofs.AgreeCreate.{create_agrees}

-- ---- a later check before an earlier one
module _ (t : List ℤ) (f : Fit t) where
  -- SIDE before POINT
  pub point_first : (x y : ℕ) (side : ℤ) (out out' : List ℤ) (a : Answer) → (InPlane x y → ⊥) → NeighboursSays t x y side out out' a → a ≡ refused POINT
  point_first x y side out out' a n s = (neighbours_agrees t x y side out out' out a (refused POINT) s (NeighboursSays.point f n refl refl)).0

  -- STEP before RECT, and SHORT before STEP: the list's length does not matter
  pub report_rect_first : (R : Area) (w h : ℕ) (out out' : List Float) (a : DensityAnswer) → (RectRight R → ⊥) → DensitySays t R w h out out' a
      → a ≡ unreported (refused RECT)
  report_rect_first R w h out out' a n s =
      (density_agrees t R w h out out' out a (unreported (refused RECT)) s (DensitySays.rect f n refl refl)).0

  pub step_first : (R : Area) (w h : ℕ) (out out' : List Float) (a : DensityAnswer) → RectRight R → (Steps R w h → ⊥) → DensitySays t R w h out out' a
      → a ≡ unreported (refused STEP)
  step_first R w h out out' a r n s =
      (density_agrees t R w h out out' out a (unreported (refused STEP)) s (DensitySays.step f r n refl refl)).0

  module _ (R : Area) (label : ℕ) (t' : List ℤ) (a : MetAnswer) (s : CreateSays t R label t' a) where
    refuses_with : (n : ℕ) → n ≢ DONE → CreateRefuses t R label (without_cell (refused n)) → a ≡ without_cell (refused n)
    refuses_with n d o =
        sym ((create_agrees t R label t t' (without_cell (refused n)) a (CreateSays.refuses o refl) s).refused (λ e. not_done refl d e)).0

    -- LABEL before RECT
    pub rect_first : (RectRight R → ⊥) → a ≡ without_cell (refused RECT)
    rect_first n = refuses_with RECT (λ e. omega arith) (CreateRefuses.rect f n refl)

    -- OCCUPIED or FULL before LABEL
    pub label_next : RectRight R → label ≤ ZERO → a ≡ without_cell (refused LABEL)
    label_next r l = refuses_with LABEL (λ e. omega arith) (CreateRefuses.label f r l refl)
