-- Two answers that create's promise allows agree, but for the records of new solids and of space tiles; and creates on two tables of one picture
-- go alike. Assumes nothing.
use Rattle.std.specs.Prelude.{◌≡◌, ◌≢◌, List, ℕ, ℤ, pos}
use Rattle.std.proofs.Math.Path.{sym}
use Rattle.std.proofs.Common.{ap, ◌∙◌, arith}
use Rattle.seek.specs.Meaning.{Area}
use Rattle.ushanderi.specs.Answers.{DONE, RECT, LABEL, OCCUPIED, FULL, refused, without_cell}
use Rattle.ushanderi.specs.declared.answer.MetAnswer.{MetAnswer}
use Rattle.ushanderi.specs.Promises.{Fit, CreateSays}
use Rattle.claims.specs.AgreeChecks.{same, join, UnfitMet, unfit_met_agrees, met_one, met_number, not_done, unfit_not_done}
use Rattle.claims.specs.AgreeTables.{alike_self}
use Rattle.claims.proofs.AgreeTables.{alike_renumbered}
use Rattle.claims.specs.Terms.{CreateAgrees, Created}
use Rattle.claims.specs.AgreeCreate.{Occupied, both_created, create_order}

-- ---- two answers to one create
module _ (t : List ℤ) (A : Area) (label : ℕ) (u v : List ℤ) (a b : MetAnswer) where
  refused_same : a ≡ b → a.number ≢ pos DONE → u ≡ t → v ≡ t → CreateAgrees t u v a b
  refused_same e n w z = record { number = ap (λ a. a.number) e; cell = (ap (λ a. a.x) e, ap (λ a. a.y) e); refused = λ h. (e, join w z); done = λ h. absurd (n h) }

  unfit_same : UnfitMet t a × (u ≡ t) → UnfitMet t b × (v ≡ t) → CreateAgrees t u v a b
  unfit_same (p, w) (q, z) =
      refused_same (unfit_met_agrees t a b p q) (λ h. unfit_not_done t p.with p.unfit (sym (ap (λ a. a.number) p.is) ∙ h)) w z

  created_same : Fit t → Created t A label u a → Created t A label v b → CreateAgrees t u v a b
  created_same f p q =
      let g = both_created t t A label u v a b (alike_self t f) p q in
      record {
        number = g.number;
        cell = g.cell;
        refused = λ h. absurd (h (met_number p.is));
        done = λ h. record { table = alike_renumbered u v (g.done h); kept = p.done.adds.kept; kept_too = q.done.adds.kept };
      }

  occupied_same : Fit t → Occupied t A a × (u ≡ t) → Occupied t A b × (v ≡ t) → CreateAgrees t u v a b
  occupied_same f p q =
      let m = p.0.met in
      let n = q.0.met in
      let s = met_one t f A OCCUPIED m.x m.y m.i n.x n.y n.i m.first n.first in
      refused_same (p.0.is ∙ s ∙ sym q.0.is) (not_done (met_number p.0.is) (λ e. omega arith)) p.1 q.1

  zero_same : (n : ℕ) → n ≢ DONE → (a ≡ without_cell (refused n)) × (u ≡ t) → (b ≡ without_cell (refused n)) × (v ≡ t) → CreateAgrees t u v a b
  zero_same n d p q = refused_same (join p.0 q.0) (not_done (met_number p.0) d) p.1 q.1

  pub create_agrees : CreateSays t A label u a → CreateSays t A label v b → CreateAgrees t u v a b
  create_agrees p q =
      same unfit_same
      (λ r s. same (zero_same RECT (λ e. omega arith))
      (same (zero_same LABEL (λ e. omega arith)) (same (occupied_same r.0) (same (zero_same FULL (λ e. omega arith)) (created_same r.0)))) r.1 s.1)
      (create_order t A label u a p) (create_order t A label v b q)
