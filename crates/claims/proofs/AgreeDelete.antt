-- Two answers that delete's promise allows agree wholly, and so do their solids, record by record. Assumes nothing.
use Rattle.std.specs.Prelude.{◌≡◌, ◌≢◌, List, ℕ, ℤ}
use Rattle.std.proofs.Common.{sym, ap, ◌∙◌, subst, arith}
use Rattle.ushanderi.specs.Answers.{DONE, POINT, SPACE, ROOM, accepted, refused}
use Rattle.ushanderi.specs.declared.answer.Answer.{Answer}
use Rattle.ushanderi.specs.Edits.{Removes, label_in}
use Rattle.ushanderi.specs.Promises.{Unfit, Fit, DeleteSays}
use Rattle.claims.specs.AgreeChecks.{same, join, unfit_agrees, fit_finds_one, number_is, not_done, unfit_not_done}
use Rattle.claims.proofs.AgreeTables.{alike_renumbered}
use Rattle.claims.specs.AgreeCreate.{edited_fit}
use Rattle.claims.specs.Terms.{DeleteAgrees}
use Rattle.claims.specs.AgreeDelete.{Deleted, delete_order, records_picture, removes_same}

module _ (t : List ℤ) (x y : ℕ) (u v : List ℤ) (a b : Answer) where
  refused_same : (n : ℕ) → n ≢ DONE → (a ≡ refused n) × (u ≡ t) → (b ≡ refused n) × (v ≡ t) → DeleteAgrees u v a b
  refused_same n d p q =
      record { answer = join p.0 q.0; refused = λ h. join p.1 q.1; done = λ h. absurd (not_done (number_is p.0) d h) }

  unfit_same : Unfit t a × (u ≡ t) → Unfit t b × (v ≡ t) → DeleteAgrees u v a b
  unfit_same p q =
      record {
        answer = unfit_agrees t a b p.0 q.0;
        refused = λ h. join p.1 q.1;
        done = λ h. absurd (unfit_not_done t a p.0 h);
      }

  deleted_same : Fit t → Deleted t x y u a → Deleted t x y v b → DeleteAgrees u v a b
  deleted_same f p q =
      let e : q.at ≡ p.at = fit_finds_one t f x y q.at p.at q.done.allows.finds p.done.allows.finds in
      let s = removes_same t u v p.at p.done.removes (subst (Removes t v) e q.done.removes) in
      record {
        answer = p.is ∙ ap (λ i. accepted (label_in t i)) (sym e) ∙ sym q.is;
        refused = λ h. absurd (h (number_is p.is));
        done = λ h.
            record {
              solids = s;
              table = alike_renumbered u v (record {
                left = edited_fit t u f p.done.edited;
                right = edited_fit t v f q.done.edited;
                size = join p.done.edited.size q.done.edited.size;
                picture = records_picture u v s;
              });
            };
      }

  pub delete_agrees : DeleteSays t x y u a → DeleteSays t x y v b → DeleteAgrees u v a b
  delete_agrees p q =
      same unfit_same
      (λ r s. same (refused_same POINT (λ e. omega arith))
      (same (refused_same SPACE (λ e. omega arith)) (same (refused_same ROOM (λ e. omega arith)) (deleted_same r.0))) r.1 s.1)
      (delete_order t x y u a p) (delete_order t x y v b q)
