-- A create within 01's limits is refused exactly for overlap or for N solids, never for want of a record; and every sound table has a free record.
-- Assumes nothing.
use Rattle.std.specs.Prelude.{◌≡◌, ◌≢◌, ◌↔◌, ◌⊎◌, List, ℕ, ◌<◌, ℤ, pos, length}
use Rattle.std.proofs.Common.{sym, ◌∙◌, inl, inr, ⊎_elim}
use Rattle.geometry.specs.Picture.{ZERO, Tile}
use Rattle.table.specs.Words.{records_of}
use Rattle.table.specs.Sound.{capacity}
use Rattle.seek.specs.Meaning.{Area, RectRight}
use Rattle.ushanderi.specs.Answers.{DONE}
use Rattle.ushanderi.specs.declared.answer.MetAnswer.{MetAnswer}
use Rattle.ushanderi.specs.Promises.{CreateSays}
use Rattle.claims.specs.History.{History}
use Rattle.claims.proofs.HistoryKept.{history_kept}
use Rattle.claims.specs.HistoryExact.{Covers, covers_overlaps, create_exact, overlaps_covers}

-- over every history a create within the limits is refused exactly when a solid of the account shares a cell, or the account has N solids
pub history_create_exact : (t : List ℤ) (S : List Tile) (A : Area) (label : ℕ) (t' : List ℤ) (a : MetAnswer) → History t S → RectRight A → ZERO < label
    → CreateSays t A label t' a → (a.number ≢ pos DONE) ↔ (Covers S A ⊎ (length S ≡ capacity (records_of t)))
history_create_exact t S A label t' a h r l c =
    let k = history_kept h in
    let e = (create_exact t A label t' a (record { size = k.size; sound = k.sound }) r l c).refused in (
      λ n. ⊎_elim (λ o. inl (overlaps_covers t S A k o)) (λ q. inr (k.number ∙ q)) (e.0 n),
      λ o. e.1 (⊎_elim (λ v. inl (covers_overlaps t S A k v)) (λ q. inr (sym k.number ∙ q)) o),
    )
