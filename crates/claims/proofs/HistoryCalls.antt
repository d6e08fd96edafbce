-- What the promises of fresh and load say, by the answer's number: a refusal leaves the table, DONE is the one case of that name; and that every answer of
-- a call that writes is a step. Assumes nothing.
use Rattle.std.specs.Prelude.{◌≡◌, ◌⊎◌, List, ℕ, ℤ, pos}
use Rattle.std.proofs.Common.{sym, ◌∙◌, inl, inr, ⊎_elim, arith}
use Rattle.layout.specs.Bytes.{saved_at}
use Rattle.ushanderi.specs.Answers.{SIZE, FILE}
use Rattle.ushanderi.specs.declared.answer.MetAnswer.{MetAnswer}
use Rattle.ushanderi.specs.Promises.{area_in, LoadStops, LoadSays}
use Rattle.claims.specs.AgreeChecks.{met_number, number_one}
use Rattle.claims.proofs.AgreeLoad.{built_fit}
use Rattle.claims.specs.HistoryCalls.{not_unread}

pub load_left : (t : List ℤ) (bs : List ℕ) (t' : List ℤ) (a : MetAnswer) → LoadSays t bs t' a → (a.number ≡ pos SIZE) ⊎ (a.number ≡ pos FILE) → t' ≡ t
load_left t bs t' a (LoadSays.size n e w) h = w
load_left t bs t' a (LoadSays.file s n e w) h = w
load_left t bs t' a (LoadSays.stopped (LoadStops.stops s z n c u o l b r d e) w) h =
    absurd (not_unread u (area_in bs n) (saved_at bs n).label o (built_fit t s bs n u b) r
    (⊎_elim (λ h. inl (d ∙ sym (met_number e) ∙ h)) (λ h. inr (d ∙ sym (met_number e) ∙ h)) h))
load_left t bs t' a (LoadSays.done s z b e) h = absurd (⊎_elim (λ h. omega (arith, number_one (met_number e) h)) (λ h. omega (arith, number_one (met_number e) h)) h)
