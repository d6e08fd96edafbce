-- What an accepted enumerate lists, by its promise alone: the tiles that share a cell with the area, all of them and each once. Assumes nothing.
use Rattle.std.specs.Prelude.{◌≡◌, ◌≢◌, List, ℕ, ℤ, pos, length}
use Rattle.std.proofs.Common.{arith}
use Rattle.seek.specs.Meaning.{Area, Lists, Meets}
use Rattle.seek.specs.Each.{directed_each}
use Rattle.ushanderi.specs.Answers.{DONE, accepted}
use Rattle.ushanderi.specs.declared.answer.Answer.{Answer}
use Rattle.ushanderi.specs.Promises.{listed, EnumerateSays}
use Rattle.claims.specs.AgreeChecks.{fit_forms, number_is, not_done, unfit_not_done}

pub enumerate_lists : (t : List ℤ) (A : Area) (out out' : List ℤ) (a : Answer) → EnumerateSays t A out out' a → a.number ≡ pos DONE
    → (ks : List ℕ) × Lists (Meets t A) ◌≢◌ ks × (a ≡ accepted (length ks)) × (out' ≡ listed ks out)
enumerate_lists t A out out' a (EnumerateSays.unfit u w) h = absurd (unfit_not_done t a u h)
enumerate_lists t A out out' a (EnumerateSays.rect f n e w) h = absurd (not_done (number_is e) (λ e. omega arith) h)
enumerate_lists t A out out' a (EnumerateSays.short f r ks d o e w) h = absurd (not_done (number_is e) (λ e. omega arith) h)
enumerate_lists t A out out' a (EnumerateSays.done f r ks d o e w) h =
    let l = directed_each t (fit_forms t f) A r ks d in
    (ks, record { each = l.each; all = l.all; order = λ m n b k q. omega (arith, l.once m n (omega arith) k q) }, e, w)
