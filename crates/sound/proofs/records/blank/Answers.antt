-- `sound::records::blank` meets its contract: what the closure says of each word. Assumes nothing.
use Rattle.std.proofs.Common.{◌≡◌, ◌≢◌, refl, rules, tests, Bool, true, false, ℕ, ◌<◌, List, ℤ, T, MatchBool, ◌↔◌}
use Rattle.geometry.specs.Picture.{ZERO}
use Rattle.table.specs.Words.{WIDTH, num}
use Rattle.table.specs.Sound.{Zeros}
use Rattle.sound.proofs.Ranges.{all_from_Range}
use Rattle.sound.proofs.records.blank.Goals as goal

zeros : (t : List ℤ) (i : ℕ) (r : Bool) → MatchBool r (Zeros t i) ((k : ℕ) × (k < WIDTH) × (num t i k ≢ ZERO)) → T r ↔ Zeros t i
zeros t i true z = (λ _. z, λ _. tt)
zeros t i false (k, l, n) = (λ b. absurd b, λ z. n (z k l))

pub returns : goal.returns
returns c =
    let t = c.args.t.now in
    zeros t c.args.i c.all.result (all_from_Range WIDTH (λ k. num t c.args.i k ≡ ZERO) (λ k. num t c.args.i k ≢ ZERO) _ _ _ refl c.all.ensures.ran (λ x q k. search (rules, tests)) (λ x q k. search (rules, tests)))
