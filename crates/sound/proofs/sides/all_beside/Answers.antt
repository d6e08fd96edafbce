-- `sound::sides::all_beside` meets its contract: what the closure says of each tile. Assumes nothing.
use Rattle.std.proofs.Common.{◌≡◌, Bool, true, false, ℕ, ◌<◌, List, ℤ, MatchBool, refl, arith, rules, tests}
use Rattle.table.specs.Words.{records_of}
use Rattle.sound.specs.Sides.{Beside, AllBeside, all_beside, not_beside}
use Rattle.sound.proofs.Ranges.{all_from_Range}
use Rattle.sound.proofs.sides.all_beside.Goals as goal

tells : (t : List ℤ) (n : ℕ) (r : Bool) → n ≡ records_of t → MatchBool r ((k : ℕ) → k < n → Beside t k true) ((k : ℕ) × (k < n) × Beside t k false) → AllBeside t r
tells t n true e a = all_beside t (λ k h. a k (omega arith))
tells t n false e (k, h, b) = not_beside t k b

pub returns : goal.returns
returns c =
    let t = c.args.t.now in
    tells t c.records.result c.all.result c.records.ensures
    (all_from_Range c.records.result (λ k. Beside t k true) (λ k. Beside t k false) _ _ _ refl c.all.ensures.ran (λ x q k. search (rules, tests)) (λ x q k. search (rules, tests)))
