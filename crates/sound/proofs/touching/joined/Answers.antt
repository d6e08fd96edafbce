-- `sound::touching::joined` meets its contract: what the closure says of each record. Assumes nothing.
use Rattle.std.proofs.Common.{◌≡◌, Bool, true, false, ℕ, ◌<◌, List, ℤ, MatchBool, T, ◌↔◌, refl, arith, rules, tests}
use Rattle.geometry.specs.Picture.{Joined}
use Rattle.table.specs.Words.{records_of}
use Rattle.table.specs.Forms.{Forms, solid_set}
use Rattle.sound.specs.Touching.{LooksAt, holds, fails, looks_all, not_looks}
use Rattle.sound.proofs.Ranges.{all_from_Range}
use Rattle.sound.proofs.touching.joined.Goals as goal

tells : (t : List ℤ) (n : ℕ) (r : Bool) → Forms t → n ≡ records_of t → MatchBool r ((k : ℕ) → k < n → LooksAt t k) ((k : ℕ) × (k < n) × (LooksAt t k → ⊥)) → T r ↔ Joined (solid_set t)
tells t n true f e a = holds (looks_all t f (λ k h. a k (omega arith)))
tells t n false f e (k, h, b) = fails (not_looks t k f (omega arith) b)

pub returns : goal.returns
returns c =
    let t = c.args.t.now in
    tells t c.records.result c.all.result c.requires c.records.ensures
    (all_from_Range c.records.result (LooksAt t) (λ k. LooksAt t k → ⊥) _ _ _ refl c.all.ensures.ran (λ x q k. search (rules, tests)) (λ x q k. search (rules, tests)))
