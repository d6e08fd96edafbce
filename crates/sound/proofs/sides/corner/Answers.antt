-- `sound::sides::corner` meets its contract: what the closure says of each record. Assumes nothing.
use Rattle.std.proofs.Common.{◌≡◌, ℕ, ◌-◌, ◌<◌, ◌≤◌, List, ℤ, Option, Some, None, MatchOption, arith, rules, tests}
use Rattle.std.proofs.lemmas.Iterator.{first_from_Range}
use Rattle.geometry.specs.Picture.{LOW, HIGH, Has}
use Rattle.table.specs.Words.{records_of, tile_of}
use Rattle.sound.specs.Sides.{Corners}
use Rattle.sound.proofs.sides.corner.Goals as goal

-- the tile of record k holds the plane's upper left cell
abbrev Held : List ℤ → ℕ → Type 0
Held t k = Has (tile_of t k) LOW (HIGH - 1)

corners : (t : List ℤ) (n : ℕ) (r : Option ℕ) → n ≡ records_of t
    → MatchOption r ((k : ℕ) → 0 ≤ k → k < n → Held t k → ⊥) (λ i. (0 ≤ i) × (i < n) × Held t i × ((k : ℕ) → 0 ≤ k → k < i → Held t k → ⊥)) → Corners t r
corners t n None e f = record { has = λ h. absurd (omega arith); none = λ m h. f m (omega arith) (omega arith) }
corners t n (Some k) e f = (omega (arith, f.1), record { has = λ _. f.2; none = λ m h. f.3 m (omega arith) h })

pub returns : goal.returns
returns c =
    let t = c.args.t.now in
    corners t c.records.result c.find.result c.records.ensures
    (first_from_Range _ _ _ _ (Held t) (λ k. Held t k → ⊥) c.find.ensures.ran (λ x q k. search (rules, tests)) (λ x q k. (search rules, search (rules, tests))))
