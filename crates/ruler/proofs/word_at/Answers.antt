-- `ruler::word_at` meets its contract. Assumes nothing.
use Rattle.std.proofs.Common.{◌≡◌, ap, sym, subst, ◌∙◌, ◌<◌, ◌^◌, arith, pos, ℕ, ◌-ℤ◌, SFits, w32, w64, to_z, of_z, to_z-of_z}
use mir.Facts.{to_z_pos, sfits_widen}
use Rattle.ruler.specs.Ruler.{word, word_fits, minus_half}
use Rattle.ruler.proofs.word_at.Goals as goal

-- the difference that the code makes
less : (n : ℕ) → n < 2 ^ 32 → to_z w64 n -ℤ pos 2147483648 ≡ word n
less n h = ap (λ z. z -ℤ pos 2147483648) (to_z_pos w64 {n = n} (omega arith)) ∙ minus_half n

pub returns : goal.returns
returns c =
    let n = c.args.n in
    let l = less n c.requires in
    let s : SFits w64 (to_z w64 n -ℤ pos 2147483648) = subst (SFits w64) (sym l) (sfits_widen tt (word_fits n c.requires)) in
    let w : SFits w32 (to_z w64 (of_z w64 (to_z w64 n -ℤ pos 2147483648))) = subst (SFits w32) (sym (to_z-of_z s ∙ l)) (word_fits n c.requires) in
    to_z-of_z w ∙ to_z-of_z s ∙ l
