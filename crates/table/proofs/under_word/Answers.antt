use borrow.Author.Rules.{rules}
use mathlib.Core.Path.{◌≡◌, sym, ap, subst, ◌∙◌}
use Prim.Native.Nat.{◌+◌, ◌*◌, ◌<◌}
use lib.IntN.{pos}
use lib.ListN.{get_or}
use lib.Signed.{lt_z_yes}
use mir.Syntax.{w32}
use mir.Val.{SFits}
use mir.Facts.{to_z-of_z}
use Rattle.ruler.specs.Ruler.{ruler, ruler_word, ruler_lt, lt_ruler}
use Rattle.table.specs.Words.{num}
use Rattle.table.proofs.under_word.Goals as goal

pub returns : goal.returns
unfolding num
returns c =
    let n = c.args.n in
    let w = c.word_at-w.result in
    let x = get_or c.args.t.now (10 * c.args.i + c.args.k) (pos 0) in
    let fw : SFits w32 w = search rules in
    let fx : SFits w32 x = search rules in
    let e : ruler w ≡ n = ap ruler c.word_at-w.ensures ∙ ruler_word n c.requires.1 in
    rw (to_z-of_z fw, to_z-of_z fx) (
      λ h. subst (λ m. m < ruler x) e (ruler_lt w x fw fx (lt_z_yes h)),
      λ h. (lt_ruler w x fw fx (subst (λ m. m < ruler x) (sym e) h)).lt,
    )
