-- `seek::directed::put_first` meets its contract. Assumes nothing.
use borrow.Author.Rules.{sfits_of}
use mir.Facts.{to_z-of_z}
use mir.Syntax.{w32}
use Rattle.std.proofs.Common.{sym, ap, ◌∙◌, [], ◌∷◌, pos, set, arith}
use Rattle.seek.specs.Writing.{words, over_first, over_full}
use Rattle.seek.proofs.directed.put_first.Goals as goal

pub returns-in-len1-up : goal.returns-in-len1-up
returns-in-len1-up c =
    let a = c.args in
    ap (set a.out.now 0) (to_z-of_z (sfits_of {w = w32} c.count.type_inv) ∙ c.count.ensures) ∙ sym (over_first (pos a.p) a.out.now (omega arith))

pub returns-in_default : goal.returns-in_default
returns-in_default c = sym (over_full (words (c.args.p ∷ [])) c.args.out.now (omega arith))
