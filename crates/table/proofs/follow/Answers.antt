use Rattle.std.proofs.Common.{rules, ap, ◌∙◌, ◌+◌, ◌*◌, SFits, w32, get_or, pos, to_z-of_z}
use Rattle.ruler.specs.Ruler.{bits, ruler, ruler_fits}
use Rattle.table.specs.Words.{WIDTH, num}
use Rattle.table.specs.Forms.{link_bits}
use Rattle.table.proofs.follow.Goals as goal

pub returns : goal.returns
unfolding num
returns c =
    let f : SFits w32 (get_or c.args.t.now (WIDTH * c.args.i + c.args.k) (pos 0)) = search rules in
    c.bits.ensures ∙ ap (λ z. bits (ruler z)) (to_z-of_z f) ∙ link_bits _ (ruler_fits _ f)
