use Rattle.std.proofs.Common.{rules, ap, ◌∙◌, ◌+◌, ◌*◌, SFits, w32, get_or, pos, to_z-of_z}
use Rattle.ruler.specs.Ruler.{ruler}
use Rattle.table.specs.Words.{WIDTH, num}
use Rattle.table.proofs.word.Goals as goal

pub returns : goal.returns
unfolding num
returns c =
    let f : SFits w32 (get_or c.args.t.now (WIDTH * c.args.i + c.args.k) (pos 0)) = search rules in
    record { is = c.at.ensures.is ∙ ap ruler (to_z-of_z f); fits = c.at.ensures.fits }
