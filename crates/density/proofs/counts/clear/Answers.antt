-- `density::counts::clear` meets its contract. Assumes nothing.
use Rattle.std.proofs.Common.{refl, ◌∙◌, arith, length-take-le}
use Rattle.density.specs.Shares.{float}
use Rattle.density.specs.ShareLaws.{zero_is}
use Rattle.density.specs.Counts.{counts_front}
use Rattle.density.proofs.counts.clear.Goals as goal

pub returns : goal.returns
returns c =
    let e = length-take-le c.args.n c.args.out.now c.requires in
    counts_front c.fill.new.self c.args.out.now c.args.n (c.fill.ensures.len ∙ e) c.requires (λ m. 0)
    (λ m h. c.fill.ensures.clones m (float 0) (omega arith) refl ∙ zero_is)
