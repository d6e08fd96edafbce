-- `density::shares::share` meets its contract. Assumes nothing.
use mathlib.Core.Path.{◌∙◌}
use Rattle.density.specs.declared.shares.Density.TheVariants.{Bare, Filled, Share}
use Rattle.density.specs.ShareLaws.{zero_is, one_is, share_by}
use Rattle.density.proofs.shares.share.Goals as goal

pub returns-in-Bare : goal.returns-in-Bare
returns-in-Bare c = let a = c.args in zero_is ∙ share_by a.count a.cells Bare (cc)

pub returns-in-Filled : goal.returns-in-Filled
returns-in-Filled c = let a = c.args in one_is ∙ share_by a.count a.cells Filled (cc)

pub returns-in-Share : goal.returns-in-Share
returns-in-Share c = let a = c.args in share_by a.count a.cells (Share c.in-Share.share) (cc)
