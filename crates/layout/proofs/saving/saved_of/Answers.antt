-- `layout::saving::saved_of` meets its contract: five words are what is saved. Assumes nothing.
use borrow.Author.Rules.{rules}
use Rattle.layout.specs.Order.{saved_of}
use Rattle.layout.proofs.saving.saved_of.Goals as goal

pub returns : goal.returns
unfolding saved_of
returns c = record { is = cc; fits = search rules }
