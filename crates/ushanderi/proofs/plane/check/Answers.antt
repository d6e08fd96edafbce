-- `ushanderi::plane::check` meets its promise. Assumes nothing.
use Rattle.ushanderi.specs.Entry.{admits_low}
use Rattle.ushanderi.proofs.plane.check.Goals as goal

pub answer_of-requires : goal.answer_of-requires
answer_of-requires c = admits_low _ _ c.admit.ensures
