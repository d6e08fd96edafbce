-- `moves::mend_under` meets its contract: the tile at lb is joined where the test passes, and else nothing is stacked. Assumes nothing.
use Rattle.geometry.specs.Cases.{yes, no}
use Rattle.edit.specs.Mend.{under_joins, under_joined, under_none}
use Rattle.edit.proofs.moves.mend_under.Goals as goal

pub join-requires : goal.join-requires
join-requires c =
    under_joins c.args.t.now c.args.p c.requires.ajar c.follow-k.result c.follow-k.ensures (yes c.spans.ensures c.if-spans.true)

pub returns-then-spans : goal.returns-then-spans
returns-then-spans c =
    under_joined c.args.t.now c.args.p c.requires.ajar c.follow-k.result c.requires.by_index c.join.new.t
    (yes c.spans.ensures c.if-spans.true) c.join.ensures

pub returns-else-spans : goal.returns-else-spans
returns-else-spans c =
    under_none c.args.t.now c.args.p c.requires.ajar c.follow-k.result c.requires.by_index c.follow-k.ensures (no c.spans.ensures c.if-spans.false)
