-- `moves::mend_over` meets its contract: the tile at rt is joined where the test passes, and else nothing is stacked over p. Assumes nothing.
use Rattle.geometry.specs.Cases.{yes, no}
use Rattle.edit.specs.Mend.{over_joins, over_joined, over_none}
use Rattle.edit.proofs.moves.mend_over.Goals as goal

pub join-requires : goal.join-requires
join-requires c =
    over_joins c.args.t.now c.args.p c.requires c.follow-k.result c.follow-k.ensures (yes c.spans.ensures c.if-spans.true)

pub returns-then-spans : goal.returns-then-spans
returns-then-spans c =
    over_joined c.args.t.now c.args.p c.requires c.follow-k.result c.join.new.t
    (yes c.spans.ensures c.if-spans.true) c.join.ensures

pub returns-else-spans : goal.returns-else-spans
returns-else-spans c =
    over_none c.args.t.now c.args.p c.requires c.follow-k.result c.follow-k.ensures (no c.spans.ensures c.if-spans.false)
