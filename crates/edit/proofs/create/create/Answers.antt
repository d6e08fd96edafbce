-- `create::create` meets its contract. The invariant: from the first strip on, k is the new solid as far as it is done, up to y. The measure is what is left. Assumes nothing.
use Rattle.edit.specs.Create.{growing_lays, growing_joins, growing_on, growing_ends}
use Rattle.edit.proofs.create.create.Goals as goal

pub strip-q-requires : goal.strip-q-requires
strip-q-requires c =
    let g = c.loop-y in
    growing_lays c.strip-k.new.t g.t c.strip-k.result c.args.area.left c.args.area.bottom c.args.area.right c.args.area.top c.word-y.result g.y c.args.ink
    g.invariant
    c.args.t.now c.args.from c.requires.can_lay c.strip-k.ensures c.word-y.ensures.is c.loop-y-test.true

pub join-requires : goal.join-requires
join-requires c =
    let g = c.loop-y in
    growing_joins c.strip-k.new.t g.t c.strip-k.result c.args.area.left c.args.area.bottom c.args.area.right c.args.area.top c.word-y.result g.y c.args.ink
    g.invariant
    c.strip-q.new.t c.strip-q.result c.strip-q.ensures

pub loop-y-preserved : goal.loop-y-preserved
loop-y-preserved c =
    let g = c.loop-y in
    growing_on c.strip-k.new.t g.t c.strip-k.result c.args.area.left c.args.area.bottom c.args.area.right c.args.area.top c.word-y.result g.y c.args.ink g.invariant
    c.strip-q.new.t c.join.new.t c.strip-q.result c.word-y-in-loop-y.result c.strip-q.ensures c.join.ensures c.word-y-in-loop-y.ensures.is

pub returns : goal.returns
returns c =
    let g = c.loop-y in
    growing_ends c.strip-k.new.t g.t c.strip-k.result c.args.area.left c.args.area.bottom c.args.area.right c.args.area.top c.word-y.result g.y c.args.ink
    g.invariant
    c.args.t.now c.strip-k.ensures c.loop-y-test.false
