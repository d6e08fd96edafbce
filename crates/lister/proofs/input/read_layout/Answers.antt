-- What a read gives stands after what came before it, and is what the input lost.
use Rattle.std.proofs.Common.{◌<◌, length, rules, arith}
use Rattle.lister.proofs.Reading.{came_more, came_full, came_all}
use Rattle.lister.proofs.input.read_layout.Goals as goal

pub loop-done-preserved : goal.loop-done-preserved
loop-done-preserved g c =
    let l = c.loop-done in
    let r = c.in_ok-more.ensures in
    record { within = search rules; came = came_more _ _ _ _ _ _ _ _ l.invariant.within r.bound.0 l.invariant.came r.bytes.0 }

-- no bytes, though there was room for one: the input has ended
pub returns-then-more-eq0-clause-reads : goal.returns-then-more-eq0-clause-reads
returns-then-more-eq0-clause-reads g c =
    let l = c.loop-done in
    let r = c.in_ok-more.ensures in
    let room : 0 < length c.read.new.buf = omega arith in
    came_all _ _ _ _ _ _ _ _ l.invariant.within (omega arith) c.if-more-eq0.true l.invariant.came r.bytes.0 (r.bytes.1 c.if-more-eq0.true room)

pub returns-clause-reads : goal.returns-clause-reads
returns-clause-reads g c =
    let l = c.loop-done in
    came_full _ _ _ _ (omega arith) l.invariant.within l.invariant.came
