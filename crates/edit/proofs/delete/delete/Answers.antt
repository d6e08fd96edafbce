-- `delete::delete` meets its contract. Assumes nothing.
use Rattle.edit.specs.Delete.{deleting_can, deleting_on, deleting_ends}
use Rattle.edit.proofs.delete.delete.Goals as goal

pub shrink-rest-requires : goal.shrink-rest-requires
shrink-rest-requires c =
    let g = c.loop-rest in
    let d = rw c.in-Some.is at g.invariant in
    deleting_can c.args.t.now g.t c.args.a c.in-Some.i c.requires d

pub loop-rest-preserved : goal.loop-rest-preserved
loop-rest-preserved c =
    let g = c.loop-rest in
    let d = rw c.in-Some.is at g.invariant in
    deleting_on c.args.t.now g.t c.args.a c.in-Some.i c.requires d c.shrink-rest.new.t c.shrink-rest.result c.shrink-rest.ensures

pub returns : goal.returns
returns c =
    let g = c.loop-rest in
    let d = rw c.in_default.is at g.invariant in
    deleting_ends c.args.t.now g.t c.args.a d
