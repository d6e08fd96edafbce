-- `edit::steps::walk` meets its contract. Assumes nothing.
use Prim.Native.Nat.{◌≤◌, ◌<◌}
use mathlib.Core.Path.{subst}
use native.Mathlib.Omega.{arith}
use denote.Param.{number}
use Rattle.geometry.specs.Cases.{yes, no}
use Rattle.table.specs.Words.{records_of}
use Rattle.edit.specs.Ways.{Past, way, going_start, going_none, walk_on, walk_less, walk_ends}
use Rattle.edit.specs.contracts.steps.walk.{RISES-type}
use Rattle.edit.proofs.steps.walk.Goals as goal

pub loop-k-init : goal.loop-k-init
loop-k-init g c = going_start (way (RISES-type (number g.row.RISES))) _ _ _ _ _

pub returns-then-past : goal.returns-then-past
returns-then-past g c =
    let r = RISES-type (number g.row.RISES) in
    let p = subst (λ x. Past r x c.args.q) c.word.ensures.is (yes c.past.ensures c.if-past.true) in
    walk_ends r _ _ _ _ _ c.loop-k.k p c.loop-k.invariant

pub loop-k-smaller : goal.loop-k-smaller
loop-k-smaller g c =
    let r = RISES-type (number g.row.RISES) in
    let n = subst (λ x. Past r x c.args.q → ⊥) c.word.ensures.is (no c.past.ensures c.if-past.false) in
    let h : c.loop-k.k < records_of c.args.t.now = omega arith in
    walk_less r _ _ _ _ _ c.loop-k.k _ h n c.follow-k.ensures c.requires.leads c.loop-k.invariant

pub loop-k-preserved : goal.loop-k-preserved
loop-k-preserved g c =
    let r = RISES-type (number g.row.RISES) in
    let n = subst (λ x. Past r x c.args.q → ⊥) c.word.ensures.is (no c.past.ensures c.if-past.false) in
    let h : c.loop-k.k < records_of c.args.t.now = omega arith in
    walk_on r _ _ _ _ _ c.loop-k.k _ h n c.follow-k.ensures c.loop-k.invariant

pub returns : goal.returns
returns g c =
    let h : records_of c.args.t.now ≤ c.loop-k.k = omega arith in
    going_none (way (RISES-type (number g.row.RISES))) _ _ _ _ _ c.loop-k.k h c.loop-k.invariant
