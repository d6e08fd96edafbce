-- `layout::saving::collect` meets its contract: the keys of the records passed are collected. Assumes nothing.
use mathlib.Core.Path.{sym, ◌∙◌}
use Prim.Native.Nat.{◌<◌}
use native.Mathlib.Omega.{arith}
use Rattle.table.specs.Words.{records_of}
use borrow.Author.Tests.{eq-eqb, ne_eqb}
use Rattle.geometry.specs.Picture.{SOLID}
use Rattle.geometry.specs.Tiling.{eq→eqb}
use Rattle.table.specs.Words.{KIND, num}
use Rattle.table.specs.Sound.{solid_at}
use Rattle.sorting.specs.Keys.{keys_room, collecting_none, collecting_yes, collecting_no, collected}
use Rattle.layout.specs.Keys.{key}
use Rattle.layout.proofs.saving.collect.Goals as goal
use Rattle.layout.proofs.saving.collect.Goals.{then-word-eq-SOLID, else-word-eq-SOLID}

pub loop-i-init : goal.loop-i-init
loop-i-init c = collecting_none _ _ _ _

pub bounds-keys-n : goal.bounds-keys-n
bounds-keys-n c =
    let t = c.args.t.now in
    let e = sym c.word.ensures.is ∙ c.if-word-eq-SOLID.true in
    omega (arith, keys_room (solid_at t) (key t) c.loop-i.i (records_of t) (omega arith) (eq→eqb (num t c.loop-i.i KIND) SOLID e))

pub loop-i-preserved : goal.loop-i-preserved
loop-i-preserved c =
    let l = c.loop-i in
    let a = c.args in
    let t = a.t.now in
    let h : l.i < records_of t = omega arith in
    let is = c.word.ensures.is in
    elim c.if-word-eq-SOLID.branch [
      | then-word-eq-SOLID w ↦ rw (w.keys-is, w.n-is, w.key.ensures)
          (collecting_yes (solid_at t) (key t) (records_of t) a.keys.now l.keys l.i l.n l.invariant h c.requires.t_in_bounds (eq-eqb (num t l.i KIND) SOLID (sym is ∙ w.if-word-eq-SOLID.true)))
      | else-word-eq-SOLID w ↦ rw (w.keys-is, w.n-is)
          (collecting_no (solid_at t) (key t) (records_of t) a.keys.now l.keys l.i l.n l.invariant h (ne_eqb (num t l.i KIND) SOLID (λ e. w.if-word-eq-SOLID.false (is ∙ e))))
    ]

pub returns : goal.returns
returns c = collected _ _ _ _ _ _ _ c.loop-i.invariant (omega arith)
