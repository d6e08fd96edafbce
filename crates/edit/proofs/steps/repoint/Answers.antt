-- `edit::steps::repoint` meets its contract. The loop's invariant: what lies before k is turned, for every plane whose side these words are.
-- The measure: how many stitches still name a. Assumes nothing.
use mathlib.Core.Path.{sym, ◌∙◌}
use Prim.Native.Nat.{◌<◌}
use native.Mathlib.Omega.{arith}
use Rattle.table.specs.Words.{records_of}
use Rattle.edit.specs.Loops.{beside_start, beside_next, coming_start, coming_next, coming_ends, naming_less}
use Rattle.edit.proofs.steps.repoint.Goals as goal

pub loop-k-init : goal.loop-k-init
loop-k-init c = (beside_start _ _, coming_start _ _ _ _ _ _ _)

pub returns-else-k-stop : goal.returns-else-k-stop
returns-else-k-stop c =
    record { beside = c.loop-k.invariant.0; turns = coming_ends _ _ _ _ _ _ _ _ c.loop-k.k (λ h n. absurd (n c.if-k-stop.false)) c.loop-k.invariant.1 }

pub returns-else-follow-a : goal.returns-else-follow-a
returns-else-follow-a c =
    record {
      beside = c.loop-k.invariant.0;
      turns = coming_ends _ _ _ _ _ _ _ _ c.loop-k.k (λ h n d. c.if-follow-a.false (c.follow.ensures ∙ d)) c.loop-k.invariant.1;
    }

pub loop-k-smaller : goal.loop-k-smaller
loop-k-smaller c =
    let h : c.loop-k.k < records_of c.loop-k.t = omega arith in
    naming_less _ _ _ _ _ _ c.loop-k.k c.requires c.put.ensures h (sym c.follow.ensures ∙ c.if-follow-a.true)

pub loop-k-preserved : goal.loop-k-preserved
loop-k-preserved c =
    let h : c.loop-k.k < records_of c.args.t.now = omega arith in (
      beside_next _ _ _ _ _ _ c.put.ensures c.loop-k.invariant.0,
      coming_next _ _ _ _ _ _ _ _ _ c.loop-k.k _ c.requires c.loop-k.invariant.0 c.put.ensures h c.if-k-stop.true
          (sym c.follow.ensures ∙ c.if-follow-a.true) c.follow-k.ensures c.loop-k.invariant.1,
    )

pub returns-after-loop-k : goal.returns-after-loop-k
returns-after-loop-k c =
    record { beside = c.loop-k.invariant.0; turns = coming_ends _ _ _ _ _ _ _ _ c.loop-k.k (λ h n d. absurd (omega arith)) c.loop-k.invariant.1 }
