-- `sound::sides::column` meets its contract. The loop's invariant is `Walked`; the walk ends because bottom falls. Assumes nothing.
use native.Mathlib.Omega.{arith}
use Rattle.geometry.specs.Cases.{yes, no}
use Rattle.sound.specs.Columns.{walk_on, falls, walk_ends, walk_stops}
use Rattle.sound.proofs.sides.column.Goals as goal

pub loop-at-smaller : goal.loop-at-smaller
loop-at-smaller c =
    falls _ _ _ _ c.requires.0 c.loop-at.invariant.used c.requires.1.1.0 (yes c.under_word.ensures c.if-under_word.true) c.follow-at.ensures

pub loop-at-preserved : goal.loop-at-preserved
loop-at-preserved c =
    walk_on _ _ _ _ _ _ _ c.requires.0 c.loop-at.invariant (yes c.fits.ensures c.loop-at-test.true) c.requires.1.1.0
    (yes c.under_word.ensures c.if-under_word.true) c.follow-at.ensures

pub returns-else-under_word : goal.returns-else-under_word
returns-else-under_word c =
    let n = no c.under_word.ensures c.if-under_word.false in
    walk_ends _ _ _ _ _ _ c.requires.0 c.loop-at.invariant (yes c.fits.ensures c.loop-at-test.true) (omega arith)

pub returns : goal.returns
returns c = walk_stops _ _ _ _ _ _ c.loop-at.invariant (no c.fits.ensures c.loop-at-test.false)
