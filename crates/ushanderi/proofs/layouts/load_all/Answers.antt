-- `ushanderi::layouts::load_all` meets its contract. The loop's invariant: the creates of the records before n are done. Assumes nothing.
use mathlib.Core.Path.{◌≡◌, sym, ap, ◌∙◌, subst}
use Prim.Native.Nat.{◌/◌}
use native.Mathlib.Omega.{arith}
use lib.ListN.{length}
use Rattle.table.specs.Fresh.{fresh_table}
use Rattle.ushanderi.specs.Answers.{accepted, without_cell}
use Rattle.ushanderi.specs.Promises.{LoadSays}
use Rattle.ushanderi.specs.Layouts.{fresh_long, loading_none, loading_more, loading_low, load_done, load_stopped}
use Rattle.ushanderi.proofs.layouts.load_all.Goals as goal

pub loop-n-init : goal.loop-n-init
loop-n-init c =
    loading_none c.args.t.now _ _ c.requires.size_right c.fresh.ensures

pub stopped-requires : goal.stopped-requires
stopped-requires c = loading_low _ _ _ _ _ c.loop-n.invariant

pub returns-in-Err : goal.returns-in-Err
returns-in-Err c =
    let long = fresh_long c.args.t.now _ c.requires.size_right c.fresh.ensures in
    let (r, w) = c.in-Err.ensures in
    load_stopped _ _ _ _ _ c.loop-n.invariant _ _ _ _ c.requires.size_right c.requires.bytes_len long (omega arith) r
    (c.fresh-in-Err.ensures ∙ ap (λ t. fresh_table (length t)) w) c.stopped.ensures

pub loop-n-preserved : goal.loop-n-preserved
loop-n-preserved c =
    loading_more _ _ _ _ _ c.loop-n.invariant _ _ c.in-Ok.ensures

pub done-requires : goal.done-requires
done-requires c = omega (arith, loading_low _ _ _ _ _ c.loop-n.invariant)

pub returns : goal.returns
returns c =
    let long = fresh_long c.args.t.now _ c.requires.size_right c.fresh.ensures in
    let q : c.loop-n.n ≡ length c.args.bytes.now / 20 = omega arith in
    subst (LoadSays _ _ _) (ap (λ n. without_cell (accepted n)) q ∙ sym (c.from.ensures ∙ ap without_cell c.done.ensures))
    (load_done _ _ _ _ _ c.loop-n.invariant _ c.requires.size_right c.requires.bytes_len long q)
