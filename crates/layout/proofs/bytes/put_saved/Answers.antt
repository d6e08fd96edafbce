-- `layout::bytes::put_saved` meets its contract: five words, one behind the other, are one record. Assumes nothing.
use Prim.Native.Nat.{◌*◌}
use native.Mathlib.Omega.{arith}
use Rattle.layout.specs.BytesLaws.{put_record}
use Rattle.layout.specs.Bytes.{SAVED}
use Rattle.layout.proofs.bytes.put_saved.Goals as goal

pub returns : goal.returns
returns c =
    let a = c.args in
    put_record a.out.now (SAVED * a.n) a.s _ _ _ _ _ (omega arith)
    c.put_word.ensures
    c.put_word-2.ensures
    c.put_word-3.ensures
    c.put_word-4.ensures
    c.put_word-5.ensures
