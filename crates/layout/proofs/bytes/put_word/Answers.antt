-- `layout::bytes::put_word` meets its contract: a part of four bytes that is copied over is a patch. Assumes nothing.
use Rattle.std.proofs.Common.{◌+◌, ◌-◌, ap, ◌∙◌, arith, length}
use Rattle.layout.specs.Bytes.{bytes_of}
use Rattle.layout.specs.Patch.{patch, patch_mid}
use Rattle.layout.proofs.bytes.put_word.Goals as goal

pub returns : goal.returns
unfolding bytes_of
returns c =
    let a = c.args in
    let e = c.copy_from_slice.ensures.after ∙ c.to_le_bytes.ensures in
    patch_mid a.out.now a.at (a.at + 4 - a.at) _ (omega (arith, ap length e)) ∙ ap (patch a.out.now a.at) e
