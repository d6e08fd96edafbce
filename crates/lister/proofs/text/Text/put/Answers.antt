-- `lister::text::Text::put` meets its contract: the piece is in the place of as many bytes. Assumes nothing.
use Rattle.std.proofs.Common.{refl, ap, ◌∙◌, length}
use Rattle.layout.specs.Patch.{patch_length}
use Rattle.lister.specs.TextLaws.{placed}
use Rattle.lister.proofs.text.Text.put.Goals as goal

pub returns : goal.returns
returns c =
    let s = c.args.self.now in
    let p = c.args.piece.now in
    let e = placed s.out.now p c.copy_from_slice.new.self s.at c.copy_from_slice.ensures.after in
    record { same = refl; long = ap length e ∙ patch_length s.out.now s.at p c.requires; within = c.requires; puts = record { is = e; next = refl } }
