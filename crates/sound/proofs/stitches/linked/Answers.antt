-- `sound::stitches::linked` meets its contract: the numbers read are the record's. Assumes nothing.
use Rattle.std.proofs.Common.{sym, ◌∙◌}
use Rattle.geometry.specs.Cases.{yes}
use Rattle.sound.specs.Links.{stitched_by, link_used}
use Rattle.sound.proofs.stitches.linked.Goals as goal
use Rattle.sound.proofs.stitches.linked.Goals.{then-names, else-names, then-names-2, else-names-2}

pub returns-then-names-3 : goal.returns-then-names-3
returns-then-names-3 c g =
    elim c.if-names-2.branch [
      | then-names-2 v ↦ elim c.if-names.branch [
        | then-names w ↦ (
          λ h _. stitched_by _ _ _ c.read-left.ensures (record {
            tr = yes (c.names.ensures g) w.if-names.true;
            rt = yes (w.names-then-names.ensures g) (sym w.value-is ∙ v.if-names-2.true);
            bl = yes (v.names-then-names-2.ensures g) (sym v.value-is ∙ c.if-names-3.true);
            lb = (c.names-then-names-3.ensures g).0 h;
          }),
          λ l. (c.names-then-names-3.ensures g).1 (link_used _ _ _ c.read-left.ensures c.if-kind-eq-FREE.false l).lb,
        )
        | else-names w ↦ absurd (cc (w.value-is, v.if-names-2.true))
      ]
      | else-names-2 v ↦ absurd (cc (v.value-is, c.if-names-3.true))
    ]
