-- `density::spread::add_tile` meets its contract. Assumes nothing.
use Rattle.std.proofs.Common.{subst, arith}
use Rattle.seek.specs.Enumerate.{area_of}
use Rattle.density.specs.Parts.{AddsPart}
use Rattle.density.specs.Spreading.{tile_adds, space_adds}
use Rattle.density.proofs.spread.add_tile.Goals as goal

pub returns-then-word-eq-SOLID : goal.returns-then-word-eq-SOLID
returns-then-word-eq-SOLID c =
    let v = c.args.windows in
    tile_adds _ c.requires.forms _ v.rect.right _ _ v.divides c.args.k (omega arith) _ _
    (subst (AddsPart c.args.out.now _ (area_of v.rect.area) v.width v.height) c.part_of.ensures c.add_part.ensures)

pub returns-else-word-eq-SOLID : goal.returns-else-word-eq-SOLID
returns-else-word-eq-SOLID c =
    let v = c.args.windows in
    space_adds _ c.requires.forms _ v.rect.right _ _ v.divides c.args.k (λ e. c.if-word-eq-SOLID.false (omega arith)) _
