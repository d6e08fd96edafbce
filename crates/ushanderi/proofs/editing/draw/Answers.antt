-- `ushanderi::editing::draw` meets its contract: what the decision lets go on is what the edit asks for. Assumes nothing.
use Rattle.seek.specs.Enumerate.{area_of}
use Rattle.ushanderi.specs.Editing.{can_draw, draw_done}
use Rattle.ushanderi.proofs.editing.draw.Goals as goal

pub create-requires : goal.create-requires
create-requires c =
    let u = c.requires.used_in in
    let w = c.requires.label_bound in
    let a = c.requires.create_allows in
    record { can_lay = can_draw _ _ _ (area_of c.args.area) u w a; t_bound = a.few }

pub returns : goal.returns
returns c =
    draw_done _ _ _ _ (area_of c.args.area) c.requires.create_allows c.create.ensures
