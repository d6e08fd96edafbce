-- `create::strip` meets its contract. Assumes nothing.
use Rattle.table.specs.Words.{LEFT, RIGHT, num}
use Rattle.edit.specs.Carve.{cut_on, all_trimmed}
use Rattle.edit.specs.Tidy.{forms_tidy}
use Rattle.edit.specs.Create.{strip_ready, strip_wall, strip_columns, laid}
use Rattle.edit.proofs.create.strip.Goals as goal

pub carve_rows-q-requires : goal.carve_rows-q-requires
carve_rows-q-requires c =
    let w = strip_ready c.args.t.now c.paint.new.t c.args.from c.find-k.result c.args.area.left c.args.area.bottom c.args.area.right c.args.area.top
    c.word.result c.min-stop.result
    c.args.ink c.requires c.find-k.ensures.used c.find-k.ensures.has c.word.ensures.is c.min-stop.ensures c.paint.ensures in
    record {
      cuttable = w.cuttable;
      shut = w.filled.shut;
      rows = w.rows;
      wall_at = strip_wall c.args.t.now c.paint.new.t c.find-k.result c.args.area.left c.args.area.bottom c.args.area.right c.args.area.top c.min-stop.result c.args.ink
          c.wall_of-wall.result (forms_tidy c.args.t.now c.requires.forms c.requires.size.most) w c.wall_of-wall.ensures;
    }

pub carve_columns-k-requires : goal.carve_columns-k-requires
carve_columns-k-requires c =
    let t = c.args.t.now in
    let b = c.args.area.bottom in
    let l = c.args.area.left in
    let r = c.args.area.right in
    let w = strip_ready t c.paint.new.t c.args.from c.find-k.result l b r c.args.area.top c.word.result c.min-stop.result
    c.args.ink c.requires c.find-k.ensures.used c.find-k.ensures.has c.word.ensures.is c.min-stop.ensures c.paint.ensures in
    record {
      cuttable = cut_on c.paint.new.t c.carve_rows-q.new.t c.find-k.result c.carve_rows-q.result (num c.paint.new.t c.find-k.result LEFT) b (num c.paint.new.t c.find-k.result RIGHT) c.min-stop.result
          w.cuttable c.carve_rows-q.ensures.trim;
      shut = c.carve_rows-q.ensures.shut;
      columns = strip_columns t c.paint.new.t c.carve_rows-q.new.t c.find-k.result c.carve_rows-q.result l
          b r c.args.area.top c.min-stop.result c.args.ink c.requires.rect.wide w c.carve_rows-q.ensures.trim;
    }

pub returns : goal.returns
returns c =
    let t = c.args.t.now in
    let b = c.args.area.bottom in
    let l = c.args.area.left in
    let r = c.args.area.right in
    let w = strip_ready t c.paint.new.t c.args.from c.find-k.result l b r c.args.area.top c.word.result c.min-stop.result
    c.args.ink c.requires c.find-k.ensures.used c.find-k.ensures.has c.word.ensures.is c.min-stop.ensures c.paint.ensures in
    laid t c.paint.new.t c.carve_columns-k.new.t c.find-k.result c.carve_columns-k.result l b r c.args.area.top c.min-stop.result
    c.args.ink w (all_trimmed c.paint.new.t c.carve_rows-q.new.t c.carve_columns-k.new.t c.find-k.result c.carve_rows-q.result c.carve_columns-k.result (num c.paint.new.t c.find-k.result LEFT) b
    (num c.paint.new.t c.find-k.result RIGHT) c.min-stop.result l r c.carve_rows-q.ensures.trim c.carve_columns-k.ensures)
