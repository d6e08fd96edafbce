-- `lister::listing::put_lines` meets its contract: each entry is a record's number, and the lines of those passed are put. Assumes nothing.
use Rattle.std.proofs.Common.{◌∙◌, arith, rules, get_or, pos}
use Rattle.ruler.specs.Ruler.{length_bits, length_ruler}
use Rattle.lister.specs.Listing.{putting_none, putting_more}
use Rattle.lister.proofs.listing.put_lines.Goals as goal

pub loop-entry-init : goal.loop-entry-init
loop-entry-init c = putting_none _ _ _ (omega arith)

pub loop-entry-preserved : goal.loop-entry-preserved
loop-entry-preserved c =
    putting_more _ _ _ _ _ _ _ _ c.loop-entry.invariant (omega arith) (c.length-i.ensures ∙ length_bits (get_or c.args.list.now c.loop-entry.entry-index (pos 0)) (search rules)) c.read.ensures c.put_line.ensures.puts c.put_line.ensures.upper_bound

pub read-requires : goal.read-requires
read-requires c =
    let n = c.loop-entry.entry-index in
    let x = get_or c.args.list.now n (pos 0) in
    let r = c.requires.records n (omega arith) in
    let e = c.length-i.ensures ∙ length_bits x (search rules) ∙ length_ruler x in
    omega (arith, r.below, e)
