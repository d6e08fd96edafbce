-- `lister::listing::list` meets its contract: the lines of the plane, or the line of a refused load. Assumes nothing.
use Rattle.std.proofs.Common.{◌∙◌, ap, rules}
use Rattle.lister.specs.Listing.{load_well, lists_tiles, load_not, lists_refused}
use Rattle.lister.proofs.listing.list.Goals as goal
use Rattle.lister.proofs.listing.list.Goals.{then-a-eq-DONE, else-a-eq-DONE}

pub put_plane-requires-clause-fit : goal.put_plane-requires-clause-fit
put_plane-requires-clause-fit c = (load_well _ _ _ _ c.load-a.ensures c.if-a-eq-DONE.true).0

pub returns : goal.returns
returns c =
    elim c.if-a-eq-DONE.branch [
      | then-a-eq-DONE w ↦
          lists_tiles _ _ _ _ _ w.put_plane.new.text _ _ c.load-a.ensures w.if-a-eq-DONE.true w.put_plane.ensures c.new-text.ensures.empty (search rules)
          (c.len.ensures ∙ ap (λ x. x.at) w.text-is)
      | else-a-eq-DONE w ↦
          let f = load_not _ _ _ _ c.load-a.ensures w.if-a-eq-DONE.false in
          lists_refused _ _ _ _ _ w.put_refused.new.self _ _ _ _ f (w.at.ensures.is ∙ f.first) (w.at-else-a-eq-DONE.ensures.is ∙ f.second) w.put_refused.ensures.puts
          c.new-text.ensures.empty (search rules) (c.len.ensures ∙ ap (λ x. x.at) w.text-is)
    ]
