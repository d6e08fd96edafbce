-- `seek::neighbours::list_side` meets its contract. At an entry the walk stands at its place of the list, and the entries before are written. Assumes nothing.
use borrow.Author.Rules.{sfits_of}
use mir.Facts.{to_z-of_z}
use mir.Syntax.{w32}
use Rattle.std.proofs.Common.{◌∙◌, subst, arith}
use Rattle.std.proofs.lemmas.List.{set-get_or}
use Rattle.seek.specs.Walk.{Begins}
use Rattle.seek.specs.Listing.{listing_starts, counting_goes, counting_below, listing_on, listing_ends, listing_full}
use Rattle.seek.proofs.neighbours.list_side.Goals as goal

pub loop-entry-init : goal.loop-entry-init
loop-entry-init c =
    listing_starts _ c.requires.forms c.requires.size_right _ _ c.requires.used_in _ _
    (subst (λ s. Begins c.args.t.now s c.args.i c.along-w.result) c.from.ensures c.along-w.ensures) c.requires.fits

pub returns-in_default : goal.returns-in_default
returns-in_default c =
    rw set-get_or (listing_ends _ c.requires.forms c.requires.size_right _ _ c.requires.used_in _ _ _ _ c.loop-entry.invariant c.in_default.is)

pub count-requires : goal.count-requires
count-requires c =
    counting_below _ c.requires.forms c.requires.size_right _ _ c.requires.used_in _ _ c.loop-entry.invariant.counting c.in-Some.k c.in-Some.is

pub step-w-requires-clause-goes : goal.step-w-requires-clause-goes
step-w-requires-clause-goes c =
    counting_goes _ c.requires.forms c.requires.size_right _ _ c.requires.used_in _ _ c.loop-entry.invariant.counting c.in-Some.k c.in-Some.is

pub loop-entry-preserved : goal.loop-entry-preserved
loop-entry-preserved c =
    let e = to_z-of_z (sfits_of {w = w32} c.count.type_inv) ∙ c.count.ensures in
    listing_on _ c.requires.forms c.requires.size_right _ _ c.requires.used_in _ _ c.loop-entry.invariant.counting c.in-Some.k c.in-Some.is _ _ _ _ c.step-w.ensures
    c.loop-entry.invariant.room c.loop-entry.invariant.written e

pub returns : goal.returns
returns c =
    listing_full _ c.requires.forms c.requires.size_right _ _ c.requires.used_in _ _ _ _ c.loop-entry.invariant (omega arith)
