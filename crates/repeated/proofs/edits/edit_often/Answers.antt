-- `edits::edit_often` meets its contract: the runs before and then one more keep the solids. Assumes nothing.
use mathlib.Core.Path.{◌≡◌, refl}
use denote.Param.Always.{mut_by}
use Rattle.std.proofs.Common.{rules}
use Rattle.repeated.specs.Edit.{CanEdit, Edited, edited_again}
use Rattle.repeated.specs.Often.{often_writes}
use Rattle.repeated.specs.contracts.edits.fn.edit_often.run as run
use Rattle.repeated.proofs.edits.edit_often.Goals as goal

pub often-requires : goal.often-requires
often-requires c =
    mut_by _ (λ f. let s = run.captures f in (s.area ≡ c.args.area) × (s.label ≡ c.args.label) × CanEdit s.t.now c.args.area.left c.args.area.bottom c.args.area.right c.args.area.top c.args.label)
    (λ f a i. search rules) (λ f a n e i s. search rules) _ (refl, refl, c.requires)

pub returns : goal.returns
returns c =
    let o = often_writes _
    (λ f. let s = run.captures f in (s.area ≡ c.args.area) × (s.label ≡ c.args.label))
    (λ f. (run.captures f).t) (λ t u k. Edited t u c.args.area.left c.args.area.bottom c.args.area.right c.args.area.top c.args.label k)
    (λ f h n g s o. search rules) (λ t u v j k. edited_again t u v _ _ _ _ _ j k) _ _ _ _ _ (refl, refl) c.often.ensures in
    search rules
