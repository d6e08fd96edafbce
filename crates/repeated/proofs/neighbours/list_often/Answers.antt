-- `neighbours::list_often` meets its contract: what is listed by runs before and then by one more is listed. Assumes nothing.
use mathlib.Core.Path.{◌≡◌, refl}
use denote.Param.Always.{mut_by}
use Rattle.std.proofs.Common.{rules}
use Rattle.repeated.specs.Often.{often_writes}
use Rattle.repeated.specs.Runs.{side_twice}
use Rattle.repeated.specs.Says.{SideListed}
use Rattle.repeated.specs.contracts.neighbours.fn.list_often.run as run
use Rattle.repeated.proofs.neighbours.list_often.Goals as goal

pub often-requires : goal.often-requires
often-requires c =
    mut_by _ (λ f. let s = run.captures f in (s.t.now ≡ c.args.t.now) × (s.cell ≡ c.args.cell) × (s.side ≡ c.args.side))
    (λ f a i. search rules) (λ f a n e i s. search rules) _ (refl, refl, refl)

pub returns : goal.returns
returns c =
    let o = often_writes _
    (λ f. let s = run.captures f in (s.t.now ≡ c.args.t.now) × (s.cell ≡ c.args.cell) × (s.side ≡ c.args.side))
    (λ f. (run.captures f).list) (SideListed c.args.t.now c.args.cell.x c.args.cell.y c.args.side)
    (λ f h n g s o. search rules) (side_twice _ c.requires.forms _ _ _) _ _ _ _ _ (refl, refl, refl) c.often.ensures in
    search rules
