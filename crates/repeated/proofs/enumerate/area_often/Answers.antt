-- `enumerate::area_often` meets its contract: what is listed by runs before and then by one more is listed. Assumes nothing.
use mathlib.Core.Path.{◌≡◌, refl}
use denote.Param.Always.{mut_by}
use Rattle.std.proofs.Common.{rules}
use Rattle.seek.specs.Enumerate.{area_of}
use Rattle.repeated.specs.Often.{often_writes}
use Rattle.repeated.specs.Runs.{area_twice}
use Rattle.repeated.specs.Says.{AreaListed}
use Rattle.repeated.specs.contracts.enumerate.fn.area_often.run as run
use Rattle.repeated.proofs.enumerate.area_often.Goals as goal

pub often-requires : goal.often-requires
often-requires c =
    mut_by _ (λ f. let s = run.captures f in (s.t.now ≡ c.args.t.now) × (s.rect ≡ c.args.rect))
    (λ f a i. search rules) (λ f a n e i s. search rules) _ (refl, refl)

pub returns : goal.returns
returns c =
    let o = often_writes _
    (λ f. let s = run.captures f in (s.t.now ≡ c.args.t.now) × (s.rect ≡ c.args.rect))
    (λ f. (run.captures f).list) (AreaListed c.args.t.now (area_of c.args.rect.area))
    (λ f h n g s o. search rules) (area_twice _ c.requires.forms _) _ _ _ _ _ (refl, refl) c.often.ensures in
    search rules
