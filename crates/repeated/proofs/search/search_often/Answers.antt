-- `search::search_often` meets its contract: each run saw what there is. Assumes nothing.
use mathlib.Core.Path.{◌≡◌, refl}
use Rattle.std.proofs.Common.{rules}
use Rattle.seek.specs.Enumerate.{area_of}
use Rattle.seek.specs.Search.{Searches}
use Rattle.repeated.specs.Often.{often_gives}
use Rattle.repeated.specs.contracts.search.fn.search_often.run as run
use Rattle.repeated.proofs.search.search_often.Goals as goal

pub returns : goal.returns
returns c =
    (often_gives _
    (λ f. let s = run.captures f in (s.t.now ≡ c.args.t.now) × (s.rect ≡ c.args.rect))
    (λ f m g. Searches c.args.t.now (area_of c.args.rect.area) m)
    (λ f h m g s o. search rules) (λ f j e k g a b. b) _ _ _ _ _ (refl, refl) c.often.ensures).1
