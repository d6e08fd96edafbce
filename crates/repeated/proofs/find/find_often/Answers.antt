-- `find::find_often` meets its contract: each run found the tile. Assumes nothing.
use mathlib.Core.Path.{◌≡◌, refl}
use Rattle.std.proofs.Common.{rules}
use Rattle.seek.specs.Find.{Finds}
use Rattle.repeated.specs.Often.{often_gives}
use Rattle.repeated.specs.contracts.find.fn.find_often.run as run
use Rattle.repeated.proofs.find.find_often.Goals as goal

pub returns : goal.returns
returns c =
    (often_gives _
    (λ f. let s = run.captures f in (s.t.now ≡ c.args.t.now) × (s.cell ≡ c.args.cell))
    (λ f k g. Finds c.args.t.now c.args.cell.x c.args.cell.y k)
    (λ f h k g s o. search rules) (λ f j e k g a b. b) _ _ _ _ _ (refl, refl) c.often.ensures).1
