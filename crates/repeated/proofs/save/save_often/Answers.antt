-- `save::save_often` meets its contract: what is saved by runs before and then by one more is saved. Assumes nothing.
use mathlib.Core.Path.{◌≡◌, refl}
use denote.Param.Always.{mut_by}
use Prim.Native.Nat.{◌≤◌, ◌*◌}
use lib.ListN.{length}
use Rattle.std.proofs.Common.{rules}
use Rattle.table.specs.Sound.{solids_in}
use Rattle.layout.specs.Bytes.{SAVED}
use Rattle.layout.specs.Order.{Saves}
use Rattle.repeated.specs.Often.{often_writes}
use Rattle.repeated.specs.Runs.{saves_twice}
use Rattle.repeated.specs.contracts.save.fn.save_often.run as run
use Rattle.repeated.proofs.save.save_often.Goals as goal

pub often-requires : goal.often-requires
often-requires c =
    mut_by _ (λ f. let s = run.captures f in (s.t.now ≡ c.args.t.now) × (SAVED * solids_in c.args.t.now ≤ length s.bytes.now))
    (λ f a i. search rules) (λ f a n e i s. search rules) _ (refl, c.requires.t_in_bounds)

pub returns : goal.returns
returns c =
    let o = often_writes _
    (λ f. (run.captures f).t.now ≡ c.args.t.now)
    (λ f. (run.captures f).bytes) (Saves c.args.t.now)
    (λ f h n g s o. search rules) (saves_twice _) _ _ _ _ _ refl c.often.ensures in
    search rules
