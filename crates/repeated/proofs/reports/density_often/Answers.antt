-- `reports::density_often` meets its contract: what is reported by runs before and then by one more is reported. Assumes nothing.
use mathlib.Core.Path.{◌≡◌, refl}
use denote.Param.Always.{mut_by}
use Prim.Native.Nat.{◌≤◌}
use lib.ListN.{length}
use Rattle.std.proofs.Common.{rules}
use Rattle.seek.specs.Enumerate.{area_of}
use Rattle.density.specs.Meaning.{windows_of}
use Rattle.density.specs.Report.{Reports}
use Rattle.density.specs.Reporting.{report_from}
use Rattle.repeated.specs.Often.{often_writes}
use Rattle.repeated.specs.contracts.reports.fn.density_often.run as run
use Rattle.repeated.proofs.reports.density_often.Goals as goal

pub often-requires : goal.often-requires
often-requires c =
    mut_by _ (λ f. let s = run.captures f in (s.t.now ≡ c.args.t.now) × (s.windows ≡ c.args.windows) × (windows_of (area_of c.args.windows.rect.area) c.args.windows.width c.args.windows.height ≤ length s.out.now))
    (λ f a i. search rules) (λ f a n e i s. search rules) _ (refl, refl, c.requires.windows_in_bounds)

pub returns : goal.returns
returns c =
    let o = often_writes _
    (λ f. let s = run.captures f in (s.t.now ≡ c.args.t.now) × (s.windows ≡ c.args.windows))
    (λ f. (run.captures f).out) (Reports c.args.t.now (area_of c.args.windows.rect.area) c.args.windows.width c.args.windows.height)
    (λ f h n g s o. search rules) (λ old mid new q r a b. report_from _ _ _ _ _ _ _ _ a.written.long a.written.rest b) _ _ _ _ _ (refl, refl) c.often.ensures in
    search rules
