-- `ushanderi::reports::density_in` meets its contract: SHORT is decided before any window is looked at. Assumes nothing.
use mathlib.Core.Path.{refl, ap, ◌∙◌}
use native.Mathlib.Omega.{arith}
use Rattle.seek.specs.Enumerate.{area_of}
use Rattle.ushanderi.specs.Answers.{SHORT, answered, reported, unreported}
use Rattle.ushanderi.specs.Promises.{DensitySays}
use Rattle.ushanderi.specs.Reading.{fit_forms}
use Rattle.ushanderi.specs.Reports.{windows_long, covered_long, density_same}
use Rattle.ushanderi.proofs.reports.density_in.Goals as goal

pub returns-in_default : goal.returns-in_default
returns-in_default c = DensitySays.step c.requires c.args.rect.right c.in_default.ensures c.from.ensures refl

pub refused_with-requires : goal.refused_with-requires
refused_with-requires c =
    let v = c.in-Some.windows in
    omega (arith, c.count-count.ensures, windows_long _ v.rect.right _ _ v.divides)

pub returns-then-out-count : goal.returns-then-out-count
returns-then-out-count c =
    let v = c.in-Some.windows in
    let (r, w, h) = c.in-Some.ensures in
    density_same (ap (λ r. area_of r.area) r) w h
    (DensitySays.short c.requires v.rect.right v.divides (omega (arith, c.count-count.ensures))
    (c.refused_with.ensures ∙ ap (λ n. unreported (answered SHORT n)) c.count-count.ensures) refl)

pub first_used-from-requires : goal.first_used-from-requires
first_used-from-requires c = fit_forms _ c.requires

pub report_all-report-requires : goal.report_all-report-requires
report_all-report-requires c =
    record { forms = fit_forms _ c.requires; size_right = c.requires.size; used_in = c.first_used-from.ensures.used; h_in_bounds = omega (arith, c.count-count.ensures) }

pub done-requires : goal.done-requires
done-requires c =
    let v = c.in-Some.windows in
    record { windows_bound = omega (arith, c.count-count.ensures, windows_long _ v.rect.right _ _ v.divides); covered_bound = covered_long _ _ v.rect.right _ _ v.divides _ _ _ c.report_all-report.ensures }

pub returns : goal.returns
returns c =
    let v = c.in-Some.windows in
    let (r, w, h) = c.in-Some.ensures in
    density_same (ap (λ r. area_of r.area) r) w h
    (DensitySays.done c.requires v.rect.right v.divides (omega (arith, c.count-count.ensures)) c.report_all-report.result c.report_all-report.ensures
    (c.done.ensures ∙ ap (λ n. reported n c.report_all-report.result) c.count-count.ensures))
