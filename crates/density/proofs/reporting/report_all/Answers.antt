-- `density::reporting::report_all` meets its contract: the list takes all tiles of any table, and what is counted becomes the report. Assumes nothing.
use Rattle.std.proofs.Common.{subst}
use Rattle.seek.specs.Queue.{gathers_front}
use Rattle.density.specs.Counts.{Counts}
use Rattle.density.specs.Reporting.{report_from}
use Rattle.density.proofs.reporting.report_all.Goals as goal

pub spread-requires-clause-each : goal.spread-requires-clause-each
spread-requires-clause-each c = gathers_front _ _ _ _ c.gather-n.ensures

pub returns : goal.returns
returns c =
    let out = c.args.out.now in
    let n = c.spread.ensures out (subst (λ n. Counts out c.clear.new.out n (λ m. 0)) c.count.ensures c.clear.ensures) in
    report_from _ _ _ _ _ _ _ _ n.long n.rest c.tally.ensures
