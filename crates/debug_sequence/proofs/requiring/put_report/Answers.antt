use Rattle.std.proofs.Common.{◌≡◌, refl, ap}
use Rattle.ded_io.specs.Written.{each_text}
use Rattle.debug_outcome.specs.Outcomes.{writes}
use Rattle.debug_outcome.proofs.Comings.{has_put, has_broken}
use Rattle.debug_sequence.specs.RequireOutcomes.{finding_line, findings_status}
use Rattle.debug_sequence.proofs.requiring.put_report.Goals as goal

pub returns-in-Ok : goal.returns-in-Ok
returns-in-Ok g c =
    has_put _ _ c.in-Ok.field-0 (λ o. o ≡ writes (each_text finding_line c.args.findings.now) (findings_status c.args.findings.now)) (each_text finding_line c.args.findings.now) c.status_of.result
    (g.K.Sink.told c.args.out.now) (g.K.Sink.told c.put_findings.new.out) (g.K.Sink.faults c.args.out.now) (g.K.Sink.faults c.put_findings.new.out)
    (ap (writes (each_text finding_line c.args.findings.now)) c.status_of.ensures) c.in-Ok.ensures.bytes c.in-Ok.ensures.cause

pub returns-in-Err : goal.returns-in-Err
returns-in-Err g c =
    has_broken _ _ c.in-Err.field-0 (λ o. o ≡ writes (each_text finding_line c.args.findings.now) (findings_status c.args.findings.now)) (each_text finding_line c.args.findings.now) (findings_status c.args.findings.now)
    (g.K.Sink.told c.args.out.now) (g.K.Sink.told c.put_findings.new.out) (g.K.Sink.faults c.args.out.now) (g.K.Sink.faults c.put_findings.new.out) refl c.in-Err.ensures.bytes c.in-Err.ensures.cause
