use Rattle.std.proofs.Common.{◌≡◌, ap}
use Rattle.debug_outcome.specs.Outcomes.{writes}
use Rattle.debug_outcome.proofs.Comings.{has_put, has_broken}
use Rattle.debug_run.specs.RunOutcomes.{run_status}
use Rattle.debug_collect.proofs.recording.put_recorded.Goals as goal

pub returns-in-Ok : goal.returns-in-Ok
returns-in-Ok g c =
    has_put _ _ c.in-Ok.field-0 (λ o. o ≡ writes c.args.recorded.now.file.items (run_status c.args.recorded.now.end)) c.as_slice.result.now c.status_of.result
    (g.K.Sink.told c.args.out.now) (g.K.Sink.told c.put.new.self) (g.K.Sink.faults c.args.out.now) (g.K.Sink.faults c.put.new.self)
    (λ i. writes (c.as_slice.ensures.value i) (c.status_of.ensures i)) c.in-Ok.ensures.bytes c.in-Ok.ensures.cause

pub returns-in-Err : goal.returns-in-Err
returns-in-Err g c =
    has_broken _ _ c.in-Err.field-0 (λ o. o ≡ writes c.args.recorded.now.file.items (run_status c.args.recorded.now.end)) c.as_slice.result.now (run_status c.args.recorded.now.end)
    (g.K.Sink.told c.args.out.now) (g.K.Sink.told c.put.new.self) (g.K.Sink.faults c.args.out.now) (g.K.Sink.faults c.put.new.self)
    (ap (λ t. writes t (run_status c.args.recorded.now.end)) c.as_slice.ensures.value) c.in-Err.ensures.bytes c.in-Err.ensures.cause
