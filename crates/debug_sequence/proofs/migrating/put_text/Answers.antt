use Rattle.std.proofs.Common.{◌≡◌, ap}
use Rattle.debug_outcome.specs.Outcomes.{writes}
use Rattle.debug_outcome.proofs.Comings.{has_put, has_broken}
use Rattle.debug_sequence.proofs.migrating.put_text.Goals as goal

pub returns-in-Ok : goal.returns-in-Ok
returns-in-Ok g c =
    has_put _ _ c.in-Ok.field-0 (λ o. o ≡ writes c.args.text.now.bytes 0) c.bytes.result.now 0 (g.K.Sink.told c.args.out.now) (g.K.Sink.told c.put.new.self) (g.K.Sink.faults c.args.out.now)
    (g.K.Sink.faults c.put.new.self) (ap (λ t. writes t 0) c.bytes.ensures) c.in-Ok.ensures.bytes c.in-Ok.ensures.cause

pub returns-in-Err : goal.returns-in-Err
returns-in-Err g c =
    has_broken _ _ c.in-Err.field-0 (λ o. o ≡ writes c.args.text.now.bytes 0) c.bytes.result.now 0 (g.K.Sink.told c.args.out.now) (g.K.Sink.told c.put.new.self) (g.K.Sink.faults c.args.out.now)
    (g.K.Sink.faults c.put.new.self) (ap (λ t. writes t 0) c.bytes.ensures) c.in-Err.ensures.bytes c.in-Err.ensures.cause
