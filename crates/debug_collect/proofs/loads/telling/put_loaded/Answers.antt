use Rattle.std.proofs.Common.{◌≡◌, ap, sym}
use Rattle.debug_outcome.proofs.Comings.{has_put, has_broken}
use Rattle.debug_collect.specs.loads.LoadOutcomes.{first_line, load_text}
use Rattle.debug_collect.specs.loads.inner.Loaded.{outcome_of}
use Rattle.debug_collect.proofs.loads.telling.put_loaded.Goals as goal

pub returns-in-Ok : goal.returns-in-Ok
returns-in-Ok g c =
    has_put _ _ c.in-Ok.field-0 (λ o. o ≡ outcome_of c.args.n c.args.loaded.now) (first_line c.args.n) c.in-Cut.status
    (g.K.Sink.told c.args.out.now) (g.K.Sink.told c.put_first.new.out) (g.K.Sink.faults c.args.out.now) (g.K.Sink.faults c.put_first.new.out)
    (sym (ap (outcome_of c.args.n) c.in-Cut.is)) c.in-Ok.ensures.bytes c.in-Ok.ensures.cause

pub returns-in-Err : goal.returns-in-Err
returns-in-Err g c =
    has_broken _ _ c.in-Err.field-0 (λ o. o ≡ outcome_of c.args.n c.args.loaded.now) (first_line c.args.n) c.in-Cut.status
    (g.K.Sink.told c.args.out.now) (g.K.Sink.told c.put_first.new.out) (g.K.Sink.faults c.args.out.now) (g.K.Sink.faults c.put_first.new.out)
    (sym (ap (outcome_of c.args.n) c.in-Cut.is)) c.in-Err.ensures.bytes c.in-Err.ensures.cause

pub returns-in-Ok-put_all : goal.returns-in-Ok-put_all
returns-in-Ok-put_all g c =
    has_put _ _ c.in-Ok-put_all.field-0 (λ o. o ≡ outcome_of c.args.n c.args.loaded.now)
    (load_text c.args.n c.in-Whole.figures.events c.in-Whole.figures.verdict c.in-Whole.figures.replayed) 0
    (g.K.Sink.told c.args.out.now) (g.K.Sink.told c.put_all.new.out) (g.K.Sink.faults c.args.out.now) (g.K.Sink.faults c.put_all.new.out)
    (sym (ap (outcome_of c.args.n) c.in-Whole.is)) c.in-Ok-put_all.ensures.bytes c.in-Ok-put_all.ensures.cause

pub returns-in-Err-put_all : goal.returns-in-Err-put_all
returns-in-Err-put_all g c =
    has_broken _ _ c.in-Err-put_all.field-0 (λ o. o ≡ outcome_of c.args.n c.args.loaded.now)
    (load_text c.args.n c.in-Whole.figures.events c.in-Whole.figures.verdict c.in-Whole.figures.replayed) 0
    (g.K.Sink.told c.args.out.now) (g.K.Sink.told c.put_all.new.out) (g.K.Sink.faults c.args.out.now) (g.K.Sink.faults c.put_all.new.out)
    (sym (ap (outcome_of c.args.n) c.in-Whole.is)) c.in-Err-put_all.ensures.bytes c.in-Err-put_all.ensures.cause
