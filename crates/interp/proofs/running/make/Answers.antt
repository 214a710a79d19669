use Rattle.interp.proofs.Turning.{line_written, line_broken}
use Rattle.interp.proofs.running.make.Goals as goal

pub returns-in-Ok-put_event-clause-lines : goal.returns-in-Ok-put_event-clause-lines
returns-in-Ok-put_event-clause-lines g c =
    line_written _ c.args.numbers.now c.args.m.now c.args.action c.in-Ok.event _ _ _ c.in-Ok.ensures.event c.in-Ok-put_event.ensures.bytes

pub returns-in-Err-put_event-clause-cut : goal.returns-in-Err-put_event-clause-cut
returns-in-Err-put_event-clause-cut g c =
    line_broken _ c.args.numbers.now c.args.m.now c.apply.new.self c.args.action c.in-Ok.event c.in-Err-put_event.field-0 _ _ _ _
    c.in-Ok.ensures.event c.in-Ok.ensures.after c.in-Err-put_event.ensures.bytes c.in-Err-put_event.ensures.cause
