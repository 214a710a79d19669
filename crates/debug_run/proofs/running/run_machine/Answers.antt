use Rattle.std.proofs.Common.{inr}
use Rattle.debug_run.proofs.Textual.{header_cut, lines_cut, lines_short, rest_cut, run_put}
use Rattle.debug_run.proofs.running.run_machine.Goals as goal

pub returns-in-Err : goal.returns-in-Err
returns-in-Err g c =
    header_cut g.C.Chooser.word g.C.Chooser.next c.args.names.now c.args.numbers.now c.args.machine.now c.args.choices.now c.args.turns (g.K.Sink.told c.args.out.now) (g.K.Sink.told c.put_header.new.out) (g.K.Sink.faults c.args.out.now) (g.K.Sink.faults c.put_header.new.out)
    _ _ c.in-Err.field-0 c.in-Err.ensures.bytes c.in-Err.ensures.cause

pub returns-in-Err-Memory : goal.returns-in-Err-Memory
returns-in-Err-Memory g c =
    let cut = rw c.in-Err-Memory.field-0-is at c.in-Err-Memory.ensures.cut_off in
    inr
    (lines_short g.C.Chooser.word g.C.Chooser.next c.args.names.now c.args.numbers.now c.args.machine.now c.args.choices.now c.args.turns (g.K.Sink.told c.args.out.now) (g.K.Sink.told c.put_header.new.out) (g.K.Sink.faults c.args.out.now) (g.K.Sink.faults c.put_header.new.out)
    _ _ c.in-Ok.field-0 (g.K.Sink.told c.run.new.out) (g.K.Sink.faults c.run.new.out) c.in-Ok.ensures.bytes c.in-Ok.ensures.cause cut.lines cut.own_lines.1)

pub returns-in-Err-Sink : goal.returns-in-Err-Sink
returns-in-Err-Sink g c =
    let cut = rw c.in-Err-Sink.field-0-is at c.in-Err-Sink.ensures.cut_off in
    lines_cut g.C.Chooser.word g.C.Chooser.next c.args.names.now c.args.numbers.now c.args.machine.now c.args.choices.now c.args.turns (g.K.Sink.told c.args.out.now) (g.K.Sink.told c.put_header.new.out) (g.K.Sink.faults c.args.out.now) (g.K.Sink.faults c.put_header.new.out)
    _ _ c.in-Ok.field-0 (g.K.Sink.told c.run.new.out) (g.K.Sink.faults c.run.new.out) c.in-Ok.ensures.bytes c.in-Ok.ensures.cause cut.lines cut.own_lines.1

pub returns-in-Ok-put_rest : goal.returns-in-Ok-put_rest
returns-in-Ok-put_rest g c =
    run_put g.C.Chooser.word g.C.Chooser.next c.args.names.now c.args.numbers.now c.args.machine.now c.args.choices.now c.args.turns (g.K.Sink.told c.args.out.now) (g.K.Sink.told c.put_header.new.out) (g.K.Sink.faults c.args.out.now) (g.K.Sink.faults c.put_header.new.out)
    _ _ c.in-Ok.field-0 (g.K.Sink.told c.run.new.out) (g.K.Sink.faults c.run.new.out) c.in-Ok.ensures.bytes c.in-Ok.ensures.cause
    c.in-Ok-run.report.end c.in-Ok-run.report.made c.run.new.m (g.K.Sink.told c.put_rest.new.out) (g.K.Sink.faults c.put_rest.new.out)
    c.in-Ok-run.ensures.lines c.in-Ok-run.ensures.made c.in-Ok-run.ensures.end c.in-Ok-run.ensures.machine c.in-Ok-run.ensures.no_fault
    _ _ c.in-Ok-put_rest.field-0 c.status_of.result c.in-Ok-put_rest.ensures.bytes c.in-Ok-put_rest.ensures.cause c.status_of.ensures

pub returns-in-Err-put_rest : goal.returns-in-Err-put_rest
returns-in-Err-put_rest g c =
    rest_cut g.C.Chooser.word g.C.Chooser.next c.args.names.now c.args.numbers.now c.args.machine.now c.args.choices.now c.args.turns (g.K.Sink.told c.args.out.now) (g.K.Sink.told c.put_header.new.out) (g.K.Sink.faults c.args.out.now) (g.K.Sink.faults c.put_header.new.out)
    _ _ c.in-Ok.field-0 (g.K.Sink.told c.run.new.out) (g.K.Sink.faults c.run.new.out) c.in-Ok.ensures.bytes c.in-Ok.ensures.cause
    c.in-Ok-run.report.end c.in-Ok-run.report.made c.run.new.m (g.K.Sink.told c.put_rest.new.out) (g.K.Sink.faults c.put_rest.new.out)
    c.in-Ok-run.ensures.lines c.in-Ok-run.ensures.made c.in-Ok-run.ensures.end c.in-Ok-run.ensures.machine c.in-Ok-run.ensures.no_fault
    _ _ c.in-Err-put_rest.field-0 c.in-Err-put_rest.ensures.bytes c.in-Err-put_rest.ensures.cause
