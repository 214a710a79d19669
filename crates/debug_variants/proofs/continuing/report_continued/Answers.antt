use Rattle.std.proofs.Common.{◌≤◌, ◌+◌, List, length, inl, inr, subst, arith}
use Rattle.ada_tree.specs.PlainProgram.{plain_program}
use Rattle.event_machine.specs.declared.Event.{Event}
use Rattle.seq_file.specs.Files.{most_events}
use Rattle.task_model.specs.Machine.{ProgramWithInputs}
use Rattle.task_model.specs.Setting.{Setting}
use Rattle.task_machine.specs.Table.{setup_in}
use Rattle.debug_outcome.specs.Coming.{Comes, Never}
use Rattle.debug_outcome.proofs.Comings.{comes_more}
use Rattle.debug_variants.specs.ContinueOutcomes.{ContinueMeans, GoesOnFrom}
use Rattle.debug_variants.proofs.continuing.report_continued.Goals as goal

pub returns : goal.returns
returns g c =
    let setup : ProgramWithInputs = record { program = plain_program c.args.program.now; types = c.args.types.now; inputs = c.args.inputs.now } in
    let events : List Event = c.in-Ok-read_sequence.events.items in
    let few : length events + c.args.count ≤ most_events = omega (arith, c.len.ensures, c.if-len-count.false) in
    comes_more (GoesOnFrom g.C.Chooser.word g.C.Chooser.next setup c.args.numbers.now c.args.bound events c.args.choices.now c.args.count)
    (ContinueMeans g.C.Chooser.word g.C.Chooser.next setup c.args.numbers.now c.args.lines.now c.args.choices.now c.args.count c.args.bound) Never Never
    (g.K.Sink.told c.args.out.now) (g.K.Sink.told c.report_from.new.out) (g.K.Sink.faults c.args.out.now) (g.K.Sink.faults c.report_from.new.out) c.report_from.result
    (λ o told. inl (record { events = events; reads = c.in-Ok-read_sequence.ensures.reads; told = inr (record { few = few; told = told }) })) (λ o never. never)
    (subst (λ (s : Setting). Comes (GoesOnFrom g.C.Chooser.word g.C.Chooser.next (setup_in s c.args.inputs.now) s.numbers c.args.bound events c.args.choices.now c.args.count) Never
    (g.K.Sink.told c.args.out.now) (g.K.Sink.told c.report_from.new.out) (g.K.Sink.faults c.args.out.now) (g.K.Sink.faults c.report_from.new.out) c.report_from.result) c.in-Ok.ensures c.report_from.ensures)
