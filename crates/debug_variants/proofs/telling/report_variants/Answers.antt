use Rattle.std.proofs.Common.{List, inl, inr, subst}
use Rattle.event_machine.specs.declared.Event.{Event}
use Rattle.ada_tree.specs.PlainProgram.{plain_program}
use Rattle.task_model.specs.Machine.{ProgramWithInputs}
use Rattle.task_model.specs.Setting.{Setting}
use Rattle.task_machine.specs.Table.{setup_in}
use Rattle.debug_outcome.specs.Coming.{Comes}
use Rattle.debug_outcome.proofs.Comings.{comes_more, stops_come, stops_more}
use Rattle.debug_sequence.specs.Sequences.{IsRefusedSequence}
use Rattle.debug_variants.specs.VariantsOutcomes.{VariantsMean, VariantsOf}
use Rattle.debug_variants.proofs.telling.report_variants.Goals as goal

pub returns-in-Err-read_sequence : goal.returns-in-Err-read_sequence
returns-in-Err-read_sequence g c =
    let setup : ProgramWithInputs = record { program = plain_program c.args.program.now; types = c.args.types.now; inputs = c.args.inputs.now } in
    stops_come (VariantsMean setup c.args.numbers.now c.args.lines.now c.args.bound) (VariantsMean setup c.args.numbers.now c.args.lines.now c.args.bound)
    (g.K.Sink.told c.args.out.now) (g.K.Sink.faults c.args.out.now) c.in-Err-read_sequence.stop
    (stops_more (IsRefusedSequence setup.program.names c.args.numbers.now c.args.lines.now) (VariantsMean setup c.args.numbers.now c.args.lines.now c.args.bound) c.in-Err-read_sequence.stop
    (λ o refused. inr refused) c.in-Err-read_sequence.ensures.refused)

pub returns : goal.returns
returns g c =
    let setup : ProgramWithInputs = record { program = plain_program c.args.program.now; types = c.args.types.now; inputs = c.args.inputs.now } in
    let events : List Event = c.in-Ok-read_sequence.events.items in
    comes_more (VariantsOf setup c.args.numbers.now c.args.bound events) (VariantsMean setup c.args.numbers.now c.args.lines.now c.args.bound)
    (VariantsOf setup c.args.numbers.now c.args.bound events) (VariantsMean setup c.args.numbers.now c.args.lines.now c.args.bound)
    (g.K.Sink.told c.args.out.now) (g.K.Sink.told c.report_events.new.out) (g.K.Sink.faults c.args.out.now) (g.K.Sink.faults c.report_events.new.out) c.report_events.result
    (λ o told. inl (record { events = events; reads = c.in-Ok-read_sequence.ensures.reads; told = told }))
    (λ o told. inl (record { events = events; reads = c.in-Ok-read_sequence.ensures.reads; told = told }))
    (subst (λ (es : List Event). Comes (VariantsOf setup c.args.numbers.now c.args.bound es) (VariantsOf setup c.args.numbers.now c.args.bound es)
    (g.K.Sink.told c.args.out.now) (g.K.Sink.told c.report_events.new.out) (g.K.Sink.faults c.args.out.now) (g.K.Sink.faults c.report_events.new.out) c.report_events.result) c.deref.ensures.value
    (subst (λ (s : Setting). Comes (VariantsOf (setup_in s c.args.inputs.now) s.numbers c.args.bound c.deref.result.now) (VariantsOf (setup_in s c.args.inputs.now) s.numbers c.args.bound c.deref.result.now)
    (g.K.Sink.told c.args.out.now) (g.K.Sink.told c.report_events.new.out) (g.K.Sink.faults c.args.out.now) (g.K.Sink.faults c.report_events.new.out) c.report_events.result) c.in-Ok.ensures c.report_events.ensures))
