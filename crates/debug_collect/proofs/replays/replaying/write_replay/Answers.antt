use Rattle.std.proofs.Common.{◌≡◌, nat_lt, true, List, length, Ok, Err, inr, refl, sym, subst}
use Rattle.std.specs.Prelude.{◌⊎◌}
use Rattle.ada_tree.specs.PlainProgram.{PProgram, plain_program}
use Rattle.ada_tree.specs.declared.whole.Program.{Program}
use Rattle.event_machine.specs.declared.Event.{Event}
use Rattle.normal_form.specs.declared.errors.XformError.TheVariants.{TooManyEvents, Memory}
use Rattle.replay_model.specs.ReplayTree.{most_events, replayed}
use Rattle.debug_outcome.specs.Coming.{Comes, Never, stop_by}
use Rattle.debug_outcome.specs.Outcomes.{Outcome}
use Rattle.debug_outcome.specs.declared.stopping.Stop.{Stop}
use Rattle.debug_outcome.proofs.Comings.{comes_more, stops_come, stops_more}
use Rattle.debug_sequence.specs.Sequences.{IsRefusedSequence}
use Rattle.debug_outcome.specs.Printing.{printed_outcome}
use Rattle.debug_collect.specs.replays.inner.Printing.{ComeTo}
use Rattle.debug_collect.specs.replays.ReplayOutcomes.{ReplaysLines, refusal_of_replay}
use Rattle.debug_collect.proofs.replays.Keeping.{called}
use Rattle.debug_collect.proofs.replays.OwnTasks.{lists_for_all}
use Rattle.debug_collect.proofs.replays.TextOutcomes.{one_error, stops_replay, text_called}
use Rattle.debug_collect.proofs.replays.replaying.write_replay.Goals as goal

pub read_sequence-requires-clause-tasks : goal.read_sequence-requires-clause-tasks
read_sequence-requires-clause-tasks g c = lists_for_all (plain_program c.args.program.now) c.args.types.now c.args.numbers.now c.requires.legal.placed c.requires.own

pub returns-in-Err : goal.returns-in-Err
returns-in-Err g c =
    let p : PProgram = plain_program c.args.program.now in
    let A : Outcome → Type 0 = ReplaysLines p c.args.types.now c.args.numbers.now c.args.lines.now in
    stops_come A Never (g.K.Sink.told c.args.out.now) (g.K.Sink.faults c.args.out.now) c.in-Err.stop
    (stops_more (IsRefusedSequence p.names c.args.numbers.now c.args.lines.now) A c.in-Err.stop (λ o bad. inr (inr bad)) c.in-Err.ensures.refused)

pub returns-in-Ok-replay : goal.returns-in-Ok-replay
returns-in-Ok-replay g c =
    let p : PProgram = plain_program c.args.program.now in
    let made : replayed p c.args.types.now c.args.numbers.now c.in-Ok.events.items ≡ Ok (plain_program c.in-Ok-replay.text) = subst (λ (es : List Event). replayed p c.args.types.now c.args.numbers.now es ≡ Ok (plain_program c.in-Ok-replay.text)) c.deref.ensures.value c.in-Ok-replay.ensures.text in
    comes_more (λ o. o ≡ printed_outcome (plain_program c.in-Ok-replay.text)) (ReplaysLines p c.args.types.now c.args.numbers.now c.args.lines.now) Never Never
    (g.K.Sink.told c.args.out.now) (g.K.Sink.told c.write_text.new.out) (g.K.Sink.faults c.args.out.now) (g.K.Sink.faults c.write_text.new.out) c.write_text.result
    (λ o is. called p c.requires.legal c.args.lines.now c.args.types.now c.args.numbers.now c.requires.own o
    (text_called p c.args.types.now c.args.numbers.now c.args.lines.now c.in-Ok.events.items c.in-Ok.ensures.reads (plain_program c.in-Ok-replay.text) o made is)) (λ o never. never)
    c.write_text.ensures

pub returns : goal.returns
returns g c =
    let p : PProgram = plain_program c.args.program.now in
    let A : Outcome → Type 0 = ReplaysLines p c.args.types.now c.args.numbers.now c.args.lines.now in
    subst
    (λ (stop : Stop). Comes A Never (g.K.Sink.told c.args.out.now) (g.K.Sink.told c.args.out.now) (g.K.Sink.faults c.args.out.now) (g.K.Sink.faults c.args.out.now) (Err stop))
    (sym c.replay_failure.ensures)
    (stops_come A Never (g.K.Sink.told c.args.out.now) (g.K.Sink.faults c.args.out.now) (stop_by (refusal_of_replay c.in-Err-replay.error))
    (stops_more (ComeTo p c.args.types.now c.args.numbers.now c.args.lines.now) A (stop_by (refusal_of_replay c.in-Err-replay.error)) (called p c.requires.legal c.args.lines.now c.args.types.now c.args.numbers.now c.requires.own)
    (stops_replay p c.args.types.now c.args.numbers.now c.args.lines.now c.in-Ok.events.items c.in-Ok.ensures.reads c.in-Err-replay.error
    (λ long. one_error {A = Program} (Err c.in-Err-replay.error) c.in-Err-replay.error (TooManyEvents most_events) refl (c.in-Err-replay.ensures.limit (subst (λ (es : List Event). nat_lt most_events (length es) ≡ true) (sym c.deref.ensures.value) long)))
    (subst (λ (es : List Event). (c.in-Err-replay.error ≡ Memory) ⊎ (nat_lt most_events (length es) ≡ true)) c.deref.ensures.value c.in-Err-replay.ensures.cause))))
