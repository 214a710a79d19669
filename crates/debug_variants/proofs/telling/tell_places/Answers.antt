use Rattle.std.proofs.Common.{◌≡◌, ◌+◌, ◌≤◌, List, length, take, refl, sym, ap, ◌∙◌, subst, arith, inr}
use Rattle.std.proofs.lemmas.List.{take_more, length-take-le}
use Rattle.std.proofs.lemmas.Option.{slice_get-get_or}
use Rattle.event_machine.specs.declared.Event.{Event}
use Rattle.syn_event.specs.Numbering.{Numbering}
use Rattle.task_model.specs.Machine.{ProgramWithInputs}
use Rattle.task_machine.specs.declared.verdict.Verdict.TheVariants.{Feasible}
use Rattle.task_machine.specs.Judging.{VerdictIs}
use Rattle.task_machine.specs.Table.{setup_in}
use Rattle.feasible.specs.Keeping.{StandsFor}
use Rattle.feasible.proofs.Fronts.{no_end_front}
use Rattle.debug_outcome.specs.Coming.{Comes}
use Rattle.debug_judge.proofs.Giving.{nothing_follows, few_taken}
use Rattle.debug_variants.specs.VariantsOutcomes.{IsVariantsText}
use Rattle.debug_variants.specs.inner.Placing.{AreToldTo}
use Rattle.debug_variants.proofs.Placed.{done, begun}
use Rattle.debug_variants.proofs.Places.{count_least, front_feasible, head_broken, told_first, told_more, told_short, told_stops}
use Rattle.debug_variants.proofs.telling.tell_places.Goals as goal

pub returns-in-Err-put_numbered : goal.returns-in-Err-put_numbered
returns-in-Err-put_numbered g c =
    head_broken (setup_in c.args.links.now c.args.inputs.now) c.args.links.now.numbers c.args.bound c.args.events.now c.requires.feasible
    (g.K.Sink.told c.args.out.now) (g.K.Sink.told c.put_numbered.new.out) (g.K.Sink.faults c.args.out.now) (g.K.Sink.faults c.put_numbered.new.out)
    (begun _ _ c.in-Err-put_numbered.field-0 (g.K.Sink.told c.args.out.now) (g.K.Sink.told c.put_numbered.new.out) _ c.in-Err-put_numbered.ensures.bytes) c.in-Err-put_numbered.ensures.cause

pub loop-event-init : goal.loop-event-init
loop-event-init g c = record {
  told =
      told_first (setup_in c.args.links.now c.args.inputs.now) c.args.links.now.numbers c.args.bound c.args.events.now c.requires.feasible c.in-Ok.judge
      (g.K.Sink.told c.args.out.now) (g.K.Sink.told c.put_numbered.new.out) (g.K.Sink.faults c.args.out.now) (g.K.Sink.faults c.put_numbered.new.out)
      c.in-Ok.ensures.stands c.in-Ok.ensures.numbers c.in-Ok.ensures.bound
      (done _ _ c.in-Ok-put_numbered.field-0 (g.K.Sink.told c.args.out.now) (g.K.Sink.told c.put_numbered.new.out) _ c.in-Ok-put_numbered.ensures.bytes) c.in-Ok-put_numbered.ensures.cause;
  number = refl;
}

pub tell_place-requires-clause-feasible : goal.tell_place-requires-clause-feasible
tell_place-requires-clause-feasible g c =
    let told = c.loop-event.invariant.told in
    front_feasible (setup_in c.args.links.now c.args.inputs.now) c.args.links.now.numbers c.args.bound c.args.events.now c.requires.feasible c.loop-event.event-index c.loop-event.judge
    told.numbers_are told.bound_is told.stands

pub tell_place-requires-clause-numbers : goal.tell_place-requires-clause-numbers
tell_place-requires-clause-numbers g c = c.numbers.ensures ∙ sym c.loop-event.invariant.told.numbers_are

pub next-requires : goal.next-requires
next-requires g c =
    let setup : ProgramWithInputs = setup_in c.args.links.now c.args.inputs.now in
    let n = c.loop-event.event-index in
    let count : length (take n c.args.events.now) ≡ n = length-take-le n c.args.events.now (omega (arith, c.loop-event-test.true)) in
    let taken : c.loop-event.judge.taken ≤ length (take n c.args.events.now) = few_taken setup (take n c.args.events.now) c.loop-event.judge c.loop-event.invariant.told.stands in
    omega (arith, taken, count, c.in-Ok-tell_place.ensures.taken, c.requires.few, c.loop-event-test.true)

pub returns-in-Err-tell_place : goal.returns-in-Err-tell_place
returns-in-Err-tell_place g c =
    let setup : ProgramWithInputs = setup_in c.args.links.now c.args.inputs.now in
    let n = c.loop-event.event-index in
    told_stops setup c.args.links.now.numbers c.args.bound c.args.events.now c.requires.feasible n c.loop-event.judge
    (g.K.Sink.told c.args.out.now) (g.K.Sink.told c.loop-event.out) (g.K.Sink.told c.tell_place.new.out) (g.K.Sink.faults c.args.out.now) (g.K.Sink.faults c.loop-event.out) (g.K.Sink.faults c.tell_place.new.out)
    c.loop-event.invariant.told _ c.loop-event.number (sym (slice_get-get_or c.args.events.now n _ c.loop-event-test.true)) c.loop-event.invariant.number
    c.in-Err-tell_place.stop (omega (arith, count_least c.args.events.now, c.loop-event-test.true))
    (c.in-Err-tell_place.ensures.place setup (take n c.args.events.now) c.loop-event.invariant.told.stands)

pub returns-in-Err-next : goal.returns-in-Err-next
returns-in-Err-next g c =
    let setup : ProgramWithInputs = setup_in c.args.links.now c.args.inputs.now in
    let n = c.loop-event.event-index in
    inr
    (told_short setup c.args.links.now.numbers c.args.bound c.args.events.now c.requires.feasible n c.loop-event.judge
    (g.K.Sink.told c.args.out.now) (g.K.Sink.told c.loop-event.out) (g.K.Sink.told c.tell_place.new.out) (g.K.Sink.faults c.args.out.now) (g.K.Sink.faults c.loop-event.out) (g.K.Sink.faults c.tell_place.new.out)
    c.loop-event.invariant.told _ c.loop-event.number (sym (slice_get-get_or c.args.events.now n _ c.loop-event-test.true)) c.loop-event.invariant.number
    (omega (arith, count_least c.args.events.now, c.loop-event-test.true))
    (c.in-Ok-tell_place.ensures.place setup (take n c.args.events.now) c.loop-event.invariant.told.stands))

pub loop-event-preserved : goal.loop-event-preserved
loop-event-preserved g c =
    let setup : ProgramWithInputs = setup_in c.args.links.now c.args.inputs.now in
    let n = c.loop-event.event-index in
    let told = c.loop-event.invariant.told in
    record {
      told =
          told_more setup c.args.links.now.numbers c.args.bound c.args.events.now c.requires.feasible n c.loop-event.judge
          (g.K.Sink.told c.args.out.now) (g.K.Sink.told c.loop-event.out) (g.K.Sink.told c.tell_place.new.out) (g.K.Sink.faults c.args.out.now) (g.K.Sink.faults c.loop-event.out) (g.K.Sink.faults c.tell_place.new.out)
          told _ c.loop-event.number (sym (slice_get-get_or c.args.events.now n _ c.loop-event-test.true)) c.loop-event.invariant.number
          (c.in-Ok-tell_place.ensures.place setup (take n c.args.events.now) told.stands) c.next.new.self
          (subst (λ (es : List Event). StandsFor setup es c.next.new.self) (sym (take_more c.args.events.now n _ c.loop-event-test.true))
          (c.in-Ok-next.ensures.stands setup (take n c.args.events.now) (c.in-Ok-tell_place.ensures.stands setup (take n c.args.events.now) told.stands)
          (no_end_front c.args.events.now n c.loop-event-test.true (nothing_follows c.args.events.now c.requires.end))))
          (c.in-Ok-next.ensures.numbers ∙ c.in-Ok-tell_place.ensures.same_numbers) (c.in-Ok-next.ensures.bound ∙ c.in-Ok-tell_place.ensures.bound);
      number = ap (λ m. m + 1) c.loop-event.invariant.number;
    }

pub tell_last-requires-clause-feasible : goal.tell_last-requires-clause-feasible
tell_last-requires-clause-feasible g c =
    let told = c.loop-event.invariant.told in
    front_feasible (setup_in c.args.links.now c.args.inputs.now) c.args.links.now.numbers c.args.bound c.args.events.now c.requires.feasible c.loop-event.event-index c.loop-event.judge
    told.numbers_are told.bound_is told.stands

pub returns : goal.returns
returns g c =
    let setup : ProgramWithInputs = setup_in c.args.links.now c.args.inputs.now in
    let events : List Event = c.args.events.now in
    let all : c.loop-event.event-index ≡ length events = omega (arith, c.loop-event-test.false, c.loop-event.auto.event-index-end) in
    subst (λ (n : Numbering). Comes (IsVariantsText setup n c.args.bound events) (IsVariantsText setup n c.args.bound events)
    (g.K.Sink.told c.args.out.now) (g.K.Sink.told c.tell_last.new.out) (g.K.Sink.faults c.args.out.now) (g.K.Sink.faults c.tell_last.new.out) c.tell_last.result) c.numbers-2.ensures
    (c.tell_last.ensures setup c.args.bound events (g.K.Sink.told c.args.out.now) (g.K.Sink.faults c.args.out.now)
    (subst (λ (n : Numbering). AreToldTo setup n c.args.bound events (length events) c.loop-event.judge
    (g.K.Sink.told c.args.out.now) (g.K.Sink.told c.loop-event.out) (g.K.Sink.faults c.args.out.now) (g.K.Sink.faults c.loop-event.out)) (sym c.numbers-2.ensures)
    (subst (λ m. AreToldTo setup c.args.links.now.numbers c.args.bound events m c.loop-event.judge
    (g.K.Sink.told c.args.out.now) (g.K.Sink.told c.loop-event.out) (g.K.Sink.faults c.args.out.now) (g.K.Sink.faults c.loop-event.out)) all c.loop-event.invariant.told))
    c.requires.end (subst (λ (n : Numbering). VerdictIs setup n c.args.bound events Feasible) (sym c.numbers-2.ensures) c.requires.feasible)
    (c.loop-event.invariant.number ∙ ap (λ m. m + 1) all))
