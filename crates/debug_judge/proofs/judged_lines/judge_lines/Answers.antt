use Rattle.std.proofs.Common.{◌≤◌, [], ◌∷◌, ◌++◌, length, Option, Ok, refl, subst, arith, length-append}
use Rattle.event_machine.specs.declared.Event.{Event}
use Rattle.seq_file.specs.Files.{most_events}
use Rattle.seq_file.specs.Stepping.{StandsBehind, AnswersBehind, AgreesOnFile}
use Rattle.task_model.specs.Machine.{ProgramWithInputs}
use Rattle.task_machine.specs.Table.{setup_in}
use Rattle.debug_judge.proofs.Lining.{no_end_before}
use Rattle.debug_judge.proofs.judged_lines.judge_lines.Goals as goal

pub loop-given-init : goal.loop-given-init
loop-given-init c = record {
  events = [];
  read = c.in-Ok.ensures.opened;
  found_of = c.in_ok-found.ensures;
  so_far = refl;
}

pub returns-in-Ok-None-clause-found : goal.returns-in-Ok-None-clause-found
returns-in-Ok-None-clause-found c =
    let setup : ProgramWithInputs = setup_in c.args.links.now c.args.inputs.now in
    let at = c.loop-given.invariant in
    let few : length at.events ≤ most_events = omega (arith, at.so_far, c.loop-given-test.true) in
    record {
      events = at.events;
      reads =
          subst (λ (o : Option Event). AgreesOnFile c.args.bytes.now c.args.links.now.numbers setup.program.names at.events (Ok o)) c.in-Ok-None.field-0-is
          (c.in-Ok-None.ensures.agrees c.args.bytes.now c.args.links.now.numbers setup.program.names at.events at.read) few;
      found_of = at.found_of;
    }

pub loop-given-preserved : goal.loop-given-preserved
loop-given-preserved c =
    let setup : ProgramWithInputs = setup_in c.args.links.now c.args.inputs.now in
    let at = c.loop-given.invariant in
    let e : Event = c.in-Ok-Some.event in
    let behind : StandsBehind c.args.bytes.now c.args.links.now.numbers setup.program.names (at.events ++ e ∷ []) c.next.new.self =
    subst (λ (o : Option Event). AnswersBehind c.args.bytes.now c.args.links.now.numbers setup.program.names at.events (Ok o) c.next.new.self) c.in-Ok-Some.field-0-is
    (c.in-Ok-Some.ensures.answers c.args.bytes.now c.args.links.now.numbers setup.program.names at.events at.read) in
    record {
      events = at.events ++ e ∷ [];
      read = behind;
      found_of = c.in_ok-give-in-Ok-Some.ensures setup c.args.links.now.numbers c.args.local_bound at.events at.found_of (no_end_before at.events e behind.read.end);
      so_far = omega (arith, at.so_far, length-append at.events (e ∷ []));
    }

pub returns-in-Err-next-clause-fault : goal.returns-in-Err-next-clause-fault
returns-in-Err-next-clause-fault c =
    let at = c.loop-given.invariant in
    c.in-Err-next.ensures.agrees c.args.bytes.now c.args.links.now.numbers c.args.links.now.program.names at.events at.read (omega (arith, at.so_far, c.loop-given-test.true))
