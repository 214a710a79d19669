use Rattle.std.proofs.Common.{◌≡◌, ◌∙◌, [], false, sym, ap, subst, length, arith}
use Rattle.syn_event.specs.Numbering.{Numbering}
use Rattle.task_model.specs.Machine.{ProgramWithInputs}
use Rattle.task_machine.specs.declared.verdict.Verdict.TheVariants.{Feasible}
use Rattle.task_machine.specs.Table.{setup_in}
use Rattle.task_machine.proofs.TaskLaws.{the_count}
use Rattle.feasible.specs.Keeping.{StandsFor}
use Rattle.feasible.proofs.Starting.{stands_first}
use Rattle.feasible.proofs.judge.Judge.new.Goals as goal

pub invariant_of-result : goal.invariant_of-result
invariant_of-result c = record {
  size =
      ap length c.in_ok-seats.ensures.started ∙ the_count (setup_in c.args.links.now c.args.inputs.now) c.args.links.now.numbers
      ∙ ap (λ (n : Numbering). length n.tasks) (sym c.numbers.ensures);
  same = omega (arith, c.in_ok-steps.ensures.size, c.len.ensures);
  few = omega (arith, c.in_ok-seats.ensures.few);
}

pub returns-clause-stands : goal.returns-clause-stands
returns-clause-stands c =
    let setup : ProgramWithInputs = setup_in c.args.links.now c.args.inputs.now in
    let tasks = c.in_ok-seats.seats.items in
    let steps = c.in_ok-steps.steps.items in
    let same : length steps ≡ length tasks = omega (arith, c.in_ok-steps.ensures.size, c.len.ensures) in
    subst (λ (n : Numbering). StandsFor setup [] (record { numbers = n; tasks = tasks; steps = steps; ended = false; bound = c.args.local_bound; taken = 0; verdict = Feasible; lost = false }))
    (sym c.numbers.ensures)
    (stands_first setup c.args.links.now.numbers c.args.local_bound tasks steps c.in_ok-seats.ensures.started c.in_ok-steps.ensures.zero same)
