use Rattle.std.proofs.Common.{◌≡◌, ◌<◌, length, true, false, Ok, Err, arith}
use Rattle.ada_tree.specs.PlainStmt.{plain_choice}
use Rattle.task_model.specs.Steps.{choice_fits}
use Rattle.task_state.specs.Plain.{plain_task}
use Rattle.task_steps.proofs.ArmLemmas.{answers, answers_raised, choice_takes, choice_raises, choice_passes}
use Rattle.task_steps.proofs.choosing.choices_fit.Goals as goal

pub returns-then-fits : goal.returns-then-fits
returns-then-fits c =
    let within : c.loop-choice.choice-index < length c.args.choices.now = omega arith in
    let fits : choice_fits (plain_task c.args.task.now) c.args.value (plain_choice c.choice-item.result) ≡ Ok true = answers c.choice_fits.result (choice_fits (plain_task c.args.task.now) c.args.value (plain_choice c.choice-item.result)) c.in-Ok.fits true c.choice_fits.ensures c.in-Ok.is c.if-fits.true in
    choice_takes
    (plain_task c.args.task.now)
    c.args.value
    c.args.choices.now
    c.loop-choice.choice-index
    c.choice-item.result
    within
    c.choice-item.is
    c.loop-choice.invariant
    fits

pub returns-in-Err : goal.returns-in-Err
returns-in-Err c =
    let within : c.loop-choice.choice-index < length c.args.choices.now = omega arith in
    let raised : choice_fits (plain_task c.args.task.now) c.args.value (plain_choice c.choice-item.result) ≡ Err c.in-Err.raised = answers_raised c.choice_fits.result (choice_fits (plain_task c.args.task.now) c.args.value (plain_choice c.choice-item.result)) c.in-Err.raised c.choice_fits.ensures c.in-Err.is in
    choice_raises
    (plain_task c.args.task.now)
    c.args.value
    c.args.choices.now
    c.loop-choice.choice-index
    c.choice-item.result
    c.in-Err.raised
    within
    c.choice-item.is
    c.loop-choice.invariant
    raised

pub loop-choice-preserved : goal.loop-choice-preserved
loop-choice-preserved c =
    let within : c.loop-choice.choice-index < length c.args.choices.now = omega arith in
    let fails : choice_fits (plain_task c.args.task.now) c.args.value (plain_choice c.choice-item.result) ≡ Ok false = answers c.choice_fits.result (choice_fits (plain_task c.args.task.now) c.args.value (plain_choice c.choice-item.result)) c.in-Ok.fits false c.choice_fits.ensures c.in-Ok.is c.if-fits.false in
    choice_passes
    (plain_task c.args.task.now)
    c.args.value
    c.args.choices.now
    c.loop-choice.choice-index
    c.choice-item.result
    within
    c.choice-item.is
    c.loop-choice.invariant
    fails
