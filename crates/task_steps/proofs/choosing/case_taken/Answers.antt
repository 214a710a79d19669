use Rattle.std.proofs.Common.{◌≡◌, ◌<◌, length, map, true, false, Ok, Err, arith}
use Rattle.ada_tree.specs.PlainStmt.{plain_choice, seen_maybe}
use Rattle.task_model.specs.Steps.{choices_fit}
use Rattle.task_state.specs.Plain.{plain_task}
use Rattle.task_steps.proofs.ArmLemmas.{case_takes, case_raises, case_passes}
use Rattle.task_steps.proofs.choosing.case_taken.Goals as goal

pub returns-then-fits : goal.returns-then-fits
returns-then-fits c =
    let within : c.loop-case_arm.case_arm-index < length c.args.arms.now = omega arith in
    let fits : choices_fit (plain_task c.args.task.now) c.args.value (map plain_choice c.deref.result.now) ≡ Ok true = cc in
    case_takes
    (plain_task c.args.task.now)
    c.args.value
    c.args.arms.now
    (seen_maybe c.args.others.now)
    c.loop-case_arm.case_arm-index
    c.case_arm-item.result
    c.deref.result.now
    c.deref-then-fits.result.now
    within
    c.case_arm-item.is
    c.deref.ensures.value
    c.deref-then-fits.ensures.value
    c.loop-case_arm.invariant
    fits

pub returns-in-Err : goal.returns-in-Err
returns-in-Err c =
    let within : c.loop-case_arm.case_arm-index < length c.args.arms.now = omega arith in
    let raised : choices_fit (plain_task c.args.task.now) c.args.value (map plain_choice c.deref.result.now) ≡ Err c.in-Err.raised = cc in
    case_raises
    (plain_task c.args.task.now)
    c.args.value
    c.args.arms.now
    (seen_maybe c.args.others.now)
    c.loop-case_arm.case_arm-index
    c.case_arm-item.result
    c.deref.result.now
    c.in-Err.raised
    within
    c.case_arm-item.is
    c.deref.ensures.value
    c.loop-case_arm.invariant
    raised

pub loop-case_arm-preserved : goal.loop-case_arm-preserved
loop-case_arm-preserved c =
    let within : c.loop-case_arm.case_arm-index < length c.args.arms.now = omega arith in
    let fails : choices_fit (plain_task c.args.task.now) c.args.value (map plain_choice c.deref.result.now) ≡ Ok false = cc in
    case_passes
    (plain_task c.args.task.now)
    c.args.value
    c.args.arms.now
    (seen_maybe c.args.others.now)
    c.loop-case_arm.case_arm-index
    c.case_arm-item.result
    c.deref.result.now
    within
    c.case_arm-item.is
    c.deref.ensures.value
    c.loop-case_arm.invariant
    fails
