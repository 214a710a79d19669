use Rattle.std.proofs.Common.{◌≡◌, ◌<◌, length, true, false, Ok, Err, arith}
use Rattle.ada_tree.specs.declared.statements.Arm.{out-Arm}
use Rattle.ada_tree.specs.PlainExpr.{plain_expr}
use Rattle.ada_tree.specs.PlainStmt.{seen_maybe}
use Rattle.task_model.specs.Steps.{condition}
use Rattle.task_state.specs.Plain.{plain_task}
use Rattle.task_steps.proofs.ArmLemmas.{arm_takes, arm_raises, arm_passes}
use Rattle.task_steps.proofs.choosing.arm_taken.Goals as goal

pub returns-then-holds : goal.returns-then-holds
returns-then-holds c =
    let within : c.loop-arm.arm-index < length c.args.arms.now = omega arith in
    let holds : condition (plain_task c.args.task.now) (plain_expr (out-Arm c.arm-item.result).test) ≡ Ok true = cc in
    arm_takes
    (plain_task c.args.task.now)
    c.args.arms.now
    (seen_maybe c.args.otherwise.now)
    c.loop-arm.arm-index
    c.arm-item.result
    c.deref.result.now
    within
    c.arm-item.is
    c.deref.ensures.value
    c.loop-arm.invariant
    holds

pub returns-in-Err : goal.returns-in-Err
returns-in-Err c =
    let within : c.loop-arm.arm-index < length c.args.arms.now = omega arith in
    let raised : condition (plain_task c.args.task.now) (plain_expr (out-Arm c.arm-item.result).test) ≡ Err c.in-Err.raised = cc in
    arm_raises
    (plain_task c.args.task.now)
    c.args.arms.now
    (seen_maybe c.args.otherwise.now)
    c.loop-arm.arm-index
    c.arm-item.result
    c.in-Err.raised
    within
    c.arm-item.is
    c.loop-arm.invariant
    raised

pub loop-arm-preserved : goal.loop-arm-preserved
loop-arm-preserved c =
    let within : c.loop-arm.arm-index < length c.args.arms.now = omega arith in
    let fails : condition (plain_task c.args.task.now) (plain_expr (out-Arm c.arm-item.result).test) ≡ Ok false = cc in
    arm_passes
    (plain_task c.args.task.now)
    c.args.arms.now
    (seen_maybe c.args.otherwise.now)
    c.loop-arm.arm-index
    c.arm-item.result
    within
    c.arm-item.is
    c.loop-arm.invariant
    fails
