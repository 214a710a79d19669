use Rattle.std.proofs.Common.{◌≡◌, ◌∙◌, ap, subst, sym}
use Rattle.std.specs.Prelude.{IfOk, OnOk}
use Rattle.ada_tree.specs.PlainStmt.{plain_stmt}
use Rattle.task_state.specs.frames.Seen.{turns_as}
use Rattle.task_state.specs.Plain.{plain_task}
use Rattle.task_steps.specs.Sequential.{is_step, sequential_by}
use Rattle.task_steps.proofs.StandLemmas.{stand_next, step_next, turn_stands, turn_steps, body_stands, unit_stands}
use Rattle.task_steps.proofs.steps.step_statement.Goals as goal

pub returns-in-Stmt-clause-answer : goal.returns-in-Stmt-clause-answer
returns-in-Stmt-clause-answer c =
    subst
    (λ stand. IfOk c.step_at.result (λ went. went ≡ is_step stand))
    (sym (stand_next (plain_task c.args.task.now) (plain_stmt c.in-Stmt.stmt.now) c.in-Stmt.ensures))
    c.step_at.ensures.answer

pub returns-in-Stmt-clause-ok : goal.returns-in-Stmt-clause-ok
returns-in-Stmt-clause-ok c =
    subst
    (λ t. OnOk c.step_at.result (plain_task c.step_at.new.task ≡ t))
    (sym (step_next (plain_task c.args.task.now) (plain_stmt c.in-Stmt.stmt.now) c.in-Stmt.ensures))
    c.step_at.ensures.ok

pub returns-in_ok-step_turn-in-Turn-clause-answer : goal.returns-in_ok-step_turn-in-Turn-clause-answer
returns-in_ok-step_turn-in-Turn-clause-answer c =
    let next = c.in-Turn.ensures in
    sym (ap is_step (turn_stands (plain_task c.args.task.now) next.1.0 (turns_as c.in-Turn.turns) next.1.1 next.0 next.1.2))

pub returns-in_ok-step_turn-in-Turn-clause-ok : goal.returns-in_ok-step_turn-in-Turn-clause-ok
returns-in_ok-step_turn-in-Turn-clause-ok c =
    let next = c.in-Turn.ensures in
    c.in_ok-step_turn-in-Turn.ensures.ok next.1.0 next.1.1 next.0 next.1.2 ∙
    sym (turn_steps (plain_task c.args.task.now) next.1.0 (turns_as c.in-Turn.turns) next.1.1 next.0 next.1.2)

pub returns-in-EndOfBody-clause-answer : goal.returns-in-EndOfBody-clause-answer
returns-in-EndOfBody-clause-answer c =
    let next = c.in-EndOfBody.ensures in sym (ap is_step (body_stands (plain_task c.args.task.now) _ _ _ next.0 next.1))

pub returns-in-EndOfBody-clause-ok : goal.returns-in-EndOfBody-clause-ok
returns-in-EndOfBody-clause-ok c =
    let next = c.in-EndOfBody.ensures in
    sym (ap (λ stand. sequential_by stand (plain_task c.args.task.now)) (body_stands (plain_task c.args.task.now) _ _ _ next.0 next.1))

pub returns-in-EndOfUnit-clause-answer : goal.returns-in-EndOfUnit-clause-answer
returns-in-EndOfUnit-clause-answer c =
    let next = c.in-EndOfUnit.ensures in sym (ap is_step (unit_stands (plain_task c.args.task.now) next.1.0 next.1.1 next.0 next.1.2))

pub returns-in-EndOfUnit-clause-ok : goal.returns-in-EndOfUnit-clause-ok
returns-in-EndOfUnit-clause-ok c =
    let next = c.in-EndOfUnit.ensures in
    sym (ap (λ stand. sequential_by stand (plain_task c.args.task.now)) (unit_stands (plain_task c.args.task.now) next.1.0 next.1.1 next.0 next.1.2))
