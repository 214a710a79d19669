use Rattle.std.proofs.Common.{sym, ap, ◌∙◌}
use Rattle.task_state.specs.frames.Seen.{turns_as}
use Rattle.task_model.specs.Steps.{counted_on}
use Rattle.task_model.specs.Tasks.{vars_of, with_vars}
use Rattle.task_state.specs.Plain.{plain_task}
use Rattle.task_steps.proofs.MoveLemmas.{counts_on, counts_out}
use Rattle.task_steps.proofs.looping.turn_counting.Goals as goal

pub returns-in_ok-count_on-clause-ok : goal.returns-in_ok-count_on-clause-ok
returns-in_ok-count_on-clause-ok c =
    counts_on
    (plain_task c.args.task.now)
    (plain_task c.count_on.new.self)
    (plain_task c.begin_turn.new.self)
    (turns_as c.args.turns)
    (sym c.has_turn.ensures ∙ c.if-has_turn.true)
    (c.in_ok-count_on.ensures.ok ∙
    ap (λ b. with_vars (plain_task c.args.task.now) (counted_on (plain_task c.args.task.now) b (vars_of (plain_task c.args.task.now)))) c.is_backwards.ensures)
    c.begin_turn.ensures

pub returns-else-has_turn-clause-ok : goal.returns-else-has_turn-clause-ok
returns-else-has_turn-clause-ok c =
    counts_out (plain_task c.args.task.now) (plain_task c.leave_loop.new.self) (turns_as c.args.turns) (sym c.has_turn.ensures ∙ c.if-has_turn.false) c.leave_loop.ensures
