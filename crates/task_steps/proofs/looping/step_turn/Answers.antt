use Rattle.std.proofs.Common.{◌≡◌, true, rules}
use Rattle.task_state.specs.frames.Seen.{turns_as}
use Rattle.task_state.specs.Plain.{plain_task}
use Rattle.task_steps.specs.Turning.{TurnsBy, is_counting}
use Rattle.task_steps.proofs.MoveLemmas.{where_counting}
use Rattle.task_steps.proofs.looping.step_turn.Goals as goal

pub returns-in-Counting-clause-ok : goal.returns-in-Counting-clause-ok
returns-in-Counting-clause-ok c =
    let counting : is_counting (turns_as c.args.turns) ≡ true = search rules in
    where_counting
    c.turn_counting.result
    (is_counting (turns_as c.args.turns) ≡ true)
    (TurnsBy (turns_as c.args.turns) (plain_task c.args.task.now) (plain_task c.turn_counting.new.task))
    counting
    c.turn_counting.ensures.ok
