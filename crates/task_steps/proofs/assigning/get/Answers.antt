use Rattle.std.proofs.Common.{sym, ◌∙◌}
use Rattle.ada_tree.specs.PlainStmt.{plain_target}
use Rattle.task_state.specs.Plain.{plain_task}
use Rattle.task_steps.proofs.MoveLemmas.{gets_value, gets_nothing}
use Rattle.task_steps.proofs.assigning.get.Goals as goal

pub returns-in-Some : goal.returns-in-Some
returns-in-Some c =
    gets_value
    (plain_task c.args.task.now)
    (plain_task c.read.new.self)
    (plain_task c.store.new.task)
    (plain_target c.args.target.now)
    c.args.place
    c.in-Some.value
    (sym c.in-Some.is ∙ c.read.ensures.value)
    c.read.ensures.task
    c.store.ensures

pub returns-in-None : goal.returns-in-None
returns-in-None c =
    gets_nothing
    (plain_task c.args.task.now)
    (plain_task c.read.new.self)
    (plain_task c.raise.new.self)
    (plain_target c.args.target.now)
    c.args.place
    (sym c.in-None.is ∙ c.read.ensures.value)
    c.read.ensures.task
    c.raise.ensures
