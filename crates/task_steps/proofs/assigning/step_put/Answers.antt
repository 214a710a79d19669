use Rattle.std.proofs.Common.{map, sym, ◌∙◌}
use Rattle.ada_tree.specs.PlainStmt.{plain_part}
use Rattle.task_state.specs.Plain.{plain_task, text_in}
use Rattle.task_steps.proofs.MoveLemmas.{put_well, put_ill}
use Rattle.task_steps.proofs.assigning.step_put.Goals as goal

pub returns-in-None-clause-ok : goal.returns-in-None-clause-ok
returns-in-None-clause-ok c =
    put_well
    (plain_task c.args.task.now)
    (plain_task c.write.new.self)
    (plain_task c.go_on.new.self)
    (text_in (plain_task c.args.task.now) (map plain_part c.args.parts.now))
    c.args.closing.now
    (sym c.in-None.is ∙ c.in_ok-write.ensures.raised)
    c.in_ok-write.ensures.ok
    c.go_on.ensures

pub returns-in-Some-clause-ok : goal.returns-in-Some-clause-ok
returns-in-Some-clause-ok c =
    put_ill
    (plain_task c.args.task.now)
    (plain_task c.write.new.self)
    (plain_task c.raise.new.self)
    (text_in (plain_task c.args.task.now) (map plain_part c.args.parts.now))
    c.args.closing.now
    c.in-Some.raised
    (sym c.in-Some.is ∙ c.in_ok-write.ensures.raised)
    c.in_ok-write.ensures.ok
    c.raise.ensures
