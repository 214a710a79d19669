use Rattle.std.proofs.Common.{◌∷◌, ap, ◌∙◌, w64}
use Rattle.std.proofs.lemmas.Int.{to_z-of_z}
use Rattle.ada_tree.specs.PlainStmt.{seen}
use Rattle.task_state.specs.frames.Seen.{turns_as}
use Rattle.task_model.specs.Frames.{Loop}
use Rattle.task_model.specs.Steps.{loop_parameter}
use Rattle.task_model.specs.Tasks.{with_vars}
use Rattle.task_state.specs.Plain.{plain_task}
use Rattle.task_state.proofs.Moving.{enters_with}
use Rattle.task_state.proofs.state.TaskState.enter_counting.Goals as goal

pub returns-in-Ok-clause-ok : goal.returns-in-Ok-clause-ok
returns-in-Ok-clause-ok c =
    enters_with
    c.push_parameter.new.self
    c.args.self.now
    c.enter_loop.new.self
    (seen c.args.stmts.now)
    (Loop c.args.name (turns_as c.args.turns) (seen c.args.stmts.now))
    (loop_parameter (plain_task c.args.self.now) c.args.word c.args.kind c.args.first ∷ c.args.self.now.objects)
    (c.in_ok-push_parameter.ensures.ok ∙
    ap
    (λ z. with_vars (plain_task c.args.self.now) (loop_parameter (plain_task c.args.self.now) c.args.word c.args.kind z ∷ c.args.self.now.objects))
    (to_z-of_z w64 c.args.first c.ranges.first))
    c.in-Ok.ensures.ok
