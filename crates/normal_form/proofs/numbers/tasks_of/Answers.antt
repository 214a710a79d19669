use Rattle.std.proofs.Common.{[], ◌∷◌}
use Rattle.syn_event.specs.AddedNames.{task_info}
use Rattle.normal_form.proofs.Numbering.{infos_more}
use Rattle.normal_form.proofs.numbers.tasks_of.Goals as goal

pub loop-decl-preserved : goal.loop-decl-preserved
loop-decl-preserved c =
    infos_more c.args.names.now c.args.decls.now c.loop-decl.decl-index c.decl-item.result (task_info c.args.names.now c.args.main ∷ []) c.loop-decl.tasks.items c.push_task.new.tasks.items
    c.loop-decl-test.true c.decl-item.is c.loop-decl.invariant c.in_ok-push_task.ensures
