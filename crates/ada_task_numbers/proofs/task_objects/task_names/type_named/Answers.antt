use Rattle.std.specs.Borrow.{Bor}
use Rattle.std.proofs.Common.{ap, ◌∙◌, option_map}
use Rattle.ada_tree.specs.declared.declarations.TaskUnit.{TaskUnit}
use Rattle.ada_tree.specs.PlainDecl.{plain_task}
use Rattle.ada_task_numbers.proofs.task_objects.Parting.{named_is}
use Rattle.ada_task_numbers.proofs.task_objects.task_names.type_named.Goals as goal

pub returns-in-Some : goal.returns-in-Some
returns-in-Some c = ap (option_map (λ (t : Bor TaskUnit). plain_task t.now)) c.in-Some.ensures ∙ named_is c.args.types.now c.requires c.args.id

pub returns-in-None : goal.returns-in-None
returns-in-None c = ap (option_map (λ (t : Bor TaskUnit). plain_task t.now)) c.in-None.ensures ∙ named_is c.args.types.now c.requires c.args.id
