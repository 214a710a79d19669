use Rattle.std.proofs.Common.{ap, ◌∙◌}
use Rattle.normal_model.specs.Names.{task_name_at}
use Rattle.normal_lookups.proofs.meanings.meanings.NormalMeaningsMeanings.callee_name.Goals as goal

pub returns : goal.returns
returns c = c.task.ensures c.args.self.now.lookups.now c.requires.names_are ∙ ap (task_name_at c.args.self.now.lookups.now) c.known_task.ensures
