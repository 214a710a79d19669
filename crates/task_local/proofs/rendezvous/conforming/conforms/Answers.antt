use Rattle.std.proofs.Common.{map}
use Rattle.ada_tree.specs.PlainStmt.{plain_formal}
use Rattle.task_model.specs.Setting.{parameters_of}
use Rattle.task_local.proofs.rendezvous.Comparing.{same_means}
use Rattle.task_local.proofs.rendezvous.conforming.conforms.Goals as goal

pub returns : goal.returns
returns c = same_means c.are_same.result (parameters_of c.args.links.now.types (map plain_formal c.args.formals.now)) c.args.parameters.now c.are_same.ensures
