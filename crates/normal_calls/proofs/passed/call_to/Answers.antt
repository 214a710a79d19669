use Rattle.std.proofs.Common.{None, option_map}
use Rattle.ada_tree.specs.PlainStmt.{plain_args, plain_call}
use Rattle.normal_calls.proofs.Branches.{carried}
use Rattle.normal_calls.proofs.passed.call_to.Goals as goal

pub returns : goal.returns
returns g c = carried (option_map plain_args) plain_call (λ x. record { task = record { name = c.args.name; index = None }; entry = c.args.call.now.entry; args = x }) _ c.calling_of.result c.args_passed.result c.calling_of.ensures c.args_passed.ensures
