use Rattle.std.proofs.Common.{ap, option_map}
use Rattle.ada_tree.specs.PlainExpr.{plain_expr}
use Rattle.ada_entry_rules.proofs.WrittenTargets.{part_target, name_target}
use Rattle.ada_entry_rules.proofs.targets.walk_target.Goals as goal

pub returns-in-Some : goal.returns-in-Some
returns-in-Some c =
    part_target c.args.scope.now c.args.target.now.name (option_map plain_expr c.args.target.now.index) (plain_expr c.in-Some.index) c.refuse_written_part-own.result c.walk-walked.result.refusal _
    (ap (option_map plain_expr) c.in-Some.is) c.kind_of_part.ensures c.refuse_written_part-own.ensures c.walk-walked.ensures.refusal_is c.first.ensures

pub returns-in-None : goal.returns-in-None
returns-in-None c =
    name_target c.args.scope.now c.args.target.now.name (option_map plain_expr c.args.target.now.index) _
    (ap (option_map plain_expr) c.in-None.is) c.kind_of_name.ensures c.refuse_written_name.ensures
