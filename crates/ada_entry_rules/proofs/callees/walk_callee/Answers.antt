use Rattle.std.proofs.Common.{ap, ◌∙◌, option_map}
use Rattle.ada_tree.specs.PlainExpr.{plain_expr}
use Rattle.ada_entry_rules.proofs.Calling.{member_met, task_met}
use Rattle.ada_entry_rules.proofs.callees.walk_callee.Goals as goal

pub returns-in-Some : goal.returns-in-Some
returns-in-Some c =
    c.first.ensures
    ∙ member_met c.args.scope.now c.args.callee.now.name (option_map plain_expr c.args.callee.now.index) (plain_expr c.in-Some.index) _ _ (ap (option_map plain_expr) c.in-Some.is) c.refuse_member-own.ensures c.walk-walked.ensures.refusal_is

pub returns-in-None : goal.returns-in-None
returns-in-None c =
    task_met c.args.scope.now c.args.callee.now.name (option_map plain_expr c.args.callee.now.index) _ (ap (option_map plain_expr) c.in-None.is) c.refuse_task.ensures
