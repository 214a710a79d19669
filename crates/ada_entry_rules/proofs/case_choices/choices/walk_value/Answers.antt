use Rattle.std.proofs.Common.{◌∙◌, option_map}
use Rattle.ada_tree.specs.PlainExpr.{plain_expr}
use Rattle.ada_static_rules.specs.Demand.{must_lie_in}
use Rattle.ada_static_rules.specs.Sites.{static_of}
use Rattle.ada_scopes.specs.Entries.{plain_range}
use Rattle.ada_static_rules.proofs.Meeting.{behind}
use Rattle.ada_expr_rules.proofs.Knowing.{known_walked}
use Rattle.ada_entry_rules.proofs.case_choices.choices.walk_value.Goals as goal

pub refuse_outside-outside-requires : goal.refuse_outside-outside-requires
refuse_outside-outside-requires c = known_walked (static_of c.args.scope.now c.args.kind (plain_expr c.args.e.now)) c.args.scope.now (plain_expr c.args.e.now) c.walk_static-walked.result c.known.result c.known.ensures c.walk_static-walked.ensures

pub returns : goal.returns
returns c = record {
  kind_is = c.walk_static-walked.ensures.kind_is;
  value_is = c.walk_static-walked.ensures.value_is;
  refusal_is = c.first.ensures ∙ behind (static_of c.args.scope.now c.args.kind (plain_expr c.args.e.now)) c.args.scope.now (must_lie_in (plain_expr c.args.e.now) (option_map plain_range c.args.values)) _ _ c.walk_static-walked.ensures.refusal_is c.refuse_outside-outside.ensures;
}
