use Rattle.std.proofs.Common.{◌∙◌}
use Rattle.ada_tree.specs.PlainExpr.{plain_expr}
use Rattle.ada_types.proofs.Writing.{plain_written}
use Rattle.ada_types.proofs.written_parts.walk_plain.Goals as goal

pub returns : goal.returns
returns c = record {
  kind_is = c.walk-walked.ensures.kind_is;
  refusal_is = c.walk-walked.ensures.refusal_is ∙ plain_written c.args.scope.now (plain_expr c.args.e.now) c.requires;
}
