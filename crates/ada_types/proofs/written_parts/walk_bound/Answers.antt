use Rattle.std.proofs.Common.{◌∙◌}
use Rattle.ada_types.proofs.Writing.{bound_written}
use Rattle.ada_types.proofs.written_parts.walk_bound.Goals as goal

pub returns : goal.returns
returns c = record {
  kind_is = c.kind_of_bound.ensures;
  refusal_is = c.refuse_bound.ensures ∙ bound_written c.args.scope.now c.args.mark c.args.word c.args.span;
}
