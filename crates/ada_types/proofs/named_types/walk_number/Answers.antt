use Rattle.std.proofs.Common.{refl, ◌∷◌, [], Some}
use Rattle.ada_tree.specs.PlainExpr.{plain_expr}
use Rattle.ada_static_rules.specs.Scope.{integer_kind}
use Rattle.ada_static_rules.specs.Sites.{static_of}
use Rattle.ada_types.proofs.TypeDecls.{number_left, behind_names}
use Rattle.ada_types.proofs.named_types.walk_number.Goals as goal

pub returns : goal.returns
returns c =
    let scope = c.args.scope in
    let value = plain_expr c.args.value.now in
    record {
      scope_is = number_left scope _ _ c.args.name value _ _ _ _ c.walk_static-walked.ensures c.known.ensures c.value_in.ensures c.in_ok-scope.ensures c.in_ok-declare.ensures.ok;
      refusal_is = behind_names scope (c.args.name ∷ []) (static_of scope (Some integer_kind) value) _ c.walk_static-walked.ensures.refusal_is;
      of_tasks_is = refl;
    }
