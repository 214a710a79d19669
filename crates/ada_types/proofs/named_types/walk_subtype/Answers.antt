use Rattle.std.proofs.Common.{refl, ◌∷◌, [], true}
use Rattle.ada_tree.specs.PlainExpr.{plain_subind}
use Rattle.ada_static_rules.specs.Demand.{scalar_only}
use Rattle.ada_static_rules.specs.Sites.{subind_sites}
use Rattle.ada_types.proofs.TypeDecls.{subtype_left, behind_names}
use Rattle.ada_types.proofs.named_types.walk_subtype.Goals as goal

pub returns : goal.returns
returns c =
    let scope = c.args.scope in
    let base = plain_subind c.args.base.now in
    record {
      scope_is = subtype_left scope _ _ _ _ c.args.name base _ _ _ _ c.walk_subind-walked.ensures.made_is c.range_at-range.ensures c.in_ok-scope.ensures c.in_ok-scope-2.ensures c.type_of_mark.ensures c.in_ok-declare.ensures.ok;
      refusal_is = behind_names scope (c.args.name ∷ []) (subind_sites true scalar_only scope base) _ c.walk_subind-walked.ensures.refusal_is;
      of_tasks_is = refl;
    }
