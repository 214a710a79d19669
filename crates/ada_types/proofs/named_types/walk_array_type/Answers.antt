use Rattle.std.proofs.Common.{refl, ◌++◌, ◌∷◌, ◌∙◌, [], true}
use Rattle.ada_tree.specs.PlainExpr.{plain_drange, plain_subind}
use Rattle.ada_static_rules.specs.Demand.{scalar_only}
use Rattle.ada_static_rules.specs.Sites.{names_sites, drange_sites, subind_sites}
use Rattle.ada_static_rules.proofs.Meeting.{joined}
use Rattle.ada_types.proofs.TypeDecls.{array_left, behind_names}
use Rattle.ada_types.proofs.named_types.walk_array_type.Goals as goal

pub returns : goal.returns
returns c =
    let scope = c.args.scope in
    let index = plain_drange c.args.index.now in
    let part = plain_subind c.args.part.now in
    record {
      scope_is = array_left scope _ _ _ _ c.args.name index part _ _ _ _ c.walk_subind-component.ensures.made_is c.walk_range-range.ensures.range_is c.in_ok-scope.ensures c.in_ok-scope-2.ensures c.type_of_mark.ensures c.in_ok-declare.ensures.ok;
      refusal_is = c.first.ensures ∙ joined (names_sites true scope (c.args.name ∷ []) ++ drange_sites true scope index) (subind_sites true scalar_only scope part) _ _
          (behind_names scope (c.args.name ∷ []) (drange_sites true scope index) _ c.walk_range-range.ensures.refusal_is)
          c.walk_subind-component.ensures.refusal_is;
      of_tasks_is = refl;
    }
