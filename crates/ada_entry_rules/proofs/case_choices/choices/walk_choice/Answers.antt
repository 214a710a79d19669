use Rattle.std.proofs.Common.{◌∙◌, ap, sym, option_map}
use Rattle.ada_tree.specs.PlainExpr.{plain_expr}
use Rattle.ada_static_rules.specs.Sites.{choice_sites}
use Rattle.ada_static_rules.specs.RefusedFirst.{refused_first}
use Rattle.ada_static_rules.specs.Sooner.{sooner}
use Rattle.ada_scopes.specs.Entries.{plain_range}
use Rattle.ada_expr_rules.proofs.Knowing.{known_walked}
use Rattle.ada_entry_rules.proofs.case_choices.Choosing.{two_bounds}
use Rattle.ada_entry_rules.proofs.case_choices.choices.walk_choice.Goals as goal

pub returns-in-Some : goal.returns-in-Some
returns-in-Some c =
    c.first-in-Some.ensures
    ∙ ap (sooner c.walk_value-low.result.refusal) c.first.ensures
    ∙ two_bounds c.args.scope.now c.args.kind (option_map plain_range c.args.values) (plain_expr c.args.choice.now.first) (plain_expr c.in-Some.last) _ _ _ c.walk_value-low.ensures.refusal_is c.walk_value-high.ensures.refusal_is c.refuse_empty-empty.ensures
    ∙ ap (λ o. refused_first (choice_sites c.args.scope.now c.args.kind (option_map plain_range c.args.values) record { first = plain_expr c.args.choice.now.first; last = option_map plain_expr o })) (sym c.in-Some.is)

pub returns-in-None : goal.returns-in-None
returns-in-None c =
    c.walk_value-low.ensures.refusal_is
    ∙ ap (λ o. refused_first (choice_sites c.args.scope.now c.args.kind (option_map plain_range c.args.values) record { first = plain_expr c.args.choice.now.first; last = option_map plain_expr o })) (sym c.in-None.is)

pub refuse_empty-empty-requires : goal.refuse_empty-empty-requires
refuse_empty-empty-requires c = record {
  first = known_walked _ _ _ _ _ c.known.ensures c.walk_value-low.ensures;
  last = known_walked _ _ _ _ _ c.known-in-Some.ensures c.walk_value-high.ensures;
}
