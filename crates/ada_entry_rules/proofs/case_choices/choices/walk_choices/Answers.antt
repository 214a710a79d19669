use Rattle.std.proofs.Common.{◌∙◌, option_map}
use Rattle.ada_tree.specs.PlainStmt.{plain_choice}
use Rattle.ada_static_rules.specs.Sites.{choice_sites}
use Rattle.ada_scopes.specs.Entries.{plain_range}
use Rattle.ada_static_rules.proofs.Listing.{met_more}
use Rattle.ada_entry_rules.proofs.case_choices.choices.walk_choices.Goals as goal

pub loop-choice-preserved : goal.loop-choice-preserved
loop-choice-preserved c =
    c.first-refusal.ensures ∙ met_more (choice_sites c.args.scope.now c.args.kind (option_map plain_range c.args.values)) plain_choice c.args.choices.now c.loop-choice.choice-index c.choice-item.result c.choice-item.result _ _ c.loop-choice-test.true c.choice-item.is c.loop-choice.invariant c.walk_choice.ensures
