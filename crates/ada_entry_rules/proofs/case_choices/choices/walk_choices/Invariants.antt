use Rattle.std.proofs.Common.{◌≡◌, take, map, option_map}
use Rattle.std.specs.Prelude.{flat_map}
use Rattle.ada_tree.specs.PlainStmt.{plain_choice}
use Rattle.ada_static_rules.specs.Sites.{choice_sites}
use Rattle.ada_static_rules.specs.RefusedFirst.{refused_first}
use Rattle.ada_scopes.specs.Entries.{plain_range}
use Rattle.ada_entry_rules.proofs.case_choices.choices.walk_choices.Given as goal

abbrev pub invariant-loop-choice : goal.invariant-loop-choice
invariant-loop-choice l = l.refusal ≡ refused_first (flat_map (choice_sites l.scope l.kind (option_map plain_range l.values)) (map plain_choice (take l.choice-index l.choices)))
