use Rattle.std.proofs.Common.{◌≡◌, map, drop}
use Rattle.std.specs.Prelude.{flat_map}
use Rattle.ada_tree.specs.PlainStmt.{plain_choice}
use Rattle.syn_event.specs.CheckSites.{choice_sites}
use Rattle.ada_check_rules.specs.rules.Sooner.{sooner}
use Rattle.ada_check_rules.specs.rules.RefusedFirst.{refused_first}
use Rattle.ada_check_places.proofs.parts.statement_parts.walk_choices.Given as goal

-- what is refused so far, and of the choices that are left
abbrev pub invariant-loop-choice : goal.invariant-loop-choice
invariant-loop-choice l = sooner l.refusal (refused_first l.by (flat_map (choice_sites l.around l.k) (map plain_choice (drop l.choice-index l.choices)))) ≡ refused_first l.by (flat_map (choice_sites l.around l.k) (map plain_choice l.choices))
