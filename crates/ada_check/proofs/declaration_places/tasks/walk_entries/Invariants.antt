use Rattle.std.proofs.Common.{◌≡◌, map, drop}
use Rattle.std.specs.Prelude.{flat_map}
use Rattle.ada_tree.specs.PlainDecl.{plain_entry}
use Rattle.syn_event.specs.CheckSites.{entry_sites}
use Rattle.ada_check_rules.specs.rules.Sooner.{sooner}
use Rattle.ada_check_rules.specs.rules.RefusedFirst.{refused_first}
use Rattle.ada_check.proofs.declaration_places.tasks.walk_entries.Given as goal

-- what is refused so far, and of what is left
abbrev pub invariant-loop-entry : goal.invariant-loop-entry
invariant-loop-entry l = sooner l.refusal (refused_first l.by (flat_map (entry_sites l.around) (map plain_entry (drop l.entry-index l.entries)))) ≡ refused_first l.by (flat_map (entry_sites l.around) (map plain_entry l.entries))
