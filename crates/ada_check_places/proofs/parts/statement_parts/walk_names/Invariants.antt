use Rattle.std.proofs.Common.{◌≡◌, drop}
use Rattle.syn_event.specs.CheckScope.{CheckScope}
use Rattle.syn_event.specs.CheckSites.{names_sites}
use Rattle.ada_check_rules.specs.rules.Sooner.{sooner}
use Rattle.ada_check_rules.specs.rules.RefusedFirst.{refused_first}
use Rattle.ada_check_places.proofs.parts.statement_parts.walk_names.Given as goal

-- what is refused so far, and of the names that are left
abbrev pub invariant-loop-name : goal.invariant-loop-name
invariant-loop-name l = (around : CheckScope) → sooner l.refusal (refused_first l.by (names_sites around (drop l.name-index l.names))) ≡ refused_first l.by (names_sites around l.names)
