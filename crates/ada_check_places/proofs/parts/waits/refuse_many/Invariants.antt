use Rattle.std.proofs.Common.{◌≡◌, map, drop}
use Rattle.ada_tree.specs.PlainStmt.{plain_alt, alts_of}
use Rattle.syn_event.specs.declared.limits.What.TheVariants.{Alternatives}
use Rattle.syn_event.specs.CheckScope.{CheckScope}
use Rattle.syn_event.specs.CheckSites.{numbered, alt_places}
use Rattle.ada_check_rules.specs.rules.Sooner.{sooner}
use Rattle.ada_check_rules.specs.rules.RefusedFirst.{refused_first}
use Rattle.ada_check_places.proofs.parts.waits.refuse_many.Given as goal

-- what is refused so far, and of the alternatives that are left
abbrev pub invariant-loop-place : goal.invariant-loop-place
invariant-loop-place l =
    (around : CheckScope) → sooner l.refusal (refused_first l.by (numbered around Alternatives l.place (alt_places (alts_of (map plain_alt (drop l.place l.alts)))))) ≡ refused_first l.by (numbered around Alternatives 0 (alt_places (alts_of (map plain_alt l.alts))))
