use Rattle.std.proofs.Common.{◌≡◌, map, drop}
use Rattle.ada_tree.specs.declared.naming.Word.{Word}
use Rattle.ada_tree.specs.PlainStmt.{plain_formal}
use Rattle.syn_event.specs.declared.limits.What.TheVariants.{Formals}
use Rattle.syn_event.specs.CheckScope.{CheckScope}
use Rattle.syn_event.specs.CheckSites.{numbered, formal_names}
use Rattle.ada_check_rules.specs.rules.Sooner.{sooner}
use Rattle.ada_check_rules.specs.rules.RefusedFirst.{refused_first}
use Rattle.ada_check_rules.proofs.rules.counting.refuse_formals.Given as goal

-- what is refused so far, and of the formals that are left
abbrev pub invariant-loop-formal : goal.invariant-loop-formal
invariant-loop-formal l =
    (around : CheckScope) → sooner l.counted.refusal (refused_first l.by (numbered around Formals l.counted.count (map (λ (w : Word). w.span) (formal_names (map plain_formal (drop l.formal-index l.formals)))))) ≡ refused_first l.by (numbered around Formals 0 (map (λ (w : Word). w.span) (formal_names (map plain_formal l.formals))))
