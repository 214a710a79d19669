use Rattle.std.proofs.Common.{◌≡◌, ◌+◌, map, drop}
use Rattle.ada_tree.specs.declared.naming.Word.{Word}
use Rattle.syn_event.specs.declared.limits.What.TheVariants.{Formals}
use Rattle.syn_event.specs.CheckScope.{CheckScope}
use Rattle.syn_event.specs.CheckSites.{numbered}
use Rattle.ada_check_rules.specs.rules.Amounts.{capped}
use Rattle.ada_check_rules.specs.rules.Sooner.{sooner}
use Rattle.ada_check_rules.specs.rules.RefusedFirst.{refused_first}
use Rattle.ada_check_rules.proofs.rules.counting.count_names.Given as goal

-- so many are counted, and what is refused so far, and of the names that are left
abbrev pub invariant-loop-name : goal.invariant-loop-name
invariant-loop-name l = record {
  count : capped l.counted.count ≡ capped (l.initial.counted.count + l.name-index);
  refusal : (around : CheckScope) → sooner l.counted.refusal (refused_first l.by (numbered around Formals l.counted.count (map (λ (w : Word). w.span) (drop l.name-index l.names)))) ≡ sooner l.initial.counted.refusal (refused_first l.by (numbered around Formals l.initial.counted.count (map (λ (w : Word). w.span) l.names)));
}
