use Rattle.std.proofs.Common.{◌≡◌, ◌+◌, map, drop}
use Rattle.ada_tree.specs.PlainDecl.{PEntry, plain_entry}
use Rattle.syn_event.specs.declared.limits.What.TheVariants.{Entries}
use Rattle.syn_event.specs.CheckScope.{CheckScope}
use Rattle.syn_event.specs.CheckSites.{numbered}
use Rattle.ada_check_rules.specs.rules.Amounts.{capped}
use Rattle.ada_check_rules.specs.rules.Sooner.{sooner}
use Rattle.ada_check_rules.specs.rules.RefusedFirst.{refused_first}
use Rattle.ada_task_numbers.proofs.task_counts.counts.count_single.Given as goal

-- so many are counted, and what is refused so far, and of the entries that are left
abbrev pub invariant-loop-entry : goal.invariant-loop-entry
invariant-loop-entry l = record {
  count : capped l.counted.count ≡ capped (l.initial.counted.count + l.entry-index);
  refusal : (around : CheckScope) → sooner l.counted.refusal (refused_first l.by (numbered around Entries l.counted.count (map (λ (e : PEntry). e.span) (map plain_entry (drop l.entry-index l.entries))))) ≡ sooner l.initial.counted.refusal (refused_first l.by (numbered around Entries l.initial.counted.count (map (λ (e : PEntry). e.span) (map plain_entry l.entries))));
}
