use Rattle.std.proofs.Common.{◌≡◌, drop}
use Rattle.task_links.proofs.store.objects.Objects.leave.Given as goal

-- so many variables are gone
abbrev pub invariant-loop : goal.invariant-loop
invariant-loop l = l.self ≡ drop l.counter l.fn.self
