use Rattle.std.proofs.Common.{◌≡◌, ◌++◌, ◌-◌, length}
use Rattle.task_waits.proofs.calls.Returning.{opened_from}
use Rattle.task_waits.proofs.calls.formals.open_formals.Given as goal

-- so many formals, from the last one on, are the latest variables
abbrev pub invariant-loop-done : goal.invariant-loop-done
invariant-loop-done l = l.objects ≡ opened_from l.types l.formals l.values (length l.formals - l.done) ++ l.fn.objects
