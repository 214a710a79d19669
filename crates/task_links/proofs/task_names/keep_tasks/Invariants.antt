use Rattle.std.proofs.Common.{◌≡◌, ◌==◌, ℕ, nat_eq, take, position}
use Rattle.std.specs.HashMap.{get}
use Rattle.ada_static_rules.specs.StaticValue.{first_of_two}
use Rattle.task_links.proofs.task_names.keep_tasks.Given as goal

-- the numbers of the tasks so far are kept
abbrev pub invariant-loop-place : goal.invariant-loop-place
invariant-loop-place l = (q : ℕ) → get nat_eq l.map q ≡ first_of_two (get nat_eq l.fn.map q) (position (λ info. info.name.0 == q) (take l.place l.tasks))
