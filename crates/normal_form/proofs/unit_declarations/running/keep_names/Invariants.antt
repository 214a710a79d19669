use Rattle.std.proofs.Common.{◌≡◌, ◌==◌, ◌++◌, ℕ, map, take}
use Rattle.std.specs.List.{filter}
use Rattle.normal_model.specs.Names.{task_name}
use Rattle.normal_form.specs.unit_declarations.Groups.{group_at}
use Rattle.normal_form.proofs.unit_declarations.running.keep_names.Given as goal

-- the names of the tasks so far are kept
abbrev pub invariant-loop-place : goal.invariant-loop-place
invariant-loop-place l = (q : ℕ) → group_at l.groups q ≡ group_at l.fn.groups q ++ map (task_name l.lookups) (filter (λ info. info.unit.0 == q) (take l.place l.tasks))
