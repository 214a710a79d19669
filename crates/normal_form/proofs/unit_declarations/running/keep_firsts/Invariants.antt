use Rattle.std.proofs.Common.{◌≡◌, ◌==◌, ℕ, nat_eq, take, position}
use Rattle.std.specs.HashMap.{get}
use Rattle.ada_static_rules.specs.StaticValue.{first_of_two}
use Rattle.normal_form.proofs.unit_declarations.running.keep_firsts.Given as goal

-- the numbers of the first of the tasks so far are kept
abbrev pub invariant-loop-place : goal.invariant-loop-place
invariant-loop-place l = (q : ℕ) → get nat_eq l.firsts q ≡ first_of_two (get nat_eq l.fn.firsts q) (position (λ info. info.unit.0 == q) (take l.place l.tasks))
