use Rattle.std.proofs.Common.{◌≡◌, ◌==◌, ℕ, nat_eq, take, find}
use Rattle.std.specs.HashMap.{get}
use Rattle.ada_static_rules.specs.StaticValue.{first_of_two}
use Rattle.task_links.proofs.type_names.keep_firsts.Given as goal

-- the first marks of the kinds so far are kept
abbrev pub invariant-loop-mark : goal.invariant-loop-mark
invariant-loop-mark l = (k : ℕ) → get nat_eq l.map k ≡ first_of_two (get nat_eq l.fn.map k) (find (λ m. m.kind == k) (take l.mark-index l.marks))
