use Rattle.std.proofs.Common.{◌≡◌, ◌==◌, pos, nat_eq, take, position, option_map}
use Rattle.std.specs.HashMap.{get}
use Rattle.ada_tree.specs.declared.naming.NameId.{NameId}
use Rattle.ada_static_rules.specs.StaticValue.{first_of_two}
use Rattle.ada_value.specs.Values.{placed}
use Rattle.task_links.proofs.type_names.keep_literals.Given as goal

-- the values of the literals so far are kept
abbrev pub invariant-loop-place : goal.invariant-loop-place
invariant-loop-place l = (id : NameId) → get nat_eq l.map id.0 ≡ first_of_two (get nat_eq l.fn.map id.0) (option_map (λ n. placed l.kind (pos n)) (position (λ n. n.0 == id.0) (take l.place l.names)))
