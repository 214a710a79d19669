use Rattle.std.proofs.Common.{◌≡◌, nat_eq, take}
use Rattle.std.specs.HashMap.{get}
use Rattle.ada_tree.specs.declared.naming.NameId.{NameId}
use Rattle.ada_static_rules.specs.StaticValue.{first_of_two}
use Rattle.ada_value.specs.Evaluating.{literal_value}
use Rattle.task_links.proofs.type_names.keep_kinds.Given as goal

-- the values of the literals of the kinds so far are kept
abbrev pub invariant-loop-place : goal.invariant-loop-place
invariant-loop-place l = (id : NameId) → get nat_eq l.map id.0 ≡ first_of_two (get nat_eq l.fn.map id.0) (literal_value (take l.place l.kinds) 0 id)
