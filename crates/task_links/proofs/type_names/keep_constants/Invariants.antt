use Rattle.std.proofs.Common.{◌≡◌, ◌==◌, nat_eq, take, find, option_map}
use Rattle.std.specs.HashMap.{get}
use Rattle.ada_tree.specs.declared.naming.NameId.{NameId}
use Rattle.ada_static_rules.specs.StaticValue.{first_of_two}
use Rattle.ada_value.specs.Evaluating.{constant_value}
use Rattle.task_links.proofs.type_names.keep_constants.Given as goal

-- the values of the constants so far are kept
abbrev pub invariant-loop-constant : goal.invariant-loop-constant
invariant-loop-constant l = (id : NameId) → get nat_eq l.map id.0 ≡ first_of_two (get nat_eq l.fn.map id.0) (option_map (constant_value l.types) (find (λ c. c.name.0 == id.0) (take l.constant-index l.constants)))
