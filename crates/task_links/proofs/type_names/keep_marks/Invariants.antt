use Rattle.std.proofs.Common.{◌≡◌, nat_eq, take, find}
use Rattle.std.specs.HashMap.{get}
use Rattle.ada_tree.specs.declared.naming.NameId.{NameId}
use Rattle.ada_static_rules.specs.StaticValue.{first_of_two, is_named}
use Rattle.task_links.proofs.type_names.keep_marks.Given as goal

-- the marks so far are kept by their names
abbrev pub invariant-loop-mark : goal.invariant-loop-mark
invariant-loop-mark l = (id : NameId) → get nat_eq l.map id.0 ≡ first_of_two (get nat_eq l.fn.map id.0) (find (λ m. is_named id m.name) (take l.mark-index l.marks))
