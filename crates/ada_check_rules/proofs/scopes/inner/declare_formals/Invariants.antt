use Rattle.std.proofs.Common.{◌≡◌, map, take}
use Rattle.ada_tree.specs.PlainStmt.{plain_formal}
use Rattle.syn_event.specs.declared.meanings.Meant.TheVariants.{Inner}
use Rattle.syn_event.specs.CheckSites.{with_meant, formal_names}
use Rattle.ada_check_rules.proofs.scopes.inner.declare_formals.Given as goal

-- so many formals are declared
abbrev pub invariant-loop-formal : goal.invariant-loop-formal
invariant-loop-formal l = l.around ≡ with_meant Inner l.fn.around (formal_names (map plain_formal (take l.formal-index l.formals)))
