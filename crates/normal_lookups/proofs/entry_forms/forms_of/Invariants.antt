use Rattle.std.proofs.Common.{◌≡◌, map, drop}
use Rattle.ada_tree.specs.PlainDecl.{plain_decl}
use Rattle.syn_event.specs.DeclaredTasks.{tasks_in}
use Rattle.normal_lookups.specs.inner.Kept.{seen_unit, units_named}
use Rattle.normal_lookups.proofs.entry_forms.forms_of.Given as goal

-- the units of the declarations from a place on stand there
abbrev pub invariant-loop-place : goal.invariant-loop-place
invariant-loop-place l = map seen_unit l.forms ≡ units_named (tasks_in (map plain_decl (drop l.place l.decls)))
