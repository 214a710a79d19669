use Rattle.std.proofs.Common.{◌≡◌, ◌++◌, [], map, drop}
use Rattle.ada_tree.specs.PlainDecl.{plain_decl}
use Rattle.normal_form.specs.unit_declarations.inner.First.{first_list}
use Rattle.normal_form.proofs.unit_declarations.first.push_firsts.Given as goal

-- the declarations so far and those of what is left are all
abbrev pub invariant-loop-decl : goal.invariant-loop-decl
invariant-loop-decl l = map plain_decl l.out.items ++ first_list l.known (map plain_decl (drop l.decl-index l.decls)) ≡ map plain_decl l.fn.out.items ++ first_list [] (map plain_decl l.decls)
