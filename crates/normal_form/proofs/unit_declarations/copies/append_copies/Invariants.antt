use Rattle.std.proofs.Common.{◌≡◌, ◌++◌, map, take}
use Rattle.ada_tree.specs.PlainDecl.{plain_decl}
use Rattle.normal_form.proofs.unit_declarations.copies.append_copies.Given as goal

abbrev pub invariant-loop-decl : goal.invariant-loop-decl
invariant-loop-decl l = map plain_decl l.out.items ≡ map plain_decl l.fn.out.items ++ map plain_decl (take l.decl-index l.decls)
