use Rattle.std.proofs.Common.{◌≡◌, map, take}
use Rattle.ada_tree.specs.PlainDecl.{plain_decl}
use Rattle.ada_tree_copy.proofs.declarations.+copy_decl.Given as goal

abbrev pub invariant-copy_decls-loop-decl :
    goal.invariant-copy_decls-loop-decl
invariant-copy_decls-loop-decl l = map plain_decl l.copies.items ≡ map plain_decl (take l.decl-index l.decls)
