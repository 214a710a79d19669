use Rattle.std.proofs.Common.{map, take}
use Rattle.ada_tree.specs.PlainDecl.{decls_of, plain_decl}
use Rattle.ada_tree.specs.Same.{SameDecls}
use Rattle.ada_tree_same.proofs.declarations.+same_decl.Given as goal

abbrev pub invariant-same_decls-loop-i : goal.invariant-same_decls-loop-i
invariant-same_decls-loop-i l = SameDecls l.left l.right (decls_of (map plain_decl (take l.i l.a))) (decls_of (map plain_decl (take l.i l.b)))
