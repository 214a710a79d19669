use Rattle.std.proofs.Common.{◌≡◌, ◌++◌, map, take}
use Rattle.ada_tree.specs.PlainDecl.{plain_decl}
use Rattle.normal_form.specs.unit_declarations.Copies.{copy_under}
use Rattle.normal_form.proofs.unit_declarations.copies.push_copies.Given as goal

abbrev pub invariant-loop-name : goal.invariant-loop-name
invariant-loop-name l = map plain_decl l.out.items ≡ map plain_decl l.fn.out.items ++ map (copy_under l.copied) (take l.name-index l.names)
