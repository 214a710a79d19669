use Rattle.std.proofs.Common.{◌≡◌, ◌++◌, flat_map, length, map, max, take}
use Rattle.ada_tree.specs.PlainDecl.{plain_decl}
use Rattle.normal_model.specs.NormalTree.{bodies_of, greatest, variables_of_body}
use Rattle.normal_walk.specs.Begun.{Begins}
use Rattle.normal_form.proofs.body_copies.push_bodies.Given as goal

-- the copies of the bodies so far stand there, and as many variables have names as the greatest of them has
abbrev pub invariant-loop-decl : goal.invariant-loop-decl
invariant-loop-decl l = record {
  decls : map plain_decl l.out.items ≡ map plain_decl l.fn.out.items ++ flat_map (bodies_of l.lookups) (map plain_decl (take l.decl-index l.decls));
  begins : Begins l.lookups l.members l.track;
  count : length l.track.names.variables.items ≡ max (length l.fn.track.names.variables.items) (greatest (map (variables_of_body l.lookups) (map plain_decl (take l.decl-index l.decls))));
}
