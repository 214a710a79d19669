use Rattle.std.proofs.Common.{length, map}
use Rattle.ada_tree.specs.PlainDecl.{plain_decl}
use Rattle.ada_decl_parser.specs.inner.ReadingDeclarations.{object}
use Rattle.ada_parser.specs.inner.ReadingDeclarativeParts.{begins_object}
use Rattle.ada_phrase_parser.proofs.Lists.{GoesOn}
use Rattle.ada_parser.proofs.objects.objects_onto.Given as goal

abbrev pub invariant-objects : goal.invariant-objects
invariant-objects l = GoesOn (begins_object) (object l.depth) (map plain_decl l.list.items) (map plain_decl l.initial.list.items) l.rest l.initial.rest

abbrev pub decreases-objects : goal.decreases-objects
decreases-objects l = length l.rest
