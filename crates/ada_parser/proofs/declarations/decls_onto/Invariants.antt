use Rattle.std.proofs.Common.{length, map, false}
use Rattle.ada_tree.specs.PlainDecl.{plain_decl}
use Rattle.ada_parser.specs.inner.ReadingDeclarativeParts.{begins_behind, is_body, decl}
use Rattle.ada_phrase_parser.specs.Views.{told}
use Rattle.ada_parser.proofs.RowLists.{RowGoesOn}
use Rattle.ada_parser.proofs.declarations.decls_onto.Given as goal

abbrev pub invariant-decls : goal.invariant-decls
invariant-decls l = RowGoesOn begins_behind is_body (decl (told l.source) l.depth) (map plain_decl l.list.items) l.behind l.rest (map plain_decl l.initial.list.items) false l.initial.rest

abbrev pub decreases-decls : goal.decreases-decls
decreases-decls l = length l.rest
