-- How units of the code are seen plainly, and how their ends are read.
use Rattle.std.specs.Prelude.{ℕ, suc, Bool, List, map}
use Rattle.ada_expr_parser.specs.readers.Readers.{Reader, bind}
use Rattle.ada_tree.specs.declared.naming.Span.{Span}
use Rattle.ada_tree.specs.declared.naming.Word.{Word}
use Rattle.ada_tree.specs.declared.declarations.Decl.{Decl}
use Rattle.ada_tree.specs.PlainStmt.{PBody, plain_body}
use Rattle.ada_tree.specs.PlainDecl.{plain_decl, decls_of}
use Rattle.ada_expr_parser.specs.declared.items.Item.{Item}
use Rattle.ada_phrase_parser.specs.Spelling.{Source}
use Rattle.ada_parser.specs.Units.{PUnit}
use Rattle.ada_parser.specs.inner.ReadingDeclarativeParts.{decls, unit_end}
use Rattle.ada_parser.specs.declared.units.Unit.{Unit as Code}

-- a unit
abbrev pub plain_unit : Code → PUnit
plain_unit u = record { text_io = u.text_io; name = u.name; decls = decls_of (map plain_decl u.decls.items); body = plain_body u.body }

-- the unit with these declarations, by its body
abbrev pub unit_of_parts : Bool → Word → List Decl → PBody → Span → PUnit
unit_of_parts text_io w ds b close = record { text_io = text_io; name = w; decls = decls_of (map plain_decl ds); body = b }

-- behind `procedure NAME is`
abbrev pub behind_is : Source → ℕ → Bool → Word → Reader Item PUnit
behind_is source d text_io w =
    bind (decls source d) (λ ds. unit_end source (suc d) w (λ b close. record { text_io = text_io; name = w; decls = ds; body = b }))
