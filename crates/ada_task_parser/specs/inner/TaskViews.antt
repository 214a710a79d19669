-- How what stands behind an entry's name is seen plainly, and a pragma PRIORITY by the id of its name.
use Rattle.std.specs.Prelude.{ℕ, List, Option, map, option_map}
use Rattle.ada_expr_parser.specs.readers.Readers.{Reader, bind, token}
use Rattle.ada_tree.specs.declared.naming.Span.{Span}
use Rattle.ada_tree.specs.declared.statements.Formal.{Formal}
use Rattle.ada_tree.specs.declared.declarations.Drange.{Drange}
use Rattle.ada_tree.specs.PlainExpr.{PExpr, PDrange, plain_drange}
use Rattle.ada_tree.specs.PlainStmt.{plain_formal}
use Rattle.ada_lexer.specs.declared.symbols.Symbol.TheVariants as key
use Rattle.ada_expr_parser.specs.declared.items.Item.{Item}
use Rattle.ada_expr_parser.specs.Parts.{expression}
use Rattle.ada_phrase_parser.specs.Reading.{Behind, key_then, closed, with_id}

-- what stands behind an entry's name
abbrev pub family_of : Option Drange → List Formal → Behind PDrange
family_of family formals = record { index = option_map plain_drange family; formals = map plain_formal formals }

-- `PRIORITY ( expr ) ;`, where PRIORITY has this id
abbrev pub priority_by : {A : Type 0} → ℕ → ℕ → (PExpr → Span → A) → Reader Item A
priority_by id d tree =
    bind (token (with_id id)) (λ w. key_then key.LeftParen (bind (expression d) (λ e. key_then key.RightParen (closed (λ close. tree e close)))))
