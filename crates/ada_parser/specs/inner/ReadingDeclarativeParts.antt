-- How task bodies, all declarations and the ends of units are read. At a depth d, at most d levels may stand below the root of each expression.
use Rattle.std.specs.Prelude.{ℕ, suc, Bool, true, false, ◌||◌, List, is_some}
use Rattle.ada_expr_parser.specs.readers.Readers.{Reader, pure, refuse, bind, on, token, items}
use Rattle.ada_tree.specs.declared.naming.Span.{Span}
use Rattle.ada_tree.specs.declared.naming.Word.{Word}
use Rattle.ada_tree.specs.PlainStmt.{PBody}
use Rattle.ada_tree.specs.PlainDecl.{PDecl, DPragma, DTaskBody, PDecls, decls_of}
use Rattle.ada_lexer.specs.declared.symbols.Symbol.TheVariants as key
use Rattle.ada_expr_parser.specs.declared.items.Item.{Item}
use Rattle.ada_expr_parser.specs.Tests.{symbol, word}
use Rattle.ada_expr_parser.specs.Trees.{from_to}
use Rattle.ada_phrase_parser.specs.Spelling.{Source}
use Rattle.ada_phrase_parser.specs.Reading.{is_symbol, key_then, end_of}
use Rattle.ada_stmt_parser.specs.inner.ReadingStatements.{readers, body_rest}
use Rattle.ada_parser.specs.inner.ReadingRows.{row}
use Rattle.ada_decl_parser.specs.inner.ReadingDeclarations.{named_rest, names_behind, type_rest, subtype_rest, instance, object}
use Rattle.ada_task_parser.specs.inner.ReadingTasks.{priority, task_rest}

-- `begin stmts [exception handlers] end [NAME] ;` (6.3, 9.1)
abbrev pub unit_end : {A : Type 0} → Source → ℕ → Word → (PBody → Span → A) → Reader Item A
unit_end source d w tree = key_then key.Begin (bind (body_rest d (readers source d)) (λ b. end_of w (tree b)))

-- a name begins an object
abbrev pub begins_object : Item → Bool
begins_object x = is_some (word x)

-- objects, as long as a name begins one (this project's rule)
abbrev pub objects : ℕ → Reader Item PDecls
objects d = bind (items (λ x. is_some (word x)) (object d)) (λ l. pure (decls_of l))

-- behind `task body` (9.1)
abbrev pub task_body : Source → ℕ → Span → Reader Item PDecl
task_body source d lead =
    bind (token word) (λ w. key_then key.Is (bind (objects d) (λ ds. unit_end source (suc d) w (λ b close. DTaskBody w ds b (from_to lead close)))))

-- behind `task`
abbrev pub task_at : Source → ℕ → Span → Reader Item PDecl
task_at source d lead =
    on (symbol key.Body) (λ at. task_body source d lead)
    (on (symbol key.Type) (λ at. bind (token word) (task_rest source d lead true))
    (on word (task_rest source d lead false) refuse))

-- `NAME is`, and what follows it
abbrev pub name_is : (Word → Reader Item PDecl) → Reader Item PDecl
name_is next = bind (token word) (λ w. key_then key.Is (next w))

-- a declaration (3.9)
abbrev pub decl : Source → ℕ → Reader Item PDecl
decl source d =
    on word (names_behind (named_rest d))
    (on (symbol key.Type) (λ lead. name_is (type_rest d lead))
    (on (symbol key.Subtype) (λ lead. name_is (subtype_rest d lead))
    (on (symbol key.Package) (λ lead. name_is (instance lead))
    (on (symbol key.Pragma) (λ lead. priority source d (λ e close. DPragma e (from_to lead close)))
    (on (symbol key.Task) (task_at source d) refuse)))))

-- the item begins a declaration that may stand behind a body, and any declaration
abbrev pub begins_later : Item → Bool
begins_later x = is_symbol key.Package x || is_symbol key.Task x

abbrev pub begins_decl : Item → Bool
begins_decl x = is_some (word x) || is_symbol key.Type x || is_symbol key.Subtype x || is_symbol key.Pragma x || begins_later x

-- which items begin a declaration, by whether a body stands before it
abbrev pub begins_behind : Bool → Item → Bool
begins_behind false x = begins_decl x
begins_behind true x = begins_later x

abbrev pub is_body : PDecl → Bool
is_body (DTaskBody w ds b s) = true
is_body _ = false

-- declarations, none or some, of which those behind the first body are bodies, tasks and instances (3.9)
abbrev pub decl_list : Source → ℕ → Bool → Reader Item (List PDecl)
decl_list source d behind = row begins_behind is_body (decl source d) behind

abbrev pub decls : Source → ℕ → Reader Item PDecls
decls source d = bind (decl_list source d false) (λ l. pure (decls_of l))
