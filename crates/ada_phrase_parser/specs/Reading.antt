-- How pieces of statements are read: from left to right, by the next item. A depth is how many levels may stand below the statement, and where a piece says so, below the root of an expression.
use Rattle.std.specs.Prelude.{ℕ, zero, suc, ◌==◌, Bool, ◌||◌, List, [], ◌∷◌, Option, Some, None, is_some, if◌then◌else◌}
use Rattle.ada_expr_parser.specs.readers.Readers.{Reader, pure, refuse, bind, on, token, look, too_deep, items}
use Rattle.ada_tree.specs.declared.naming.Span.{Span}
use Rattle.ada_tree.specs.declared.naming.Word.{Word}
use Rattle.ada_tree.specs.declared.statements.ParMode.{ParMode}
use Rattle.ada_tree.specs.declared.statements.ParMode.TheVariants.{Take, Give, Both}
use Rattle.ada_tree.specs.PlainExpr.{PExpr}
use Rattle.ada_tree.specs.PlainStmt.{PFormal, PPart, PWords, PValue}
use Rattle.ada_lexer.specs.declared.symbols.Symbol.{Symbol}
use Rattle.ada_lexer.specs.declared.symbols.Symbol.TheVariants as key
use Rattle.ada_expr_parser.specs.declared.items.ItemKind.{ItemKind}
use Rattle.ada_expr_parser.specs.declared.items.ItemKind.TheVariants as item
use Rattle.ada_expr_parser.specs.declared.items.Item.{Item}
use Rattle.ada_expr_parser.specs.declared.levels.Level.TheVariants.{Logical, Relation, Simple, Term}
use Rattle.ada_expr_parser.specs.Tests.{symbol, word, operator_in, begins_expr}
use Rattle.ada_expr_parser.specs.Reading.{inner, name_rest}
use Rattle.ada_expr_parser.specs.Parts.{expression, expr_behind}
use Rattle.ada_phrase_parser.specs.Spelling.{Source, said_at, is_graphic, id_of}
use Rattle.ada_tree.specs.NameList.{predefined}

-- whether the next item is this symbol
abbrev pub is_symbol : Symbol → Item → Bool
is_symbol s x = is_some (symbol s x)

-- a symbol that must stand here, and what follows it
abbrev pub key_then : {A : Type 0} → Symbol → Reader Item A → Reader Item A
key_then s next = bind (token (symbol s)) (λ at. next)

-- a symbol that must stand here and ends the piece: the tree by its place
abbrev pub last_key : {A : Type 0} → Symbol → (Span → A) → Reader Item A
last_key s tree = bind (token (symbol s)) (λ close. pure (tree close))

abbrev pub closed : {A : Type 0} → (Span → A) → Reader Item A
closed tree = last_key key.Semicolon tree

-- parts with this symbol between them
abbrev pub more_behind : {A : Type 0} → Symbol → Reader Item A → Reader Item (List A)
more_behind s part = items (is_symbol s) (key_then s part)

abbrev pub separated : {A : Type 0} → Symbol → Reader Item A → Reader Item (List A)
separated s part = bind part (λ a. bind (more_behind s part) (λ more. pure (a ∷ more)))

-- What stands one level deeper and begins with an item of this test: where no level is left, that item is too deep.
abbrev pub in_deeper : {A : Type 0} → ℕ → (Item → Bool) → (ℕ → Reader Item A) → Reader Item A
in_deeper zero begins part = look begins too_deep refuse
in_deeper (suc d) begins part = part d

-- an expression whose root is one level deeper
abbrev pub operand : ℕ → Reader Item PExpr
operand d = in_deeper d begins_expr expression

-- the item goes on behind a name in an expression, but for an index
abbrev pub goes_on_name : Item → Bool
goes_on_name x =
    is_symbol key.Tick x || is_some (operator_in Term None x.kind) || is_some (operator_in Simple None x.kind)
    || is_some (operator_in Relation None x.kind) || is_some (operator_in Logical None x.kind)

-- an expression whose first name has been read, at most d levels below its root
abbrev pub expression_from : ℕ → Word → Reader Item PExpr
expression_from d w = bind (name_rest d (inner d) w) (expr_behind d)

-- the same name once more
abbrev pub again_if : Word → Option Word → Option Word
again_if name (Some w) = if name.name.0 == w.name.0 then Some w else None
again_if name None = None

abbrev pub again : Word → Item → Option Word
again name x = again_if name (word x)

-- `end [NAME] ;`
abbrev pub end_of : {A : Type 0} → Word → (Span → A) → Reader Item A
end_of name tree = key_then key.End (on (again name) (λ w. closed tree) (closed tree))

-- a duration literal: its value, and its place
abbrev pub duration_in : ItemKind → Option ℕ
duration_in (item.Duration thousandths) = Some thousandths
duration_in _ = None

abbrev pub duration : Item → Option ℕ
duration x = duration_in x.kind

-- `DURATION ;` behind `delay`: the value, and the place of the semicolon
pub record Delayed : Type 0 where
  pub thousandths : ℕ
  pub close : Span

abbrev pub delayed : Reader Item Delayed
delayed = bind (token duration) (λ n. closed (λ close. record { thousandths = n; close = close }))

-- `[in | out | in out]` (6.1)
abbrev pub mode : Reader Item ParMode
mode =
    on (symbol key.In) (λ at. on (symbol key.Out) (λ at. pure Both) (pure Take))
    (on (symbol key.Out) (λ at. pure Give) (pure Take))

-- a formal whose first name has been read (6.1)
abbrev pub formal_from : Word → Reader Item PFormal
formal_from w =
    bind (more_behind key.Comma (token word)) (λ more. key_then key.Colon (bind mode (λ m. bind (token word) (λ mark.
    pure record { names = w ∷ more; mode = m; mark = mark }))))

abbrev pub formal : Reader Item PFormal
formal = bind (token word) formal_from

-- formals whose first name has been read, with their closing parenthesis
abbrev pub formals_from : Word → Reader Item (List PFormal)
formals_from w =
    bind (formal_from w) (λ x. bind (more_behind key.Semicolon formal) (λ more. last_key key.RightParen (λ close. x ∷ more)))

-- formals in parentheses, or nothing
abbrev pub formals : Reader Item (List PFormal)
formals = on (symbol key.LeftParen) (λ lead. bind (token word) formals_from) (pure [])

-- what stands in the parentheses behind an entry's name: an index, formals, or both
pub record Behind (A : Type 0) : Type 0 where
  pub index : Option A
  pub formals : List PFormal

-- an index has been read: its parenthesis closes, and formals may follow
abbrev pub behind_index : {A : Type 0} → A → Reader Item (Behind A)
behind_index i = key_then key.RightParen (bind formals (λ fs. pure record { index = Some i; formals = fs }))

-- `:` or `,` behind the first name says that it is a formal's
abbrev pub is_formal_mark : Item → Bool
is_formal_mark x = is_symbol key.Colon x || is_symbol key.Comma x

-- behind `accept NAME (` and a name
abbrev pub accept_name : ℕ → Word → Reader Item (Behind PExpr)
accept_name d w =
    look is_formal_mark (bind (formals_from w) (λ fs. pure record { index = None; formals = fs }))
    (bind (in_deeper d (λ x. goes_on_name x || is_symbol key.LeftParen x || is_symbol key.RightParen x) (λ e. expression_from e w)) behind_index)

-- behind `accept NAME` (9.5)
abbrev pub accept_behind : ℕ → Reader Item (Behind PExpr)
accept_behind d =
    on (symbol key.LeftParen) (λ lead. on word (accept_name d) (bind (operand d) behind_index)) (pure record { index = None; formals = [] })

-- a string literal: what it says, with its place
abbrev pub string_in : Source → ItemKind → Span → Option PPart
string_in source item.Text at = if is_graphic (said_at source at) then Some (PWords (said_at source at) at) else None
string_in source _ at = None

abbrev pub string : Source → Item → Option PPart
string source x = string_in source x.kind x.span

-- a part of what PUT writes
abbrev pub part : Source → ℕ → Reader Item PPart
part source d = on (string source) pure (bind (operand d) (λ e. pure (PValue e)))

-- an identifier with this id
abbrev pub with_id_if : ℕ → Option Word → Option Word
with_id_if id (Some w) = if w.name.0 == id then Some w else None
with_id_if id None = None

abbrev pub with_id : ℕ → Item → Option Word
with_id id x = with_id_if id (word x)

-- a predefined name that must stand here, and what follows it
abbrev pub predefined_word : List ℕ → Item → Option Word
predefined_word t = with_id (id_of predefined t)

abbrev pub predefined_then : {A : Type 0} → List ℕ → Reader Item A → Reader Item A
predefined_then t next = bind (token (predefined_word t)) (λ w. next)
