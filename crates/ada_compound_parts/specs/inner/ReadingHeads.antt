-- What begins a statement or a loop, and what stands in front of the statements of loops and alternatives.
use Rattle.std.specs.Prelude.{ℕ, Bool, true, false, ◌||◌, is_some, Option, Some, None, option_map}
use Rattle.ada_expr_parser.specs.readers.Readers.{Reader, pure, refuse, bind, on, token, below}
use Rattle.ada_tree.specs.declared.naming.Span.{Span}
use Rattle.ada_tree.specs.declared.naming.Word.{Word}
use Rattle.ada_tree.specs.declared.expressions.Expr.{Expr}
use Rattle.ada_tree.specs.PlainExpr.{PExpr, plain_expr}
use Rattle.ada_tree.specs.PlainStmt.{PCall, PScheme, LWhile, LFor, PStmt, SConditional, STimed, PStmts, PAltKind, ATerminate}
use Rattle.ada_lexer.specs.declared.symbols.Symbol.TheVariants as key
use Rattle.ada_expr_parser.specs.declared.items.Item.{Item}
use Rattle.ada_expr_parser.specs.Tests.{symbol, word}
use Rattle.ada_expr_parser.specs.Trees.{from_to}
use Rattle.ada_expr_parser.specs.Parts.{expression, drange, target, callee_of, call_rest}
use Rattle.ada_phrase_parser.specs.Reading.{is_symbol, key_then, last_key, delayed}

-- the item begins a statement (5.1)
abbrev pub begins_stmt : Item → Bool
begins_stmt x =
    is_some (word x) || is_symbol key.Null x || is_symbol key.Delay x || is_symbol key.Exit x || is_symbol key.Raise x || is_symbol key.Abort x
    || is_symbol key.Accept x || is_symbol key.Select x || is_symbol key.If x || is_symbol key.Case x || is_symbol key.Begin x
    || is_symbol key.While x || is_symbol key.For x || is_symbol key.Loop x

-- the item begins a loop (5.5)
abbrev pub begins_loop : Item → Bool
begins_loop x = is_symbol key.While x || is_symbol key.For x || is_symbol key.Loop x

-- from the first word of a loop to `loop`: how it goes on
abbrev pub while_scheme : ℕ → Reader Item (Option PScheme)
while_scheme e = bind (expression e) (λ test. key_then key.Loop (pure (Some (LWhile test))))

abbrev pub range_scheme : ℕ → Word → Bool → Reader Item (Option PScheme)
range_scheme e w backwards = bind (drange e) (λ x. key_then key.Loop (pure (Some (LFor w backwards x))))

abbrev pub for_scheme : ℕ → Reader Item (Option PScheme)
for_scheme e =
    bind (token word) (λ w. key_then key.In (on (symbol key.Reverse) (λ at. range_scheme e w true) (range_scheme e w false)))

abbrev pub loop_scheme : ℕ → Reader Item (Option PScheme)
loop_scheme e =
    on (symbol key.While) (λ at. while_scheme e) (on (symbol key.For) (λ at. for_scheme e) (on (symbol key.Loop) (λ at. pure None) refuse))

-- the guard of an alternative and where it begins, or neither (9.7.1)
pub record Guarded (A : Type 0) : Type 0 where
  pub test : Option A
  pub lead : Option Span

abbrev pub guard_of : Option Expr → Option Span → Guarded PExpr
guard_of test lead = record { test = option_map plain_expr test; lead = lead }

abbrev pub guard : ℕ → Reader Item (Guarded PExpr)
guard d =
    below d (symbol key.When) (λ e lead. bind (expression e) (λ g. key_then key.Arrow (pure record { test = Some g; lead = Some lead })))
    (pure record { test = None; lead = None })

-- an alternative without its guard: its kind, where it begins, and where it ends
pub record Kinded : Type 0 where
  pub kind : PAltKind
  pub first : Span
  pub last : Span

abbrev pub kind_of : PAltKind → Span → Span → Kinded
kind_of kind first last = record { kind = kind; first = first; last = last }

-- `terminate ;`
abbrev pub terminating : Reader Item Kinded
terminating = bind (token (symbol key.Terminate)) (λ lead. last_key key.Semicolon (λ close. kind_of ATerminate lead close))

-- an entry call that is selected, with its semicolon (9.7.2, 9.7.3)
abbrev pub selected_call : ℕ → Reader Item PCall
selected_call e = bind (target e) (λ t. bind (call_rest e (callee_of t)) (λ c. key_then key.Semicolon (pure c)))

-- `or delay DURATION ;`
abbrev pub or_delay : Reader Item ℕ
or_delay = key_then key.Or (key_then key.Delay (bind delayed (λ x. pure x.thousandths)))

-- `end select ;`
abbrev pub end_select : Reader Item Span
end_select = key_then key.End (key_then key.Select (token (symbol key.Semicolon)))

-- what stands behind a selected call: statements, a delay if there is one, the statements of the delay or else of `else`, and the end
pub record CallTail : Type 0 where
  pub behind : PStmts
  pub delay : Option ℕ
  pub last : PStmts
  pub close : Span

abbrev pub call_tail_of : PStmts → Option ℕ → PStmts → Span → CallTail
call_tail_of behind delay last close = record { behind = behind; delay = delay; last = last; close = close }

abbrev pub selected : Span → PCall → PStmts → Option ℕ → PStmts → Span → PStmt
selected lead c l None m close = SConditional c l m (from_to lead close)
selected lead c l (Some n) m close = STimed c l n m (from_to lead close)
