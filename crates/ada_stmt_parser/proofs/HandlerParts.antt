-- A body with handlers, as the code reads and builds it.
use Rattle.std.proofs.Common.{◌≡◌, ℕ, ◌-◌, ◌<◌, ◌≤◌, true, cond, List, ◌∷◌, Some, Vec, Global, map, length, take, drop, get_or, ap, ◌∙◌}
use Rattle.ada_expr_parser.specs.readers.Readers.{Reader, Found, Fault, go_on, bind, pure, below, below_token}
use Rattle.ada_tree.specs.declared.naming.Span.{Span}
use Rattle.ada_tree.specs.declared.statements.Stmt.{Stmt}
use Rattle.ada_tree.specs.declared.statements.Handler.{Handler}
use Rattle.ada_tree.specs.declared.statements.Body.{out-Body, roll-Body, the_lemmas}
use Rattle.ada_tree.specs.PlainStmt.{PStmts, PHandlers, PBody, body, no_handler, stmts_of, handlers_of, plain_stmt, plain_handler, plain_body, seen}
use Rattle.ada_tree.proofs.Rows.{plain_body-out}
use Rattle.ada_lexer.specs.declared.symbols.Symbol.TheVariants as key
use Rattle.ada_expr_parser.specs.declared.items.Item.{Item}
use Rattle.ada_expr_parser.specs.Tests.{symbol}
use Rattle.ada_expr_parser.proofs.Chains.{front_and_rest}
use Rattle.ada_stmt_parser.specs.inner.ReadingStatements.{Readers}
use Rattle.common_lemmas.proofs.Numbers.{above_zero}

-- the body that is built of a list of statements and one of handlers
pub body_built :
    (stmts : Vec Stmt Global) (handlers : Vec Handler Global) →
    plain_body (roll-Body record { stmts = stmts; handlers = handlers }) ≡ body (seen stmts.items) (handlers_of (map plain_handler handlers.items))
body_built stmts handlers =
    let opened : body (stmts_of (map plain_stmt (out-Body (roll-Body record { stmts = stmts; handlers = handlers })).stmts.items)) (handlers_of (map plain_handler (out-Body (roll-Body record { stmts = stmts; handlers = handlers })).handlers.items)) ≡ body (stmts_of (map plain_stmt stmts.items)) (handlers_of (map plain_handler handlers.items)) = simp the_lemmas in
    plain_body-out (roll-Body record { stmts = stmts; handlers = handlers }) ∙ opened

-- handlers behind `exception`, where there is a level for them
pub handlers_go :
    (e : ℕ) (r : Readers) (l : PStmts) (ts rest : List Item) (dummy : Item) (at : Span) (hs : PHandlers) →
    1 ≤ length ts → symbol key.Exception (get_or ts 0 dummy) ≡ Some at → 0 < e → r.handlers (take (length ts - 1) (drop 1 ts)) ≡ Found hs rest →
    below e (symbol key.Exception) (λ i at. bind r.handlers (λ hs. pure (body l hs))) (pure (body l no_handler)) ts ≡ Found (body l hs) rest
handlers_go e r l ts rest dummy at hs some is deep found =
    let next : ℕ → Span → Reader Item PBody = λ i at. bind r.handlers (λ hs. pure (body l hs)) in
    let other : Reader Item PBody = pure (body l no_handler) in
    ap (below e (symbol key.Exception) next other) (front_and_rest ts dummy some)
    ∙ (ap (λ o. below_token e o next other (get_or ts 0 dummy) (take (length ts - 1) (drop 1 ts))) is
    ∙ (ap (λ b. cond b (Fault true (get_or ts 0 dummy ∷ take (length ts - 1) (drop 1 ts))) (go_on (r.handlers (take (length ts - 1) (drop 1 ts))) (λ hs. pure (body l hs)))) (above_zero e deep)
    ∙ ap (λ a. go_on a (λ hs. pure (body l hs))) found))
