-- Bodies with and without handlers.
use Rattle.std.proofs.Common.{◌≡◌, ℕ, suc, ◌==◌, true, false, not, List, [], ◌∷◌, length, map, refl, arith}
use Rattle.std.proofs.lemmas.Bool.Decides.{nat_tests}
use Rattle.ada_tree.specs.declared.naming.Span.{Span}
use Rattle.ada_tree.specs.declared.statements.Handler.{Handler}
use Rattle.ada_tree.specs.PlainStmt.{PStmts, SBlock, body, PHandlers, no_handler, handler_then, handlers_of, plain_handler}
use Rattle.normal_model.specs.Making.{one}
use Rattle.replay_model.specs.ReplayStmts.{with_handlers}
use Rattle.collect_statements.specs.Rules.{has_handlers}

pub has-of : (hs : List Handler) → has_handlers (handlers_of (map plain_handler hs)) ≡ not (length hs == 0)
has-of [] = refl
has-of (h ∷ hs) = positive (length hs)
  where
    positive : (n : ℕ) → true ≡ not (suc n == 0)
    positive n = grind (arith, nat_tests)

pub blocked : (s : Span) (l : PStmts) (hs : PHandlers) → has_handlers hs ≡ true → with_handlers s (body l hs) ≡ one (SBlock (body l hs) s)
blocked s l no_handler e = cc
blocked s l (handler_then h hs) e = refl

pub kept : (s : Span) (l : PStmts) (hs : PHandlers) → has_handlers hs ≡ false → with_handlers s (body l hs) ≡ l
kept s l no_handler e = refl
kept s l (handler_then h hs) e = cc

pub none-left : (hs : PHandlers) → has_handlers hs ≡ false → hs ≡ no_handler
none-left no_handler e = refl
none-left (handler_then h hs) e = cc

pub ruleset handled = (has-of, blocked, kept, none-left)
