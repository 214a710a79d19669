-- The alternatives of a row that a list makes, and the only one of a list of callees.
use Rattle.std.proofs.Common.{◌≡◌, ℕ, suc, ◌==◌, true, false, not, List, [], ◌∷◌, length, map, slice_get, option_map, None, refl, ap, arith}
use Rattle.ada_tree.specs.declared.statements.Callee.{Callee}
use Rattle.std.proofs.lemmas.Bool.Decides.{nat_tests}
use Rattle.ada_tree.specs.declared.naming.Span.{Span}
use Rattle.ada_tree.specs.declared.statements.Handler.{Handler}
use Rattle.ada_tree.specs.PlainStmt.{PAlt, PStmts, SBlock, body, PHandlers, no_handler, handler_then, alts_of, handlers_of, plain_callee, plain_handler}
use Rattle.normal_model.specs.Making.{one}
use Rattle.replay_model.specs.ReplayStmts.{with_handlers}
use Rattle.replay_statements.specs.rules.Replayed.{alt_list, only_callee, has_handlers}

pub alt_list-of : (xs : List PAlt) → alt_list (alts_of xs) ≡ xs
alt_list-of [] = refl
alt_list-of (x ∷ xs) = ap (λ ys. x ∷ ys) (alt_list-of xs)

-- handlers of a body
pub has-of : (hs : List Handler) → has_handlers (handlers_of (map plain_handler hs)) ≡ not (length hs == 0)
has-of [] = refl
has-of (h ∷ hs) = positive (length hs)
  where
    positive : (n : ℕ) → true ≡ not (suc n == 0)
    positive n = grind (arith, nat_tests)

pub blocked : (s : Span) (l : PStmts) (hs : PHandlers) → has_handlers hs ≡ true → with_handlers s (body l hs) ≡ one (SBlock (body l hs) s)
blocked s l no_handler e = cc
blocked s l (handler_then h hs) e = refl

pub kept : (s : Span) (l : PStmts) (hs : PHandlers) → has_handlers hs ≡ false → with_handlers s (body l hs) ≡ l
kept s l no_handler e = refl
kept s l (handler_then h hs) e = cc

pub none-left : (hs : PHandlers) → has_handlers hs ≡ false → hs ≡ no_handler
none-left no_handler e = refl
none-left (handler_then h hs) e = cc

pub ruleset alternatives = (alt_list-of, has-of, blocked, kept, none-left)

pub only-one : (xs : List Callee) → length xs ≡ 1 → option_map plain_callee (slice_get xs 0) ≡ only_callee (map plain_callee xs)
only-one [] e = refl
only-one (x ∷ []) e = refl
only-one (x ∷ y ∷ xs) e = absurd (omega (arith, e))

pub only-none : (xs : List Callee) → (length xs ≡ 1 → ⊥) → None ≡ only_callee (map plain_callee xs)
only-none [] n = refl
only-none (x ∷ []) n = absurd (n refl)
only-none (x ∷ y ∷ xs) n = refl
