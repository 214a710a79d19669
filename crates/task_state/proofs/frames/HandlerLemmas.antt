-- The handler that is for an exception.
use Rattle.std.proofs.Common.{◌≡◌, ◌==◌, true, false, List, [], ◌∷◌, Some, map, length, refl, sym, ap, ◌∙◌, true≢false}
use Rattle.std.specs.List.{list_any}
use Rattle.ada_tree.specs.declared.naming.Word.{Word}
use Rattle.ada_tree.specs.declared.statements.Handler.{Handler, out-Handler}
use Rattle.ada_tree.specs.PlainStmt.{stmts_of, plain_stmt, handler_then}
use Rattle.ada_tree.proofs.Rows.{plain_handler-out}
use Rattle.ada_value.specs.declared.values.Raised.{Raised}
use Rattle.task_model.specs.Frames.{raised_name, is_for, handler_for}
use Rattle.task_state.specs.frames.Seen.{seen_handlers}
use Rattle.common_lemmas.proofs.Truth.{if_false, if_true}

-- names that are some are for an exception that is one of them
pub is_for_named : (x : Raised) (ws : List Word) → (length ws == 0) ≡ false → list_any (λ v. v.name.0 == raised_name x) ws ≡ is_for x ws
is_for_named x [] h = absurd (true≢false h)
is_for_named x (w ∷ ws) h = refl

-- the first handler is for the exception
pub handler_taken : (x : Raised) (h : Handler) (hs : List Handler) → is_for x (out-Handler h).names.items ≡ true →
    Some (stmts_of (map plain_stmt (out-Handler h).stmts.items)) ≡ handler_for x (seen_handlers (h ∷ hs))
handler_taken x h hs e =
    sym
    (ap (λ p. handler_for x (handler_then p (seen_handlers hs))) (plain_handler-out h) ∙
    if_true (is_for x (out-Handler h).names.items) (Some (stmts_of (map plain_stmt (out-Handler h).stmts.items))) (handler_for x (seen_handlers hs)) e)

-- the first handler is not for it
pub handler_passed : (x : Raised) (h : Handler) (hs : List Handler) → is_for x (out-Handler h).names.items ≡ false →
    handler_for x (seen_handlers (h ∷ hs)) ≡ handler_for x (seen_handlers hs)
handler_passed x h hs e =
    ap (λ p. handler_for x (handler_then p (seen_handlers hs))) (plain_handler-out h) ∙
    if_false (is_for x (out-Handler h).names.items) (Some (stmts_of (map plain_stmt (out-Handler h).stmts.items))) (handler_for x (seen_handlers hs)) e
