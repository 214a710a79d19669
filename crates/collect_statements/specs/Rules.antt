-- The rewriter of a collecting text, as a rule of the walk in code.
use Rattle.std.specs.Prelude.{ℕ, Bool, true, false}
use Rattle.ada_tree.specs.declared.naming.Span.{Span}
use Rattle.ada_tree.specs.PlainStmt.{PCall, PStmt, SCall, SAccept, SWait, SConditional, STimed, PStmts, no_stmt, PHandlers, no_handler, handler_then}
use Rattle.normal_model.specs.Making.{one}
use Rattle.tree_rewriting.specs.walking.Rules.{Rule}
use Rattle.collect_model.specs.Teller.{Teller}
use Rattle.collect_model.specs.Calling.{plain_image, conditional_image, timed_image}
use Rattle.collect_model.specs.Serving.{accept_image}
use Rattle.collect_model.specs.Waiting.{wait_image}

-- what stands in the place of calls; proofs see into these where they ask to
unfoldable pub call_image : Teller → Span → PCall → PStmts
call_image x s c = plain_image x s c

unfoldable pub choice_image : Teller → Span → PCall → PStmts → PStmts → PStmts
choice_image x s c behind otherwise = conditional_image x s c behind otherwise

unfoldable pub delay_image : Teller → Span → PCall → PStmts → ℕ → PStmts → PStmts
delay_image x s c behind duration after = timed_image x s c behind duration after

-- what stands in the place of a statement
abbrev pub image : Teller → PStmt → PStmts
image x (SCall c s) = call_image x s c
image x (SConditional c behind otherwise s) = choice_image x s c behind otherwise
image x (STimed c behind duration after s) = delay_image x s c behind duration after
image x (SAccept a s) = accept_image x s a
image x (SWait alts otherwise s) = wait_image x s alts otherwise
image x y = one y

-- the rewriter keeps nothing on its way
abbrev pub rule_of : Teller → Rule ℕ
rule_of x = record {
  number = λ n. n;
  entered_stmt = λ n y. n;
  entered_alternative = λ n y. n;
  lead = λ n y. no_stmt;
  left_alternative = λ n y. y;
  replaced_stmt = λ n y. image x y;
}

-- there are handlers
abbrev pub has_handlers : PHandlers → Bool
has_handlers no_handler = false
has_handlers (handler_then h hs) = true
