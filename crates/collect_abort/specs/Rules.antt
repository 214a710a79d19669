-- The rewriter of a collecting text with abort statements, as a rule of the walk in code.
use Rattle.std.specs.Prelude.{ℕ, ◌+◌, [], ◌∷◌}
use Rattle.ada_tree.specs.declared.naming.Span.{Span}
use Rattle.ada_tree.specs.PlainStmt.{PCallee, PCall, PStmt, SAbort, SCall, SAccept, SWait, SConditional, STimed, PStmts, no_stmt, PMaybe, PAccept, PAlts}
use Rattle.normal_model.specs.Making.{one}
use Rattle.tree_rewriting.specs.walking.Rules.{Rule}
use Rattle.collect_model.specs.aborts.Places.{with_place}
use Rattle.collect_model.specs.aborts.AbortTeller.{AbortTeller}
use Rattle.collect_model.specs.aborts.Calling.{plain_image, conditional_image, timed_image}
use Rattle.collect_model.specs.aborts.Serving.{accept_image}
use Rattle.collect_model.specs.aborts.Waiting.{wait_image}
use Rattle.collect_model.specs.aborts.AbortStmts.{abort_image}

-- what stands in the place of statements; proofs see into these where they ask to
unfoldable pub call_told : AbortTeller → Span → PCall → PStmts
call_told x s c = plain_image x.teller s c

unfoldable pub choice_told : AbortTeller → Span → PCall → PStmts → PStmts → PStmts
choice_told x s c behind otherwise = conditional_image x.teller s c behind otherwise

unfoldable pub delay_told : AbortTeller → Span → PCall → PStmts → ℕ → PStmts → PStmts
delay_told x s c behind duration after = timed_image x.teller s c behind duration after

unfoldable pub accept_told : AbortTeller → Span → ℕ → PAccept → PStmts
accept_told x s n a = accept_image x s n a

unfoldable pub wait_told : AbortTeller → Span → ℕ → PAlts → PMaybe → PStmts
wait_told x s n alts otherwise = wait_image x s n alts otherwise

unfoldable pub abort_told : AbortTeller → Span → PCallee → PStmts
abort_told x s callee = abort_image x.teller s callee

-- what stands in the place of a statement, at the place of number n if it accepts
abbrev pub image : AbortTeller → ℕ → PStmt → PStmts
image x n (SCall c s) = call_told x s c
image x n (SConditional c behind otherwise s) = choice_told x s c behind otherwise
image x n (STimed c behind duration after s) = delay_told x s c behind duration after
image x n (SAccept a s) = accept_told x s n a
image x n (SWait alts otherwise s) = wait_told x s n alts otherwise
image x n (SAbort (callee ∷ []) s) = abort_told x s callee
image x n y = one y

-- the rewriter keeps how many places it has come by
abbrev pub rule_of : AbortTeller → Rule ℕ
rule_of x = record {
  number = λ n. n;
  entered_stmt = with_place;
  entered_alternative = λ n y. n;
  lead = λ n y. no_stmt;
  left_alternative = λ n y. y;
  replaced_stmt = λ n y. image x (n + 1) y;
}

-- the rewriter that counts places, and changes nothing
abbrev pub counting_rule : Rule ℕ
counting_rule = record {
  number = λ n. n;
  entered_stmt = with_place;
  entered_alternative = λ n y. n;
  lead = λ n y. no_stmt;
  left_alternative = λ n y. y;
  replaced_stmt = λ n y. one y;
}
