-- The rewriters in code are those of the definitions.
use Rattle.std.proofs.Common.{◌≡◌, ℕ, ◌+◌, [], ◌∷◌, Result, Ok, Err, OnOk, refl, ap, ◌∙◌}
use Rattle.ada_tree.specs.declared.naming.Span.{Span}
use Rattle.ada_tree.specs.declared.shortage.Memory.{Memory}
use Rattle.ada_tree.specs.PlainStmt.{PStmt, SNull, SAssign, SDelay, SExit, SRaise, SAbort, SCall, SAccept, SWait, SConditional, STimed, SPut, SPutLine, SNewLine, SGet, SIf, SCase, SBlock, SLoop, no_stmt, PBody}
use Rattle.task_model.specs.Frames.{in_front}
use Rattle.normal_model.specs.Walk.{inside_body, after_body}
use Rattle.tree_rewriting.specs.walking.Rules.{walk_of}
use Rattle.collect_model.specs.CollectStmts.{telling_at_end}
use Rattle.collect_model.specs.aborts.Places.{with_place, places_in}
use Rattle.collect_model.specs.aborts.AbortTeller.{AbortTeller}
use Rattle.collect_model.specs.aborts.AbortStmts.{image_told, abort_rewriter, main_body, task_body}
use Rattle.collect_abort.specs.Rules.{abort_told, accept_told, call_told, choice_told, delay_told, wait_told, image, rule_of, counting_rule}

image-is : (x : AbortTeller) (n : ℕ) (y : PStmt) → image x n y ≡ image_told x n y
unfolding abort_told accept_told call_told choice_told delay_told wait_told
image-is x n (SCall c s) = refl
image-is x n (SConditional c behind otherwise s) = refl
image-is x n (STimed c behind duration after s) = refl
image-is x n (SAccept a s) = refl
image-is x n (SWait alts otherwise s) = refl
image-is x n (SAbort [] s) = refl
image-is x n (SAbort (c ∷ []) s) = refl
image-is x n (SAbort (c ∷ d ∷ cs) s) = refl
image-is x n (SNull s) = refl
image-is x n (SAssign y e s) = refl
image-is x n (SDelay d s) = refl
image-is x n (SExit w e s) = refl
image-is x n (SRaise w s) = refl
image-is x n (SPut ps s) = refl
image-is x n (SPutLine ps s) = refl
image-is x n (SNewLine s) = refl
image-is x n (SGet y s) = refl
image-is x n (SIf y o s) = refl
image-is x n (SCase e y o s) = refl
image-is x n (SBlock b s) = refl
image-is x n (SLoop w c l s) = refl

rewriter-is : (x : AbortTeller) → walk_of (rule_of x) ≡ abort_rewriter x
rewriter-is x = λ i. record {
  entered_stmt = with_place;
  entered_alternative = λ n y. n;
  lead = λ n y. no_stmt;
  left_alternative = λ n y. y;
  replaced_stmt = λ n before y. in_front before (image-is x (n + 1) y i);
}

-- ---- bodies

pub main-put :
    (x : AbortTeller) (old new : PBody) (done : Result (Unit {0}) Memory) →
    OnOk done (new ≡ inside_body (walk_of (rule_of x)) old 0) →
    OnOk done (new ≡ main_body x old)
main-put x old new (Err e) put = tt
main-put x old new (Ok u) put = put ∙ ap (λ w. inside_body w old 0) (rewriter-is x)

pub task-put :
    (x : AbortTeller) (s : Span) (old mid new : PBody) (done : Result (Unit {0}) Memory) →
    mid ≡ inside_body (walk_of (rule_of x)) old 0 →
    OnOk done (new ≡ telling_at_end x.teller s mid) →
    OnOk done (new ≡ task_body x s old)
task-put x s old mid new (Err e) put told = tt
task-put x s old mid new (Ok u) put told = told ∙ ap (telling_at_end x.teller s) (put ∙ ap (λ w. inside_body w old 0) (rewriter-is x))

-- how many places a body has is what the rewriter that counts has come by
pub counted : (old : PBody) (n : ℕ) → n ≡ after_body (walk_of counting_rule) old 0 → n ≡ places_in old
counted old n is = is
