-- The rewriter in code is that of the definitions.
use Rattle.std.proofs.Common.{◌≡◌, Vec, Result, Ok, Err, IfOk, OnOk, refl, ap, ◌∙◌}
use Rattle.std.specs.declared.alloc.Global.{Global}
use Rattle.ada_tree.specs.declared.naming.Span.{Span}
use Rattle.ada_tree.specs.declared.shortage.Memory.{Memory}
use Rattle.ada_tree.specs.declared.statements.Stmt.{Stmt}
use Rattle.ada_tree.specs.PlainStmt.{PStmt, SNull, SAssign, SDelay, SExit, SRaise, SAbort, SCall, SAccept, SWait, SConditional, STimed, SPut, SPutLine, SNewLine, SGet, SIf, SCase, SBlock, SLoop, PStmts, no_stmt, PBody, seen}
use Rattle.ada_stmt_copy.specs.expressions.Parts.{OkWith}
use Rattle.task_model.specs.Frames.{in_front}
use Rattle.normal_model.specs.Walk.{inside_body}
use Rattle.tree_rewriting.specs.walking.Rules.{walk_of}
use Rattle.collect_model.specs.Teller.{Teller}
use Rattle.collect_model.specs.CollectStmts.{collect_image, collect_rewriter, main_body, task_body, telling_at_end}
use Rattle.collect_statements.specs.Rules.{call_image, choice_image, delay_image, image, rule_of}

image-is : (x : Teller) (y : PStmt) → image x y ≡ collect_image x y
unfolding call_image choice_image delay_image
image-is x (SCall c s) = refl
image-is x (SConditional c behind otherwise s) = refl
image-is x (STimed c behind duration after s) = refl
image-is x (SAccept a s) = refl
image-is x (SWait alts otherwise s) = refl
image-is x (SNull s) = refl
image-is x (SAssign y e s) = refl
image-is x (SDelay d s) = refl
image-is x (SExit n e s) = refl
image-is x (SRaise n s) = refl
image-is x (SAbort cs s) = refl
image-is x (SPut ps s) = refl
image-is x (SPutLine ps s) = refl
image-is x (SNewLine s) = refl
image-is x (SGet y s) = refl
image-is x (SIf y o s) = refl
image-is x (SCase e y o s) = refl
image-is x (SBlock b s) = refl
image-is x (SLoop n c l s) = refl

rewriter-is : (x : Teller) → walk_of (rule_of x) ≡ collect_rewriter x
rewriter-is x = λ i. record {
  entered_stmt = λ n y. n;
  entered_alternative = λ n y. n;
  lead = λ n y. no_stmt;
  left_alternative = λ n y. y;
  replaced_stmt = λ n before y. in_front before (image-is x y i);
}

-- ---- bodies

pub main-put :
    (x : Teller) (old new : PBody) (done : Result (Unit {0}) Memory) →
    OnOk done (new ≡ inside_body (walk_of (rule_of x)) old 0) →
    OnOk done (new ≡ main_body x old)
main-put x old new (Err e) put = tt
main-put x old new (Ok u) put = put ∙ ap (λ w. inside_body w old 0) (rewriter-is x)

pub task-put :
    (x : Teller) (s : Span) (old mid new : PBody) (done : Result (Unit {0}) Memory) →
    mid ≡ inside_body (walk_of (rule_of x)) old 0 →
    OnOk done (new ≡ telling_at_end x s mid) →
    OnOk done (new ≡ task_body x s old)
task-put x s old mid new (Err e) put told = tt
task-put x s old mid new (Ok u) put told = told ∙ ap (telling_at_end x s) (put ∙ ap (λ w. inside_body w old 0) (rewriter-is x))

-- ---- rows

-- rows that go behind others, where what they are is known
pub row-put :
    (l old new : PStmts) (r : Result (Unit {0}) Memory) (more : Result (Vec Stmt Global) Memory) →
    OnOk r (OkWith more (λ m. new ≡ in_front old (seen m.items))) →
    IfOk more (λ m. seen m.items ≡ l) →
    OnOk r (new ≡ in_front old l)
row-put l old new (Err e) more put made = tt
row-put l old new (Ok u) (Err e) put made = absurd put
row-put l old new (Ok u) (Ok m) put made = put ∙ ap (in_front old) made
