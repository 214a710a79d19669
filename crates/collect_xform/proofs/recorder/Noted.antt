-- A branch of the recorder that goes behind others.
use Rattle.std.proofs.Common.{◌≡◌, ℕ, List, [], ◌∷◌, ◌++◌, Vec, Result, Ok, Err, IfOk, OnOk, ap, ◌∙◌, append_assoc}
use Rattle.std.specs.declared.alloc.Global.{Global}
use Rattle.ada_tree.specs.declared.naming.Span.{Span}
use Rattle.ada_tree.specs.declared.shortage.Memory.{Memory}
use Rattle.ada_tree.specs.declared.statements.Stmt.{Stmt}
use Rattle.ada_tree.specs.PlainStmt.{PStmts, PCaseArm, seen}
use Rattle.ada_stmt_copy.specs.expressions.Parts.{OkWith}
use Rattle.collect_xform.specs.recorder.Branches.{arm_at}

pub arm-put :
    (old new : List PCaseArm) (s : Span) (k : ℕ) (stmts : PStmts) (done : Result (Unit {0}) Memory) (r : Result (Vec Stmt Global) Memory) →
    OnOk done (OkWith r (λ m. new ≡ old ++ arm_at s k (seen m.items) ∷ [])) →
    IfOk r (λ m. seen m.items ≡ stmts) →
    OnOk done (new ≡ old ++ arm_at s k stmts ∷ [])
arm-put old new s k stmts (Err e) r put made = tt
arm-put old new s k stmts (Ok u) (Err e) put made = absurd put
arm-put old new s k stmts (Ok u) (Ok m) put made = put ∙ ap (λ l. old ++ arm_at s k l ∷ []) made

-- one more behind those
pub arms-more :
    (old mid new xs : List PCaseArm) (x : PCaseArm) (done : Result (Unit {0}) Memory) →
    mid ≡ old ++ xs →
    OnOk done (new ≡ mid ++ x ∷ []) →
    OnOk done (new ≡ old ++ (xs ++ x ∷ []))
arms-more old mid new xs x (Err e) are put = tt
arms-more old mid new xs x (Ok u) are put = put ∙ ap (λ l. l ++ x ∷ []) are ∙ append_assoc old xs (x ∷ [])
