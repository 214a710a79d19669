-- Rows that go behind others.
use Rattle.std.proofs.Common.{◌≡◌, Result, Ok, Err, IfOk, OnOk, Vec, ap, ◌∙◌}
use Rattle.std.specs.declared.alloc.Global.{Global}
use Rattle.ada_tree.specs.declared.shortage.Memory.{Memory}
use Rattle.ada_tree.specs.declared.statements.Stmt.{Stmt}
use Rattle.ada_tree.specs.PlainStmt.{PStmts, seen}
use Rattle.ada_stmt_copy.specs.expressions.Parts.{OkWith}
use Rattle.task_model.specs.Frames.{in_front}

pub row-put :
    (l old new : PStmts) (r : Result (Unit {0}) Memory) (more : Result (Vec Stmt Global) Memory) →
    OnOk r (OkWith more (λ m. new ≡ in_front old (seen m.items))) →
    IfOk more (λ m. seen m.items ≡ l) →
    OnOk r (new ≡ in_front old l)
row-put l old new (Err e) more put made = tt
row-put l old new (Ok u) (Err e) put made = absurd put
row-put l old new (Ok u) (Ok m) put made = put ∙ ap (in_front old) made
