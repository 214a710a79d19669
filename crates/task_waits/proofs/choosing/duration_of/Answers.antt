use Rattle.std.proofs.Common.{◌≡◌, ◌∙◌, ap, sym, map, Ok, arith}
use Rattle.ada_tree.specs.PlainStmt.{PAltKind, PStmts, AAccept, plain_accept, plain_alt_kind, plain_stmt, stmts_of}
use Rattle.ada_tree.proofs.Rows.{rows}
use Rattle.ada_value.specs.Values.{and_then}
use Rattle.task_model.specs.Waits.{kind_opened}
use Rattle.task_waits.specs.Standing.{task_here}
use Rattle.task_waits.specs.inner.Choosing.{duration_of}
use Rattle.task_waits.proofs.Offering.{accept_lasts, accept_stops}
use Rattle.task_waits.proofs.choosing.duration_of.Goals as goal

pub returns-in-Ok : goal.returns-in-Ok
returns-in-Ok c = λ k.
    let t = task_here c.args.here.now in
    let a = plain_accept c.in-Accept.accept in
    let l : PStmts = stmts_of (map plain_stmt c.in-Accept.stmts.items) in
    let shape : plain_alt_kind c.args.kind.now ≡ AAccept a l = grind (arith, rows) in
    accept_lasts t a l c.in-Ok.field-0 c.in-Ok.ensures ∙ ap (λ (w : PAltKind). and_then (kind_opened t w k) (λ o. Ok (duration_of o))) (sym shape)

pub returns-in-Err : goal.returns-in-Err
returns-in-Err c = λ k.
    let t = task_here c.args.here.now in
    let a = plain_accept c.in-Accept.accept in
    let l : PStmts = stmts_of (map plain_stmt c.in-Accept.stmts.items) in
    let shape : plain_alt_kind c.args.kind.now ≡ AAccept a l = grind (arith, rows) in
    accept_stops t a l c.in-Err.raised c.in-Err.ensures ∙ ap (λ (w : PAltKind). and_then (kind_opened t w k) (λ o. Ok (duration_of o))) (sym shape)
