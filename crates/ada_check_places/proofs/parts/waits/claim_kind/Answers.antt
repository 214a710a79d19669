use Rattle.std.proofs.Common.{◌≡◌, sym, subst, map, option_map, IfOk, arith}
use Rattle.ada_tree.specs.declared.statements.Accept.{out-Accept}
use Rattle.ada_tree.specs.PlainExpr.{plain_expr}
use Rattle.ada_tree.specs.PlainStmt.{PHead, PMaybe, PStmts, AAccept, accepting, plain_alt_kind, plain_formal, plain_stmt, stmts_of, maybe_of}
use Rattle.ada_tree.proofs.Rows.{rows}
use Rattle.ada_check_places.specs.parts.inner.Claiming.{IsClaimed}
use Rattle.ada_check_places.proofs.parts.Claiming.{accepted_if}
use Rattle.ada_check_places.proofs.parts.waits.claim_kind.Goals as goal

pub returns-in-Accept : goal.returns-in-Accept
returns-in-Accept c = λ before kept.
    let a = out-Accept c.in-Accept.accept in
    let h : PHead = record { entry = a.entry; index = option_map plain_expr a.index; formals = map plain_formal a.formals.items; span = a.span } in
    let o : PMaybe = maybe_of (option_map (λ w. map plain_stmt w.items) a.stmts) in
    let l : PStmts = stmts_of (map plain_stmt c.in-Accept.stmts.items) in
    let shape : plain_alt_kind c.args.kind.now ≡ AAccept (accepting h o) l = grind (arith, rows) in
    subst (λ x. IfOk c.claim_accept.result (IsClaimed c.args.around.now.types before x c.claim_accept.new.claims)) (sym shape)
    (accepted_if c.args.around.now.types before h o l c.claim_accept.new.claims c.claim_accept.result (c.claim_accept.ensures before (map plain_formal a.formals.items) kept))
