use Rattle.std.proofs.Common.{rules}
use Rattle.ada_tree.proofs.Rows.{rows}
use Rattle.ada_tree.specs.declared.statements.Accept.{Accept, out-Accept, roll-Accept}
use Rattle.ada_tree.specs.PlainStmt.{accepting, plain_accept, seen_maybe}
use Rattle.normal_model.specs.Waits.{head_of}
use Rattle.collect_abort.specs.Looked.{told_of}
use Rattle.collect_abort.proofs.Waiting.{told-same}
use Rattle.collect_abort.proofs.services.accept_told.Goals as goal

pub returns : goal.returns
returns c =
    let all = c.args.accept.now in
    let rest : Accept = roll-Accept record { entry = (out-Accept all).entry; index = (out-Accept all).index; formals = (out-Accept all).formals; stmts = c.take_maybe-stmts.new.place; span = (out-Accept all).span } in
    told-same c.accept_left.result (told_of c.args.x.now) c.args.s c.args.place (accepting (head_of (plain_accept rest)) (seen_maybe c.take_maybe-stmts.result)) (plain_accept all)
    (search (rules, rows))
    c.accept_left.ensures
