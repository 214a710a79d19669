use Rattle.ada_tree.specs.PlainStmt.{plain_formal}
use Rattle.ada_printer.proofs.Rowed.{formals_none, formals_some}
use Rattle.ada_printer.proofs.calls.put_formals.Goals as goal

pub returns-in-empty : goal.returns-in-empty
returns-in-empty g c = formals_none _ plain_formal c.args.names.now c.args.formals.now _ c.in-empty.len_below

pub returns-in-len1-up : goal.returns-in-len1-up
returns-in-len1-up g c =
    formals_some _ plain_formal c.args.names.now c.args.formals.now _ _ _ _ c.in-len1-up.len_at_least c.put.ensures c.put_separated_formals.ensures c.put-in-len1-up.ensures
