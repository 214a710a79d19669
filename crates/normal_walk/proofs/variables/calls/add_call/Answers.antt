use Rattle.ada_tree.specs.PlainStmt.{plain_call}
use Rattle.normal_walk.proofs.variables.Behind.{call_added}
use Rattle.common_lemmas.proofs.Results.{on_ok}
use Rattle.normal_walk.proofs.variables.calls.add_call.Goals as goal

pub returns : goal.returns
returns c =
    on_ok c.add_lists.result
    (call_added c.args.lookups.now c.args.span (plain_call c.args.call.now) c.entry_called-entry.result c.args.track.now c.add_callee.new.track c.add_lists.new.track c.entry_called-entry.ensures c.in_ok-add_callee.ensures)
    c.add_lists.ensures
