use Rattle.std.proofs.Common.{sym, ◌∙◌}
use Rattle.ada_tree.specs.PlainStmt.{plain_call}
use Rattle.normal_walk.proofs.variables.Behind.{select_added}
use Rattle.common_lemmas.proofs.Results.{on_ok}
use Rattle.normal_walk.proofs.variables.calls.add_select.Goals as goal

pub returns-then-moves : goal.returns-then-moves
returns-then-moves c =
    on_ok c.add_integer.result
    (select_added c.args.lookups.now c.args.span (plain_call c.args.call.now) c.args.track.now c.add_call.new.track c.add_integer.new.track (sym c.moves.ensures ∙ c.if-moves.true) c.in_ok-add_call.ensures)
    c.add_integer.ensures
