use Rattle.std.proofs.Common.{ap, sym}
use Rattle.ada_tree.specs.PlainStmt.{stmt_at}
use Rattle.normal_model.specs.Variables.{statement_variables}
use Rattle.normal_walk.specs.variables.Track.{variables_of}
use Rattle.normal_walk.proofs.variables.Behind.{enters}
use Rattle.common_lemmas.proofs.Results.{on_ok}
use Rattle.normal_walk.proofs.variables.entering.enter_statement.Goals as goal

pub returns-in-Conditional : goal.returns-in-Conditional
returns-in-Conditional c =
    on_ok c.add_select.result (λ h. enters (record { setting = c.args.lookups.now; task = c.args.task }) c.args.stmt.now.span _ c.args.track.now c.add_select.new.track _ h (ap (λ k. statement_variables (record { setting = c.args.lookups.now; task = c.args.task }) (variables_of c.args.track.now) (stmt_at k c.args.stmt.now.span)) (sym c.in-Conditional.is))) c.add_select.ensures

pub returns-in-Timed : goal.returns-in-Timed
returns-in-Timed c =
    on_ok c.add_select-in-Timed.result (λ h. enters (record { setting = c.args.lookups.now; task = c.args.task }) c.args.stmt.now.span _ c.args.track.now c.add_select-in-Timed.new.track _ h (ap (λ k. statement_variables (record { setting = c.args.lookups.now; task = c.args.task }) (variables_of c.args.track.now) (stmt_at k c.args.stmt.now.span)) (sym c.in-Timed.is))) c.add_select-in-Timed.ensures
