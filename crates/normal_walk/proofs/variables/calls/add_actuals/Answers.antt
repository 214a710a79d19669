use Rattle.syn_event.specs.Numbering.{entry_at}
use Rattle.task_model.specs.Setting.{formals_of_info}
use Rattle.normal_model.specs.Calls.{slots_of}
use Rattle.normal_walk.proofs.variables.Behind.{actuals_added}
use Rattle.common_lemmas.proofs.Results.{on_ok}
use Rattle.normal_walk.proofs.variables.calls.add_actuals.Goals as goal

pub returns : goal.returns
returns c =
    on_ok c.add_marks.result
    (actuals_added c.args.lookups.now c.args.span (slots_of (formals_of_info c.args.lookups.now (entry_at c.args.lookups.now.numbers c.args.entry))) c.args.actuals.now c.marks.result.now c.cut-marks.result.now c.args.track.now c.add_marks.new.track c.marks.ensures c.cut-marks.ensures)
    c.add_marks.ensures
