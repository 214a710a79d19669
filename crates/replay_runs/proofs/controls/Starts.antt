-- The controller and the idle task run their bodies, so they start with the objects and the statements of these.
use Rattle.std.proofs.Common.{suc, [], ap}
use Rattle.std.specs.Prelude.{slice_index_or}
use Rattle.ada_static_rules.specs.Refusals.{types_in}
use Rattle.syn_event.specs.AllNumbers.{all_numbers}
use Rattle.task_model.specs.Starting.{Unit, started_in}
use Rattle.replay_model.specs.ReplayTree.{script_of}
use Rattle.replay_runs.proofs.starts.Bodies.{legal_runs}
use Rattle.replay_runs.specs.starts.Formals.{text_setting}
use Rattle.replay_runs.specs.controls.Laws.{control_number, LegalStartsThere}

pub legal_starts_there : LegalStartsThere
legal_starts_there p events inputs h =
    let runs = legal_runs p (script_of (all_numbers (types_in p) p) events) h in
    record {
      control = ap (λ (u : Unit). started_in (text_setting p events) (control_number p) u (slice_index_or inputs (control_number p) [])) runs.added.control;
      idle = ap (λ (u : Unit). started_in (text_setting p events) (suc (control_number p)) u (slice_index_or inputs (suc (control_number p)) [])) runs.added.idle;
    }
