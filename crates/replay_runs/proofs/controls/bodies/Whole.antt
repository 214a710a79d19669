-- Each replay text has the body of its controller, as the law of that body asks.
use Rattle.std.proofs.Common.{◌≡◌, suc, [], length, slice_index_or, arith}
use Rattle.std.proofs.lemmas.List.{take_all}
use Rattle.ada_static_rules.specs.Refusals.{types_in}
use Rattle.syn_event.specs.AllNumbers.{all_numbers}
use Rattle.replay_model.specs.Names.{replay_names}
use Rattle.replay_model.specs.ReplayTree.{script_of}
use Rattle.replay_structure.proofs.legal.names.kept_names.Instance as example
use Rattle.replay_runs.specs.starts.Laws.{form_in}
use Rattle.replay_runs.proofs.starts.Bodies.{legal_runs}
use Rattle.replay_runs.specs.controls.Laws.{control_number}
use Rattle.replay_runs.specs.controls.bodies.Laws.{LegalHasBody, IsMet}
use Rattle.replay_runs.proofs.controls.Controllers.{legal_has_controller, legal_makes_script}
use Rattle.replay_runs.proofs.controls.meanings.Formed.{forms_are_known}
use Rattle.replay_runs.proofs.controls.replayed.Numbers.{text_numbers, text-tasks}
use Rattle.replay_runs.proofs.controls.bodies.Unjoined.{legal_tasks_join_nobody}
use Rattle.replay_runs.proofs.controls.bodies.Well.{legal_is_well_made}

pub legal_has_body : LegalHasBody
legal_has_body far many p events inputs h known =
    let input = slice_index_or inputs (control_number p) [] in
    let tasks : length (text_numbers p).tasks ≡ suc (suc (control_number p)) = text-tasks p in
    record {
      begins = take_all (length (replay_names (form_in p).program)) (replay_names (form_in p).program) (omega arith);
      number = omega (arith, tasks);
      unit = (legal_runs p (script_of (all_numbers (types_in p) p) events) h).added.control;
      is = legal_has_controller far p events input h;
      can = legal_makes_script p events input h known;
      well = legal_is_well_made p events h known;
      no_join = legal_tasks_join_nobody far many p events input h;
    }

pub is_met : IsMet
is_met = (example.is_met.0, example.is_met.1, (forms_are_known.0, forms_are_known.1))
