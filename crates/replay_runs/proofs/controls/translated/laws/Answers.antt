use Rattle.replay_runs.proofs.controls.translated.Tables.{legal_types_agree}
use Rattle.replay_runs.proofs.controls.translated.Bodies.{legal_names_are_old, legal_exits_leave_at_start}
use Rattle.replay_runs.proofs.controls.translated.Objects.{permit_is_added, legal_starts_with_permit}
use Rattle.replay_runs.proofs.controls.translated.Starting.{legal_starts_alike, legal_steps_alike}
use Rattle.replay_runs.proofs.controls.translated.laws.Goals as goal

pub returns : goal.returns
returns c = record {
  types = legal_types_agree;
  names = legal_names_are_old;
  added = permit_is_added;
  objects = legal_starts_with_permit;
  starts = legal_starts_alike;
  exits = legal_exits_leave_at_start;
  steps = legal_steps_alike;
}
