use Rattle.replay_runs.proofs.starts.Objects.{units_start, look_ups_stay, permit_is_found}
use Rattle.replay_runs.proofs.starts.Tables.{integer_is_there}
use Rattle.replay_runs.proofs.starts.Programs.{texts_start}
use Rattle.replay_runs.proofs.starts.Formals.{formals_stay}
use Rattle.replay_runs.proofs.starts.Bodies.{legal_has_bodies, legal_runs}
use Rattle.replay_runs.proofs.starts.Legal.{legal_is_asked, legal_starts, legal_has_formals}
use Rattle.replay_runs.proofs.starts.Permits.{legal_finds_permits}
use Rattle.replay_runs.proofs.starts.laws.Goals as goal

pub returns : goal.returns
returns c = record {
  integer = integer_is_there;
  units = units_start;
  names = look_ups_stay;
  permit = permit_is_found;
  texts = texts_start;
  formals = formals_stay;
  legal_bodies = legal_has_bodies;
  legal_units = legal_runs;
  legal_texts = legal_starts;
  legal_permits = legal_finds_permits;
  legal_formals = legal_has_formals;
  met = legal_is_asked;
}
