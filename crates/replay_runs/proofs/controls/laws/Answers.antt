use Rattle.replay_runs.proofs.controls.Starts.{legal_starts_there}
use Rattle.replay_runs.proofs.controls.Offers.{idle_waits}
use Rattle.replay_runs.proofs.controls.Controllers.{legal_has_controller, legal_makes_script}
use Rattle.replay_runs.proofs.controls.Imitating.{legal_imitates_controller, legal_starts_with_script}
use Rattle.replay_runs.proofs.controls.Asking.{legal_asks_controller}
use Rattle.replay_runs.proofs.controls.laws.Goals as goal

pub returns : goal.returns
returns c = record {
  starts = legal_starts_there;
  idle = idle_waits;
  controller = legal_has_controller;
  makes = legal_makes_script;
  imitates = legal_imitates_controller;
  script = legal_starts_with_script;
  asks = legal_asks_controller;
}
