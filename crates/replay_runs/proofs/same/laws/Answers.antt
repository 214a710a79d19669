use Rattle.replay_runs.proofs.same.Named.{met_by_placed, example_is_met}
use Rattle.replay_runs.proofs.same.Replaying.{same_run_alike, same_are_feasible, same_replays, read_text_replays}
use Rattle.replay_runs.proofs.same.laws.Goals as goal

pub returns : goal.returns
returns c = record {
  alike = same_run_alike;
  feasible = same_are_feasible;
  replays = same_replays;
  read_text = read_text_replays;
  met = met_by_placed;
  example = example_is_met;
}
