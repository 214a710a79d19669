use Rattle.replay_runs.proofs.controls.permits.Tests.{both_say, tests_of_permits}
use Rattle.replay_runs.proofs.controls.permits.Branches.{permits_decide}
use Rattle.replay_runs.proofs.controls.permits.laws.Goals as goal

pub returns : goal.returns
returns c = record { tests = tests_of_permits; both = both_say; decide = permits_decide }
