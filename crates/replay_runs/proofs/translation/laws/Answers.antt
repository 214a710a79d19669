use Rattle.replay_runs.proofs.translation.Carried.{replay_translates, replay_is_closed, replay_steps, replay_raises, replay_keeps_permit, replay_starts}
use Rattle.replay_runs.proofs.translation.Instance.{met_by_each}
use Rattle.replay_runs.proofs.translation.laws.Goals as goal

pub returns : goal.returns
returns c = record { translates = replay_translates; closed = replay_is_closed; steps = replay_steps; raises = replay_raises; permit = replay_keeps_permit; starts = replay_starts; met = met_by_each }
