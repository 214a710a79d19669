use Rattle.replay_runs.proofs.controls.replayed.Carried.{replays_carry_over}
use Rattle.replay_runs.proofs.controls.replayed.Inputs.{inputs_below_count}
use Rattle.replay_runs.proofs.controls.replayed.Programs.{legal_forms_carry_over}
use Rattle.replay_runs.proofs.controls.replayed.Whole.{legal_texts_replay, text_is_met}
use Rattle.replay_runs.proofs.controls.replayed.laws.Goals as goal

pub returns : goal.returns
returns c = record { carried = replays_carry_over; inputs = inputs_below_count; forms = legal_forms_carry_over; texts = legal_texts_replay; met = text_is_met }
