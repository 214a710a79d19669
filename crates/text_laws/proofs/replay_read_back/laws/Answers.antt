use Rattle.text_laws.proofs.replay_read_back.Whole.{replay_is_promised, replay_is_read_back}
use Rattle.text_laws.proofs.replay_read_back.Instance.{is_met}
use Rattle.text_laws.proofs.replay_read_back.laws.Goals as goal

pub returns : goal.returns
returns c = record { promised = replay_is_promised; read_back = replay_is_read_back; met = is_met }
