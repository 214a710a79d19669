use Rattle.replay_declarations.proofs.ids.Told.{voice-is}
use Rattle.replay_declarations.proofs.ids.Composed.{ids_agree}
use Rattle.replay_declarations.proofs.ids.laws.Goals as goal

pub returns : goal.returns
returns c = record { told = voice-is; agree = ids_agree }
