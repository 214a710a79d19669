use Rattle.replay_structure.proofs.legal.placed.Carried.{all_legal_placed, is_met}
use Rattle.replay_structure.proofs.legal.placed.laws.Goals as goal

pub returns : goal.returns
returns c = record { placed = all_legal_placed; met = is_met }
