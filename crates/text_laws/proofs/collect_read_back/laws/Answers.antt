use Rattle.text_laws.proofs.collect_read_back.Whole.{collect_is_placed, collect_is_read_back, is_met}
use Rattle.text_laws.proofs.collect_read_back.laws.Goals as goal

pub returns : goal.returns
returns c = record { placed = collect_is_placed; read_back = collect_is_read_back; met = is_met }
