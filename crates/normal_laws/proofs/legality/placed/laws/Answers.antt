use Rattle.normal_laws.proofs.legality.placed.Placed.{legal_has_room, normal_is_placed}
use Rattle.normal_laws.proofs.legality.placed.Examples.{is_met}
use Rattle.normal_laws.proofs.legality.placed.laws.Goals as goal

pub returns : goal.returns
returns c = record { room = legal_has_room; placed = normal_is_placed; met = is_met }
