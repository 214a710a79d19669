use Rattle.replay_structure.proofs.spots.Sorted.{spots_are_numbered}
use Rattle.replay_structure.proofs.spots.Placed.{spots_are_there, spots_have_owners}
use Rattle.replay_structure.proofs.spots.Ordered.{normal_is_in_order}
use Rattle.replay_structure.proofs.spots.Looked.{entries_are_found, added_are_found}
use Rattle.replay_structure.proofs.spots.Standing.{doubles_stand}
use Rattle.replay_structure.proofs.spots.Examples.{is_met}
use Rattle.replay_structure.proofs.spots.laws.Goals as goal

pub returns : goal.returns
returns c = record { numbered = spots_are_numbered; owners = spots_have_owners; there = spots_are_there; order = normal_is_in_order; found = entries_are_found; added = added_are_found; doubles = doubles_stand; met = is_met }
