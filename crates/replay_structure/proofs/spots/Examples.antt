-- The numbers of the entries of a replay text, by computation: two tasks of a type with one entry, in an array.
use Rattle.std.specs.Prelude.{◌≡◌, [], ◌∷◌, refl}
use Rattle.std.specs.Fmt.{digits}
use Rattle.std.proofs.Common.{arith}
use Rattle.ada_static_rules.specs.Refusals.{types_in}
use Rattle.syn_event.specs.Numbering.{owner_of}
use Rattle.syn_event.specs.AllNumbers.{all_numbers}
use Rattle.task_model.specs.Setting.{Setting}
use Rattle.replay_model.specs.ReplayTree.{last_task, normal_setting}
use Rattle.replay_model.specs.ReplayNumbers.{numbers_replayed}
use Rattle.run_laws.specs.replaying.Copies.{Spots, HasOwners, IsNumbered}
use Rattle.run_laws.proofs.replaying.Twins.{numbering, numbering_numbers}
use Rattle.normal_laws.proofs.structure.types.Examples.{original, ordered}
use Rattle.replay_structure.specs.spots.Laws.{AreOriginal, IsMet}
use Rattle.replay_structure.specs.spots.Places.{counts, text_spots}
use Rattle.replay_structure.proofs.spots.Sorted.{spots_are_numbered}
use Rattle.replay_structure.proofs.spots.Placed.{spots_have_owners}
use Rattle.replay_structure.proofs.spots.Ordered.{normal_is_in_order}

abbrev form : Setting
form = normal_setting original (types_in original) (all_numbers (types_in original) original)

abbrev spots : Spots
spots = text_spots numbering form

-- the two entries, their doubles, and the two more of each task; then those of the controller and of the idle task
numbers :
    spots.original 1 ∷ spots.shadow 1 ∷ spots.never 1 ∷ spots.join 1 ∷ spots.original 2 ∷ spots.shadow 2 ∷ spots.never 2 ∷ spots.join 2
    ∷ spots.go ∷ spots.done ∷ spots.hold ∷ spots.stop ∷ spots.rest ∷ []
    ≡ 1 ∷ 2 ∷ 3 ∷ 4 ∷ 5 ∷ 6 ∷ 7 ∷ 8 ∷ 9 ∷ 10 ∷ 11 ∷ 12 ∷ 13 ∷ []
unfolding digits
numbers = refl

-- what is asked is met
numbered : IsNumbered spots
numbered = spots_are_numbered numbering numbering_numbers (counts form.numbers (last_task form.numbers) 1)

owners : HasOwners (owner_of form.numbers) 3 spots (owner_of (numbers_replayed form))
unfolding digits
owners = spots_have_owners numbering form (normal_is_in_order original ordered)

-- its entries are such that their doubles stand for them
are : AreOriginal form
unfolding digits
are = record { original = (refl, (refl, tt)); within = (omega arith, (omega arith, tt)); doubles = (refl, (refl, tt)) }

pub is_met : IsMet
unfolding digits
is_met = (numbering, original, _, record { numbered = numbering_numbers; order = normal_is_in_order original ordered; original = are; there = refl; first = refl }, refl)
