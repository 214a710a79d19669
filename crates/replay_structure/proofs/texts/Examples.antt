-- A program with an array of tasks meets what is asked, and its replay text has the numbers of the definition.
use Rattle.std.specs.Prelude.{◌≡◌, map, drop, List, [], ◌∷◌, None, refl}
use Rattle.std.specs.Fmt.{digits}
use Rattle.event_machine.specs.declared.Event.{Event}
use Rattle.ada_static_rules.specs.Refusals.{types_in}
use Rattle.syn_event.specs.declared.numbering.EntryInfo.{EntryInfo}
use Rattle.syn_event.specs.Numbering.{Numbering}
use Rattle.syn_event.specs.AllNumbers.{all_numbers}
use Rattle.replay_model.specs.ReplayTree.{replay_tree}
use Rattle.replay_model.specs.ReplayNumbers.{replay_numbers}
use Rattle.normal_laws.proofs.structure.types.Examples.{original, ordered, own}
use Rattle.normal_laws.proofs.structure.numbers.Examples.{none_is_ded}
use Rattle.replay_structure.proofs.texts.Numbered.{replay_numbered}

-- what the definition says of it: main, the two members, the controller and the idle task
abbrev numbers : Numbering
numbers = replay_numbers original (types_in original) (all_numbers (types_in original) original)

numbered : (events : List Event) →
    all_numbers (types_in (replay_tree original (types_in original) (all_numbers (types_in original) original) events)) (replay_tree original (types_in original) (all_numbers (types_in original) original) events) ≡ numbers
numbered events = replay_numbered original events ordered refl own none_is_ded

-- the entry of each member, its double and two more; then those of the controller and of the idle task
owners : map (λ (x : EntryInfo). x.owner) numbers.entries ≡ 1 ∷ 1 ∷ 1 ∷ 1 ∷ 2 ∷ 2 ∷ 2 ∷ 2 ∷ 3 ∷ 3 ∷ 3 ∷ 4 ∷ 4 ∷ []
unfolding digits
owners = refl

-- those of the controller and of the idle task stand for none; that each double stands for its entry is a law of `spots`
added : map (λ (x : EntryInfo). x.stands_for) (drop 8 numbers.entries) ≡ None ∷ None ∷ None ∷ None ∷ None ∷ []
unfolding digits
added = refl
