-- Two programs with arrays of tasks meet what is asked, and the second of them is a legal one.
use Rattle.std.specs.Prelude.{List, drop, codes, refl}
use Rattle.std.specs.Fmt.{digits}
use Rattle.std.proofs.Common.{lit<}
use Rattle.event_machine.specs.declared.Event.{Event}
use Rattle.ada_tree.specs.NameList.{predefined, AreNames}
use Rattle.ada_static_rules.specs.Refusals.{types_in}
use Rattle.ada_tree.proofs.Interning.{AreNames-added, AreNames-predefined}
use Rattle.syn_event.specs.AllNumbers.{all_numbers}
use Rattle.normal_laws.specs.structure.types.Laws.{setting_of}
use Rattle.normal_laws.proofs.structure.types.Examples.{original, ordered, own}
use Rattle.normal_laws.proofs.structure.numbers.Examples.{none_is_ded}
use Rattle.normal_laws.specs.runs.forms.Choosing.{choosing}
use Rattle.normal_laws.proofs.existence.Instance.{choosing-is-legal}
use Rattle.run_laws.proofs.replaying.Twins.{numbering}
use Rattle.replay_structure.specs.bodies.Laws.{HasBodies}
use Rattle.replay_runs.specs.starts.Laws.{AddsOwnMarks, TextStarts}
use Rattle.replay_runs.specs.starts.Formals.{HaveFormals}
use Rattle.replay_runs.proofs.starts.Programs.{texts_start}
use Rattle.replay_runs.proofs.starts.Formals.{formals_stay}
use Rattle.replay_runs.proofs.starts.Legal.{legal_starts}
use Rattle.replay_runs.specs.starts.Legal.{FindPermits}
use Rattle.replay_runs.proofs.starts.Permits.{legal_finds_permits}

-- both members run the body of their type
has_bodies : HasBodies original (drop 1 (all_numbers (types_in original) original).tasks)
has_bodies = (refl, (refl, tt))

-- main gets a variable of INTEGER range 1 .. 2
adds : AddsOwnMarks (setting_of original (types_in original) (all_numbers (types_in original) original))
unfolding digits
adds = record { main = ((refl, (tt, (tt, tt), (tt, tt))), tt); bodies = (tt, (tt, (tt, (tt, (tt, tt))))) }

starts : (events : List Event) → TextStarts original events
starts events = texts_start original events ordered own none_is_ded has_bodies adds

-- ---- formals

-- no text has two ids
names : AreNames original.names
names =
    AreNames-added _ (codes "L")
    (AreNames-added _ (codes "V")
    (AreNames-added _ (codes "N")
    (AreNames-added _ (codes "A")
    (AreNames-added _ (codes "E")
    (AreNames-added _ (codes "W")
    (AreNames-added predefined (codes "P") AreNames-predefined refl (lit< tt))
    refl (lit< tt))
    refl (lit< tt))
    refl (lit< tt))
    refl (lit< tt))
    refl (lit< tt))
    refl (lit< tt)

formals : (events : List Event) → HaveFormals original events numbering
formals events = formals_stay original events numbering ordered own none_is_ded names

-- ---- a legal program

legal : (events : List Event) → TextStarts choosing events
legal events = legal_starts choosing events choosing-is-legal

permits : (events : List Event) → FindPermits choosing events
permits events = legal_finds_permits choosing events choosing-is-legal
