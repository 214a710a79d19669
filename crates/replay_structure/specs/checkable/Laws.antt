-- The laws: the normal form of a program is as its replay text asks, so the replay text meets the rules 13 to 23.
use Rattle.std.specs.Prelude.{List}
use Rattle.event_machine.specs.declared.Event.{Event}
use Rattle.ada_tree.specs.PlainProgram.{PProgram}
use Rattle.ada_static_rules.specs.Refusals.{types_in}
use Rattle.syn_event.specs.declared.numbering.Mode.TheVariants.{Any}
use Rattle.syn_event.specs.AllNumbers.{all_numbers}
use Rattle.syn_event.specs.CheckRefusals.{MeetsCheckRules}
use Rattle.normal_laws.specs.structure.placed.Example.{passing}
use Rattle.replay_model.specs.ReplayTree.{replay_tree, script_of}
use Rattle.replay_structure.specs.checked.Checkable.{IsCheckable}
use Rattle.replay_structure.specs.checked.Example.{example_events}
use Rattle.replay_structure.specs.checkable.Prepared.{form_for, IsPrepared}

-- The normal form of a program that is prepared is as its replay text asks, with the operations of the events' script.
abbrev pub NormalIsCheckable : Type 0
NormalIsCheckable = (p : PProgram) (events : List Event) → IsPrepared p events → IsCheckable (form_for p) (script_of (all_numbers (types_in p) p) events)

-- So the replay text of such a program and such events meets the rules 13 to 23 as a rewritten text, where the normal form does.
abbrev pub ReplayTextMeets : Type 0
ReplayTextMeets =
    (p : PProgram) (events : List Event) → IsPrepared p events → MeetsCheckRules (form_for p).program Any → MeetsCheckRules (replay_tree p (types_in p) (all_numbers (types_in p) p) events) Any

-- A program is prepared, with the events of a whole run, and its normal form meets the rules.
abbrev pub IsMet : Type 0
IsMet = IsPrepared passing example_events × MeetsCheckRules (form_for passing).program Any
