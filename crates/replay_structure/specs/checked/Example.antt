-- A normal form as the law of the rules 13 to 23 asks, with the operations of a whole run.
--
-- procedure P is task T is entry E (X : in INTEGER); end T; task body T is begin accept E (X : in INTEGER); end T; begin DED_V1 := 1; T.E (DED_V1); end P;
use Rattle.std.specs.Prelude.{List, [], ◌∷◌, pos}
use Rattle.event_machine.specs.declared.Event.{Event}
use Rattle.event_machine.specs.declared.Event.TheVariants.{R, E, X, Z}
use Rattle.task_model.specs.Setting.{Setting}
use Rattle.control_script.specs.declared.Op.{Op}
use Rattle.normal_laws.specs.structure.placed.Example.{passing_set}
use Rattle.replay_model.specs.ReplayTree.{normal_setting, script_of}

-- the normal form of a program with a task, of which main calls an entry
abbrev pub example_set : Setting
example_set = normal_setting passing_set.program passing_set.types passing_set.numbers

-- main calls the entry, the task ends the rendezvous and itself, and then the program ends
abbrev pub example_events : List Event
example_events = R 0 1 (pos 0) ∷ E 1 ∷ X 1 ∷ Z ∷ []

abbrev pub example_ops : List Op
example_ops = script_of passing_set.numbers example_events
