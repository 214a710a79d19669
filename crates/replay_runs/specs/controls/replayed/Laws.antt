-- The laws of replays as they are told of programs alone (this project's rule).
use Rattle.std.specs.Prelude.{◌≡◌, ℤ, List, length, Option}
use Rattle.event_machine.specs.declared.Event.{Event}
use Rattle.ada_tree.specs.PlainProgram.{PProgram}
use Rattle.ada_static_rules.specs.Refusals.{types_in}
use Rattle.syn_event.specs.Origin.{back_of}
use Rattle.task_model.specs.Tasks.{Task}
use Rattle.run_laws.specs.imitation.Shown.{Opened, ShowSame}
use Rattle.normal_laws.specs.structure.units.Laws.{numbers_made}
use Rattle.normal_laws.specs.runs.runs.Laws.{opened}
use Rattle.normal_laws.specs.runs.forms.Normalisable.{numbers_of, made_for}
use Rattle.normal_laws.specs.structure.placed.Example.{passing}
use Rattle.normal_laws.specs.existence.Laws.{IsLegalOriginal}
use Rattle.replay_structure.specs.checked.Example.{example_events}
use Rattle.replay_structure.specs.legal.Laws.{text_for}
use Rattle.replay_structure.specs.legal.known.Laws.{AreKnown}
use Rattle.replay_runs.specs.controls.replayed.Replaying.{Replays, starting, AgreeBelow, ReplaysProgram}

-- What replays a sequence of a program replays it of each program of as many tasks that shows the same.
abbrev pub ReplaysCarryOver : Type 0
ReplaysCarryOver =
    (s : List Event) (one two other : Opened Task) (meant : Event → Option Event) → one.program.size ≡ two.program.size → ShowSame one two → Replays s two other meant → Replays s one other meant

-- Of the inputs of a program those of its tasks alone count.
abbrev pub InputsBelowCount : Type 0
InputsBelowCount = (p : PProgram) (inputs others : List (List ℤ)) → AgreeBelow (length (numbers_of p).tasks) inputs others → starting p inputs ≡ starting p others

-- the normal form of a program as it starts with these inputs
abbrev pub starting_form : PProgram → List (List ℤ) → Opened Task
starting_form p inputs = opened (record { program = made_for p; types = types_in (made_for p); inputs = inputs }) (numbers_made p (types_in p) (numbers_of p))

-- What replays a sequence of the normal form of a legal program, whatever the inputs, replays it of the program.
abbrev pub LegalFormsCarryOver : Type 0
LegalFormsCarryOver =
    (p q : PProgram) (s : List Event) → IsLegalOriginal p → ((inputs : List (List ℤ)) → Replays s (starting_form p inputs) (starting q inputs) (back_of (numbers_of q))) → ReplaysProgram p q s

-- So the replay text of a legal program and of events that a file of it can hold replays them.
abbrev pub LegalTextsReplay : Type 0
LegalTextsReplay = (p : PProgram) (s : List Event) → IsLegalOriginal p → AreKnown p s → ReplaysProgram p (text_for p s) s

-- Nothing of this is empty: the replay text of a program with a task and a call replays a whole run of it.
abbrev pub TextIsMet : Type 0
TextIsMet = ReplaysProgram passing (text_for passing example_events) example_events
