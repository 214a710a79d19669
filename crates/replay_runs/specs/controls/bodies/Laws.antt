-- Each replay text is a program as the law of the controller's body asks (9.5; this project's rule).
use Rattle.std.specs.Prelude.{ℕ, ℤ, List, []}
use Rattle.event_machine.specs.declared.Event.{Event}
use Rattle.ada_tree.specs.PlainProgram.{PProgram}
use Rattle.ada_static_rules.specs.Refusals.{types_in}
use Rattle.task_model.specs.Starting.{unit_of}
use Rattle.task_model.specs.Machine.{ProgramWithInputs}
use Rattle.task_laws.specs.invariants.Worlds.{IsWellMade}
use Rattle.task_laws.specs.statements.Each.{InBody}
use Rattle.normal_laws.specs.structure.placed.Example.{passing}
use Rattle.normal_laws.specs.runs.forms.Normalisable.{numbers_of}
use Rattle.normal_laws.specs.existence.Laws.{IsLegalOriginal}
use Rattle.run_laws.specs.replaying.Copies.{Spots, IsNumbered}
use Rattle.replay_model.specs.Names.{replay_names}
use Rattle.replay_model.specs.Controlling.{control_ids}
use Rattle.replay_model.specs.tables.Tables.{control_objects}
use Rattle.replay_model.specs.tables.ControlBodies.{control_block}
use Rattle.replay_model.specs.ReplayTree.{script_of}
use Rattle.replay_model.specs.ReplayNumbers.{numbers_replayed}
use Rattle.table_law.specs.runs.Permits.{AcceptsNoJoin}
use Rattle.table_law.specs.runs.Bodies.{HasBody}
use Rattle.replay_structure.specs.checked.Example.{example_events}
use Rattle.replay_structure.specs.legal.known.Laws.{AreKnown}
use Rattle.replay_runs.specs.starts.Laws.{form_in, text_in}
use Rattle.replay_runs.specs.starts.Formals.{text_setting}
use Rattle.replay_runs.specs.controls.Laws.{control_number, controller, control_entries}

-- The accept statements of a replay text conform to their entries, and no formal of an entry has an empty subtype.
abbrev pub LegalIsWellMade : Type 0
LegalIsWellMade = (p : PProgram) (events : List Event) → IsLegalOriginal p → AreKnown p events → IsWellMade (text_setting p events)

-- No task of it accepts a DED_JOIN, where no two of `far` have one number.
abbrev pub LegalTasksJoinNobody : Type 0
LegalTasksJoinNobody =
    (far : Spots) → IsNumbered far → (p : PProgram) (events : List Event) (input : List ℤ) → IsLegalOriginal p → (t : ℕ) →
    InBody (AcceptsNoJoin (controller p events input) (control_entries far p) t) [] (unit_of (text_in p events) (numbers_replayed (form_in p)) t).body

-- the text with these inputs
abbrev pub text_with : PProgram → List Event → List (List ℤ) → ProgramWithInputs
text_with p events inputs = record { program = text_in p events; types = types_in (text_in p events); inputs = inputs }

-- So it is a program in which DED_CONTROL has the objects and the body of the script, as the law of that body asks.
abbrev pub LegalHasBody : Type 0
LegalHasBody =
    (far : Spots) → IsNumbered far → (p : PProgram) (events : List Event) (inputs : List (List ℤ)) → IsLegalOriginal p → AreKnown p events →
    HasBody (control_objects (control_ids (form_in p).program) (form_in p).program.name.span (script_of (numbers_of p) events))
    (control_block (control_ids (form_in p).program) (form_in p).numbers.tasks (form_in p).program.name.span (script_of (numbers_of p) events))
    (script_of (numbers_of p) events) (form_in p).numbers.tasks (form_in p).program.name.span (replay_names (form_in p).program)
    (text_with p events inputs) (numbers_replayed (form_in p)) (control_number p) (control_entries far p)

-- A legal program and a whole run of it are as these laws ask, and there are such numbers.
abbrev pub IsMet : Type 0
IsMet = IsLegalOriginal passing × AreKnown passing example_events × ((far : Spots) × IsNumbered far)
