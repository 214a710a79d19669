-- The law that the replay text of each legal program and of events that a file can hold for it is legal (this project's rule).
use Rattle.std.specs.Prelude.{List, []}
use Rattle.event_machine.specs.declared.Event.{Event}
use Rattle.ada_tree.specs.PlainProgram.{PProgram}
use Rattle.ada_static_rules.specs.Refusals.{types_in}
use Rattle.syn_event.specs.declared.numbering.Mode.TheVariants.{Any}
use Rattle.syn_event.specs.Legal.{Legal}
use Rattle.syn_event.specs.DeclaredTasks.{decl_list}
use Rattle.normal_model.specs.NormalTree.{first_decls, main_variables}
use Rattle.normal_laws.specs.structure.placed.Example.{passing}
use Rattle.normal_laws.specs.runs.forms.Normalisable.{numbers_of, setting_for, made_for}
use Rattle.normal_laws.specs.existence.Laws.{IsLegalOriginal}
use Rattle.normal_laws.specs.legality.Laws.{MeetsButOnce}
use Rattle.replay_model.specs.Promised.{IsReplayText}
use Rattle.replay_model.specs.ReplayNumbers.{replay_numbers}
use Rattle.replay_model.specs.ReplayTree.{script_of}
use Rattle.replay_structure.specs.checked.Example.{example_events}
use Rattle.replay_structure.specs.checkable.Prepared.{form_for}
use Rattle.replay_structure.specs.scopes.Names.{old_name}
use Rattle.replay_structure.specs.scopes.Form.{IsForm}
use Rattle.replay_structure.specs.legal.Laws.{text_for}
use Rattle.replay_structure.specs.legal.names.form_units.Inner.{inner_name}
use Rattle.replay_structure.specs.legal.known.Laws.{AreKnown}

-- The normal form of a legal program, and the operations of a script of known events, are as the replay text asks.
abbrev pub LegalNormalIsForm : Type 0
LegalNormalIsForm =
    (p : PProgram) (events : List Event) → IsLegalOriginal p → AreKnown p events →
    IsForm (form_for p) (old_name (made_for p)) (inner_name p) (script_of (numbers_of p) events) (decl_list (first_decls [] p.decls)) (main_variables (setting_for p))

-- So each place of the replay text meets the first twelve rules but for rule Duplicate.
abbrev pub KnownReplayMeetsAtPlaces : Type 0
KnownReplayMeetsAtPlaces = (p : PProgram) (events : List Event) → IsLegalOriginal p → AreKnown p events → MeetsButOnce (text_for p events)

-- The replay text is legal as a text of any kind, with its own types and the numbers of the definition.
abbrev pub KnownReplayIsLegal : Type 0
KnownReplayIsLegal =
    (p : PProgram) (events : List Event) → IsLegalOriginal p → AreKnown p events → Legal (text_for p events) (types_in (text_for p events)) (replay_numbers p (types_in p) (numbers_of p)) Any

-- It is all that is promised of replay texts.
abbrev pub KnownReplayIsAsPromised : Type 0
KnownReplayIsAsPromised = (p : PProgram) (events : List Event) → IsLegalOriginal p → AreKnown p events → IsReplayText p (types_in p) (numbers_of p) events (text_for p events)

-- A program is legal and, with a whole run of it, as asked: its main procedure calls an entry of a task.
abbrev pub IsMet : Type 0
IsMet = IsLegalOriginal passing × AreKnown passing example_events
