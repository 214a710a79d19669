-- The law that the replay texts of a legal program are legal as texts of any kind.
use Rattle.std.specs.Prelude.{◌≡◌, ◌≤◌, List, length}
use Rattle.std.specs.List.{AllByRecursion}
use Rattle.event_machine.specs.declared.Event.{Event}
use Rattle.ada_tree.specs.PlainProgram.{PProgram}
use Rattle.ada_tree.specs.Every.{EveryDecl}
use Rattle.ada_static_rules.specs.Refusals.{types_in, MeetsTypeRules}
use Rattle.syn_event.specs.declared.numbering.Mode.TheVariants.{Any}
use Rattle.syn_event.specs.AllNumbers.{all_numbers}
use Rattle.syn_event.specs.CheckRefusals.{MeetsCheckRules}
use Rattle.syn_event.specs.Legal.{Legal}
use Rattle.syn_event.specs.DeclaredTasks.{decl_list}
use Rattle.control_script.specs.declared.Op.{Op}
use Rattle.normal_laws.specs.structure.placed.Example.{passing}
use Rattle.normal_laws.specs.runs.forms.Normalisable.{numbers_of, made_for}
use Rattle.normal_laws.specs.existence.Laws.{IsLegalOriginal}
use Rattle.normal_laws.specs.legality.Laws.{MeetsButOnce}
use Rattle.replay_model.specs.Promised.{HasLiteral, IsReplayText}
use Rattle.replay_model.specs.ReplayNumbers.{replay_numbers}
use Rattle.replay_model.specs.ReplayTree.{script_of, replay_of, replay_tree}
use Rattle.replay_structure.specs.placed.Placeable.{HasSmallIndices}
use Rattle.replay_structure.specs.checked.Around.{kept_names}
use Rattle.replay_structure.specs.checked.Checkable.{IsCheckable}
use Rattle.replay_structure.specs.checked.Example.{example_events}
use Rattle.replay_structure.specs.checkable.Prepared.{form_for, IsPrepared}

-- the replay text of a program and a sequence
abbrev pub text_for : PProgram → List Event → PProgram
text_for p events = replay_tree p (types_in p) (numbers_of p) events

-- The replay text of a legal program has the numbers of the definition, whatever the sequence (this project's rule).
abbrev pub LegalReplayHasNumbers : Type 0
LegalReplayHasNumbers = (p : PProgram) (events : List Event) → IsLegalOriginal p → all_numbers (types_in (text_for p events)) (text_for p events) ≡ replay_numbers p (types_in p) (numbers_of p)

-- With any operations it meets the first twelve rules where its places meet all of them but rule Duplicate.
abbrev pub LegalReplayMeetsTypes : Type 0
LegalReplayMeetsTypes = (p : PProgram) (ops : List Op) → IsLegalOriginal p → MeetsButOnce (replay_of (form_for p) ops) → MeetsTypeRules (replay_of (form_for p) ops)

-- With any operations it meets the rules 13 to 23 where the normal form is as these rules ask of it.
abbrev pub LegalReplayMeetsChecks : Type 0
LegalReplayMeetsChecks = (p : PProgram) (ops : List Op) → IsLegalOriginal p → IsCheckable (form_for p) ops → MeetsCheckRules (replay_of (form_for p) ops) Any

-- What is left of what the rules 13 to 23 ask: the names in the declarations of the normal form are kept in the text, nothing is nested deeper than
-- 100 there, and there are at most 200,000 events.
pub record AreKept (p : PProgram) (events : List Event) : Type 0 where
  pub declared : AllByRecursion (EveryDecl (kept_names (made_for p))) (decl_list (made_for p).decls)
  pub few : length events ≤ 200000

-- A legal program with such events is prepared as `replay_structure: checkable` asks.
abbrev pub LegalIsPrepared : Type 0
LegalIsPrepared = (p : PProgram) (events : List Event) → IsLegalOriginal p → AreKept p events → IsPrepared p events

-- What is asked of a program and a sequence for the static rules: that, and that the places of the replay text meet the first twelve but for rule Duplicate.
pub record MeetsAtPlaces (p : PProgram) (events : List Event) : Type 0 where
  pub kept : AreKept p events
  pub places : MeetsButOnce (text_for p events)

-- So the replay text of a legal program is legal as a text of any kind.
abbrev pub ReplayIsLegal : Type 0
ReplayIsLegal =
    (p : PProgram) (events : List Event) → IsLegalOriginal p → MeetsAtPlaces p events →
    Legal (text_for p events) (types_in (text_for p events)) (replay_numbers p (types_in p) (numbers_of p)) Any

-- What is asked beside, so that it is well placed: a text can hold the numbers of the sequence.
pub record IsHeld (p : PProgram) (events : List Event) : Type 0 where
  pub small : AllByRecursion HasSmallIndices events
  pub literals : AllByRecursion HasLiteral (script_of (numbers_of p) events)

-- Then it is as it is promised of replay texts.
abbrev pub ReplayIsAsPromised : Type 0
ReplayIsAsPromised = (p : PProgram) (events : List Event) → IsLegalOriginal p → MeetsAtPlaces p events → IsHeld p events → IsReplayText p (types_in p) (numbers_of p) events (text_for p events)

-- A program is legal and, with a whole run of it, as asked: its main procedure calls an entry of a task.
abbrev pub IsMet : Type 0
IsMet = IsLegalOriginal passing × MeetsAtPlaces passing example_events × IsHeld passing example_events
