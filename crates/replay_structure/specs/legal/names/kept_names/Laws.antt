-- The law that the replay text of a legal program and of events that a file can hold is as it is promised, where its places meet the rules (this
-- project's rule).
use Rattle.std.specs.Prelude.{List}
use Rattle.event_machine.specs.declared.Event.{Event}
use Rattle.ada_tree.specs.PlainProgram.{PProgram}
use Rattle.ada_static_rules.specs.Refusals.{types_in}
use Rattle.normal_laws.specs.runs.forms.Normalisable.{numbers_of}
use Rattle.normal_laws.specs.structure.placed.Example.{passing}
use Rattle.normal_laws.specs.existence.Laws.{IsLegalOriginal}
use Rattle.normal_laws.specs.legality.Laws.{MeetsButOnce}
use Rattle.replay_model.specs.Promised.{IsReplayText}
use Rattle.replay_structure.specs.checked.Example.{example_events}
use Rattle.replay_structure.specs.legal.known.Laws.{AreKnown}
use Rattle.replay_structure.specs.legal.Laws.{text_for, AreKept, IsHeld}

-- The names in the declarations of the normal form of a legal program are kept in its replay texts, nothing is nested deeper than 100 there, and
-- known events are at most 200,000.
abbrev pub LegalIsKept : Type 0
LegalIsKept = (p : PProgram) (events : List Event) → IsLegalOriginal p → AreKnown p events → AreKept p events

-- A text can hold the numbers of such events.
abbrev pub KnownAreHeld : Type 0
KnownAreHeld = (p : PProgram) (events : List Event) → IsLegalOriginal p → AreKnown p events → IsHeld p events

-- So the replay text of a legal program and of such events is as it is promised of replay texts, where its places meet the first twelve rules but for
-- rule Duplicate.
abbrev pub KnownReplayIsAsPromised : Type 0
KnownReplayIsAsPromised = (p : PProgram) (events : List Event) → IsLegalOriginal p → AreKnown p events → MeetsButOnce (text_for p events) → IsReplayText p (types_in p) (numbers_of p) events (text_for p events)

-- A program is legal and, with a whole run of it, as asked: its main procedure calls an entry of a task.
abbrev pub IsMet : Type 0
IsMet = IsLegalOriginal passing × AreKnown passing example_events × MeetsButOnce (text_for passing example_events)
