-- A sequence of the program with a task and a call (`Example` of `text_laws: normal`): main calls the entry, the rendezvous ends, the task completes,
-- and the program ends.
use Rattle.std.specs.Prelude.{ℕ, pos, List, [], ◌∷◌}
use Rattle.event_machine.specs.declared.Event.{Event}
use Rattle.event_machine.specs.declared.Event.TheVariants.{R, E, X, Z}
use Rattle.seq_file.specs.Files.{SeqText}
use Rattle.normal_laws.specs.runs.forms.Normalisable.{numbers_of}
use Rattle.text_laws.specs.normal.Example.{calling}

abbrev pub calling_events : List Event
calling_events = R 0 1 (pos 0) ∷ E 1 ∷ X 1 ∷ Z ∷ []

abbrev pub calling_lines : List ℕ
calling_lines = SeqText calling.names (numbers_of calling) calling_events
