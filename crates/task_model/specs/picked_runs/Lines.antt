-- The lines of a run's events (this project's format).
use Rattle.std.specs.Prelude.{ℕ, List, Option, Some, None, codes}
use Rattle.ded_io.specs.Written.{◌⧺◌, each_text}
use Rattle.event_machine.specs.declared.Event.{Event}
use Rattle.syn_event.specs.EventText.{event_text}
use Rattle.syn_event.specs.Numbering.{Numbering}
use Rattle.syn_event.specs.Origin.{back_of}

-- an event that stands for one of the original is written as that, and any other in the text's own numbers behind a dash
abbrev pub line_by : Event → Option Event → List ℕ
line_by event (Some original) = event_text original ⧺ codes "\n"
line_by event None = codes "- " ⧺ (event_text event ⧺ codes "\n")

-- the line of an event: that of the original for which it stands, or its own after a dash
abbrev pub event_line : Numbering → Event → List ℕ
event_line numbers event = line_by event (back_of numbers event)

-- The lines of events, in order.
abbrev pub lines_of : Numbering → List Event → List ℕ
lines_of numbers events = each_text (event_line numbers) events
