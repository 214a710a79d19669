-- The order of lists that is short enough for a file of one list.
use Rattle.std.specs.Prelude.{◌≤◌, List, length}
use Rattle.event_machine.specs.declared.Event.{Event}
use Rattle.syn_event.specs.Numbering.{Numbering}
use Rattle.seq_file.specs.Files.{most_events}
use Rattle.debug_sequence.specs.Sequences.{AreInOrder}

-- the events are the order of the lists, and no more than a file of one list may have
pub record IsShortOrder (numbers : Numbering) (lists : List (List Event)) (events : List Event) : Type 0 where
  pub order : AreInOrder numbers lists events
  pub few : length events ≤ most_events
