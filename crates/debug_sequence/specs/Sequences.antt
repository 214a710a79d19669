-- For which sequence of events a file stands, in either format, and what is told where it stands for none (this project's rules).
use Rattle.std.specs.Prelude.{◌≡◌, ◌≤◌, ◌<◌, ℕ, true, false, List, length, ◌⊎◌}
use Rattle.event_machine.specs.declared.Event.{Event}
use Rattle.syn_event.specs.Numbering.{Numbering, owner_of}
use Rattle.seq_file.specs.Files.{most_events, SeqReads}
use Rattle.seq_file.specs.Lists.{is_in_lists, ListReads}
use Rattle.syn_order.specs.Laws.{IsOrder, NoOrder}
use Rattle.debug_outcome.specs.Outcomes.{Outcome, refuses}
use Rattle.debug_outcome.specs.declared.refusal.Refusal.TheVariants as refusal
use Rattle.debug_outcome.specs.declared.refusal.Listed.TheVariants.{Events}
use Rattle.debug_outcome.specs.sequences.BadSequences.{IsBadSequence, IsBadLists}

-- ---- the sequence

-- these events are the order of the lists of all tasks
abbrev pub AreInOrder : Numbering → List (List Event) → List Event → Type 0
AreInOrder numbers lists events = IsOrder (owner_of numbers) (length numbers.tasks) lists events

-- The bytes are a file by tasks, and these events are the order of its lists, no more than a file of one list may have. A reader of lists does not ask
-- whether an event touches the task in whose list it stands: the order alone asks it, since it uses up every list.
pub record ReadsAsLists (bytes : List ℕ) (numbers : Numbering) (names : List (List ℕ)) (events : List Event) : Type 0 where
  pub lists : List (List Event)
  pub reads : ListReads bytes numbers names lists
  pub order : AreInOrder numbers lists events
  pub few : length events ≤ most_events

-- The bytes are a file of these events, in either format.
abbrev pub ReadsAs : List ℕ → Numbering → List (List ℕ) → List Event → Type 0
ReadsAs bytes numbers names events = SeqReads bytes numbers names events ⊎ ReadsAsLists bytes numbers names events

-- ---- what is told where there is none

-- The lists have no order, and the outcome tells the first task whose list is not used up.
pub record HaveNoOrder (numbers : Numbering) (lists : List (List Event)) (o : Outcome) : Type 0 where
  pub task : ℕ
  pub none : NoOrder (owner_of numbers) (length numbers.tasks) lists task
  pub told : o ≡ refuses (refusal.NoOrder task)

-- The order of the lists has more events than a file of one list may have, and the outcome tells that limit.
pub record HaveTooMany (numbers : Numbering) (lists : List (List Event)) (o : Outcome) : Type 0 where
  pub events : List Event
  pub order : AreInOrder numbers lists events
  pub many : most_events < length events
  pub told : o ≡ refuses (refusal.TooMany Events most_events)

-- the lists stand for no sequence, and the outcome tells why
abbrev pub AreNotJoined : Numbering → List (List Event) → Outcome → Type 0
AreNotJoined numbers lists o = HaveNoOrder numbers lists o ⊎ HaveTooMany numbers lists o

-- The bytes are a file of lists that stand for no sequence, and the outcome tells why.
pub record AreReadNotJoined (names : List (List ℕ)) (numbers : Numbering) (bytes : List ℕ) (o : Outcome) : Type 0 where
  pub lists : List (List Event)
  pub reads : ListReads bytes numbers names lists
  pub refused : AreNotJoined numbers lists o

-- the bytes are no file by tasks, or one of lists that stand for no sequence, and the outcome tells why
abbrev pub AreRefusedLists : List (List ℕ) → Numbering → List ℕ → Outcome → Type 0
AreRefusedLists names numbers bytes o = IsBadLists names numbers bytes o ⊎ AreReadNotJoined names numbers bytes o

-- The bytes stand for no sequence of the program, and the outcome tells why, by the format that they begin with.
abbrev pub IsRefusedSequence : List (List ℕ) → Numbering → List ℕ → Outcome → Type 0
IsRefusedSequence names numbers bytes o =
    ((is_in_lists bytes ≡ false) × IsBadSequence names numbers bytes o) ⊎ ((is_in_lists bytes ≡ true) × AreRefusedLists names numbers bytes o)
