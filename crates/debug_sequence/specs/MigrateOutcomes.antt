-- What migrating a file comes to: the text in the other format of the sequence for which it stands, or why there is none (this project's rules).
use Rattle.std.specs.Prelude.{◌≡◌, ◌≤◌, ◌<◌, ◌+◌, ℕ, List, length, ◌⊎◌}
use Rattle.event_machine.specs.declared.Event.{Event}
use Rattle.syn_event.specs.Numbering.{Numbering, owner_of}
use Rattle.seq_file.specs.Files.{SeqReads, SeqText}
use Rattle.seq_file.specs.Lists.{ListReads, ListText, listed, most_listed}
use Rattle.syn_order.specs.Laws.{IsSource}
use Rattle.syn_order.specs.Refusals.{IsFirstRefused}
use Rattle.debug_outcome.specs.Outcomes.{Outcome, writes, refuses}
use Rattle.debug_outcome.specs.declared.refusal.Refusal.TheVariants.{BadSequence, TooMany}
use Rattle.debug_outcome.specs.declared.refusal.Listed.TheVariants.{Events}
use Rattle.debug_outcome.specs.declared.refusal.SequenceFault.TheVariants.{BadOrder}
use Rattle.debug_sequence.specs.Sequences.{ReadsAsLists, IsRefusedSequence}

-- the lists of all tasks are those of these events
abbrev pub AreListsOf : Numbering → List Event → List (List Event) → Type 0
AreListsOf numbers events lists = IsSource (owner_of numbers) (length numbers.tasks) lists events

-- ---- what events of one list come to

-- The lists of the events are no more than a file may have: they are written, and read back.
pub record AreWrittenByTasks (names : List (List ℕ)) (numbers : Numbering) (events : List Event) (o : Outcome) : Type 0 where
  pub lists : List (List Event)
  pub lists_of : AreListsOf numbers events lists
  pub few : listed lists ≤ most_listed
  pub text : o ≡ writes (ListText names numbers lists) 0
  pub back : ListReads (ListText names numbers lists) numbers names lists

-- The lists of the events are more than a file may have, and that limit is told.
pub record AreTooManyByTasks (numbers : Numbering) (events : List Event) (o : Outcome) : Type 0 where
  pub lists : List (List Event)
  pub lists_of : AreListsOf numbers events lists
  pub many : most_listed < listed lists
  pub told : o ≡ refuses (TooMany Events most_listed)

-- The events have no lists, and the line of the first that is not admitted is told: one more than its place, since the header is the first line.
pub record AreOutOfOrder (numbers : Numbering) (events : List Event) (o : Outcome) : Type 0 where
  pub place : ℕ
  pub first : IsFirstRefused (owner_of numbers) (length numbers.tasks) events place
  pub told : o ≡ refuses (BadSequence BadOrder (place + 1))

-- Events of one list come to this outcome: they are written by tasks, or their lists have too many events, or one of them is out of order.
abbrev pub AreSplit : List (List ℕ) → Numbering → List Event → Outcome → Type 0
AreSplit names numbers events o =
    AreWrittenByTasks names numbers events o ⊎ (AreTooManyByTasks numbers events o ⊎ AreOutOfOrder numbers events o)

-- ---- what a file comes to

-- The bytes are a file of one list, and the outcome is that of its events by tasks.
pub record IsSplit (names : List (List ℕ)) (numbers : Numbering) (bytes : List ℕ) (o : Outcome) : Type 0 where
  pub events : List Event
  pub reads : SeqReads bytes numbers names events
  pub split : AreSplit names numbers events o

-- The bytes are a file by tasks: the order of its lists is written as one list, and read back.
pub record IsJoined (names : List (List ℕ)) (numbers : Numbering) (bytes : List ℕ) (o : Outcome) : Type 0 where
  pub events : List Event
  pub reads : ReadsAsLists bytes numbers names events
  pub text : o ≡ writes (SeqText names numbers events) 0
  pub back : SeqReads (SeqText names numbers events) numbers names events

-- Migrating the bytes comes to this outcome: the sequence is written in the other format, or the bytes, or the order of their events, are refused.
abbrev pub Migrates : List (List ℕ) → Numbering → List ℕ → Outcome → Type 0
Migrates names numbers bytes o =
    IsSplit names numbers bytes o ⊎ (IsJoined names numbers bytes o ⊎ IsRefusedSequence names numbers bytes o)
