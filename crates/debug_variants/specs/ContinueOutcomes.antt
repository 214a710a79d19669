-- What going on from a sequence comes to: the file of it with the chosen events behind it, and the status of the end (this project's rules).
use Rattle.std.specs.Prelude.{◌≡◌, ℕ, ◌+◌, ◌<◌, ◌≤◌, List, ◌++◌, length, ◌⊎◌}
use Rattle.event_machine.specs.declared.Event.{Event}
use Rattle.syn_event.specs.Numbering.{Numbering}
use Rattle.seq_file.specs.Files.{most_events, SeqText, SeqReads}
use Rattle.task_model.specs.Machine.{ProgramWithInputs}
use Rattle.task_machine.specs.declared.verdict.Verdict.TheVariants.{Feasible}
use Rattle.task_machine.specs.Judging.{VerdictIs}
use Rattle.race_variant.specs.Continuing.{IsContinued}
use Rattle.race_variant.specs.KnownOffers.{OffersAreKnown}
use Rattle.race_variant.specs.declared.continuing.GoEnd.{GoEnd}
use Rattle.race_variant.specs.declared.continuing.GoEnd.TheVariants.{Ended, Stuck, Open, Count}
use Rattle.debug_outcome.specs.Outcomes.{Outcome, writes, refuses}
use Rattle.debug_outcome.specs.declared.refusal.Refusal.TheVariants.{TooMany}
use Rattle.debug_outcome.specs.declared.refusal.Listed.TheVariants.{Events}
use Rattle.debug_sequence.specs.Sequences.{ReadsAs, IsRefusedSequence}
use Rattle.debug_judge.specs.JudgeOutcomes.{IsOtherVerdictText}

-- the status by how the going on ends
abbrev pub end_status : GoEnd → ℕ
end_status Ended = 0
end_status Stuck = 10
end_status Open = 5
end_status Count = 11

-- The events are feasible, at most so many are chosen to follow them, and the outcome is the file of all, which are feasible. That file is read as these
-- events, where each number in what the program's tasks offer is one that it has.
pub record IsContinuedText {C : Type 0} (word : C → ℕ) (next : C → C) (setup : ProgramWithInputs) (numbers : Numbering) (bound : ℕ) (events : List Event) (chooser : C) (count : ℕ) (o : Outcome) : Type 0 where
  pub feasible : VerdictIs setup numbers bound events Feasible
  pub chosen : List Event
  pub end : GoEnd
  pub continued : IsContinued word next setup numbers bound events chooser count chosen end
  pub all_feasible : VerdictIs setup numbers bound (events ++ chosen) Feasible
  pub read_back : OffersAreKnown setup numbers → SeqReads (SeqText setup.program.names numbers (events ++ chosen)) numbers setup.program.names (events ++ chosen)
  pub is : o ≡ writes (SeqText setup.program.names numbers (events ++ chosen)) (end_status end)

-- The events call for this outcome, with these choices: that of going on from them, or the text of another verdict.
abbrev pub GoesOnFrom : {C : Type 0} → (C → ℕ) → (C → C) → ProgramWithInputs → Numbering → ℕ → List Event → C → ℕ → Outcome → Type 0
GoesOnFrom word next setup numbers bound events chooser count o =
    IsContinuedText word next setup numbers bound events chooser count o ⊎ IsOtherVerdictText setup numbers bound events o

-- With so many events more there could be more than a file may have, and the outcome tells that limit.
pub record CouldBeTooMany (events : List Event) (count : ℕ) (o : Outcome) : Type 0 where
  pub many : most_events < length events + count
  pub told : o ≡ refuses (TooMany Events most_events)

-- A file may have as many events, and these call for the outcome.
pub record FitsAndGoesOn {C : Type 0} (word : C → ℕ) (next : C → C) (setup : ProgramWithInputs) (numbers : Numbering) (bound : ℕ) (events : List Event) (chooser : C) (count : ℕ) (o : Outcome) : Type 0 where
  pub few : length events + count ≤ most_events
  pub told : GoesOnFrom word next setup numbers bound events chooser count o

-- The bytes stand for a sequence of the program, and the outcome is that of going on from it for at most so many events: the limit is told before a verdict.
pub record IsContinuedSequence {C : Type 0} (word : C → ℕ) (next : C → C) (setup : ProgramWithInputs) (numbers : Numbering) (lines : List ℕ) (chooser : C) (count bound : ℕ) (o : Outcome) : Type 0 where
  pub events : List Event
  pub reads : ReadsAs lines numbers setup.program.names events
  pub told : CouldBeTooMany events count o ⊎ FitsAndGoesOn word next setup numbers bound events chooser count o

-- The bytes of a sequence call for this outcome, with these choices: that of going on from it, or why they stand for no sequence.
abbrev pub ContinueMeans : {C : Type 0} → (C → ℕ) → (C → C) → ProgramWithInputs → Numbering → List ℕ → C → ℕ → ℕ → Outcome → Type 0
ContinueMeans word next setup numbers lines chooser count bound o =
    IsContinuedSequence word next setup numbers lines chooser count bound o ⊎ IsRefusedSequence setup.program.names numbers lines o
