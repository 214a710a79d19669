-- The laws of variants and of going on (this project's rules).
use Rattle.std.specs.Prelude.{◌≡◌, ◌≤◌, ◌<◌, ◌^◌, ℕ, true, List, [], ◌++◌, length, Option}
use Rattle.event_machine.specs.declared.Event.{Event}
use Rattle.seq_file.specs.Files.{AreFit, most_events}
use Rattle.seq_file.specs.Known.{is_known}
use Rattle.syn_event.specs.Numbering.{Numbering}
use Rattle.task_model.specs.Machine.{ProgramWithInputs}
use Rattle.task_machine.specs.declared.verdict.Verdict.TheVariants.{Feasible}
use Rattle.task_machine.specs.Judging.{VerdictIs}
use Rattle.race_variant.specs.Variants.{AreVariants, CanFollow}
use Rattle.race_variant.specs.Continuing.{EndsSo, AreChosen, IsContinued}
use Rattle.race_variant.specs.KnownOffers.{OffersAreKnown}
use Rattle.race_variant.specs.declared.continuing.GoEnd.{GoEnd}
use Rattle.race_variant.specs.declared.continuing.GoEnd.TheVariants.{Count}

-- Where the offers of a program are known, what can come next has numbers that the program has.
abbrev pub VariantsAreKnown : Type 0
VariantsAreKnown =
    (setup : ProgramWithInputs) (numbers : Numbering) → OffersAreKnown setup numbers →
    (bound : ℕ) (events : List Event) (e : Event) → CanFollow setup numbers bound events e → is_known numbers e ≡ true

-- Where the offers of a program with fewer than 2^20 tasks are known, fewer than 2^32 events can come next.
abbrev pub VariantsAreFew : Type 0
VariantsAreFew =
    (setup : ProgramWithInputs) (numbers : Numbering) → OffersAreKnown setup numbers → length numbers.tasks < 2 ^ 20 →
    (bound : ℕ) (events : List Event) (skip : Option Event) (found : List Event) (unsettled : List ℕ) → AreVariants setup numbers bound events skip found unsettled → length found < 2 ^ 32

module _ {C : Type 0} (word : C → ℕ) (next : C → C) where
  -- The same choices choose the same events and come to the same end.
  abbrev pub OneGoesOn : Type 0
  OneGoesOn =
      (setup : ProgramWithInputs) (numbers : Numbering) (bound : ℕ) (events : List Event) (chooser : C) (most : ℕ) (chosen others : List Event) (end other_end : GoEnd) →
      IsContinued word next setup numbers bound events chooser most chosen end → IsContinued word next setup numbers bound events chooser most others other_end →
      (chosen ≡ others) × (end ≡ other_end)

  -- Feasible events stay feasible with the chosen ones behind them.
  abbrev pub StaysFeasible : Type 0
  StaysFeasible =
      (setup : ProgramWithInputs) (numbers : Numbering) (bound : ℕ) (events : List Event) (chooser : C) (chosen : List Event) →
      VerdictIs setup numbers bound events Feasible → AreChosen word next setup numbers bound events chooser chosen → VerdictIs setup numbers bound (events ++ chosen) Feasible

  -- Events that may stand in a sequence file may so with the chosen ones behind them, as long as they are few.
  abbrev pub StaysFit : Type 0
  StaysFit =
      (setup : ProgramWithInputs) (numbers : Numbering) → OffersAreKnown setup numbers → (bound : ℕ) (events : List Event) (chooser : C) (chosen : List Event) →
      AreFit numbers events → AreChosen word next setup numbers bound events chooser chosen → length (events ++ chosen) ≤ most_events → AreFit numbers (events ++ chosen)

  -- Where it ends at once, nothing is chosen.
  abbrev pub EndsAtOnce : Type 0
  EndsAtOnce =
      (setup : ProgramWithInputs) (numbers : Numbering) (bound : ℕ) (events : List Event) (chooser : C) (most : ℕ) (end : GoEnd) →
      EndsSo setup numbers bound events end → (end ≡ Count → most ≡ 0) → IsContinued word next setup numbers bound events chooser most [] end
