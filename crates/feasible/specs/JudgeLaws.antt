-- The laws of judges and verdicts (this project's rules).
use Rattle.std.specs.Prelude.{◌||◌, ℕ, Bool, List, take}
use Rattle.event_machine.specs.declared.Event.{Event}
use Rattle.event_machine.specs.declared.Standing.{Standing}
use Rattle.event_machine.specs.States.{is_closed, is_served}
use Rattle.syn_event.specs.Numbering.{Numbering}
use Rattle.task_model.specs.Machine.{ProgramWithInputs}
use Rattle.task_machine.specs.declared.verdict.Verdict.{Verdict}
use Rattle.task_machine.specs.Judging.{VerdictIs}
use Rattle.task_machine.specs.Views.{StandsIn}
use Rattle.feasible.specs.Keeping.{StandsFor, IsSettled, NothingFollows}
use Rattle.feasible.specs.Kept.{Kept}

-- closed, or a caller in a rendezvous
abbrev pub is_away : Standing → Bool
is_away z = is_closed z || is_served z

-- A task that is closed or served after the events that have happened is settled: what is seen of it may be asked for.
abbrev pub AwayIsSettled : Type 0
AwayIsSettled =
    (setup : ProgramWithInputs) (events : List Event) (judge : Kept) (t : ℕ) → StandsFor setup events judge →
    StandsIn setup judge.numbers (take judge.taken events) t is_away → IsSettled judge.tasks t

-- Each list of events in which nothing follows the end of the program has a verdict, the empty one too.
abbrev pub EachHasVerdict : Type 0
EachHasVerdict =
    (setup : ProgramWithInputs) (numbers : Numbering) (bound : ℕ) (events : List Event) → NothingFollows events →
    (verdict : Verdict) × VerdictIs setup numbers bound events verdict
