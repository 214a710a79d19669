-- What LOAD comes to when a run of it is collected, judged and replayed (this project's rules).
use Rattle.std.specs.Prelude.{◌≡◌, ◌≢◌, ◌<◌, ◌≤◌, ◌+◌, ℕ, false, List, [], length, codes, decimal, ◌⊎◌}
use Rattle.rand_pcg.specs.Lcg.{Lcg}
use Rattle.ded_io.specs.Written.{◌⧺◌}
use Rattle.ded_io.specs.seeds.Seeded.{seeded, word_of, behind_word}
use Rattle.ada_static_rules.specs.Declaring.{predefined_types}
use Rattle.event_machine.specs.declared.Event.{Event}
use Rattle.seq_file.specs.Files.{most_events}
use Rattle.task_model.specs.Machine.{ProgramWithInputs}
use Rattle.task_model.specs.declared.picked_runs.report.RunEnd.{RunEnd}
use Rattle.task_model.specs.declared.picked_runs.report.RunEnd.TheVariants.{Ended, Stuck, Turns}
use Rattle.task_model.specs.picked_runs.Picked.{Position, picked, run_end}
use Rattle.task_machine.specs.declared.verdict.Verdict.{Verdict}
use Rattle.task_machine.specs.declared.verdict.Verdict.TheVariants.{Feasible, Infeasible, Unsettled}
use Rattle.task_machine.specs.Judging.{VerdictIs}
use Rattle.feasible.specs.Keeping.{is_infeasible}
use Rattle.replay_model.specs.ReplayTree.{replay_tree}
use Rattle.load_gen.specs.LoadTree.{load_names, load_tree, most_producers}
use Rattle.load_gen.specs.LoadNumbers.{load_numbers}
use Rattle.debug_outcome.specs.files.Wanting.{sequence_limit}
use Rattle.debug_outcome.specs.Outcomes.{Outcome, writes, refuses}
use Rattle.debug_outcome.specs.declared.refusal.Refusal.TheVariants.{TooLong, TooMany}
use Rattle.debug_outcome.specs.declared.refusal.Listed.TheVariants.{Events}
use Rattle.debug_run.specs.RunOutcomes.{run_status}
use Rattle.debug_collect.specs.Recorded.{AreRecorded, file_at, opening, recording}

-- ---- the runs

-- each of the two runs makes at most so many actions; the number stays shut, so that no run computes away
unfoldable pub load_turns : ℕ
load_turns = 10000000

-- between two events that change it a task makes at most so many local steps, where the collected sequence is judged
abbrev pub load_bound : ℕ
load_bound = 1000

-- LOAD with n producers; its tasks read nothing
abbrev pub load_setup : ℕ → ProgramWithInputs
load_setup n = record { program = load_tree n; types = predefined_types; inputs = [] }

-- where the run of its collecting text stands that the generator of the seed n picks; it stays shut, so that it does not compute away
unfoldable pub collecting_of : ℕ → Position Lcg
collecting_of n = recording word_of behind_word (load_tree n) predefined_types (load_numbers n) [] (seeded n) load_turns

-- the file of the sequence that it records
abbrev pub collected_file : ℕ → List ℕ
collected_file n = file_at (load_names n) (load_numbers n) (collecting_of n)

-- where the run of the replay text of LOAD and these events stands that the generator of the next seed picks; it stays shut too
unfoldable pub replaying_of : ℕ → List Event → Position Lcg
replaying_of n events =
    picked word_of behind_word load_turns (opening (replay_tree (load_tree n) predefined_types (load_numbers n) events) []) (seeded (n + 1))

-- ---- the lines

-- the number of producers
abbrev pub first_line : ℕ → List ℕ
first_line n = codes "load " ⧺ (decimal n ⧺ codes "\n")

-- the number of collected events, Z among them
abbrev pub events_line : ℕ → List ℕ
events_line count = codes "events " ⧺ (decimal count ⧺ codes "\n")

-- the verdict of them; that of recorded events is never the second
abbrev pub verdict_line : Verdict → List ℕ
verdict_line Feasible = codes "judge feasible\n"
verdict_line (Infeasible at why) = codes "judge infeasible\n"
verdict_line (Unsettled at t) = codes "judge unsettled\n"

-- the number of events of the run of the replay text, those of the tasks that were added and Z among them
abbrev pub replayed_line : ℕ → List ℕ
replayed_line count = codes "replay " ⧺ (decimal count ⧺ codes "\n")

-- all four lines
abbrev pub load_text : ℕ → ℕ → Verdict → ℕ → List ℕ
load_text n collected verdict replayed = first_line n ⧺ (events_line collected ⧺ (verdict_line verdict ⧺ replayed_line replayed))

-- all lines where the run of the replay text has ended, and else the first alone, each with the status of the end
abbrev pub lines_by_end : ℕ → List ℕ → RunEnd → Outcome
lines_by_end n text Ended = writes text (run_status Ended)
lines_by_end n text Stuck = writes (first_line n) (run_status Stuck)
lines_by_end n text Turns = writes (first_line n) (run_status Turns)

-- ---- the outcome

-- The run of the collecting text has not ended. The outcome is the first line alone, with the status of that end.
pub record IsCutOff (n : ℕ) (o : Outcome) : Type 0 where
  pub not_ended : run_end (collecting_of n) ≢ Ended
  pub is : o ≡ writes (first_line n) (run_status (run_end (collecting_of n)))

-- The run of the collecting text has ended, and has recorded these events of LOAD, which are feasible.
pub record IsCollected (n : ℕ) (events : List Event) : Type 0 where
  pub ended : run_end (collecting_of n) ≡ Ended
  pub recorded : AreRecorded (load_setup n) (load_numbers n) (collecting_of n) events

-- The events that were recorded have this verdict, which is not that they are infeasible. Their replay text is run, and the outcome tells how many they are,
-- the verdict, and how many events that run has.
pub record IsReplayed (n : ℕ) (o : Outcome) : Type 0 where
  pub events : List Event
  pub collected : IsCollected n events
  pub short : length (collected_file n) ≤ sequence_limit
  pub few : length events ≤ most_events
  pub verdict : Verdict
  pub verdict_is : VerdictIs (load_setup n) (load_numbers n) load_bound events verdict
  pub possible : is_infeasible verdict ≡ false
  pub is : o ≡ lines_by_end n (load_text n (length events) verdict (length (replaying_of n events).events)) (run_end (replaying_of n events))

-- The file of the events that were recorded is longer than a file of a sequence, or has more events than one. The outcome tells the limit.
pub record IsPastLimit (n : ℕ) (o : Outcome) : Type 0 where
  pub events : List Event
  pub collected : IsCollected n events
  pub limit :
      ((sequence_limit < length (collected_file n)) × (o ≡ refuses (TooLong sequence_limit)))
      ⊎ ((length (collected_file n) ≤ sequence_limit) × (most_events < length events) × (o ≡ refuses (TooMany Events most_events)))

-- There are at most a hundred producers, and LOAD with so many calls for this outcome.
pub record LoadMeans (n : ℕ) (o : Outcome) : Type 0 where
  pub few : n ≤ most_producers
  pub called : IsCutOff n o ⊎ (IsReplayed n o ⊎ IsPastLimit n o)
