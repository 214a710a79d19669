-- What the code has of LOAD before it writes, and the outcome of that.
use Rattle.std.specs.Prelude.{◌≡◌, ◌≤◌, ℕ, List, [], length}
use Rattle.ded_io.specs.seeds.Seeded.{seeded, word_of, behind_word}
use Rattle.ada_tree.specs.PlainProgram.{PProgram}
use Rattle.ada_tree.specs.TypeTable.{TypeTable}
use Rattle.ada_static_rules.specs.Declaring.{predefined_types}
use Rattle.event_machine.specs.declared.Event.{Event}
use Rattle.syn_event.specs.Numbering.{Numbering}
use Rattle.task_model.specs.picked_runs.Picked.{picked, run_end}
use Rattle.load_gen.specs.LoadTree.{load_tree, most_producers}
use Rattle.load_gen.specs.LoadNumbers.{load_numbers}
use Rattle.debug_run.specs.RunOutcomes.{run_status}
use Rattle.debug_collect.specs.Recorded.{AreRecorded, opening}
use Rattle.debug_outcome.specs.Outcomes.{Outcome, writes}
use Rattle.debug_collect.specs.loads.LoadOutcomes.{collected_file, collecting_of, first_line, load_setup, load_text, load_turns}
use Rattle.debug_collect.specs.declared.loads.loading.Loaded.{Loaded}
use Rattle.debug_collect.specs.declared.loads.loading.Loaded.TheVariants.{Cut, Whole}
use Rattle.debug_collect.specs.declared.loads.recording.Collected.{Collected}
use Rattle.debug_collect.specs.declared.loads.replaying.Replayed.{Replayed}

-- the first line with the status of a run that has not ended, or all lines
abbrev pub outcome_of : ℕ → Loaded → Outcome
outcome_of n (Cut status) = writes (first_line n) status
outcome_of n (Whole figures) = writes (load_text n figures.events figures.verdict figures.replayed) 0

-- this is LOAD with n producers, at most a hundred, with its types and numbers
pub record IsLoadOf (n : ℕ) (p : PProgram) (types : TypeTable) (numbers : Numbering) : Type 0 where
  pub few : n ≤ most_producers
  pub is_load : p ≡ load_tree n
  pub its_types : types ≡ predefined_types
  pub its_numbers : numbers ≡ load_numbers n

-- the run of the collecting text has this file and the status, and has recorded these events
pub record IsCollectedAs (n : ℕ) (collected : Collected) : Type 0 where
  pub file : collected.file.bytes ≡ collected_file n
  pub status : collected.status ≡ run_status (run_end (collecting_of n))
  pub events : List Event
  pub recorded : AreRecorded (load_setup n) (load_numbers n) (collecting_of n) events

-- the end of the run of a text that the generator of this seed picks, and how many events it has
pub record IsRunOf (text : PProgram) (seed : ℕ) (replayed : Replayed) : Type 0 where
  pub end : replayed.end ≡ run_end (picked word_of behind_word load_turns (opening text []) (seeded seed))
  pub events : replayed.events ≡ length (picked word_of behind_word load_turns (opening text []) (seeded seed)).events
