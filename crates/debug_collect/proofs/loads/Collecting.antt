-- What the run of the collecting text of LOAD comes to.
use Rattle.std.proofs.Common.{◌≡◌, ℕ, ℤ, List, [], Option, Some, Err, refl, sym, ap, ◌∙◌, subst}
use Rattle.std.proofs.lemmas.Option.{same_Some}
use Rattle.rand_pcg.specs.Lcg.{Lcg}
use Rattle.ded_io.specs.Written.{appended}
use Rattle.ded_io.specs.seeds.Seeded.{seeded, word_of, behind_word}
use Rattle.ada_tree.specs.PlainProgram.{PProgram}
use Rattle.ada_tree.specs.TypeTable.{TypeTable}
use Rattle.ada_static_rules.specs.Declaring.{predefined_types}
use Rattle.syn_event.specs.Numbering.{Numbering}
use Rattle.event_machine.specs.declared.Event.{Event}
use Rattle.task_model.specs.picked_runs.Picked.{Position, run_end}
use Rattle.task_model.specs.declared.picked_runs.report.RunEnd.{RunEnd}
use Rattle.task_model.specs.declared.picked_runs.report.RunEnd.TheVariants.{Ended, Stuck, Turns}
use Rattle.load_gen.specs.LoadTree.{load_tree}
use Rattle.load_gen.specs.LoadNumbers.{load_numbers}
use Rattle.debug_outcome.specs.Coming.{Comes, HasPut, Never}
use Rattle.debug_outcome.specs.declared.stopping.Stop.{Stop}
use Rattle.debug_outcome.specs.declared.stopping.Stop.TheVariants.{Refused}
use Rattle.debug_outcome.specs.Outcomes.{Outcome, writes, refuses}
use Rattle.debug_outcome.specs.declared.refusal.Refusal.{Refusal}
use Rattle.debug_outcome.proofs.Comings.{line_is_some}
use Rattle.debug_run.specs.RunOutcomes.{run_status}
use Rattle.debug_collect.specs.Recorded.{AreRecorded, IsRecorded, file_at, recording}
use Rattle.debug_collect.specs.loads.LoadOutcomes.{collecting_of, load_turns}
use Rattle.debug_collect.specs.declared.loads.recording.Collected.{Collected}
use Rattle.debug_collect.specs.loads.inner.Loaded.{IsCollectedAs, IsLoadOf}

-- what stands where a run of the collecting text of a program has come to
module _ (p : PProgram) (types : TypeTable) (numbers : Numbering) (choices : Lcg) (turns : ℕ) (at : Position Lcg) (there : recording word_of behind_word p types numbers [] choices turns ≡ at) where
  written_at : (text : List ℕ) (status : ℕ) → IsRecorded word_of behind_word p types numbers [] choices turns (writes text status) →
      (text ≡ file_at p.names numbers at) × (status ≡ run_status (run_end at)) × (events : List Event) × AreRecorded (record { program = p; types = types; inputs = [] }) numbers at events
  written_at text status h = (
    ap (λ (o : Outcome). o.out) h.is ∙ ap (λ (x : Position Lcg). file_at p.names numbers x) there,
    ap (λ (o : Outcome). o.status) h.is ∙ ap (λ (x : Position Lcg). run_status (run_end x)) there,
    h.events,
    subst (λ (x : Position Lcg). AreRecorded (record { program = p; types = types; inputs = [] }) numbers x h.events) there h.recorded,
  )

collecting_is : (n : ℕ) → recording word_of behind_word (load_tree n) predefined_types (load_numbers n) [] (seeded n) load_turns ≡ collecting_of n
unfolding collecting_of
collecting_is n = refl

module _ (n : ℕ) where
  abbrev Records : Outcome → Type 0
  Records = IsRecorded word_of behind_word (load_tree n) predefined_types (load_numbers n) [] (seeded n) load_turns

  -- the text that it writes is the file of the events that were recorded, with the status of the end
  pub file_written : (collected : Collected) → Records (writes collected.file.bytes collected.status) → IsCollectedAs n collected
  file_written collected h =
      let (file, status, events, recorded) = written_at (load_tree n) predefined_types (load_numbers n) (seeded n) load_turns (collecting_of n) (collecting_is n) collected.file.bytes collected.status h in
      record { file = file; status = status; events = events; recorded = recorded }

  -- it is not refused
  pub none_refused : (refusal : Refusal) → Records (refuses refusal) → ⊥
  none_refused refusal h = line_is_some refusal (ap (λ (o : Outcome). o.err) h.is)

-- ---- LOAD by its definition

module _ (n : ℕ) (p : PProgram) (types : TypeTable) (numbers : Numbering) (load : IsLoadOf n p types numbers) where
  -- what is so of the program is so of the definition
  pub as_load : (P : PProgram → TypeTable → Numbering → Type 0) → P p types numbers → P (load_tree n) predefined_types (load_numbers n)
  as_load P h = subst (λ q. P q predefined_types (load_numbers n)) load.is_load (subst (λ t. P p t (load_numbers n)) load.its_types (subst (λ m. P p types m) load.its_numbers h))

  -- and the other way round
  pub of_load : (P : PProgram → TypeTable → Numbering → Type 0) → P (load_tree n) predefined_types (load_numbers n) → P p types numbers
  of_load P h = subst (λ m. P p types m) (sym load.its_numbers) (subst (λ t. P p t (load_numbers n)) (sym load.its_types) (subst (λ q. P q predefined_types (load_numbers n)) (sym load.is_load) h))

-- ---- the end by its status

-- a run has ended exactly where its status is 0
pub ended_by_status : (end : RunEnd) → run_status end ≡ 0 → end ≡ Ended
ended_by_status Ended h = refl
ended_by_status Stuck h = cc
ended_by_status Turns h = cc

pub status_of_ended : (end : RunEnd) → end ≡ Ended → run_status end ≡ 0
status_of_ended end h = ap run_status h

-- ---- what the code has of the run

module _ (n : ℕ) (p : PProgram) (types : TypeTable) (numbers : Numbering) (load : IsLoadOf n p types numbers) (inputs : List (List ℤ)) (none : inputs ≡ []) (choices : Lcg) (seeds : choices ≡ seeded n) (turns : ℕ) (most : turns ≡ load_turns) where
  as_records : (o : Outcome) → IsRecorded word_of behind_word p types numbers inputs choices turns o → Records n o
  as_records o h =
      as_load n p types numbers load (λ q t m. IsRecorded word_of behind_word q t m [] (seeded n) load_turns o)
      (subst (λ (i : List (List ℤ)). IsRecorded word_of behind_word p types numbers i (seeded n) load_turns o) none
      (subst (λ (x : Lcg). IsRecorded word_of behind_word p types numbers inputs x load_turns o) seeds
      (subst (λ (k : ℕ). IsRecorded word_of behind_word p types numbers inputs choices k o) most h)))

  pub was_collected : (collected : Collected) (before : List ℕ) (faults faults' : ℕ) → before ≡ [] →
      HasPut (IsRecorded word_of behind_word p types numbers inputs choices turns) (Some before) (Some collected.file.bytes) faults faults' collected.status → IsCollectedAs n collected
  was_collected collected before faults faults' empty h =
      let same : collected.file.bytes ≡ h.text = same_Some collected.file.bytes h.text (h.put.0 ∙ ap (λ (b : List ℕ). appended (Some b) h.text) empty) in
      file_written n collected (as_records (writes collected.file.bytes collected.status) (subst (λ (t : List ℕ). IsRecorded word_of behind_word p types numbers inputs choices turns (writes t collected.status)) (sym same) h.called))

  pub was_not_refused : (stop : Stop) (refusal : Refusal) → stop ≡ Refused refusal → (out out' : Option (List ℕ)) (faults faults' : ℕ) →
      Comes (IsRecorded word_of behind_word p types numbers inputs choices turns) Never out out' faults faults' (Err stop) → ⊥
  was_not_refused stop refusal is out out' faults faults' h =
      none_refused n refusal
      (as_records (refuses refusal)
      (subst (λ (s : Stop). Comes (IsRecorded word_of behind_word p types numbers inputs choices turns) Never out out' faults faults' (Err s)) is h).0)
