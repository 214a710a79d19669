-- The picked run of a collecting text records a feasible sequence of the program.
use Rattle.std.proofs.Common.{◌≡◌, ℕ, ℤ, Bool, true, false, if◌then◌else◌, List, Option, Some, None, refl, sym, ap, ◌∙◌, subst, arith}
use Rattle.std.specs.Prelude.{All, unwrap_or}
use Rattle.event_machine.specs.declared.Event.{Event}
use Rattle.ada_tree.specs.PlainProgram.{PProgram}
use Rattle.ada_tree.specs.TypeTable.{TypeTable}
use Rattle.ada_static_rules.specs.Refusals.{types_in}
use Rattle.syn_event.specs.AllNumbers.{all_numbers}
use Rattle.syn_event.specs.declared.numbering.Mode.TheVariants.{Original}
use Rattle.syn_event.specs.Legal.{Legal}
use Rattle.syn_event.specs.Numbering.{Numbering}
use Rattle.seq_file.specs.Files.{SeqText}
use Rattle.seq_file.specs.Known.{is_known}
use Rattle.task_model.specs.Machine.{ProgramWithInputs, MachineState, enabled_of}
use Rattle.task_model.specs.declared.picked_runs.report.RunEnd.{RunEnd}
use Rattle.task_model.specs.declared.picked_runs.report.RunEnd.TheVariants.{Ended, Stuck, Turns}
use Rattle.task_model.specs.picked_runs.Outputs.{output_of}
use Rattle.task_model.specs.picked_runs.Picked.{Position, is_nil, halted, run_end}
use Rattle.normal_laws.specs.runs.forms.Normalisable.{numbers_of}
use Rattle.normal_laws.specs.existence.Laws.{IsLegalOriginal}
use Rattle.replay_runs.proofs.controls.Offers.{as-many-numbers}
use Rattle.collect_runs.specs.originals.Laws.{CollectsProgram}
use Rattle.collect_runs.specs.starts.Texts.{recorder_number}
use Rattle.collect_model.specs.aborts.Collecting.{collecting_tree}
use Rattle.collect_runs.specs.files.Files.{file_of_lines}
use Rattle.collect_runs.specs.files.Sequences.{IsRecordedIn}
use Rattle.collect_runs.specs.files.Laws.{NoneApplies}
use Rattle.collect_runs.proofs.files.Machines.{machines_are_recorded}
use Rattle.debug_run.specs.texts.OutputText.{finished_lines, unfinished_line}
use Rattle.debug_collect.specs.Recorded.{AreRecorded, is_ended, recorder_of, file_at, recording}
use Rattle.progress_law.proofs.Halting.{halted_is_over}
use Rattle.progress_law.proofs.Picked.{picked_is_run}
use Rattle.progress_law.proofs.offers.Sequences.{legal_sequences_are_known}
use Rattle.debug_collect.proofs.Cutting.{has_lines}

-- ---- ends

-- a run has ended where its machine has
ended_by : (ended none : Bool) → is_ended (unwrap_or (if ended then Some Ended else (if none then Some Stuck else None)) Turns) ≡ ended
ended_by true none = refl
ended_by false true = refl
ended_by false false = refl

-- it has made all its turns where it does not halt
turns_by : (o : Option RunEnd) → (unwrap_or o Turns ≡ Turns → ⊥) → o ≡ None → ⊥
turns_by o h none = h (ap (λ x. unwrap_or x Turns) none)

-- ---- by its own types and numbers

module _ (p : PProgram) (legal : IsLegalOriginal p) (inputs : List (List ℤ)) where
  abbrev setup : ProgramWithInputs
  setup = record { program = p; types = types_in p; inputs = inputs }

  recorder-same : recorder_of (numbers_of p) ≡ recorder_number p
  recorder-same = let many = as-many-numbers p legal in omega (arith, many)

  module _ {C : Type 0} (at : Position C) (events : List Event) where
    recorded : IsRecordedIn p inputs (output_of at.machine) at.machine.state.ended (NoneApplies at.machine) events → AreRecorded setup (numbers_of p) at events
    recorded r =
        let end : is_ended (run_end at) ≡ at.machine.state.ended = ended_by at.machine.state.ended (is_nil (enabled_of at.machine)) in
        let known : All (λ event. is_known (numbers_of p) event ≡ true) events = legal_sequences_are_known p legal inputs events r.feasible in
        let output : List ℕ = output_of at.machine (recorder_of (numbers_of p)) in
        let file : file_at p.names (numbers_of p) at ≡ SeqText p.names (numbers_of p) events =
        ap (λ b. file_of_lines p.names (numbers_of p) (finished_lines output) b) end
        ∙ ap (λ t. file_of_lines p.names (numbers_of p) (finished_lines (output_of at.machine t)) at.machine.state.ended) recorder-same
        ∙ r.text (finished_lines (output_of at.machine (recorder_number p))) (unfinished_line (output_of at.machine (recorder_number p))) (has_lines (output_of at.machine (recorder_number p))) in
        record {
          feasible = r.feasible;
          shown = r.shown;
          quiet = λ turns. r.quiet (halted_is_over at.machine (turns_by (halted at.machine) turns));
          known = known;
          end = r.end;
          ends = r.ends ∙ sym end;
          file = file;
          reads = λ few. record { text = file; fit = record { known = known; end = r.end; few = few } };
        }

-- ---- the picked run

module _ (p : PProgram) (legal : IsLegalOriginal p) (collects : CollectsProgram p (collecting_tree p (types_in p) (numbers_of p))) {C : Type 0} (word : C → ℕ) (next : C → C) (inputs : List (List ℤ)) (choices : C) (turns : ℕ) where
  -- the picked run of the text for these types and numbers records events
  abbrev Records : TypeTable → Numbering → Type 0
  Records types numbers =
      (events : List Event) × AreRecorded (record { program = p; types = types; inputs = inputs }) numbers (recording word next p types numbers inputs choices turns) events

  by_own : Records (types_in p) (numbers_of p)
  by_own =
      let q : PProgram = collecting_tree p (types_in p) (numbers_of p) in
      let run = picked_is_run word next (record { program = q; types = types_in q; inputs = inputs }) (numbers_of q) turns choices in
      let r = machines_are_recorded p q legal collects inputs inputs (λ t l. refl) run.actions run.applies in (
        r.0,
        recorded p legal inputs (recording word next p (types_in p) (numbers_of p) inputs choices turns) r.0
            (subst (λ (m : MachineState). IsRecordedIn p inputs (output_of m) m.state.ended (NoneApplies m) r.0) run.ends r.1),
      )

  -- with the types and numbers that were found
  pub picked_is_recorded : (types : TypeTable) (numbers : Numbering) → Legal p types numbers Original → Records types numbers
  picked_is_recorded types numbers own =
      let its : numbers ≡ numbers_of p = own.its_numbers ∙ ap (λ (t : TypeTable). all_numbers t p) own.its_types in
      subst (λ (t : TypeTable). Records t numbers) (sym own.its_types) (subst (λ (n : Numbering). Records (types_in p) n) (sym its) by_own)
