-- The file of feasible events with the chosen ones behind them: that it was put whole, or was cut.
use Rattle.std.proofs.Common.{◌≡◌, ◌≤◌, ◌+◌, ℕ, List, ◌++◌, length, Option, Ok, Err, refl, ap, ◌∙◌, subst, arith, length-append}
use Rattle.ded_io.specs.Counts.{Rose}
use Rattle.ded_io.specs.Written.{Wrote}
use Rattle.event_machine.specs.declared.Event.{Event}
use Rattle.syn_event.specs.Numbering.{Numbering}
use Rattle.seq_file.specs.Files.{most_events, AreFit, SeqText, SeqReads}
use Rattle.task_model.specs.Machine.{ProgramWithInputs}
use Rattle.task_machine.specs.declared.verdict.Verdict.TheVariants.{Feasible}
use Rattle.task_machine.specs.Judging.{VerdictIs}
use Rattle.race_variant.specs.Continuing.{IsContinued}
use Rattle.race_variant.specs.declared.continuing.GoEnd.{GoEnd}
use Rattle.race_variant.proofs.Continued.{stays_feasible, stays_fit}
use Rattle.debug_outcome.specs.Coming.{HasPut, HasBroken}
use Rattle.debug_outcome.specs.Outcomes.{writes}
use Rattle.debug_outcome.proofs.Comings.{has_put, has_broken}
use Rattle.debug_variants.specs.ContinueOutcomes.{IsContinuedText, end_status}

module _ {C : Type 0} (word : C → ℕ) (next : C → C) (setup : ProgramWithInputs) (numbers : Numbering) (bound : ℕ) (events : List Event) (chooser : C) (count : ℕ) (chosen : List Event) (end : GoEnd)
    (feasible : VerdictIs setup numbers bound events Feasible) (fit : AreFit numbers events) (few : length events + count ≤ most_events)
    (continued : IsContinued word next setup numbers bound events chooser count chosen end)
    (names : List (List ℕ)) (its : Numbering) (all : List Event) (same_names : names ≡ setup.program.names) (same_numbers : its ≡ numbers) (same : all ≡ (events ++ chosen))
    (read : AreFit its all → SeqReads (SeqText names its all) its names all) where
  few_in_all : length (events ++ chosen) ≤ most_events
  few_in_all = let a : length (events ++ chosen) ≡ length events + length chosen = length-append events chosen in omega (arith, few, continued.within)

  reads_all : AreFit numbers (events ++ chosen) → SeqReads (SeqText setup.program.names numbers (events ++ chosen)) numbers setup.program.names (events ++ chosen)
  reads_all =
      subst (λ (ns : List (List ℕ)). AreFit numbers (events ++ chosen) → SeqReads (SeqText ns numbers (events ++ chosen)) numbers ns (events ++ chosen)) same_names
      (subst (λ (n : Numbering). AreFit n (events ++ chosen) → SeqReads (SeqText names n (events ++ chosen)) n names (events ++ chosen)) same_numbers
      (subst (λ (es : List Event). AreFit its es → SeqReads (SeqText names its es) its names es) same read))

  goes : (status : ℕ) → status ≡ end_status end → IsContinuedText word next setup numbers bound events chooser count (writes (SeqText setup.program.names numbers (events ++ chosen)) status)
  goes status is = record {
    feasible = feasible;
    chosen = chosen;
    end = end;
    continued = continued;
    all_feasible = stays_feasible word next setup numbers bound events chooser chosen feasible continued.picked;
    read_back = λ known. reads_all (stays_fit word next setup numbers known bound events chooser chosen fit continued.picked few_in_all);
    is = ap (writes (SeqText setup.program.names numbers (events ++ chosen))) is;
  }

  is_text : SeqText names its all ≡ SeqText setup.program.names numbers (events ++ chosen)
  is_text =
      ap (λ (ns : List (List ℕ)). SeqText ns its all) same_names ∙ ap (λ (n : Numbering). SeqText setup.program.names n all) same_numbers
      ∙ ap (SeqText setup.program.names numbers) same

  module _ (told told' : Option (List ℕ)) (faults faults' : ℕ) where
    pub file_put : (A E : Type 0) (x : A) (status : ℕ) → Wrote {E = E} (Ok x) told told' (SeqText names its all) → faults' ≡ faults → status ≡ end_status end →
        HasPut (IsContinuedText word next setup numbers bound events chooser count) told told' faults faults' status
    file_put A E x status wrote still is =
        has_put A E x (IsContinuedText word next setup numbers bound events chooser count) (SeqText setup.program.names numbers (events ++ chosen)) status told told' faults faults' (goes status is)
        (subst (λ t. Wrote {E = E} (Ok x) told told' t) is_text wrote) still

    pub file_cut : (A E : Type 0) (e : E) → Wrote {A = A} (Err e) told told' (SeqText names its all) → Rose faults faults' →
        HasBroken (IsContinuedText word next setup numbers bound events chooser count) told told' faults faults'
    file_cut A E e wrote rose =
        has_broken A E e (IsContinuedText word next setup numbers bound events chooser count) (SeqText setup.program.names numbers (events ++ chosen)) (end_status end) told told' faults faults' (goes (end_status end) refl)
        (subst (λ t. Wrote {A = A} (Err e) told told' t) is_text wrote) rose
