-- Outcomes for which the lines of a sequence and the bytes of constraints call: a fault of either, or the lines of what is found.
use Rattle.std.proofs.Common.{◌≡◌, ◌≢◌, ℕ, List, inl, inr}
use Rattle.ded_io.specs.Written.{each_text}
use Rattle.event_machine.specs.declared.Event.{Event}
use Rattle.syn_event.specs.Numbering.{Numbering}
use Rattle.seq_file.specs.text_lines.LineFiles.{HasFirstFault}
use Rattle.syn_constraint.specs.declared.constraints.Constraint.{Constraint}
use Rattle.syn_constraint.specs.declared.errors.ConError.{ConError}
use Rattle.syn_constraint.specs.declared.errors.ConError.TheVariants as error
use Rattle.syn_constraint.specs.Files.{constraint_format, ConstraintsRead}
use Rattle.debug_outcome.specs.Coming.{Stops, stop_by}
use Rattle.debug_outcome.specs.Outcomes.{Outcome, writes}
use Rattle.debug_outcome.specs.declared.stopping.Stop.{Stop}
use Rattle.debug_outcome.proofs.Comings.{stops_by, stops_more}
use Rattle.debug_sequence.specs.declared.requiring.Finding.{Finding}
use Rattle.debug_sequence.specs.Sequences.{ReadsAs, IsRefusedSequence}
use Rattle.debug_sequence.specs.RequireOutcomes.{AreFindings, RequiresLines, finding_line, findings_status, refusal_of_constraints}

module _ (names : List (List ℕ)) (numbers : Numbering) (lines bytes : List ℕ) where
  -- the lines stand for no sequence, or there was no memory for it
  pub refused_sequence : (stop : Stop) → Stops (IsRefusedSequence names numbers lines) stop → Stops (RequiresLines names numbers lines bytes) stop
  refused_sequence stop h = stops_more (IsRefusedSequence names numbers lines) (RequiresLines names numbers lines bytes) stop (λ o refused. inr refused) h

  module _ (events : List Event) (reads : ReadsAs lines numbers names events) where
    bad_fault : (found : ConError) → HasFirstFault (constraint_format numbers) bytes found → Stops (RequiresLines names numbers lines bytes) (stop_by (refusal_of_constraints found))
    bad_fault found h =
        stops_by (RequiresLines names numbers lines bytes) (refusal_of_constraints found)
        (λ o told. inl (record { events = events; reads = reads; required = inr (record { error = found; fault = h; told = told }) }))

    -- the bytes are no constraints, or there was no memory for them
    pub bad_constraints : (found : ConError) → (found ≢ error.Memory → HasFirstFault (constraint_format numbers) bytes found) → Stops (RequiresLines names numbers lines bytes) (stop_by (refusal_of_constraints found))
    bad_constraints (error.BadLine line) h = bad_fault (error.BadLine line) (h (λ e. cc))
    bad_constraints (error.BadNumber line) h = bad_fault (error.BadNumber line) (h (λ e. cc))
    bad_constraints (error.TooMany limit) h = bad_fault (error.TooMany limit) (h (λ e. cc))
    bad_constraints error.Memory h = tt

    -- the lines of what is found of each constraint
    pub all_told : (constraints : List Constraint) (findings : List Finding) (o : Outcome) → ConstraintsRead numbers bytes constraints → AreFindings events 1 constraints findings →
        o ≡ writes (each_text finding_line findings) (findings_status findings) → RequiresLines names numbers lines bytes o
    all_told constraints findings o read are is =
        inl (record {
          events = events;
          reads = reads;
          required = inl (record { constraints = constraints; reads = read; told = record { findings = findings; are = are; is = is } });
        })
