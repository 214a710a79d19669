-- The outcome of judging: the text of a verdict that was put whole or cut short.
use Rattle.std.proofs.Common.{◌≡◌, ℕ, List, [], length, Option, Ok, Err, ap, refl, ◌∙◌, subst}
use Rattle.ded_io.specs.Counts.{Rose}
use Rattle.ded_io.specs.Written.{appended, Began, Wrote}
use Rattle.event_machine.specs.declared.Event.{Event}
use Rattle.syn_event.specs.Numbering.{Numbering}
use Rattle.task_model.specs.Machine.{ProgramWithInputs}
use Rattle.task_machine.specs.declared.verdict.Verdict.{Verdict}
use Rattle.task_machine.specs.Judging.{VerdictIs}
use Rattle.feasible.specs.Failing.{view_at}
use Rattle.feasible.specs.Kept.{Kept}
use Rattle.divergence.specs.JudgeText.{report_text, judge_text, event_at_place}
use Rattle.debug_outcome.specs.Coming.{HasPut, HasBroken}
use Rattle.debug_judge.specs.JudgeOutcomes.{ShowsWhy, IsVerdictText, verdict_status}

module _ (setup : ProgramWithInputs) (names : List (List ℕ)) (numbers : Numbering) (bound bound' : ℕ) (events : List Event) (k : Kept) (v : Verdict) (count : ℕ) (e : Option Event) (old new : Option (List ℕ)) (writes writes' : ℕ)
    (verdict_is : VerdictIs setup numbers bound events v) (seen : ShowsWhy setup numbers events (view_at k.tasks) v) (counted : count ≡ length events) (event : e ≡ event_at_place events v) (bounded : bound' ≡ bound) (named : names ≡ setup.program.names) where
  abbrev text : List ℕ
  text = judge_text setup.program.names numbers bound (view_at k.tasks) events v

  is_text : report_text names numbers bound' (view_at k.tasks) count v e ≡ text
  is_text =
      ap (λ (ns : List (List ℕ)). report_text ns numbers bound' (view_at k.tasks) count v e) named
      ∙ ap (λ (b : ℕ). report_text setup.program.names numbers b (view_at k.tasks) count v e) bounded
      ∙ ap (λ (n : ℕ). report_text setup.program.names numbers bound (view_at k.tasks) n v e) counted
      ∙ ap (λ (o : Option Event). report_text setup.program.names numbers bound (view_at k.tasks) (length events) v o) event

  -- all of it was written
  pub verdict_put : (A E : Type 0) (x : A) (status : ℕ) → Wrote {E = E} (Ok x) old new (report_text names numbers bound' (view_at k.tasks) count v e) → writes' ≡ writes → status ≡ verdict_status v →
      HasPut (IsVerdictText setup numbers bound events) old new writes writes' status
  unfolding Wrote
  verdict_put A E x status wrote still status_is = record {
    text = text;
    called = record {
      verdict = v;
      verdict_is = verdict_is;
      views = view_at k.tasks;
      seen = seen;
      is = ap (λ s. record { out = text; err = []; status = s }) status_is;
    };
    put = (wrote ∙ ap (λ t. appended old t) is_text, still);
  }

  -- or a front of it
  pub verdict_cut : (A E : Type 0) (x : E) → Wrote {A = A} (Err x) old new (report_text names numbers bound' (view_at k.tasks) count v e) → Rose writes writes' → HasBroken (IsVerdictText setup numbers bound events) old new writes writes'
  unfolding Wrote
  verdict_cut A E x wrote rose = record {
    text = text;
    status = verdict_status v;
    called = record { verdict = v; verdict_is = verdict_is; views = view_at k.tasks; seen = seen; is = refl };
    put = (subst (λ t. Began old new t) is_text wrote, rose);
  }
