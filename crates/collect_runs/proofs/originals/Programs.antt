-- The collecting text of a legal program collects the program.
use Rattle.std.proofs.Common.{◌≡◌, ◌+◌, ℕ, suc, ℤ, List, length, refl, sym, ap, ◌∙◌, subst, length-append, arith}
use Rattle.event_machine.specs.declared.Action.{Action}
use Rattle.event_machine.specs.declared.Event.{Event}
use Rattle.event_machine.specs.States.{Seat, State}
use Rattle.event_machine.specs.Programs.{Program, numbered}
use Rattle.event_machine.specs.Tallies.{tallies}
use Rattle.ada_tree.specs.PlainProgram.{PProgram}
use Rattle.ada_static_rules.specs.Refusals.{types_in}
use Rattle.syn_event.specs.Numbering.{owner_of}
use Rattle.task_model.specs.Tasks.{Task}
use Rattle.task_model.specs.TaskOps.{task_ops}
use Rattle.task_model.specs.Machine.{ProgramWithInputs}
use Rattle.task_laws.proofs.invariants.Beginning.{length_first}
use Rattle.run_laws.specs.imitation.Shown.{Opened, end_from}
use Rattle.run_laws.specs.imitation.Imitations.{Original}
use Rattle.run_laws.specs.collecting.Settings.{Setting}
use Rattle.run_laws.specs.collecting.Laws.{IsShown, IsShownQuiet, Collects}
use Rattle.normal_laws.specs.runs.runs.Laws.{opened}
use Rattle.normal_laws.specs.runs.forms.Normalisable.{numbers_of}
use Rattle.normal_laws.specs.existence.Laws.{IsLegalOriginal}
use Rattle.normal_laws.proofs.existence.Joined.{legal_shows_same}
use Rattle.replay_runs.specs.starts.Laws.{form_in}
use Rattle.replay_runs.specs.controls.meanings.Settings.{form_program, form_opening}
use Rattle.replay_runs.specs.controls.replayed.Replaying.{starting}
use Rattle.replay_runs.specs.controls.replayed.Laws.{starting_form}
use Rattle.replay_runs.proofs.controls.Offers.{as-many-numbers}
use Rattle.replay_runs.proofs.controls.replayed.Numbers.{form-tasks}
use Rattle.replay_runs.proofs.controls.replayed.Inputs.{inputs_below_count}
use Rattle.collect_structure.proofs.legal.Legal.{collect_has_numbers}
use Rattle.collect_runs.specs.lines.Pieces.{lines_with}
use Rattle.collect_runs.specs.recorder.Recorders.{Recorder}
use Rattle.collect_runs.specs.recorder.States.{lines_of}
use Rattle.collect_runs.specs.starts.Texts.{text_for, text_setting, recorder_number, recorder_of}
use Rattle.collect_runs.specs.forms.Laws.{text_opening, TextCollects, names_kept}
use Rattle.collect_runs.specs.originals.Recording.{IsRunOfFirst, IsQuietRunOfFirst, CollectsRuns}
use Rattle.collect_runs.specs.originals.Laws.{lines_for, LegalFormsCarryOver, LegalTextsCollectPrograms}
use Rattle.collect_runs.proofs.forms.Collecting.{legal_texts_collect}
use Rattle.collect_runs.proofs.originals.Carried.{collects_carry_over}
use Rattle.collect_runs.proofs.originals.Headers.{header-same}

-- ---- what the law tells, in the words of the two programs alone

module _ {o : Original} (x : Setting o) {K : Type 0} (q : Program K) (out : K → List ℕ) (at : State (ℕ → Seat K)) where
  abbrev one : Opened o.L
  one = record { program = o.p; out = o.out; at = o.opening }

  abbrev other : Opened K
  other = record { program = q; out = out; at = at }

  shown-run : (actions : List Action) (events : List Event) → IsShown x q out at actions events → IsRunOfFirst x.lines one other o.p.size actions events
  shown-run actions events r = record { originals = r.original; original = record { applies = r.applies; has = r.has_events }; outputs = λ t l. r.outputs t l }

  quiet-run : (actions : List Action) (events : List Event) → IsShownQuiet x q out at actions events → IsQuietRunOfFirst x.lines one other o.p.size actions events
  quiet-run actions events r = record {
    originals = r.original;
    original = record { applies = r.applies; has = r.has_events };
    quiet = r.quiet;
    outputs = λ others is calm t l free.
        r.outputs (end_from one others).seats (tallies (numbered o.p) o.opening others (λ u. 0))
        (record { actions = others; applies = is.applies; has_events = is.has; leaves = λ u. refl; counts = λ u. refl }) calm t l free;
  }

  collected-runs : Collects x q out at → CollectsRuns x.lines one other o.p.size
  collected-runs c = record {
    records = λ actions run.
        let r = c.collects actions run in
        record {
          events = r.events;
          no_end = r.no_end;
          is_record = r.is_record;
          shown = shown-run actions _ r.shown;
          ended = λ e. shown-run actions _ (r.ended e);
          quiet = λ over. quiet-run actions _ (r.quiet over);
        };
    covers = λ events f.
        let r = c.covers events f in
        record { actions = r.actions; applies = r.applies; bytes = r.bytes; ended = r.ended };
  }

-- ---- the text and the normal form

module _ (p : PProgram) (h : IsLegalOriginal p) (inputs : List (List ℤ)) where
  -- a normal form of so many tasks, in this state
  abbrev form_with : ℕ → State (ℕ → Seat Task) → Opened Task
  form_with n s = record { program = record { ops = task_ops; owner = owner_of (form_in p).numbers; size = n }; out = λ t. t.output; at = s }

  -- its text, of so many tasks
  abbrev text_with : ℕ → Opened Task
  text_with n = record { program = record { ops = task_ops; owner = owner_of (text_setting p).numbers; size = n }; out = λ t. t.output; at = text_opening p inputs }

  abbrev setup : ProgramWithInputs
  setup = record { program = text_for p; types = types_in (text_for p); inputs = inputs }

  form-size : (form_program p inputs).size ≡ recorder_number p
  form-size = form-tasks p inputs

  text-size : (opened setup (text_setting p).numbers).program.size ≡ suc (recorder_number p)
  text-size =
      length_first setup (text_setting p).numbers (length (text_setting p).numbers.tasks)
      ∙ length-append (form_in p).numbers.tasks _
      ∙ (let e : recorder_number p + 1 ≡ suc (recorder_number p) = omega arith in e)

  pub same-size : (starting p inputs).program.size ≡ (starting_form p inputs).program.size
  same-size = length_first (record { program = p; types = types_in p; inputs = inputs }) (numbers_of p) (length (numbers_of p).tasks) ∙ as-many-numbers p h ∙ sym form-size

  -- by the numbers that the rewriting gives it, the text starts as by its own
  text-starts : starting (text_for p) inputs ≡ opened setup (text_setting p).numbers
  text-starts = ap (λ n. opened setup n) (collect_has_numbers p h)

  collects-form : TextCollects p (names_kept p) inputs → CollectsRuns (lines_for p) (starting_form p inputs) (starting (text_for p) inputs) (recorder_number p)
  collects-form c =
      subst (λ o. CollectsRuns (lines_for p) (starting_form p inputs) o (recorder_number p)) (sym text-starts)
      (subst (λ (header : List ℕ). CollectsRuns (lines_with header) (starting_form p inputs) (opened setup (text_setting p).numbers) (recorder_number p)) (header-same p h)
      (subst (λ n. CollectsRuns (lines_of (recorder_of p inputs)) (form_with n (form_opening p inputs)) (opened setup (text_setting p).numbers) (recorder_number p)) (sym form-size)
      (subst (λ n. CollectsRuns (lines_of (recorder_of p inputs)) (form_with (recorder_number p) (form_opening p inputs)) (text_with n) (recorder_number p)) (sym text-size)
      (subst (λ s. CollectsRuns (lines_of (recorder_of p inputs)) (form_with (recorder_number p) s) (text_with (suc (recorder_number p))) (recorder_number p)) c.collected.opening
      (subst (λ (k : Recorder). CollectsRuns (lines_of k) (form_with (recorder_number p) c.collected.known.opening) (text_with (suc (recorder_number p))) (recorder_number p)) c.collected.recorder
      (collected-runs _ _ (λ t. t.output) (text_opening p inputs) c.collects))))))

-- ---- the program

pub legal_forms_carry_over : LegalFormsCarryOver
legal_forms_carry_over p q legal h inputs others agree =
    subst (λ o. CollectsRuns (lines_for p) o (starting q others) (recorder_number p)) (sym (inputs_below_count p inputs others agree))
    (collects_carry_over (lines_for p) (starting p others) (starting_form p others) (starting q others) (recorder_number p) (same-size p legal others) (legal_shows_same p legal others) (h others))

pub legal_texts_collect_programs : LegalTextsCollectPrograms
legal_texts_collect_programs p legal none =
    legal_forms_carry_over p (text_for p) legal (λ inputs. collects-form p legal inputs (legal_texts_collect p inputs legal none))
