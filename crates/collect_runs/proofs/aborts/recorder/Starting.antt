-- How the recorder starts, what it offers at its wait, and how it goes on to its next turn.
use Rattle.std.proofs.Common.{◌≡◌, ℕ, suc, Bool, true, false, List, [], ◌∷◌, ◌++◌, replicate, option_map, Option, Some, None, append-nil, refl, sym, ap, ap₂, ◌∙◌, subst}
use Rattle.std.specs.Prelude.{pos, ◌+ℤ◌, ◌-ℤ◌, Result, Ok}
use Rattle.common_lemmas.proofs.Options.{some_same, not_missing}
use Rattle.event_machine.specs.declared.Choice.TheVariants.{Accept, Terminate}
use Rattle.event_machine.specs.Offers.{Waits}
use Rattle.ada_tree.specs.declared.naming.NameId.{NameId}
use Rattle.ada_tree.specs.declared.static_types.Mark.{Mark}
use Rattle.ada_tree.specs.PlainExpr.{PDrange, RGiven}
use Rattle.ada_tree.specs.PlainStmt.{no_stmt, stmt_then, no_handler}
use Rattle.ada_tree.specs.PlainDecl.{IOthers}
use Rattle.ada_static_rules.specs.Scope.{integer_kind}
use Rattle.ada_static_rules.specs.StaticValue.{mark_named}
use Rattle.syn_event.specs.Extents.{count_to}
use Rattle.ada_value.specs.declared.values.Value.{Value}
use Rattle.ada_value.specs.declared.values.Value.TheVariants.{Number, Truth}
use Rattle.ada_value.specs.declared.values.Raised.{Raised}
use Rattle.ada_value.specs.declared.values.Form.{Form}
use Rattle.ada_value.specs.declared.values.Limits.{Limits}
use Rattle.ada_value.specs.Values.{and_then, limits_of, integer_limits, truth_limits}
use Rattle.ada_value.specs.Variables.{Variables}
use Rattle.ada_value.specs.Evaluating.{range_between, range_of}
use Rattle.task_model.specs.Frames.{OwnBody, control}
use Rattle.task_model.specs.Tasks.{Task}
use Rattle.task_model.specs.Stands.{can_step, stepped}
use Rattle.task_model.specs.Starting.{known_range, array_form, value_or_lower, declared_objects, after_declaration}
use Rattle.task_model.specs.Steps.{line_end}
use Rattle.task_model.specs.Rendezvous.{finished}
use Rattle.normal_model.specs.Making.{one}
use Rattle.normal_model.specs.Ranges.{word_at, integer_subtype}
use Rattle.table_law.specs.States.{Comes, Offers}
use Rattle.table_law.proofs.Numbers.{fitted-ok}
use Rattle.table_law.proofs.Turning.{step-first}
use Rattle.run_laws.specs.collecting.Notes.{text}
use Rattle.collect_model.specs.Noting.{number}
use Rattle.collect_model.specs.Lines.{header_put}
use Rattle.collect_model.specs.Recording.{truth, flags_declared}
use Rattle.collect_runs.specs.recorder.Telling.{Spelled}
use Rattle.collect_runs.proofs.recorder.Finding.{truth-alone}
use Rattle.collect_model.specs.aborts.Recording.{calls_declared, notes_taken}
use Rattle.run_laws.specs.aborts.Notes.{Book, empty_book}
use Rattle.collect_runs.specs.aborts.recorder.Recorders.{Recorder, names_of, last_of, IsRecorder}
use Rattle.collect_runs.specs.aborts.recorder.States.{lines_of, written_of, standing, numbers_object, flags_object, kept, note_variables, starting, loop_around, behind_loop, waiting, hearing}
use Rattle.collect_runs.proofs.aborts.recorder.Tables.{values-all}
use Rattle.collect_runs.proofs.recorder.Starting.{count-is}
use Rattle.ada_value.proofs.StaticLaws.{natural_integer as small}

module _ (k : Recorder) (note : ℕ) (h : IsRecorder k note) where
  -- ---- the start

  abbrev down : ℕ → Bool
  down t = false

  -- an array of flags starts with all of them down
  flags-declared : (name : NameId) (vars : Variables) → after_declaration k.setting.types false (flags_declared (names_of k) k.span name) vars ≡ flags_object k name down ∷ vars
  flags-declared name vars =
      ap (λ (o : Option Form). declared_objects k.setting.types false (word_at k.span name ∷ []) false (Some (IOthers (truth k.span false) k.span)) o vars) h.of_flags
      ∙ ap (λ (r : Result Value Raised). with_values (replicate (count_to ((pos (last_of k) -ℤ pos 0) +ℤ pos 1)) (value_or_lower k.setting.types truth_limits r)))
      (truth-alone k.setting.types k.span false)
      ∙ ap (λ (m : ℕ). with_values (replicate m (Truth false))) (count-is (last_of k))
      ∙ ap with_values (values-all (Truth false) 0 (suc (last_of k)))
    where
      with_values : List Value → Variables
      with_values vs = record { name = name; limits = truth_limits; index = (flags_object k name down).index; values = vs } ∷ vars

  -- the arrays of numbers
  abbrev index : PDrange
  index = RGiven (record { first = number k.span 0; last = number k.span (last_of k) })

  abbrev of_tasks : Limits
  of_tasks = record { kind = integer_kind; first = pos 0; last = pos (last_of k) }

  range-is : range_of k.setting.types [] index ≡ Ok of_tasks
  range-is = ap (λ (r : Result Value Raised). and_then r (λ y. Ok (range_between (Number (pos 0)) y))) (fitted-ok (pos (last_of k)) (small (last_of k) h.few))

  form-is : (o : Option Mark) → option_map limits_of o ≡ Some integer_limits →
      array_form k.setting.types index (integer_subtype k.span) o ≡ Some (record { limits = integer_limits; index = Some of_tasks })
  form-is None e = absurd (not_missing integer_limits e)
  form-is (Some m) e =
      let made : Limits → Result Limits Raised → Option Form = λ l r. Some (record { limits = l; index = Some (known_range r) }) in
      ap₂ made (some_same e) range-is

  abbrev zeros : ℕ → ℕ
  zeros t = 0

  calls-declared : (vars : Variables) → after_declaration k.setting.types false (calls_declared k.teller k.span) vars
      ≡ numbers_object k k.teller.acceptors zeros ∷ numbers_object k (names_of k).met zeros ∷ vars
  calls-declared vars =
      ap (λ (o : Option Form). declared_objects k.setting.types false (word_at k.span (names_of k).met ∷ word_at k.span k.teller.acceptors ∷ []) false
      (Some (IOthers (number k.span 0) k.span)) o vars)
      (form-is (mark_named k.setting.types record { 0 = 0 }) h.of_integer)
      ∙ ap (λ (m : ℕ). with_values (replicate m (Number (pos 0)))) (count-is (last_of k))
      ∙ ap with_values (values-all (Number (pos 0)) 0 (suc (last_of k)))
    where
      with_values : List Value → Variables
      with_values vs =
          record { name = k.teller.acceptors; limits = integer_limits; index = Some of_tasks; values = vs }
          ∷ record { name = (names_of k).met; limits = integer_limits; index = Some of_tasks; values = vs } ∷ vars

  -- the recorder's statements, with these variables
  abbrev before_header : Variables → Task
  before_header vars = standing k (control (stmt_then (header_put k.span k.header) (one (notes_taken k.teller k.span))) (OwnBody no_handler None) [] vars) []

  starts-there : starting k ≡ before_header (kept k empty_book)
  starts-there =
      ap (λ (vars : Variables). before_header (after_declaration k.setting.types false (calls_declared k.teller k.span) vars)) (flags-declared (names_of k).gone [])
      ∙ ap before_header (calls-declared (flags_object k (names_of k).gone down ∷ []))

  -- before its loop, with the header written
  abbrev before_loop : List ℕ → Task
  before_loop output = standing k (control (one (notes_taken k.teller k.span)) (OwnBody no_handler None) [] (kept k empty_book)) output

  header-is : (k.header ++ []) ++ line_end ≡ text (lines_of k) []
  header-is = ap (λ (x : List ℕ). x ++ line_end) (append-nil k.header) ∙ sym (append-nil (k.header ++ line_end))

  header-written : stepped (before_header (kept k empty_book)) ≡ before_loop (text (lines_of k) [])
  header-written = ap before_loop header-is

  pub starts : (can_step (starting k) ≡ true) × Comes (stepped (starting k)) (waiting k empty_book)
  starts =
      subst (λ (t : Task). (can_step t ≡ true) × Comes (stepped t) (waiting k empty_book)) (sym starts-there) (
        refl,
        subst (λ (t : Task). Comes t (waiting k empty_book)) (sym header-written)
            (step-first (before_loop (text (lines_of k) [])) (waiting k empty_book) (waiting k empty_book) refl refl refl (0, refl)),
      )

  -- ---- the wait

  pub waits : (b : Book) → Offers (waiting k b) (Waits (Accept note (pos 0) ∷ Terminate ∷ []))
  waits b = record { rests = refl; offers = ap (λ (n : ℕ). Waits (Accept n (pos 0) ∷ Terminate ∷ [])) h.found }

-- ---- the next turn

pub goes-on : (k : Recorder) (c : ℕ) (s : Spelled) (g : Value) (b : Book) → Comes (finished (hearing k c no_stmt (note_variables k s g b) (written_of k b))) (waiting k b)
goes-on k c s g b =
    step-first (standing k (control no_stmt (loop_around k) (behind_loop ∷ []) (kept k b)) (written_of k b)) (waiting k b) (waiting k b) refl refl refl (0, refl)
