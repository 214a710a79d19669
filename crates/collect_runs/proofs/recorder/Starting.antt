-- How the recorder starts, what it offers at its wait, and how it goes on to its next turn.
use Rattle.std.proofs.Common.{◌≡◌, ℕ, suc, Bool, true, false, List, [], ◌∷◌, ◌++◌, replicate, Option, Some, None, append-nil, refl, sym, ap, ◌∙◌, subst, arith}
use Rattle.std.specs.Prelude.{pos, ◌+ℤ◌, ◌-ℤ◌, Result}
use Rattle.std.proofs.lemmas.Int.{ints}
use Rattle.event_machine.specs.declared.Choice.TheVariants.{Accept, Terminate}
use Rattle.event_machine.specs.Offers.{Waits}
use Rattle.ada_tree.specs.declared.naming.NameId.{NameId}
use Rattle.ada_tree.specs.PlainStmt.{no_stmt, stmt_then, no_handler}
use Rattle.ada_tree.specs.PlainDecl.{IOthers}
use Rattle.syn_event.specs.Extents.{count_to}
use Rattle.ada_value.specs.declared.values.Value.{Value}
use Rattle.ada_value.specs.declared.values.Value.TheVariants.{Truth}
use Rattle.ada_value.specs.declared.values.Raised.{Raised}
use Rattle.ada_value.specs.declared.values.Form.{Form}
use Rattle.ada_value.specs.Values.{truth_limits}
use Rattle.ada_value.specs.Variables.{Variables}
use Rattle.task_model.specs.Frames.{OwnBody, control}
use Rattle.task_model.specs.Tasks.{Task}
use Rattle.task_model.specs.Stands.{can_step, stepped}
use Rattle.task_model.specs.Starting.{value_or_lower, declared_objects, after_declaration}
use Rattle.task_model.specs.Steps.{line_end}
use Rattle.task_model.specs.Rendezvous.{finished}
use Rattle.normal_model.specs.Making.{one}
use Rattle.normal_model.specs.Ranges.{word_at}
use Rattle.table_law.specs.States.{Comes, Offers}
use Rattle.table_law.proofs.Turning.{step-first}
use Rattle.run_laws.specs.collecting.Notes.{Book, empty_book, text}
use Rattle.collect_model.specs.Lines.{header_put}
use Rattle.collect_model.specs.Recording.{truth, flags_declared, notes_taken}
use Rattle.collect_runs.specs.recorder.Recorders.{Recorder, IsRecorder}
use Rattle.collect_runs.specs.recorder.Telling.{Spelled}
use Rattle.collect_runs.specs.recorder.States.{lines_of, standing, flags_object, kept, note_variables, starting, loop_around, behind_loop, waiting, hearing, notes_awaited}
use Rattle.collect_runs.proofs.recorder.Flags.{flags-down}
use Rattle.collect_runs.proofs.recorder.Finding.{truth-alone}

pub count-is : (n : ℕ) → count_to ((pos n -ℤ pos 0) +ℤ pos 1) ≡ suc n
count-is n = let e : (pos n -ℤ pos 0) +ℤ pos 1 ≡ pos (suc n) = omega (arith, ints) in ap count_to e

module _ (k : Recorder) (note : ℕ) (h : IsRecorder k note) where
  -- ---- the start

  abbrev down : ℕ → Bool
  down t = false

  -- an array of flags starts with all of them down
  declared-is : (name : NameId) (vars : Variables) → after_declaration k.setting.types false (flags_declared k.names k.span name) vars ≡ flags_object k name down ∷ vars
  declared-is name vars =
      ap (λ (o : Option Form). declared_objects k.setting.types false (word_at k.span name ∷ []) false (Some (IOthers (truth k.span false) k.span)) o vars) h.of_flags
      ∙ ap (λ (r : Result Value Raised). with_values (replicate (count_to ((pos k.last -ℤ pos 0) +ℤ pos 1)) (value_or_lower k.setting.types truth_limits r))) (truth-alone k.setting.types k.span false)
      ∙ ap (λ (m : ℕ). with_values (replicate m (Truth false))) (count-is k.last)
      ∙ ap with_values (flags-down 0 (suc k.last))
    where
      with_values : List Value → Variables
      with_values vs = record { name = name; limits = truth_limits; index = (flags_object k name down).index; values = vs } ∷ vars

  -- the recorder's statements, with these variables
  abbrev before_header : Variables → Task
  before_header vars = standing k (control (stmt_then (header_put k.span k.header) (one (notes_taken k.names k.span))) (OwnBody no_handler None) [] vars) []

  starts-there : starting k ≡ before_header (kept k empty_book)
  starts-there =
      ap (λ (vars : Variables). before_header (after_declaration k.setting.types false (flags_declared k.names k.span k.names.met) vars)) (declared-is k.names.gone [])
      ∙ ap before_header (declared-is k.names.met (flags_object k k.names.gone down ∷ []))

  -- before its loop, with the header written
  abbrev before_loop : List ℕ → Task
  before_loop output = standing k (control (one (notes_taken k.names k.span)) (OwnBody no_handler None) [] (kept k empty_book)) output

  header-is : (k.header ++ []) ++ line_end ≡ text (lines_of k) []
  header-is = ap (λ (x : List ℕ). x ++ line_end) (append-nil k.header) ∙ sym (append-nil (k.header ++ line_end))

  header-written : stepped (before_header (kept k empty_book)) ≡ before_loop (text (lines_of k) [])
  header-written = ap before_loop header-is

  pub starts : (can_step (starting k) ≡ true) × Comes (stepped (starting k)) (waiting k empty_book)
  starts =
      subst (λ (t : Task). (can_step t ≡ true) × Comes (stepped t) (waiting k empty_book)) (sym starts-there) (
        refl,
        subst (λ (t : Task). Comes t (waiting k empty_book)) (sym header-written)
            (step-first (before_loop (text (lines_of k) [])) (waiting k empty_book) (waiting k empty_book) refl refl refl (0, refl)),
      )

  -- ---- the wait

  pub waits : (b : Book) → Offers (waiting k b) (Waits (Accept note (pos 0) ∷ Terminate ∷ []))
  waits b = record { rests = refl; offers = ap (λ (n : ℕ). Waits (Accept n (pos 0) ∷ Terminate ∷ [])) h.found }

-- ---- the next turn

pub goes-on : (k : Recorder) (c : ℕ) (s : Spelled) (g : Value) (b : Book) (output : List ℕ) → output ≡ text (lines_of k) b.events →
    Comes (finished (hearing k c no_stmt (note_variables k s g b) output)) (waiting k b)
goes-on k c s g b output is =
    let over : Task = standing k (control no_stmt (loop_around k) (behind_loop ∷ []) (kept k b)) output in
    let there : Task = standing k (control (one (notes_awaited k.names k.span)) (loop_around k) (behind_loop ∷ []) (kept k b)) output in
    subst (λ (t : Task). Comes over t) (ap (λ (x : List ℕ). standing k (control (one (notes_awaited k.names k.span)) (loop_around k) (behind_loop ∷ []) (kept k b)) x) is)
    (step-first over there there refl refl refl (0, refl))
