-- The local steps of the recorder that write nothing: it keeps what a note tells, and tests what it has kept.
use Rattle.std.proofs.Common.{◌≡◌, ℕ, ◌≤◌, Bool, true, false, List, Option, Some, if◌then◌else◌, refl, ap, ◌∙◌}
use Rattle.std.specs.Prelude.{Result, Ok}
use Rattle.ada_tree.specs.declared.naming.NameId.{NameId}
use Rattle.ada_tree.specs.PlainStmt.{PStmts, no_stmt, stmt_then, PMaybe, present, absent}
use Rattle.ada_tree.specs.PlainExpr.{EName}
use Rattle.ada_value.specs.declared.values.Value.{Value}
use Rattle.ada_value.specs.declared.values.Value.TheVariants.{Truth}
use Rattle.ada_value.specs.declared.values.Raised.{Raised}
use Rattle.ada_value.specs.Values.{and_then, is_true_value}
use Rattle.ada_value.specs.Variables.{Object, Variables, object_named, checked_for, set_value}
use Rattle.ada_value.specs.Evaluating.{evaluated, signed_value}
use Rattle.ada_tree.specs.declared.expressions.UnaryOp.TheVariants.{Not}
use Rattle.task_model.specs.Tasks.{Task, gone_to, with_vars, stmts_or_none, entered, or_raised}
use Rattle.task_model.specs.Stands.{stepped}
use Rattle.task_model.specs.Steps.{assigned}
use Rattle.task_model.specs.Frames.{in_front}
use Rattle.normal_model.specs.Ranges.{word_at}
use Rattle.normal_model.specs.Making.{one}
use Rattle.run_laws.specs.collecting.Notes.{Book, flagged}
use Rattle.collect_model.specs.Lines.{call_line}
use Rattle.collect_model.specs.Recording.{truth, flag_set, answered, on_other_part, on_failed}
use Rattle.std.specs.Prelude.{codes}
use Rattle.collect_runs.specs.recorder.Recorders.{Recorder, IsRecorder}
use Rattle.collect_runs.specs.recorder.Telling.{Spelled}
use Rattle.collect_runs.specs.recorder.States.{note_variables, flags_object, hearing}
use Rattle.collect_runs.proofs.recorder.Finding.{met-named, gone-named, truth-is, truth-checked, gone-read, met-read, place-of, met-set, gone-set}
use Rattle.collect_runs.proofs.recorder.Writing.{on-to}

module _ (k : Recorder) (note : ℕ) (h : IsRecorder k note) (c : ℕ) (s : Spelled) (g : Value) (b : Book) where
  abbrev V : Variables
  V = note_variables k s g b

  -- ---- flags

  -- a flag of the task that the note is about becomes this
  abbrev changing : NameId → Bool → PStmts → List ℕ → Result Variables Raised → Task
  changing name v rest output r =
      let t : Task = hearing k c (stmt_then (flag_set k.span name k.names.subject v) rest) V output in
      or_raised (λ vars. gone_to rest (with_vars t vars)) t r

  changed-is : (name : NameId) (f : ℕ → Bool) (v : Bool) (rest : PStmts) (output : List ℕ) (after : Variables) → object_named V name ≡ Some (flags_object k name f) → s.subject ≤ k.last →
      set_value V name s.subject (Truth v) ≡ after →
      assigned (hearing k c (stmt_then (flag_set k.span name k.names.subject v) rest) V output) (record { name = word_at k.span name; index = Some (EName k.names.subject k.span) }) (truth k.span v) ≡ Ok after
  changed-is name f v rest output after named l set =
      ap (λ (r : Result ℕ Raised). and_then r (λ j. and_then (evaluated k.setting.types V (truth k.span v)) (λ w. and_then (checked_for (object_named V name) w) (λ u. Ok (set_value V name j u))))) (place-of k note h s g b name f named l)
      ∙ ap (λ (r : Result Value Raised). and_then r (λ w. and_then (checked_for (object_named V name) w) (λ u. Ok (set_value V name s.subject u)))) (truth-is k note h s g b v)
      ∙ ap (λ (o : Option Object). and_then (checked_for o (Truth v)) (λ u. Ok (set_value V name s.subject u))) named
      ∙ ap (λ (r : Result Value Raised). and_then r (λ u. Ok (set_value V name s.subject u))) (truth-checked v)
      ∙ ap (λ (vars : Variables). Ok vars) set

  pub met-kept : (v : Bool) (rest : PStmts) (output : List ℕ) → s.subject ≤ k.last →
      stepped (hearing k c (stmt_then (flag_set k.span k.names.met k.names.subject v) rest) V output)
      ≡ hearing k c rest (note_variables k s g (record { gone = b.gone; met = flagged b.met s.subject v; events = b.events })) output
  met-kept v rest output l =
      let b' : Book = record { gone = b.gone; met = flagged b.met s.subject v; events = b.events } in
      ap (changing k.names.met v rest output) (changed-is k.names.met b.met v rest output (note_variables k s g b') (met-named k note h s g b) l (met-set k note h s g b l v))
      ∙ on-to k c (stmt_then (flag_set k.span k.names.met k.names.subject v) rest) rest (note_variables k s g b') output

  pub gone-kept : (v : Bool) (rest : PStmts) (output : List ℕ) → s.subject ≤ k.last →
      stepped (hearing k c (stmt_then (flag_set k.span k.names.gone k.names.subject v) rest) V output)
      ≡ hearing k c rest (note_variables k s g (record { gone = flagged b.gone s.subject v; met = b.met; events = b.events })) output
  gone-kept v rest output l =
      let b' : Book = record { gone = flagged b.gone s.subject v; met = b.met; events = b.events } in
      ap (changing k.names.gone v rest output) (changed-is k.names.gone b.gone v rest output (note_variables k s g b') (gone-named k note h s g b) l (gone-set k note h s g b l v))
      ∙ on-to k c (stmt_then (flag_set k.span k.names.gone k.names.subject v) rest) rest (note_variables k s g b') output

  -- ---- tests

  -- the step into a branch, by the flag
  abbrev into : PStmts → PStmts → PMaybe → List ℕ → Result Bool Raised → Task
  into stmts one_way other_way output r =
      let t : Task = hearing k c stmts V output in
      or_raised (λ branch. entered (stmts_or_none branch) no_stmt t) t (and_then r (λ x. if x then Ok (present one_way) else Ok other_way))

  -- the other part of a call came too late, or not
  pub late-tested : (letter : List ℕ) (output : List ℕ) (late : Bool) → s.owner ≤ k.last → b.gone s.owner ≡ late →
      stepped (hearing k c (on_other_part k.names k.span letter) V output)
      ≡ hearing k c (if late then in_front (call_line k.names k.span (codes "F")) (one (answered k.names k.span true)) else call_line k.names k.span letter) V output
  late-tested letter output late l q =
      ap (λ (r : Result Value Raised). into (on_other_part k.names k.span letter) (in_front (call_line k.names k.span (codes "F")) (one (answered k.names k.span true))) (present (call_line k.names k.span letter)) output (and_then r (λ v. Ok (is_true_value v))))
      (gone-read k note h s g b l ∙ ap (λ (x : Bool). Ok (Truth x)) q)
      ∙ by late
    where
      by : (x : Bool) →
          into (on_other_part k.names k.span letter) (in_front (call_line k.names k.span (codes "F")) (one (answered k.names k.span true))) (present (call_line k.names k.span letter)) output (Ok (is_true_value (Truth x)))
          ≡ hearing k c (if x then in_front (call_line k.names k.span (codes "F")) (one (answered k.names k.span true)) else call_line k.names k.span letter) V output
      by true = refl
      by false = refl

  -- a call at which TASKING_ERROR is raised had been accepted, or not
  pub met-tested : (output : List ℕ) (met : Bool) → s.subject ≤ k.last → b.met s.subject ≡ met →
      stepped (hearing k c (on_failed k.names k.span) V output) ≡ hearing k c (if met then no_stmt else call_line k.names k.span (codes "F")) V output
  met-tested output met l q =
      ap (λ (r : Result Value Raised). into (on_failed k.names k.span) (call_line k.names k.span (codes "F")) absent output (and_then (and_then r (λ v. signed_value Not v)) (λ v. Ok (is_true_value v))))
      (met-read k note h s g b l ∙ ap (λ (x : Bool). Ok (Truth x)) q)
      ∙ by met
    where
      by : (x : Bool) →
          into (on_failed k.names k.span) (call_line k.names k.span (codes "F")) absent output (and_then (signed_value Not (Truth x)) (λ v. Ok (is_true_value v)))
          ≡ hearing k c (if x then no_stmt else call_line k.names k.span (codes "F")) V output
      by true = refl
      by false = refl
