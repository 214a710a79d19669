-- The local steps of the recorder that write: a piece of a line, and the line's end; and the one by which it gives its answer.
use Rattle.std.proofs.Common.{◌≡◌, ℕ, Bool, true, false, List, [], ◌∷◌, ◌++◌, Option, None, append-nil, if◌then◌else◌, refl, ap, ◌∙◌}
use Rattle.std.specs.Prelude.{pos, Result, Ok}
use Rattle.ada_tree.specs.declared.naming.NameId.{NameId}
use Rattle.ada_tree.specs.PlainStmt.{SNewLine, PStmts, no_stmt, stmt_then}
use Rattle.ada_value.specs.declared.values.Value.{Value}
use Rattle.ada_value.specs.declared.values.Value.TheVariants.{Truth}
use Rattle.ada_value.specs.declared.values.Raised.{Raised}
use Rattle.ada_value.specs.declared.values.Limits.{Limits}
use Rattle.ada_value.specs.Values.{and_then, checked, position_of}
use Rattle.ada_value.specs.Variables.{Object, Variables, object_named, checked_for, set_value}
use Rattle.ada_value.specs.Evaluating.{name_value}
use Rattle.ada_value.specs.Texts.{integer_text}
use Rattle.task_model.specs.Frames.{Opened, Control, control, settled_in}
use Rattle.task_model.specs.Tasks.{Task, gone_to, with_text, with_vars, or_raised}
use Rattle.task_model.specs.Stands.{can_step, stepped}
use Rattle.task_model.specs.Steps.{line_end, assigned}
use Rattle.normal_model.specs.Ranges.{word_at}
use Rattle.table_law.specs.States.{Comes}
use Rattle.table_law.proofs.Turning.{step-first}
use Rattle.run_laws.specs.collecting.Notes.{Book}
use Rattle.collect_model.specs.Recording.{truth, answered}
use Rattle.collect_runs.specs.recorder.Recorders.{Recorder, IsRecorder}
use Rattle.collect_runs.specs.recorder.Telling.{Spelled}
use Rattle.collect_runs.specs.recorder.States.{note_variables, note_parameters, turn_frame, behind_loop, standing, hearing, Piece, Words, Subject, Argument, Index, piece_put, piece_text}
use Rattle.collect_runs.proofs.recorder.Finding.{subject-named, argument-named, index-named, reply-named, truth-is, truth-checked, reply-set}

module _ (k : Recorder) (c : ℕ) where
  -- nothing is left early there
  settles : (rest : PStmts) (vars : Variables) →
      settled_in (turn_frame k ∷ behind_loop ∷ []) rest (Opened c (note_parameters k) None) vars ≡ control rest (Opened c (note_parameters k) None) (turn_frame k ∷ behind_loop ∷ []) vars
  settles no_stmt vars = refl
  settles (stmt_then s rest) vars = refl

  pub on-to : (stmts rest : PStmts) (vars : Variables) (output : List ℕ) → gone_to rest (hearing k c stmts vars output) ≡ hearing k c rest vars output
  on-to stmts rest vars output = ap (λ (x : Control). standing k x output) (settles rest vars)

  -- what a step makes that writes this text
  abbrev writing : PStmts → PStmts → Variables → List ℕ → Result (List ℕ) Raised → Task
  writing stmts rest vars output r = or_raised (λ text. gone_to rest (with_text (hearing k c stmts vars output) (text ++ []))) (hearing k c stmts vars output) r

  wrote : (stmts rest : PStmts) (vars : Variables) (output text : List ℕ) → writing stmts rest vars output (Ok (text ++ [])) ≡ hearing k c rest vars (output ++ text)
  wrote stmts rest vars output text =
      ap (λ (x : List ℕ). gone_to rest (with_text (hearing k c stmts vars output) x)) (append-nil (text ++ []) ∙ append-nil text)
      ∙ on-to stmts rest vars (output ++ text)

  -- the text of the part that is this variable
  abbrev text_of : PStmts → PStmts → Variables → List ℕ → NameId → Option Object → Task
  text_of stmts rest vars output name o =
      writing stmts rest vars output (and_then (and_then (Ok (name_value k.setting.types o name)) (λ v. Ok (integer_text (position_of v)))) (λ a. and_then (Ok []) (λ b. Ok (a ++ b))))

  -- the end of a line
  pub line-written : (rest : PStmts) (vars : Variables) (output : List ℕ) → stepped (hearing k c (stmt_then (SNewLine k.span) rest) vars output) ≡ hearing k c rest vars (output ++ line_end)
  line-written rest vars output = on-to (stmt_then (SNewLine k.span) rest) rest vars (output ++ line_end)

module _ (k : Recorder) (note : ℕ) (h : IsRecorder k note) (c : ℕ) (s : Spelled) (g : Value) (b : Book) where
  abbrev V : Variables
  V = note_variables k s g b

  -- a piece is written in one step
  pub piece-written : (p : Piece) (rest : PStmts) (output : List ℕ) →
      (can_step (hearing k c (stmt_then (piece_put k p) rest) V output) ≡ true) × (stepped (hearing k c (stmt_then (piece_put k p) rest) V output) ≡ hearing k c rest V (output ++ piece_text s p))
  piece-written (Words w) rest output = (refl, wrote k c (stmt_then (piece_put k (Words w)) rest) rest V output w)
  piece-written Subject rest output =
      (refl, ap (text_of k c (stmt_then (piece_put k Subject) rest) rest V output k.names.subject) (subject-named k note h s g b) ∙ wrote k c (stmt_then (piece_put k Subject) rest) rest V output (integer_text (pos s.subject)))
  piece-written Argument rest output =
      (refl, ap (text_of k c (stmt_then (piece_put k Argument) rest) rest V output k.names.argument) (argument-named k note h s g b) ∙ wrote k c (stmt_then (piece_put k Argument) rest) rest V output (integer_text (pos s.argument)))
  piece-written Index rest output = (
    refl,
    ap (text_of k c (stmt_then (piece_put k Index) rest) rest V output k.names.index) (index-named k note h s g b)
        ∙ wrote k c (stmt_then (piece_put k Index) rest) rest V output (integer_text (position_of s.index)),
  )

  -- the step by which the answer is given
  abbrev answering : Bool → PStmts → List ℕ → Result Variables Raised → Task
  answering v rest output r =
      let t : Task = hearing k c (stmt_then (answered k.names k.span v) rest) V output in
      or_raised (λ vars. gone_to rest (with_vars t vars)) t r

  answer-is : (v : Bool) (rest : PStmts) (output : List ℕ) →
      assigned (hearing k c (stmt_then (answered k.names k.span v) rest) V output) (record { name = word_at k.span k.names.reply; index = None }) (truth k.span v) ≡ Ok (note_variables k s (Truth v) b)
  answer-is v rest output =
      ap (λ (r : Result Value Raised). and_then r (λ w. and_then (checked_for (object_named V k.names.reply) w) (λ u. Ok (set_value V k.names.reply 0 u)))) (truth-is k note h s g b v)
      ∙ ap (λ (o : Option Object). and_then (checked_for o (Truth v)) (λ u. Ok (set_value V k.names.reply 0 u))) (reply-named k note h s g b)
      ∙ ap (λ (l : Limits). and_then (checked l (Truth v)) (λ u. Ok (set_value V k.names.reply 0 u))) h.of_truth
      ∙ ap (λ (r : Result Value Raised). and_then r (λ u. Ok (set_value V k.names.reply 0 u))) (truth-checked v)
      ∙ ap (λ (vars : Variables). Ok vars) (reply-set k note h s g b (Truth v))

  pub answer-given : (v : Bool) (rest : PStmts) (output : List ℕ) →
      stepped (hearing k c (stmt_then (answered k.names k.span v) rest) V output) ≡ hearing k c rest (note_variables k s (Truth v) b) output
  answer-given v rest output =
      ap (answering v rest output) (answer-is v rest output) ∙ on-to k c (stmt_then (answered k.names k.span v) rest) rest (note_variables k s (Truth v) b) output

  -- behind the line's end: the answer TRUE is given, where it is
  pub behind-line : (v : Bool) (output : List ℕ) → g ≡ Truth false →
      Comes (hearing k c (if v then stmt_then (answered k.names k.span true) no_stmt else no_stmt) V output) (hearing k c no_stmt (note_variables k s (Truth v) b) output)
  behind-line true output q =
      let there : Task = hearing k c no_stmt (note_variables k s (Truth true) b) output in
      step-first (hearing k c (stmt_then (answered k.names k.span true) no_stmt) V output) there there refl (answer-given true no_stmt output) refl (0, refl)
  behind-line false output q = (0, ap (λ (x : Value). hearing k c no_stmt (note_variables k s x b) output) q)
