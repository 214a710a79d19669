-- Where the recorder of a text with abort statements stands (5.5, 9.5, 9.7.1, 9.10; this project's rule): at its start, at its selective wait, or in the
-- accept body of NOTE, where it writes a line, is to abort a task, or is at the end.
use Rattle.std.specs.Prelude.{◌≡◌, ℕ, pos, zero, suc, Bool, true, false, List, [], ◌∷◌, ◌++◌, Some, None, Ok}
use Rattle.event_machine.specs.declared.Event.TheVariants.{B}
use Rattle.ada_tree.specs.declared.naming.NameId.{NameId}
use Rattle.ada_tree.specs.declared.naming.Span.{Span}
use Rattle.ada_tree.specs.PlainStmt.{PCallee, PStmt, SAbort, SWait, PStmts, no_stmt, stmt_then, absent, alternative, AAccept, ATerminate, no_alt, alt_then}
use Rattle.ada_tree.specs.PlainStmt.{body, no_handler}
use Rattle.ada_tree.specs.PlainDecl.{decls_of}
use Rattle.ada_static_rules.specs.Scope.{integer_kind}
use Rattle.ada_value.specs.declared.values.Limits.{Limits}
use Rattle.ada_value.specs.declared.values.Value.{Value}
use Rattle.ada_value.specs.declared.values.Value.TheVariants.{Number, Truth}
use Rattle.ada_value.specs.Values.{limits_named, integer_limits, truth_limits}
use Rattle.ada_value.specs.Variables.{Object, Variables}
use Rattle.task_model.specs.declared.parameters.FormalParameter.{FormalParameter}
use Rattle.task_model.specs.Setting.{parameters_of, callee_task}
use Rattle.task_model.specs.Frames.{Around, OwnBody, Loop, Endless, Opened, PFrame, Control, control}
use Rattle.task_model.specs.Tasks.{Task}
use Rattle.task_model.specs.Stands.{can_step, stepped}
use Rattle.task_model.specs.Starting.{Unit as TaskUnit, started_in}
use Rattle.normal_model.specs.Making.{one}
use Rattle.table_law.specs.States.{Comes}
use Rattle.run_laws.specs.collecting.Notes.{Lines, text}
use Rattle.collect_model.specs.Lines.{header_put}
use Rattle.collect_model.specs.Recording.{note_formals, flags_declared}
use Rattle.collect_runs.specs.lines.Pieces.{lines_with}
use Rattle.collect_runs.specs.recorder.Telling.{Spelled}
use Rattle.collect_model.specs.aborts.AbortTeller.{AbortTeller}
use Rattle.collect_model.specs.aborts.Recording.{calls_declared, note_accept, notes_taken}
use Rattle.run_laws.specs.aborts.Notes.{Note, ToAbort, Book, answer_of, recorded}
use Rattle.collect_runs.specs.aborts.recorder.Recorders.{Recorder, names_of, last_of}

-- how it writes
abbrev pub lines_of : Recorder → Lines
lines_of k = lines_with k.header

-- what it has written where these events are recorded
abbrev pub written_of : Recorder → Book → List ℕ
written_of k b = text (lines_of k) b.events

-- the recorder where it stands so, having written this
abbrev pub standing : Recorder → Control → List ℕ → Task
standing k c output = record { setting = k.setting; number = k.number; control = c; input = k.input; output = output }

-- ---- variables

-- the values of so many tasks, from the task t on
abbrev pub values_from : (ℕ → Value) → ℕ → ℕ → List Value
values_from f t zero = []
values_from f t (suc n) = f t ∷ values_from f (suc t) n

-- an array with a value for each task
abbrev pub table_object : Recorder → NameId → Limits → (ℕ → Value) → Object
table_object k name limits f = record {
  name = name;
  limits = limits;
  index = Some record { kind = integer_kind; first = pos 0; last = pos (last_of k) };
  values = values_from f 0 (suc (last_of k));
}

-- an array of numbers, and one of flags
abbrev pub numbers_object : Recorder → NameId → (ℕ → ℕ) → Object
numbers_object k name f = table_object k name integer_limits (λ t. Number (pos (f t)))

abbrev pub flags_object : Recorder → NameId → (ℕ → Bool) → Object
flags_object k name f = table_object k name truth_limits (λ t. Truth (f t))

-- what it keeps, the latest first
abbrev pub kept : Recorder → Book → Variables
kept k b = numbers_object k k.teller.acceptors b.acceptor ∷ numbers_object k (names_of k).met b.met ∷ flags_object k (names_of k).gone b.gone ∷ []

-- a formal of NOTE with a value: INTEGER has the first name, and BOOLEAN the fourth
abbrev pub formal_object : Recorder → NameId → ℕ → Value → Object
formal_object k name mark v = record { name = name; limits = limits_named k.setting.types record { 0 = mark }; index = None; values = v ∷ [] }

-- the formals with what a note says, and this answer, in front of what it keeps
abbrev pub note_variables : Recorder → Spelled → Value → Book → Variables
note_variables k s g b =
    formal_object k (names_of k).kind 0 (Number (pos s.kind)) ∷ formal_object k (names_of k).subject 0 (Number (pos s.subject))
    ∷ formal_object k (names_of k).argument 0 (Number (pos s.argument)) ∷ formal_object k (names_of k).index 0 s.index
    ∷ formal_object k (names_of k).owner 0 (Number (pos s.owner)) ∷ formal_object k (names_of k).reply 3 g ∷ kept k b

-- ---- at the start

-- the unit of the recorder
abbrev pub recorder_unit : Recorder → TaskUnit
recorder_unit k = record {
  in_main = false;
  decls = decls_of (flags_declared (names_of k) k.span (names_of k).gone ∷ calls_declared k.teller k.span ∷ []);
  body = body (stmt_then (header_put k.span k.header) (one (notes_taken k.teller k.span))) no_handler;
}

-- As the program starts.
abbrev pub starting : Recorder → Task
starting k = started_in k.setting k.number (recorder_unit k) k.input

-- ---- at its wait

-- the selective wait in its loop
abbrev pub notes_awaited : AbortTeller → Span → PStmt
notes_awaited x s = SWait (alt_then (alternative None (AAccept (note_accept x s) no_stmt) s) (alt_then (alternative None ATerminate s) no_alt)) absent s

-- what the frame of a turn stands in
abbrev pub loop_around : Recorder → Around
loop_around k = Loop None Endless (one (notes_awaited k.teller k.span))

-- the frame behind the loop, which it never comes to
abbrev pub behind_loop : PFrame
behind_loop = record { rest = no_stmt; place = OwnBody no_handler None }

-- At its wait, with what it keeps, and all lines of the events written.
abbrev pub waiting : Recorder → Book → Task
waiting k b = standing k (control (one (notes_awaited k.teller k.span)) (loop_around k) (behind_loop ∷ []) (kept k b)) (written_of k b)

-- ---- in its accept body

-- the formals of NOTE
abbrev pub note_parameters : Recorder → List FormalParameter
note_parameters k = parameters_of k.setting.types (note_formals (names_of k) k.span)

-- a turn whose statements are over, around the accept body
abbrev pub turn_frame : Recorder → PFrame
turn_frame k = record { rest = no_stmt; place = loop_around k }

-- In the accept body that the task c has called, before these statements.
abbrev pub hearing : Recorder → ℕ → PStmts → Variables → List ℕ → Task
hearing k c stmts vars output = standing k (control stmts (Opened c (note_parameters k) None) (turn_frame k ∷ behind_loop ∷ []) vars) output

-- The recorder at the end of its accept body, with the answer to the task c.
pub record IsNoted (k : Recorder) (c : ℕ) (answer : Bool) (b : Book) (t : Task) : Type 0 where
  pub said : Spelled
  pub is : t ≡ hearing k c no_stmt (note_variables k said (Truth answer) b) (written_of k b)

-- The recorder in its accept body with the note of the task c that a is to abort v: it has written the line, and is before its abort statement. It keeps
-- already what it is to keep.
pub record IsStriking (k : Recorder) (c : ℕ) (b : Book) (a v : ℕ) (t : Task) : Type 0 where
  pub said : Spelled
  pub callee : PCallee
  pub meant : callee_task k.setting (note_variables k said (Truth false) (recorded b (ToAbort a v))) callee ≡ Ok v
  pub is : t
      ≡ hearing k c (one (SAbort (callee ∷ []) k.span)) (note_variables k said (Truth false) (recorded b (ToAbort a v)))
      (text (lines_of k) (b.events ++ B a v ∷ []))

-- where the recorder is as the line of a note has ended
abbrev pub IsLineEnded : Recorder → ℕ → Book → Note → Task → Type 0
IsLineEnded k c b (ToAbort a v) t = IsStriking k c b a v t
IsLineEnded k c b n t = IsNoted k c (answer_of b n) (recorded b n) t

-- The recorder in its accept body with the note of the task c: it has written these pieces of the line, and writes these that are left, one local step
-- each. The next step ends the line, where there is one, and from there it comes to where the line has ended.
abbrev pub IsWriting : Recorder → ℕ → Book → Note → List ℕ → List (List ℕ) → Task → Type 0
IsWriting k c b n done [] t = (t.output ≡ written_of k b ++ done) × (can_step t ≡ true) × ((u : Task) × Comes (stepped t) u × IsLineEnded k c b n u)
IsWriting k c b n done (piece ∷ left) t = (t.output ≡ written_of k b ++ done) × (can_step t ≡ true) × IsWriting k c b n (done ++ piece) left (stepped t)
