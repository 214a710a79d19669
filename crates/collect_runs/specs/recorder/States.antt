-- Where the recorder stands (5.5, 9.5, 9.7.1; this project's rule): at its start, at its selective wait, or in the accept body of NOTE, before a piece of the line or its end, or at the end of the body.
use Rattle.std.specs.Prelude.{◌≡◌, ℕ, ℤ, pos, ◌≤◌, zero, suc, Bool, true, false, List, [], ◌∷◌, ◌++◌, map, Some, None, if◌then◌else◌}
use Rattle.std.specs.List.{concat}
use Rattle.event_machine.specs.declared.Event.{Event}
use Rattle.ada_tree.specs.declared.naming.NameId.{NameId}
use Rattle.ada_tree.specs.declared.naming.Span.{Span}
use Rattle.ada_tree.specs.PlainStmt.{PStmt, SNewLine, SWait, PStmts, no_stmt, stmt_then, absent, alternative, AAccept, ATerminate, no_alt, alt_then, body, no_handler}
use Rattle.ada_tree.specs.PlainDecl.{decls_of}
use Rattle.ada_static_rules.specs.Scope.{integer_kind}
use Rattle.ada_value.specs.declared.values.Value.{Value}
use Rattle.ada_value.specs.declared.values.Value.TheVariants.{Number, Truth}
use Rattle.ada_value.specs.Values.{position_of, limits_named, truth_limits}
use Rattle.ada_value.specs.Variables.{Object, Variables}
use Rattle.ada_value.specs.Texts.{integer_text}
use Rattle.task_model.specs.declared.parameters.FormalParameter.{FormalParameter}
use Rattle.task_model.specs.Setting.{parameters_of}
use Rattle.task_model.specs.Frames.{Around, OwnBody, Loop, Endless, Opened, PFrame, Control, control}
use Rattle.task_model.specs.Tasks.{Task}
use Rattle.task_model.specs.Starting.{Unit as TaskUnit, started_in}
use Rattle.normal_model.specs.Making.{one}
use Rattle.run_laws.specs.collecting.Notes.{Note, BeforeCall, HasFailed, Book, line_of, answer_of, recorded, Lines, text}
use Rattle.collect_model.specs.declared.AddedNames.{AddedNames}
use Rattle.collect_model.specs.Lines.{put_words, put_number, header_put}
use Rattle.collect_model.specs.Recording.{note_formals, flags_declared, answered, on_before_call, on_failed, note_accept, notes_taken}
use Rattle.collect_runs.specs.lines.Pieces.{front, lines_with}
use Rattle.collect_runs.specs.recorder.Recorders.{Recorder}
use Rattle.collect_runs.specs.recorder.Telling.{Spelled, spelled}

-- how it writes
abbrev pub lines_of : Recorder → Lines
lines_of k = lines_with k.header

-- the recorder where it stands so, having written this
abbrev pub standing : Recorder → Control → List ℕ → Task
standing k c output = record { setting = k.setting; number = k.number; control = c; input = k.input; output = output }

-- ---- variables

-- the flags of so many tasks, from the task t on
abbrev pub flags_from : (ℕ → Bool) → ℕ → ℕ → List Value
flags_from f t zero = []
flags_from f t (suc n) = Truth (f t) ∷ flags_from f (suc t) n

-- an array of flags
abbrev pub flags_object : Recorder → NameId → (ℕ → Bool) → Object
flags_object k name f = record {
  name = name;
  limits = truth_limits;
  index = Some record { kind = integer_kind; first = pos 0; last = pos k.last };
  values = flags_from f 0 (suc k.last);
}

-- what it keeps, the latest first
abbrev pub kept : Recorder → Book → Variables
kept k b = flags_object k k.names.met b.met ∷ flags_object k k.names.gone b.gone ∷ []

-- a formal of NOTE with a value: INTEGER has the first name, and BOOLEAN the fourth
abbrev pub formal_object : Recorder → NameId → ℕ → Value → Object
formal_object k name mark v = record { name = name; limits = limits_named k.setting.types record { 0 = mark }; index = None; values = v ∷ [] }

-- the formals with what a note says, and this answer, in front of what it keeps
abbrev pub note_variables : Recorder → Spelled → Value → Book → Variables
note_variables k s g b =
    formal_object k k.names.kind 0 (Number (pos s.kind)) ∷ formal_object k k.names.subject 0 (Number (pos s.subject)) ∷ formal_object k k.names.argument 0 (Number (pos s.argument))
    ∷ formal_object k k.names.index 0 s.index ∷ formal_object k k.names.owner 0 (Number (pos s.owner)) ∷ formal_object k k.names.reply 3 g ∷ kept k b

-- ---- at the start

-- the unit of the recorder
abbrev pub recorder_unit : Recorder → TaskUnit
recorder_unit k = record {
  in_main = false;
  decls = decls_of (flags_declared k.names k.span k.names.gone ∷ flags_declared k.names k.span k.names.met ∷ []);
  body = body (stmt_then (header_put k.span k.header) (one (notes_taken k.names k.span))) no_handler;
}

-- As the program starts.
abbrev pub starting : Recorder → Task
starting k = started_in k.setting k.number (recorder_unit k) k.input

-- ---- at its wait

-- the selective wait in its loop
abbrev pub notes_awaited : AddedNames → Span → PStmt
notes_awaited n s = SWait (alt_then (alternative None (AAccept (note_accept n s) no_stmt) s) (alt_then (alternative None ATerminate s) no_alt)) absent s

-- what the frame of a turn stands in
abbrev pub loop_around : Recorder → Around
loop_around k = Loop None Endless (one (notes_awaited k.names k.span))

-- the frame behind the loop, which it never comes to
abbrev pub behind_loop : PFrame
behind_loop = record { rest = no_stmt; place = OwnBody no_handler None }

-- At its wait, with what it keeps, and all lines of the events written.
abbrev pub waiting : Recorder → Book → Task
waiting k b = standing k (control (one (notes_awaited k.names k.span)) (loop_around k) (behind_loop ∷ []) (kept k b)) (text (lines_of k) b.events)

-- ---- in its accept body

-- the formals of NOTE
abbrev pub note_parameters : Recorder → List FormalParameter
note_parameters k = parameters_of k.setting.types (note_formals k.names k.span)

-- a turn whose statements are over, around the accept body
abbrev pub turn_frame : Recorder → PFrame
turn_frame k = record { rest = no_stmt; place = loop_around k }

-- In the accept body that the task c has called, before these statements.
abbrev pub hearing : Recorder → ℕ → PStmts → Variables → List ℕ → Task
hearing k c stmts vars output = standing k (control stmts (Opened c (note_parameters k) None) (turn_frame k ∷ behind_loop ∷ []) vars) output

-- What one PUT of the recorder writes: words, or a number of the note.
pub data Piece : Type 0 where
  Words : List ℕ → Piece
  Subject : Piece
  Argument : Piece
  Index : Piece

abbrev pub piece_put : Recorder → Piece → PStmt
piece_put k (Words w) = put_words k.span w
piece_put k Subject = put_number k.span k.names.subject
piece_put k Argument = put_number k.span k.names.argument
piece_put k Index = put_number k.span k.names.index

-- the text of a piece
abbrev pub piece_text : Spelled → Piece → List ℕ
piece_text s (Words w) = w
piece_text s Subject = integer_text (pos s.subject)
piece_text s Argument = integer_text (pos s.argument)
piece_text s Index = integer_text (position_of s.index)

-- the statements that write pieces, in front of others
abbrev pub pieces_put : Recorder → List Piece → PStmts → PStmts
pieces_put k [] rest = rest
pieces_put k (p ∷ ps) rest = stmt_then (piece_put k p) (pieces_put k ps rest)

-- the end of a line; where the answer is TRUE it is given behind that
abbrev pub line_ended : Recorder → Bool → PStmts
line_ended k answer = stmt_then (SNewLine k.span) (if answer then one (answered k.names k.span true) else no_stmt)

-- The recorder in its accept body with the note of the task c: it has written these pieces of the line, and these are left before the line's end.
pub data IsWriting (k : Recorder) (c : ℕ) (b : Book) (n : Note) (done : List ℕ) (left : List (List ℕ)) (t : Task) : Type 0 where
  -- it is before the next piece, or the line's end, and keeps already what it is to keep
  AtLine : (e : Event) (other : ℕ) (i : Value) (ps : List Piece) → line_of b n ≡ Some e → left ≡ map (piece_text (spelled n other i)) ps → done ++ concat left ≡ concat (front e) →
      t ≡ hearing k c (pieces_put k ps (line_ended k (answer_of b n))) (note_variables k (spelled n other i) (Truth false) (recorded b n)) (text (lines_of k) b.events ++ done) →
      IsWriting k c b n done left t
  -- it has nothing to write: it is before it keeps that a task's call is to come, or before its test whether the call had been accepted
  AtCall : (subject other : ℕ) (i : Value) → n ≡ BeforeCall subject → subject ≤ k.last → done ≡ [] → left ≡ [] →
      t ≡ hearing k c (on_before_call k.names k.span) (note_variables k (spelled n other i) (Truth false) b) (text (lines_of k) b.events) → IsWriting k c b n done left t
  AtTest : (subject e : ℕ) (z : ℤ) (other : ℕ) (i : Value) → n ≡ HasFailed subject e z → subject ≤ k.last → b.met subject ≡ true → done ≡ [] → left ≡ [] →
      t ≡ hearing k c (on_failed k.names k.span) (note_variables k (spelled n other i) (Truth false) b) (text (lines_of k) b.events) → IsWriting k c b n done left t

-- The recorder at the end of its accept body, with the answer to the task c.
pub record IsNoted (k : Recorder) (c : ℕ) (answer : Bool) (b : Book) (t : Task) : Type 0 where
  pub said : Spelled
  pub is : t ≡ hearing k c no_stmt (note_variables k said (Truth answer) b) (text (lines_of k) b.events)
