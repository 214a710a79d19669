-- How the recorder writes a line and ends it, and how it goes on to its wait.
use Rattle.std.proofs.Common.{◌≡◌, ℕ, ◌≤◌, Bool, true, false, List, [], ◌∷◌, ◌++◌, map, Option, Some, None, option_to_list, append-nil, append_assoc, if◌then◌else◌, refl, sym, ap, ◌∙◌, subst}
use Rattle.std.specs.Prelude.{ℤ}
use Rattle.std.specs.List.{concat, flat_map}
use Rattle.event_machine.specs.declared.Event.{Event}
use Rattle.event_machine.specs.declared.Event.TheVariants.{F}
use Rattle.common_lemmas.proofs.Lists.{first_same, rest_same, not_empty}
use Rattle.ada_tree.specs.PlainStmt.{PStmts, no_stmt, stmt_then}
use Rattle.ada_value.specs.declared.values.Value.{Value}
use Rattle.ada_value.specs.declared.values.Value.TheVariants.{Truth}
use Rattle.ada_value.specs.Variables.{Variables}
use Rattle.task_model.specs.Tasks.{Task}
use Rattle.task_model.specs.Stands.{can_step, stepped}
use Rattle.task_model.specs.Steps.{line_end}
use Rattle.table_law.specs.States.{Comes}
use Rattle.run_laws.specs.collecting.Notes.{Note, BeforeCall, HasFailed, Book, line_of, answer_of, recorded, Lines, line, text}
use Rattle.collect_model.specs.Recording.{answered, on_before_call, on_failed}
use Rattle.collect_runs.specs.lines.Pieces.{front}
use Rattle.collect_runs.specs.recorder.Recorders.{Recorder, IsRecorder}
use Rattle.collect_runs.specs.recorder.Telling.{spelled}
use Rattle.collect_runs.specs.recorder.States.{lines_of, note_variables, hearing, Piece, piece_text, pieces_put, line_ended, IsWriting, AtLine, AtCall, AtTest, IsNoted}
use Rattle.collect_runs.proofs.recorder.Writing.{line-written, piece-written, behind-line}
use Rattle.collect_runs.proofs.recorder.Keeping.{met-kept, met-tested}

-- ---- texts

-- a line more
flat-behind : (lines : Lines) (events : List Event) (e : Event) → flat_map (line lines) (events ++ e ∷ []) ≡ flat_map (line lines) events ++ line lines e
flat-behind lines [] e = append-nil (line lines e)
flat-behind lines (x ∷ events) e = ap (λ (t : List ℕ). line lines x ++ t) (flat-behind lines events e) ∙ sym (append_assoc (line lines x) (flat_map (line lines) events) (line lines e))

pub text-behind : (lines : Lines) (events : List Event) (e : Event) → text lines (events ++ e ∷ []) ≡ text lines events ++ line lines e
text-behind lines events e =
    ap (λ (t : List ℕ). lines.header ++ t) (flat-behind lines events e) ∙ sym (append_assoc lines.header (flat_map (line lines) events) (line lines e))

module _ (k : Recorder) (note : ℕ) (h : IsRecorder k note) (c : ℕ) (b : Book) where
  abbrev output : List ℕ
  output = text (lines_of k) b.events

  -- in one step and some that write nothing it comes to the end of its accept body
  abbrev NotedOf : Note → Task → Type 0
  NotedOf n t = (can_step t ≡ true) × ((u : Task) × Comes (stepped t) u × IsNoted k c (answer_of b n) (recorded b n) u)

  -- ---- a note without a line

  -- nothing is written
  no-line : (o : Option Event) → o ≡ None → output ≡ text (lines_of k) (b.events ++ option_to_list o)
  no-line o none = ap (λ (es : List Event). text (lines_of k) es) (sym (append-nil b.events)) ∙ ap (λ (x : Option Event). text (lines_of k) (b.events ++ option_to_list x)) (sym none)

  -- a call is to come
  call-next : (subject other : ℕ) (i : Value) → subject ≤ k.last →
      NotedOf (BeforeCall subject) (hearing k c (on_before_call k.names k.span) (note_variables k (spelled (BeforeCall subject) other i) (Truth false) b) output)
  call-next subject other i l =
      let n : Note = BeforeCall subject in
      let there : Task = hearing k c no_stmt (note_variables k (spelled n other i) (Truth false) (recorded b n)) (text (lines_of k) (recorded b n).events) in (
        refl,
        (
          there,
          (
            0,
            met-kept k note h c (spelled n other i) (Truth false) b false no_stmt output l
                ∙ ap (λ (t : List ℕ). hearing k c no_stmt (note_variables k (spelled n other i) (Truth false) (recorded b n)) t) (no-line None refl),
          ),
          record { said = spelled n other i; is = refl },
        ),
      )

  -- a call had been accepted at which TASKING_ERROR is raised
  test-next : (subject e : ℕ) (z : ℤ) (other : ℕ) (i : Value) → subject ≤ k.last → b.met subject ≡ true →
      NotedOf (HasFailed subject e z) (hearing k c (on_failed k.names k.span) (note_variables k (spelled (HasFailed subject e z) other i) (Truth false) b) output)
  test-next subject e z other i l met =
      let n : Note = HasFailed subject e z in
      let there : Task = hearing k c no_stmt (note_variables k (spelled n other i) (Truth false) (recorded b n)) (text (lines_of k) (recorded b n).events) in (
        refl,
        (
          there,
          (
            0,
            met-tested k note h c (spelled n other i) (Truth false) b output true l met
                ∙ ap (λ (t : List ℕ). hearing k c no_stmt (note_variables k (spelled n other i) (Truth false) (recorded b n)) t)
                (no-line (line_of b n) (ap (λ (x : Bool). if x then None else Some (F subject e z)) met)),
          ),
          record { said = spelled n other i; is = refl },
        ),
      )

module _ (k : Recorder) (note : ℕ) (h : IsRecorder k note) (c : ℕ) (b : Book) (n : Note) where
  abbrev front_text : List ℕ
  front_text = text (lines_of k) b.events

  abbrev V : ℕ → Value → Book → Variables
  V other i b' = note_variables k (spelled n other i) (Truth false) b'

  -- ---- a piece

  -- the next piece of a line
  piece-next :
      (e : Event) (other : ℕ) (i : Value) (ps : List Piece) (done piece : List ℕ) (left : List (List ℕ)) → line_of b n ≡ Some e → piece ∷ left ≡ map (piece_text (spelled n other i)) ps →
      done ++ concat (piece ∷ left) ≡ concat (front e) →
      (can_step (hearing k c (pieces_put k ps (line_ended k (answer_of b n))) (V other i (recorded b n)) (front_text ++ done)) ≡ true)
      × IsWriting k c b n (done ++ piece) left (stepped (hearing k c (pieces_put k ps (line_ended k (answer_of b n))) (V other i (recorded b n)) (front_text ++ done)))
  piece-next e other i [] done piece left is texts whole = absurd (not_empty piece left texts)
  piece-next e other i (p ∷ ps) done piece left is texts whole =
      let wrote = piece-written k note h c (spelled n other i) (Truth false) (recorded b n) p (pieces_put k ps (line_ended k (answer_of b n))) (front_text ++ done) in (
        wrote.0,
        AtLine e other i ps is (rest_same texts) (append_assoc done piece (concat left) ∙ whole)
            (wrote.1
            ∙ ap (λ (t : List ℕ). hearing k c (pieces_put k ps (line_ended k (answer_of b n))) (V other i (recorded b n)) t)
            (append_assoc front_text done (piece_text (spelled n other i) p) ∙ ap (λ (t : List ℕ). front_text ++ (done ++ t)) (sym (first_same texts)))),
      )

  pub writes : (done piece : List ℕ) (left : List (List ℕ)) (t : Task) → IsWriting k c b n done (piece ∷ left) t → (can_step t ≡ true) × IsWriting k c b n (done ++ piece) left (stepped t)
  writes done piece left t (AtLine e other i ps is texts whole at) =
      subst (λ (u : Task). (can_step u ≡ true) × IsWriting k c b n (done ++ piece) left (stepped u)) (sym at) (piece-next e other i ps done piece left is texts whole)
  writes done piece left t (AtCall subject other i is l none empty at) = absurd (not_empty piece left empty)
  writes done piece left t (AtTest subject e z other i is l met none empty at) = absurd (not_empty piece left empty)

  -- ---- the line's end

  abbrev Noted : Task → Type 0
  Noted t = NotedOf k note h c b n t

  -- what is written then
  written-all : (e : Event) (done : List ℕ) → line_of b n ≡ Some e → done ++ [] ≡ concat (front e) → (front_text ++ done) ++ line_end ≡ text (lines_of k) (recorded b n).events
  written-all e done is whole =
      append_assoc front_text done line_end
      ∙ ap (λ (t : List ℕ). front_text ++ (t ++ line_end)) (sym (append-nil done) ∙ whole)
      ∙ sym (text-behind (lines_of k) b.events e)
      ∙ ap (λ (o : Option Event). text (lines_of k) (b.events ++ option_to_list o)) (sym is)

  line-next : (e : Event) (other : ℕ) (i : Value) (ps : List Piece) (done : List ℕ) → line_of b n ≡ Some e → [] ≡ map (piece_text (spelled n other i)) ps → done ++ [] ≡ concat (front e) →
      Noted (hearing k c (pieces_put k ps (line_ended k (answer_of b n))) (V other i (recorded b n)) (front_text ++ done))
  line-next e other i (p ∷ ps) done is texts whole = absurd (not_empty (piece_text (spelled n other i) p) (map (piece_text (spelled n other i)) ps) (sym texts))
  line-next e other i [] done is texts whole =
      let v : Bool = answer_of b n in
      let rest : PStmts = if v then stmt_then (answered k.names k.span true) no_stmt else no_stmt in
      let there : Task = hearing k c no_stmt (note_variables k (spelled n other i) (Truth v) (recorded b n)) (text (lines_of k) (recorded b n).events) in (
        refl,
        (
          there,
          subst (λ (t : Task). Comes t there)
              (sym (line-written k c rest (V other i (recorded b n)) (front_text ++ done)
              ∙ ap (λ (t : List ℕ). hearing k c rest (V other i (recorded b n)) t) (written-all e done is whole)))
              (behind-line k note h c (spelled n other i) (Truth false) (recorded b n) v (text (lines_of k) (recorded b n).events) refl),
          record { said = spelled n other i; is = refl },
        ),
      )

  pub ends-line : (done : List ℕ) (t : Task) → IsWriting k c b n done [] t → Noted t
  ends-line done t (AtLine e other i ps is texts whole at) = subst Noted (sym at) (line-next e other i ps done is texts whole)
  ends-line done t (AtCall subject other i is l none empty at) =
      subst Noted (sym at)
      (subst (λ (m : Note). NotedOf k note h c b m (hearing k c (on_before_call k.names k.span) (note_variables k (spelled m other i) (Truth false) b) front_text))
      (sym is) (call-next k note h c b subject other i l))
  ends-line done t (AtTest subject e z other i is l met none empty at) =
      subst Noted (sym at)
      (subst (λ (m : Note). NotedOf k note h c b m (hearing k c (on_failed k.names k.span) (note_variables k (spelled m other i) (Truth false) b) front_text)) (sym is)
      (test-next k note h c b subject e z other i l met))
