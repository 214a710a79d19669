-- How the recorder hears a note: from its wait to where it writes the line.
use Rattle.std.proofs.Common.{◌≡◌, ℕ, ◌≤◌, Bool, true, false, List, [], ◌∷◌, ◌++◌, map, Option, Some, None, append-nil, if◌then◌else◌, refl, sym, ap, ◌∙◌, subst}
use Rattle.std.specs.Prelude.{ℤ, pos, codes, Ok}
use Rattle.std.specs.List.{concat}
use Rattle.event_machine.specs.declared.Event.{Event}
use Rattle.event_machine.specs.declared.Event.TheVariants.{R, E, S, D, C, T, F, X}
use Rattle.event_machine.specs.Offers.{same_member}
use Rattle.event_machine.proofs.Basics.{same_member-refl}
use Rattle.ada_tree.specs.PlainStmt.{SNull, SCase, PStmts, no_stmt, PMaybe, present}
use Rattle.ada_tree.specs.PlainExpr.{EName}
use Rattle.ada_value.specs.declared.values.Value.{Value}
use Rattle.ada_value.specs.declared.values.Value.TheVariants.{Truth}
use Rattle.ada_value.specs.Values.{and_then, position_of}
use Rattle.ada_value.specs.Texts.{integer_text}
use Rattle.ada_value.specs.Variables.{Object, Variables}
use Rattle.ada_value.specs.Evaluating.{name_value}
use Rattle.task_model.specs.Setting.{entry_of}
use Rattle.task_model.specs.Tasks.{Task, stmts_or_none, entered, or_raised}
use Rattle.task_model.specs.Calls.{opened_objects, values_handed}
use Rattle.task_model.specs.Steps.{case_taken}
use Rattle.task_model.specs.Stands.{can_step, stepped}
use Rattle.task_model.specs.Rendezvous.{alternative_opened, accepted}
use Rattle.task_model.specs.Waits.{Accepts}
use Rattle.normal_model.specs.Making.{one}
use Rattle.normal_model.specs.Ranges.{word_at}
use Rattle.table_law.specs.States.{Comes}
use Rattle.table_law.proofs.Turning.{step-first, comes-on}
use Rattle.run_laws.specs.collecting.Notes.{Note, BeforeCall, HasBegun, AtFinish, HasElse, HasDelay, HasCallElse, HasExpired, HasFailed, AtEnd, Book, line_of, answer_of, recorded, text, pieces}
use Rattle.collect_model.specs.Lines.{task_line, call_line}
use Rattle.collect_model.specs.Recording.{note_formals, on_before_call, on_begun, on_finish, on_else, on_delay, on_other_part, on_failed, on_end, branches, note_taken}
use Rattle.collect_runs.specs.lines.Pieces.{front}
use Rattle.collect_runs.specs.recorder.Recorders.{Recorder, IsRecorder}
use Rattle.collect_runs.specs.recorder.Telling.{Spelled, member_of, spelled, note_values, Tells, IsWithin}
use Rattle.collect_runs.specs.recorder.States.{lines_of, kept, note_variables, note_parameters, waiting, hearing, Piece, Words, Subject, Argument, Index, piece_text, pieces_put, line_ended, IsWriting, AtLine, AtCall, AtTest}
use Rattle.collect_runs.proofs.recorder.Finding.{kind-named}
use Rattle.collect_runs.proofs.recorder.Writing.{answer-given}
use Rattle.collect_runs.proofs.recorder.Keeping.{met-kept, gone-kept, late-tested, met-tested}

-- ---- the pieces of lines

abbrev pub one_pieces : List ℕ → List Piece
one_pieces letter = Words letter ∷ Words (codes " ") ∷ Subject ∷ []

abbrev pub two_pieces : List ℕ → List Piece
two_pieces letter = Words letter ∷ Words (codes " ") ∷ Subject ∷ Words (codes " ") ∷ Argument ∷ []

abbrev pub call_pieces : List ℕ → List Piece
call_pieces letter = Words letter ∷ Words (codes " ") ∷ Subject ∷ Words (codes " ") ∷ Argument ∷ Words (codes " ") ∷ Index ∷ []

module _ (k : Recorder) (note : ℕ) (h : IsRecorder k note) (b : Book) (c : ℕ) where
  abbrev output : List ℕ
  output = text (lines_of k) b.events

  -- ---- the accept body is opened

  -- with the alternative that is found there
  abbrev opened_by : List Value → Bool → Task
  opened_by values found =
      alternative_opened c
      (if found
      then Some (Accepts (entry_of k.setting.numbers k.number k.names.note) (pos 0) (record { entry = word_at k.span k.names.note; index = None; formals = note_formals k.names k.span; span = k.span }) (note_taken k.names k.span) no_stmt)
      else None)
      values (waiting k b)

  opened : (teller : Task) (s : Spelled) (g : Value) → values_handed teller ≡ note_values s g →
      accepted note (pos 0) c teller (waiting k b) ≡ hearing k c (note_taken k.names k.span) (note_variables k s g b) output
  opened teller s g handed =
      ap (opened_by (values_handed teller)) (ap (λ (n : ℕ). same_member note (pos 0) n (pos 0)) h.found ∙ same_member-refl note (pos 0))
      ∙ ap (λ (vs : List Value). hearing k c (note_taken k.names k.span) (opened_objects k.setting.types (note_parameters k) vs ++ kept k b) output) handed

  -- ---- the note's branch

  abbrev branch_for : Note → PStmts
  branch_for (BeforeCall t) = on_before_call k.names k.span
  branch_for (HasBegun t e i) = on_begun k.names k.span
  branch_for (AtFinish a) = on_finish k.names k.span
  branch_for (HasElse a) = on_else k.names k.span
  branch_for (HasDelay a d) = on_delay k.names k.span
  branch_for (HasCallElse t e i w) = on_other_part k.names k.span (codes "C")
  branch_for (HasExpired t e i w) = on_other_part k.names k.span (codes "T")
  branch_for (HasFailed t e i) = on_failed k.names k.span
  branch_for (AtEnd a) = on_end k.names k.span

  module _ (other : ℕ) (index : Value) where
    abbrev V : Note → Book → Variables
    V n b' = note_variables k (spelled n other index) (Truth false) b'

    abbrev asking : PStmts
    asking = one (SCase (EName k.names.kind k.span) (branches k.names k.span) (present (one (SNull k.span))) k.span)

    -- the step into a branch, by what the kind's name means
    abbrev chosen : Variables → Option Object → Task
    chosen vars o =
        let t : Task = hearing k c asking vars output in
        or_raised (λ (branch : PMaybe). entered (stmts_or_none branch) no_stmt t) t
        (and_then (Ok (name_value k.setting.types o k.names.kind)) (λ v. case_taken t v (branches k.names k.span) (present (one (SNull k.span)))))

    taken : (n : Note) → stepped (hearing k c asking (V n b) output) ≡ hearing k c (branch_for n) (V n b) output
    taken (BeforeCall t) = ap (chosen (V (BeforeCall t) b)) (kind-named k note h (spelled (BeforeCall t) other index) (Truth false) b)
    taken (HasBegun t e i) = ap (chosen (V (HasBegun t e i) b)) (kind-named k note h (spelled (HasBegun t e i) other index) (Truth false) b)
    taken (AtFinish a) = ap (chosen (V (AtFinish a) b)) (kind-named k note h (spelled (AtFinish a) other index) (Truth false) b)
    taken (HasElse a) = ap (chosen (V (HasElse a) b)) (kind-named k note h (spelled (HasElse a) other index) (Truth false) b)
    taken (HasDelay a d) = ap (chosen (V (HasDelay a d) b)) (kind-named k note h (spelled (HasDelay a d) other index) (Truth false) b)
    taken (HasCallElse t e i w) = ap (chosen (V (HasCallElse t e i w) b)) (kind-named k note h (spelled (HasCallElse t e i w) other index) (Truth false) b)
    taken (HasExpired t e i w) = ap (chosen (V (HasExpired t e i w) b)) (kind-named k note h (spelled (HasExpired t e i w) other index) (Truth false) b)
    taken (HasFailed t e i) = ap (chosen (V (HasFailed t e i) b)) (kind-named k note h (spelled (HasFailed t e i) other index) (Truth false) b)
    taken (AtEnd a) = ap (chosen (V (AtEnd a) b)) (kind-named k note h (spelled (AtEnd a) other index) (Truth false) b)

    -- from the begin of the body to the note's branch
    to-branch : (n : Note) (g : Value) → Comes (hearing k c (note_taken k.names k.span) (note_variables k (spelled n other index) g b) output) (hearing k c (branch_for n) (V n b) output)
    to-branch n g =
        let there : Task = hearing k c (branch_for n) (V n b) output in
        step-first (hearing k c (note_taken k.names k.span) (note_variables k (spelled n other index) g b) output) (hearing k c asking (V n b) output) there refl
        (answer-given k note h c (spelled n other index) g b false asking output) refl
        (step-first (hearing k c asking (V n b) output) there there refl (taken n) refl (0, refl))

    -- ---- from the branch to the line

    -- it comes from there to where it writes
    abbrev Heard : Note → Task → Type 0
    Heard n t = (u : Task) × Comes t u × IsWriting k c b n [] (pieces (lines_of k) (line_of b n)) u

    -- before the first piece of an event's line
    at-line : (n : Note) (e : Event) (ps : List Piece) (answer : Bool) → line_of b n ≡ Some e → map (piece_text (spelled n other index)) ps ≡ front e → answer_of b n ≡ answer →
        IsWriting k c b n [] (pieces (lines_of k) (line_of b n)) (hearing k c (pieces_put k ps (line_ended k answer)) (V n (recorded b n)) output)
    at-line n e ps answer is texts answers =
        let left : pieces (lines_of k) (line_of b n) ≡ front e = ap (pieces (lines_of k)) is in
        AtLine e other index ps is (left ∙ sym texts) (ap concat left)
        (ap (λ (v : Bool). hearing k c (pieces_put k ps (line_ended k v)) (V n (recorded b n)) output) (sym answers)
        ∙ ap (λ (out : List ℕ). hearing k c (pieces_put k ps (line_ended k (answer_of b n))) (V n (recorded b n)) out) (sym (append-nil output)))

    -- one step in front of that
    step-heard : (n : Note) (t u : Task) → can_step t ≡ true → stepped t ≡ u → u.output ≡ t.output → Heard n u → Heard n t
    step-heard n t u can is same (v, way, writes) = (v, step-first t u v can is same way, writes)

    here-heard : (n : Note) (t : Task) → IsWriting k c b n [] (pieces (lines_of k) (line_of b n)) t → Heard n t
    here-heard n t writes = (t, (0, refl), writes)

    -- the other part of a call came, or too late
    late-heard :
        (n : Note) (letter : List ℕ) (late now : Event) → (spelled n other index).owner ≤ k.last →
        line_of b n ≡ Some (if b.gone (spelled n other index).owner then late else now) → answer_of b n ≡ b.gone (spelled n other index).owner → V n (recorded b n) ≡ V n b →
        map (piece_text (spelled n other index)) (call_pieces (codes "F")) ≡ front late → map (piece_text (spelled n other index)) (call_pieces letter) ≡ front now →
        Heard n (hearing k c (on_other_part k.names k.span letter) (V n b) output)
    late-heard n letter late now l is answers same texts_late texts_now = by (b.gone (spelled n other index).owner) refl
      where
        by : (x : Bool) → b.gone (spelled n other index).owner ≡ x → Heard n (hearing k c (on_other_part k.names k.span letter) (V n b) output)
        by true q =
            let u : Task = hearing k c (pieces_put k (call_pieces (codes "F")) (line_ended k true)) (V n b) output in
            step-heard n (hearing k c (on_other_part k.names k.span letter) (V n b) output) u refl (late-tested k note h c (spelled n other index) (Truth false) b letter output true l q) refl
            (here-heard n u (subst (λ vars. IsWriting k c b n [] (pieces (lines_of k) (line_of b n)) (hearing k c (pieces_put k (call_pieces (codes "F")) (line_ended k true)) vars output)) same
            (at-line n late (call_pieces (codes "F")) true (is ∙ ap (λ (x : Bool). Some (if x then late else now)) q) texts_late (answers ∙ q))))
        by false q =
            let u : Task = hearing k c (pieces_put k (call_pieces letter) (line_ended k false)) (V n b) output in
            step-heard n (hearing k c (on_other_part k.names k.span letter) (V n b) output) u refl (late-tested k note h c (spelled n other index) (Truth false) b letter output false l q) refl
            (here-heard n u (subst (λ vars. IsWriting k c b n [] (pieces (lines_of k) (line_of b n)) (hearing k c (pieces_put k (call_pieces letter) (line_ended k false)) vars output)) same
            (at-line n now (call_pieces letter) false (is ∙ ap (λ (x : Bool). Some (if x then late else now)) q) texts_now (answers ∙ q))))

    -- the texts of the line of an event that names a member
    call-texts : (letter : List ℕ) (t e : ℕ) (i : ℤ) → position_of index ≡ i →
        letter ∷ codes " " ∷ integer_text (pos t) ∷ codes " " ∷ integer_text (pos e) ∷ codes " " ∷ integer_text (position_of index) ∷ []
        ≡ letter ∷ codes " " ∷ integer_text (pos t) ∷ codes " " ∷ integer_text (pos e) ∷ codes " " ∷ integer_text i ∷ []
    call-texts letter t e i at = ap (λ z. letter ∷ codes " " ∷ integer_text (pos t) ∷ codes " " ∷ integer_text (pos e) ∷ codes " " ∷ integer_text z ∷ []) at

    -- TASKING_ERROR was raised at a call that had been accepted, or not
    failed-heard : (t e : ℕ) (i : ℤ) → position_of index ≡ i → t ≤ k.last → (x : Bool) → b.met t ≡ x → Heard (HasFailed t e i) (hearing k c (on_failed k.names k.span) (V (HasFailed t e i) b) output)
    failed-heard t e i at l true q =
        here-heard (HasFailed t e i) (hearing k c (on_failed k.names k.span) (V (HasFailed t e i) b) output)
        (AtTest t e i other index refl l q refl (ap (λ (x : Bool). pieces (lines_of k) (if x then None else Some (F t e i))) q) refl)
    failed-heard t e i at l false q =
        let n : Note = HasFailed t e i in
        let u : Task = hearing k c (pieces_put k (call_pieces (codes "F")) (line_ended k false)) (V n b) output in
        step-heard n (hearing k c (on_failed k.names k.span) (V n b) output) u refl (met-tested k note h c (spelled n other index) (Truth false) b output false l q) refl
        (here-heard n u (at-line n (F t e i) (call_pieces (codes "F")) false (ap (λ (x : Bool). if x then None else Some (F t e i)) q) (call-texts (codes "F") t e i at) refl))

    -- each branch comes to where it writes the line
    branch-heard : (n : Note) → position_of index ≡ member_of n → IsWithin k.last n → Heard n (hearing k c (branch_for n) (V n b) output)
    branch-heard (BeforeCall t) at l =
        here-heard (BeforeCall t) (hearing k c (on_before_call k.names k.span) (V (BeforeCall t) b) output) (AtCall t other index refl l refl refl refl)
    branch-heard (HasBegun t e i) at l =
        let n : Note = HasBegun t e i in
        let u : Task = hearing k c (pieces_put k (call_pieces (codes "R")) (line_ended k false)) (V n (recorded b n)) output in
        step-heard n (hearing k c (on_begun k.names k.span) (V n b) output) u refl (met-kept k note h c (spelled n other index)
        (Truth false) b true (call_line k.names k.span (codes "R")) output l) refl
        (here-heard n u (at-line n (R t e i) (call_pieces (codes "R")) false refl (call-texts (codes "R") t e i at) refl))
    branch-heard (AtFinish a) at l =
        here-heard (AtFinish a) (hearing k c (on_finish k.names k.span) (V (AtFinish a) b) output) (at-line (AtFinish a) (E a) (one_pieces (codes "E")) false refl refl refl)
    branch-heard (HasElse a) at l =
        here-heard (HasElse a) (hearing k c (on_else k.names k.span) (V (HasElse a) b) output) (at-line (HasElse a) (S a) (one_pieces (codes "S")) false refl refl refl)
    branch-heard (HasDelay a d) at l =
        here-heard (HasDelay a d) (hearing k c (on_delay k.names k.span) (V (HasDelay a d) b) output) (at-line (HasDelay a d) (D a d) (two_pieces (codes "D")) false refl refl refl)
    branch-heard (HasCallElse t e i w) at l = late-heard (HasCallElse t e i w) (codes "C") (F t e i) (C t e i) l refl refl refl (call-texts (codes "F") t e i at) (call-texts (codes "C") t e i at)
    branch-heard (HasExpired t e i w) at l = late-heard (HasExpired t e i w) (codes "T") (F t e i) (T t e i) l refl refl refl (call-texts (codes "F") t e i at) (call-texts (codes "T") t e i at)
    branch-heard (HasFailed t e i) at l = failed-heard t e i at l (b.met t) refl
    branch-heard (AtEnd a) at l =
        let n : Note = AtEnd a in
        let u : Task = hearing k c (pieces_put k (one_pieces (codes "X")) (line_ended k false)) (V n (recorded b n)) output in
        step-heard n (hearing k c (on_end k.names k.span) (V n b) output) u refl (gone-kept k note h c (spelled n other index)
        (Truth false) b true (task_line k.names k.span (codes "X")) output l) refl
        (here-heard n u (at-line n (X a) (one_pieces (codes "X")) false refl refl refl))

  -- ---- from the wait

  pub hears : (n : Note) (teller : Task) → IsWithin k.last n → Tells teller n →
      (u : Task) × Comes (accepted note (pos 0) c teller (waiting k b)) u × IsWriting k c b n [] (pieces (lines_of k) (line_of b n)) u
  hears n teller l tells =
      let first : Task = hearing k c (note_taken k.names k.span) (note_variables k (spelled n tells.other tells.index) tells.opens_with b) output in
      let second : Task = hearing k c (branch_for n) (V tells.other tells.index n b) output in
      let way : Comes first second = to-branch tells.other tells.index n tells.opens_with in
      let heard : Heard tells.other tells.index n second = branch-heard tells.other tells.index n tells.member l in
      subst (λ (t : Task). (u : Task) × Comes t u × IsWriting k c b n [] (pieces (lines_of k) (line_of b n)) u) (sym (opened teller (spelled n tells.other tells.index) tells.opens_with tells.values))
      (heard.0, comes-on first second heard.0 way heard.1, heard.2)
