-- How the recorder hears a note: from its wait to where it writes the line.
use Rattle.std.proofs.Common.{◌≡◌, ℕ, ◌≤◌, ◌==◌, Bool, true, false, List, [], ◌∷◌, ◌++◌, Option, Some, None, option_to_list, append-nil, if◌then◌else◌, refl, sym, ap, ◌∙◌, subst, arith}
use Rattle.std.specs.Prelude.{ℤ, pos, ◌&&◌, ◌||◌, codes, Ok, Result}
use Rattle.std.specs.Ordering.{int_eq}
use Rattle.event_machine.specs.declared.Event.{Event}
use Rattle.event_machine.specs.declared.Event.TheVariants.{R, E, S, D, C, T, F, X, B}
use Rattle.event_machine.specs.Offers.{same_member}
use Rattle.event_machine.proofs.Basics.{same_member-refl}
use Rattle.common_lemmas.proofs.Numbers.{equal_is}
use Rattle.ada_tree.specs.declared.naming.NameId.{NameId}
use Rattle.ada_tree.specs.declared.expressions.BinaryOp.TheVariants.{And, Equal}
use Rattle.ada_tree.specs.PlainExpr.{PExpr, EName, EBinary}
use Rattle.ada_tree.specs.PlainStmt.{PPart, PWords, PValue, SNull, SIf, SCase, PStmts, no_stmt, stmt_then, PMaybe, present, absent, PArms, arm, no_arm, arm_then}
use Rattle.ada_value.specs.declared.values.Value.{Value}
use Rattle.ada_value.specs.declared.values.Value.TheVariants.{Number, Truth}
use Rattle.ada_value.specs.declared.values.Raised.{Raised}
use Rattle.ada_value.specs.Values.{position_of, integer_limits, truth_limits}
use Rattle.ada_value.specs.Texts.{integer_text}
use Rattle.ada_value.specs.Variables.{Variables}
use Rattle.ada_value.specs.Evaluating.{evaluated, operated}
use Rattle.task_model.specs.Frames.{in_front}
use Rattle.task_model.specs.Setting.{entry_of}
use Rattle.task_model.specs.Tasks.{Task, stmts_or_none}
use Rattle.task_model.specs.Calls.{opened_objects, values_handed}
use Rattle.task_model.specs.Steps.{arm_taken, case_taken}
use Rattle.task_model.specs.Stands.{can_step, stepped}
use Rattle.task_model.specs.Rendezvous.{alternative_opened, accepted}
use Rattle.task_model.specs.Waits.{Accepts}
use Rattle.normal_model.specs.Making.{one}
use Rattle.normal_model.specs.Ranges.{word_at}
use Rattle.table_law.specs.States.{Comes}
use Rattle.table_law.proofs.Turning.{step-first, comes-on}
use Rattle.run_laws.specs.collecting.Notes.{text, pieces, flagged}
use Rattle.collect_model.specs.Noting.{has_failed, number}
use Rattle.collect_model.specs.Lines.{task_line, call_line}
use Rattle.collect_model.specs.Recording.{note_formals, flag_of, flag_set, answered, on_else, on_delay, on_other_part, on_end}
use Rattle.collect_runs.specs.lines.Pieces.{front}
use Rattle.collect_runs.specs.recorder.Telling.{Spelled, note_values}
use Rattle.collect_model.specs.aborts.Recording.{meeting, met_before, lost, no_meeting, entry_for, entry_set, stands_now, stands, is_meeting, on_before_call, on_begun}
use Rattle.collect_model.specs.aborts.Recording.{on_finish, acceptor_line, on_back, on_abort, callers_lost, abort_made, branches, note_taken}
use Rattle.run_laws.specs.aborts.Notes.{Note, BeforeCall, HasBegun, HasFinished, HasElse, HasDelay, HasCallElse, HasExpired, HasFailed, AtEnd, ToAbort}
use Rattle.run_laws.specs.aborts.Notes.{HasReturned, Book, are_met, line_of, answer_of, numbered_so, recorded}
use Rattle.collect_runs.specs.aborts.recorder.Recorders.{Recorder, names_of, last_of, IsRecorder}
use Rattle.collect_runs.specs.aborts.recorder.Telling.{member_of, spelled, Tells, IsWithin}
use Rattle.collect_runs.specs.aborts.recorder.States.{lines_of, written_of, kept, formal_object, note_variables, note_parameters, waiting, hearing, IsNoted, IsLineEnded, IsWriting}
use Rattle.collect_runs.proofs.aborts.recorder.Stepping.{tests, chooses}
use Rattle.collect_runs.proofs.aborts.recorder.Finding.{with_gone, with_met, with_acceptor, acceptors-named, met-named, gone-named, subject-is, argument-is, index-is, owner-is, kind-is}
use Rattle.collect_runs.proofs.aborts.recorder.Valuing.{arm-by, entry-is, stands-is, meeting-is}
use Rattle.collect_runs.proofs.aborts.recorder.Keeping.{body_around, around_body, body-holds, answer-given, met-kept, gone-kept, acceptor-kept}
use Rattle.collect_runs.proofs.aborts.recorder.Writing.{HaveTexts, words-text, value-text, event-written, no-line-written}
use Rattle.collect_runs.proofs.aborts.recorder.Striking.{strikes}

module _ (k : Recorder) where
  -- ---- the parts of lines

  abbrev one_parts : List ℕ → List PPart
  one_parts letter = PWords letter k.span ∷ PWords (codes " ") k.span ∷ PValue (EName (names_of k).subject k.span) ∷ []

  abbrev two_parts : List ℕ → List PPart
  two_parts letter =
      PWords letter k.span ∷ PWords (codes " ") k.span ∷ PValue (EName (names_of k).subject k.span) ∷ PWords (codes " ") k.span
      ∷ PValue (EName (names_of k).argument k.span) ∷ []

  abbrev call_parts : List ℕ → List PPart
  call_parts letter =
      PWords letter k.span ∷ PWords (codes " ") k.span ∷ PValue (EName (names_of k).subject k.span) ∷ PWords (codes " ") k.span
      ∷ PValue (EName (names_of k).argument k.span) ∷ PWords (codes " ") k.span ∷ PValue (EName (names_of k).index k.span) ∷ []

  abbrev acceptor_parts : List PPart
  acceptor_parts = PWords (codes "E") k.span ∷ PWords (codes " ") k.span ∷ PValue (entry_for k.span k.teller.acceptors (names_of k).subject) ∷ []

  module _ (note : ℕ) (h : IsRecorder k note) (s : Spelled) (g : Value) (b : Book) where
    abbrev W : Variables
    W = note_variables k s g b

    one-texts : (letter : List ℕ) → HaveTexts k W (one_parts letter) (letter ∷ codes " " ∷ integer_text (pos s.subject) ∷ [])
    one-texts letter = (words-text k W letter, (words-text k W (codes " "), (value-text _ (Number (pos s.subject)) (subject-is k note h s g b), tt)))

    two-texts : (letter : List ℕ) → HaveTexts k W (two_parts letter) (letter ∷ codes " " ∷ integer_text (pos s.subject) ∷ codes " " ∷ integer_text (pos s.argument) ∷ [])
    two-texts letter = (
      words-text k W letter,
      (
        words-text k W (codes " "),
        (
          value-text _ (Number (pos s.subject)) (subject-is k note h s g b),
          (words-text k W (codes " "), (value-text _ (Number (pos s.argument)) (argument-is k note h s g b), tt)),
        ),
      ),
    )

    call-texts : (letter : List ℕ) (i : ℤ) → position_of s.index ≡ i →
        HaveTexts k W (call_parts letter) (letter ∷ codes " " ∷ integer_text (pos s.subject) ∷ codes " " ∷ integer_text (pos s.argument) ∷ codes " " ∷ integer_text i ∷ [])
    call-texts letter i at =
        subst (λ (z : ℤ). HaveTexts k W (call_parts letter) (letter ∷ codes " " ∷ integer_text (pos s.subject) ∷ codes " " ∷ integer_text (pos s.argument) ∷ codes " " ∷ integer_text z ∷ [])) at (
          words-text k W letter,
          (
            words-text k W (codes " "),
            (
              value-text _ (Number (pos s.subject)) (subject-is k note h s g b),
              (
                words-text k W (codes " "),
                (
                  value-text _ (Number (pos s.argument)) (argument-is k note h s g b),
                  (words-text k W (codes " "), (value-text _ s.index (index-is k note h s g b), tt)),
                ),
              ),
            ),
          ),
        )

    acceptor-texts : s.subject ≤ last_of k → HaveTexts k W acceptor_parts (codes "E" ∷ codes " " ∷ integer_text (pos (b.acceptor s.subject)) ∷ [])
    acceptor-texts l = (
      words-text k W (codes "E"),
      (
        words-text k W (codes " "),
        (
          value-text _ (Number (pos (b.acceptor s.subject)))
              (entry-is k W k.teller.acceptors (names_of k).subject integer_limits (λ t. Number (pos (b.acceptor t))) s.subject (acceptors-named k note h s g b) (subject-is k note h s g b) l),
          tt,
        ),
      ),
    )

    -- ---- tests

    -- the step of an if statement that is alone, into this branch
    if-goes : (c : ℕ) (output : List ℕ) (arms : PArms) (otherwise branch : PMaybe) → arm_taken (hearing k c (one (SIf arms otherwise k.span)) W output) arms otherwise ≡ Ok branch →
        stepped (hearing k c (one (SIf arms otherwise k.span)) W output) ≡ hearing k c (in_front (stmts_or_none branch) no_stmt) W output
    if-goes c output arms otherwise branch is = tests k (body_around k c) (around_body k) (body-holds k c) arms otherwise branch k.span no_stmt W output is

    -- the flag of a task
    gone-is : (task : NameId) (u : ℕ) → evaluated k.setting.types W (EName task k.span) ≡ Ok (Number (pos u)) → u ≤ last_of k → (x : Bool) → b.gone u ≡ x →
        evaluated k.setting.types W (flag_of k.span (names_of k).gone task) ≡ Ok (Truth x)
    gone-is task u at l x q = entry-is k W (names_of k).gone task truth_limits (λ t. Truth (b.gone t)) u (gone-named k note h s g b) at l ∙ ap (λ (y : Bool). Ok (Truth y)) q

    stands-so : (m : ℕ) → m ≤ 2147483647 → s.subject ≤ last_of k → (x : Bool) → (b.met s.subject == m) ≡ x →
        evaluated k.setting.types W (stands (names_of k) k.span (names_of k).subject m) ≡ Ok (Truth x)
    stands-so m few l x q = stands-is k W (names_of k).subject b.met s.subject m (met-named k note h s g b) (subject-is k note h s g b) l few ∙ ap (λ (y : Bool). Ok (Truth y)) q

module _ (k : Recorder) (note : ℕ) (h : IsRecorder k note) (b : Book) (c : ℕ) where
  abbrev output : List ℕ
  output = written_of k b

  few : (n : ℕ) → n ≤ 3 → n ≤ 2147483647
  few n l = omega (arith, l)

  -- ---- the accept body is opened

  -- with the alternative that is found there
  abbrev opened_by : List Value → Bool → Task
  opened_by values found =
      alternative_opened c
      (if found
      then Some (Accepts (entry_of k.setting.numbers k.number (names_of k).note) (pos 0)
      (record { entry = word_at k.span (names_of k).note; index = None; formals = note_formals (names_of k) k.span; span = k.span }) (note_taken k.teller k.span) no_stmt)
      else None)
      values (waiting k b)

  opened : (teller : Task) (s : Spelled) (g : Value) → values_handed teller ≡ note_values s g →
      accepted note (pos 0) c teller (waiting k b) ≡ hearing k c (note_taken k.teller k.span) (note_variables k s g b) output
  opened teller s g handed =
      ap (opened_by (values_handed teller)) (ap (λ (n : ℕ). same_member note (pos 0) n (pos 0)) h.found ∙ same_member-refl note (pos 0))
      ∙ ap (λ (vs : List Value). hearing k c (note_taken k.teller k.span) (opened_objects k.setting.types (note_parameters k) vs ++ kept k b) output) handed

  -- ---- the note's branch

  abbrev branch_for : Note → PStmts
  branch_for (BeforeCall t) = on_before_call (names_of k) k.span
  branch_for (HasBegun t e i a) = on_begun k.teller k.span
  branch_for (HasFinished a d) = on_finish k.teller k.span
  branch_for (HasElse a) = on_else (names_of k) k.span
  branch_for (HasDelay a d) = on_delay (names_of k) k.span
  branch_for (HasCallElse t e i w) = on_other_part (names_of k) k.span (codes "C")
  branch_for (HasExpired t e i w) = on_other_part (names_of k) k.span (codes "T")
  branch_for (HasFailed t e i) = on_back k.teller k.span
  branch_for (AtEnd a) = on_end (names_of k) k.span
  branch_for (ToAbort t v) = on_abort k.teller k.span
  branch_for (HasReturned t) = on_back k.teller k.span

  -- ---- the end of the accept body

  -- the formals in front of what is kept
  abbrev formals_with : Spelled → Value → Variables → Variables
  formals_with s g vs =
      formal_object k (names_of k).kind 0 (Number (pos s.kind)) ∷ formal_object k (names_of k).subject 0 (Number (pos s.subject))
      ∷ formal_object k (names_of k).argument 0 (Number (pos s.argument)) ∷ formal_object k (names_of k).index 0 s.index
      ∷ formal_object k (names_of k).owner 0 (Number (pos s.owner)) ∷ formal_object k (names_of k).reply 3 g ∷ vs

  -- it comes from there to the end
  abbrev Noted : Note → Task → Type 0
  Noted n t = (u : Task) × Comes t u × IsNoted k c (answer_of b n) (recorded b n) u

  at-end : (n : Note) (s : Spelled) (answer : Bool) (b' : Book) (out : List ℕ) → answer_of b n ≡ answer → kept k b' ≡ kept k (recorded b n) → out ≡ written_of k (recorded b n) →
      IsNoted k c (answer_of b n) (recorded b n) (hearing k c no_stmt (note_variables k s (Truth answer) b') out)
  at-end n s answer b' out answers same is =
      record {
        said = s;
        is =
            ap (λ (vs : Variables). hearing k c no_stmt (formals_with s (Truth answer) vs) out) same
            ∙ ap (λ (x : List ℕ). hearing k c no_stmt (formals_with s (Truth answer) (kept k (recorded b n))) x) is
            ∙ ap (λ (x : Bool). hearing k c no_stmt (formals_with s (Truth x) (kept k (recorded b n))) (written_of k (recorded b n))) (sym answers);
      }

  -- what is written then, with a line and without one
  with-line : (n : Note) (e : Event) → line_of b n ≡ Some e → text (lines_of k) (b.events ++ e ∷ []) ≡ written_of k (recorded b n)
  with-line n e is = ap (λ (o : Option Event). text (lines_of k) (b.events ++ option_to_list o)) (sym is)

  no-line : (n : Note) → line_of b n ≡ None → output ≡ written_of k (recorded b n)
  no-line n none = ap (λ (es : List Event). text (lines_of k) es) (sym (append-nil b.events)) ∙ ap (λ (o : Option Event). text (lines_of k) (b.events ++ option_to_list o)) (sym none)

  -- nothing is left to do; the answer TRUE is left to give
  none-left : (n : Note) (s : Spelled) (b' : Book) (out : List ℕ) → answer_of b n ≡ false → kept k b' ≡ kept k (recorded b n) → out ≡ written_of k (recorded b n) →
      Noted n (hearing k c no_stmt (note_variables k s (Truth false) b') out)
  none-left n s b' out answers same is = (hearing k c no_stmt (note_variables k s (Truth false) b') out, (0, refl), at-end n s false b' out answers same is)

  answer-left : (n : Note) (s : Spelled) (b' : Book) (out : List ℕ) → answer_of b n ≡ true → kept k b' ≡ kept k (recorded b n) → out ≡ written_of k (recorded b n) →
      Noted n (hearing k c (one (answered (names_of k) k.span true)) (note_variables k s (Truth false) b') out)
  answer-left n s b' out answers same is =
      let there : Task = hearing k c no_stmt (note_variables k s (Truth true) b') out in (
        there,
        step-first (hearing k c (one (answered (names_of k) k.span true)) (note_variables k s (Truth false) b') out) there there refl
            (answer-given k note h c s (Truth false) b' no_stmt out true) refl (0, refl),
        at-end n s true b' out answers same is,
      )

  -- that the end of a rendezvous is told is left to keep
  met-left : (n : Note) (s : Spelled) (out : List ℕ) (task : NameId) (u : ℕ) → evaluated k.setting.types (note_variables k s (Truth false) b) (EName task k.span) ≡ Ok (Number (pos u)) →
      u ≤ last_of k →
      answer_of b n ≡ false → kept k (with_met b (numbered_so b.met u 2)) ≡ kept k (recorded b n) → out ≡ written_of k (recorded b n) →
      Noted n (hearing k c (one (stands_now (names_of k) k.span task met_before)) (note_variables k s (Truth false) b) out)
  met-left n s out task u at l answers same is =
      let b' : Book = with_met b (numbered_so b.met u 2) in
      let there : Task = hearing k c no_stmt (note_variables k s (Truth false) b') out in (
        there,
        step-first (hearing k c (one (stands_now (names_of k) k.span task met_before)) (note_variables k s (Truth false) b) out) there there refl
            (met-kept k note h c s (Truth false) b no_stmt out task u at l 2 (few 2 (omega arith))) refl (0, refl),
        at-end n s false b' out answers same is,
      )

  module _ (other : ℕ) (index : Value) where
    abbrev said : Note → Spelled
    said n = spelled n other index

    abbrev V : Note → Book → Variables
    V n b' = note_variables k (said n) (Truth false) b'

    abbrev asking : PStmts
    asking = one (SCase (EName (names_of k).kind k.span) (branches k.teller k.span) (present (one (SNull k.span))) k.span)

    -- the step into a branch
    take : (n : Note) → case_taken (hearing k c asking (V n b) output) (Number (pos (said n).kind)) (branches k.teller k.span) (present (one (SNull k.span))) ≡ Ok (present (branch_for n)) →
        stepped (hearing k c asking (V n b) output) ≡ hearing k c (in_front (branch_for n) no_stmt) (V n b) output
    take n is =
        chooses k (body_around k c) (around_body k) (body-holds k c) (EName (names_of k).kind k.span) (Number (pos (said n).kind)) (branches k.teller k.span) (present (one (SNull k.span)))
        (present (branch_for n)) k.span no_stmt (V n b) output (kind-is k note h (said n) (Truth false) b) is

    taken : (n : Note) → stepped (hearing k c asking (V n b) output) ≡ hearing k c (branch_for n) (V n b) output
    taken (BeforeCall t) = take (BeforeCall t) refl
    taken (HasBegun t e i a) = take (HasBegun t e i a) refl
    taken (HasFinished a d) = take (HasFinished a d) refl
    taken (HasElse a) = take (HasElse a) refl
    taken (HasDelay a d) = take (HasDelay a d) refl
    taken (HasCallElse t e i w) = take (HasCallElse t e i w) refl
    taken (HasExpired t e i w) = take (HasExpired t e i w) refl
    taken (HasFailed t e i) = take (HasFailed t e i) refl
    taken (AtEnd a) = take (AtEnd a) refl
    taken (ToAbort t v) = take (ToAbort t v) refl
    taken (HasReturned t) = take (HasReturned t) refl

    -- from the begin of the body to the note's branch
    to-branch : (n : Note) (g : Value) → Comes (hearing k c (note_taken k.teller k.span) (note_variables k (said n) g b) output) (hearing k c (branch_for n) (V n b) output)
    to-branch n g =
        let there : Task = hearing k c (branch_for n) (V n b) output in
        step-first (hearing k c (note_taken k.teller k.span) (note_variables k (said n) g b) output) (hearing k c asking (V n b) output) there refl
        (answer-given k note h c (said n) g b asking output false) refl
        (step-first (hearing k c asking (V n b) output) there there refl (taken n) refl (0, refl))

    -- ---- from the branch to the line

    -- it writes from there
    abbrev Writes : Note → Task → Type 0
    Writes n t = IsWriting k c b n [] (pieces (lines_of k) (line_of b n)) t

    -- it comes from there to where it writes
    abbrev Heard : Note → Task → Type 0
    Heard n t = (u : Task) × Comes t u × Writes n u

    step-heard : (n : Note) (t u : Task) → can_step t ≡ true → stepped t ≡ u → u.output ≡ t.output → Heard n u → Heard n t
    step-heard n t u can is same (v, way, writes) = (v, step-first t u v can is same way, writes)

    here-heard : (n : Note) (t : Task) → Writes n t → Heard n t
    here-heard n t writes = (t, (0, refl), writes)

    -- where no line is to be written, from a task whose next step is known
    silent-heard : (n : Note) (t u : Task) → line_of b n ≡ None → t.output ≡ output → can_step t ≡ true → stepped t ≡ u → ((v : Task) × Comes u v × IsLineEnded k c b n v) → Heard n t
    silent-heard n t u none is can on ends = here-heard n t (no-line-written k c b n t none is can (subst (λ (x : Task). (v : Task) × Comes x v × IsLineEnded k c b n v) (sym on) ends))

    -- the other part of a call came, or too late
    late-heard :
        (n : Note) (letter : List ℕ) (late now : Event) → ((u : Task) → IsNoted k c (answer_of b n) (recorded b n) u → IsLineEnded k c b n u) → (said n).owner ≤ last_of k →
        line_of b n ≡ Some (if b.gone (said n).owner then late else now) → answer_of b n ≡ b.gone (said n).owner → kept k b ≡ kept k (recorded b n) →
        HaveTexts k (V n b) (call_parts k (codes "F")) (front late) → HaveTexts k (V n b) (call_parts k letter) (front now) →
        Heard n (hearing k c (on_other_part (names_of k) k.span letter) (V n b) output)
    late-heard n letter late now to_end l is answers same texts_late texts_now = by (b.gone (said n).owner) refl
      where
        arms : PArms
        arms = arm_then (arm (flag_of k.span (names_of k).gone (names_of k).owner) (in_front (call_line (names_of k) k.span (codes "F")) (one (answered (names_of k) k.span true)))) no_arm

        test-is : (x : Bool) → b.gone (said n).owner ≡ x →
            arm_taken (hearing k c (on_other_part (names_of k) k.span letter) (V n b) output) arms (present (call_line (names_of k) k.span letter))
            ≡ (if x then Ok (present (in_front (call_line (names_of k) k.span (codes "F")) (one (answered (names_of k) k.span true)))) else Ok (present (call_line (names_of k) k.span letter)))
        test-is x q =
            arm-by (hearing k c (on_other_part (names_of k) k.span letter) (V n b) output) (flag_of k.span (names_of k).gone (names_of k).owner)
            (in_front (call_line (names_of k) k.span (codes "F")) (one (answered (names_of k) k.span true))) no_arm (present (call_line (names_of k) k.span letter)) x
            (gone-is k note h (said n) (Truth false) b (names_of k).owner (said n).owner (owner-is k note h (said n) (Truth false) b) l x q)

        by : (x : Bool) → b.gone (said n).owner ≡ x → Heard n (hearing k c (on_other_part (names_of k) k.span letter) (V n b) output)
        by true q =
            let line : line_of b n ≡ Some late = is ∙ ap (λ (x : Bool). Some (if x then late else now)) q in
            let u : Task = hearing k c (in_front (call_line (names_of k) k.span (codes "F")) (one (answered (names_of k) k.span true))) (V n b) output in
            let left = answer-left n (said n) b (text (lines_of k) (b.events ++ late ∷ [])) (answers ∙ q) same (with-line n late line) in
            step-heard n (hearing k c (on_other_part (names_of k) k.span letter) (V n b) output) u refl
            (if-goes k note h (said n) (Truth false) b c output arms (present (call_line (names_of k) k.span letter))
            (present (in_front (call_line (names_of k) k.span (codes "F")) (one (answered (names_of k) k.span true)))) (test-is true q)) refl
            (here-heard n u (event-written k c b n late (V n b) (call_parts k (codes "F")) (one (answered (names_of k) k.span true)) line texts_late (left.0, left.1, to_end left.0 left.2)))
        by false q =
            let line : line_of b n ≡ Some now = is ∙ ap (λ (x : Bool). Some (if x then late else now)) q in
            let u : Task = hearing k c (call_line (names_of k) k.span letter) (V n b) output in
            let left = none-left n (said n) b (text (lines_of k) (b.events ++ now ∷ [])) (answers ∙ q) same (with-line n now line) in
            step-heard n (hearing k c (on_other_part (names_of k) k.span letter) (V n b) output) u refl
            (if-goes k note h (said n) (Truth false) b c output arms (present (call_line (names_of k) k.span letter)) (present (call_line (names_of k) k.span letter)) (test-is false q)) refl
            (here-heard n u (event-written k c b n now (V n b) (call_parts k letter) no_stmt line texts_now (left.0, left.1, to_end left.0 left.2)))

    -- ---- a rendezvous has begun

    abbrev begun_line : PStmts
    begun_line =
        stmt_then (stands_now (names_of k) k.span (names_of k).subject meeting)
        (stmt_then (entry_set k.span k.teller.acceptors (names_of k).subject (EName (names_of k).owner k.span)) (call_line (names_of k) k.span (codes "R")))

    begun-heard : (t e : ℕ) (i : ℤ) (a : ℕ) → position_of index ≡ i → t ≤ last_of k → a ≤ last_of k → (x : Bool) → b.gone t ≡ x →
        Heard (HasBegun t e i a) (hearing k c (on_begun k.teller k.span) (V (HasBegun t e i a) b) output)
    begun-heard t e i a at l within x q = by x q
      where
        n : Note
        n = HasBegun t e i a

        arms : PArms
        arms = arm_then (arm (flag_of k.span (names_of k).gone (names_of k).subject) (one (answered (names_of k) k.span true))) no_arm

        test-is : (y : Bool) → b.gone t ≡ y →
            arm_taken (hearing k c (on_begun k.teller k.span) (V (HasBegun t e i a) b) output) arms (present begun_line) ≡
            (if y then Ok (present (one (answered (names_of k) k.span true))) else Ok (present begun_line))
        test-is y p =
            arm-by (hearing k c (on_begun k.teller k.span) (V (HasBegun t e i a) b) output) (flag_of k.span (names_of k).gone (names_of k).subject)
            (one (answered (names_of k) k.span true)) no_arm (present begun_line) y
            (gone-is k note h (said (HasBegun t e i a)) (Truth false) b (names_of k).subject t (subject-is k note h (said (HasBegun t e i a)) (Truth false) b) l y p)

        kept_as : Bool → Variables
        kept_as y = kept k (record { gone = b.gone; met = if y then b.met else numbered_so b.met t 1; acceptor = if y then b.acceptor else numbered_so b.acceptor t a; events = b.events })

        by : (y : Bool) → b.gone t ≡ y → Heard (HasBegun t e i a) (hearing k c (on_begun k.teller k.span) (V (HasBegun t e i a) b) output)
        by true p =
            let none : line_of b (HasBegun t e i a) ≡ None = ap (λ (y : Bool). if y then None else Some (R t e i)) p in
            silent-heard (HasBegun t e i a) (hearing k c (on_begun k.teller k.span) (V (HasBegun t e i a) b) output)
            (hearing k c (one (answered (names_of k) k.span true)) (V (HasBegun t e i a) b) output) none refl refl
            (if-goes k note h (said (HasBegun t e i a)) (Truth false) b c output arms (present begun_line) (present (one (answered (names_of k) k.span true))) (test-is true p))
            (answer-left (HasBegun t e i a) (said (HasBegun t e i a)) b output p (sym (ap kept_as p)) (no-line (HasBegun t e i a) none))
        by false p =
            let m : Note = HasBegun t e i a in
            let line : line_of b m ≡ Some (R t e i) = ap (λ (y : Bool). if y then None else Some (R t e i)) p in
            let b1 : Book = with_met b (numbered_so b.met t 1) in
            let b2 : Book = with_acceptor b1 (numbered_so b.acceptor t a) in
            let after_met : PStmts = stmt_then (entry_set k.span k.teller.acceptors (names_of k).subject (EName (names_of k).owner k.span)) (call_line (names_of k) k.span (codes "R")) in
            let u : Task = hearing k c (call_line (names_of k) k.span (codes "R")) (V m b2) output in
            step-heard m (hearing k c (on_begun k.teller k.span) (V m b) output) (hearing k c begun_line (V m b) output) refl
            (if-goes k note h (said m) (Truth false) b c output arms (present begun_line) (present begun_line) (test-is false p)) refl
            (step-heard m (hearing k c begun_line (V m b) output) (hearing k c after_met (V m b1) output) refl
            (met-kept k note h c (said m) (Truth false) b after_met output (names_of k).subject t (subject-is k note h (said m) (Truth false) b) l 1 (few 1 (omega arith))) refl
            (step-heard m (hearing k c after_met (V m b1) output) u refl
            (acceptor-kept k note h c (said m) (Truth false) b1 (call_line (names_of k) k.span (codes "R")) output l within) refl
            (here-heard m u (event-written k c b m (R t e i) (V m b2) (call_parts k (codes "R")) no_stmt line (call-texts k note h (said m) (Truth false) b2 (codes "R") i at)
            (none-left m (said m) b2 (text (lines_of k) (b.events ++ R t e i ∷ [])) p (sym (ap kept_as p)) (with-line m (R t e i) line))))))

    -- ---- a rendezvous has ended, as its acceptor says

    abbrev ended_line : PStmts
    ended_line = in_front (task_line (names_of k) k.span (codes "E")) (one (stands_now (names_of k) k.span (names_of k).argument met_before))

    finished-heard : (a d : ℕ) → d ≤ last_of k → (x : Bool) → are_met b a d ≡ x → Heard (HasFinished a d) (hearing k c (on_finish k.teller k.span) (V (HasFinished a d) b) output)
    finished-heard a d l x q = by x q
      where
        arms : PArms
        arms = arm_then (arm (is_meeting k.teller k.span (names_of k).argument (names_of k).subject) ended_line) no_arm

        test-is : (y : Bool) → are_met b a d ≡ y →
            arm_taken (hearing k c (on_finish k.teller k.span) (V (HasFinished a d) b) output) arms absent ≡ (if y then Ok (present ended_line) else Ok absent)
        test-is y p =
            let s : Spelled = said (HasFinished a d) in
            arm-by (hearing k c (on_finish k.teller k.span) (V (HasFinished a d) b) output) (is_meeting k.teller k.span (names_of k).argument (names_of k).subject) ended_line no_arm absent y
            (meeting-is k (V (HasFinished a d) b) (names_of k).argument (names_of k).subject b.met b.acceptor d a (met-named k note h s (Truth false) b)
            (acceptors-named k note h s (Truth false) b)
            (argument-is k note h s (Truth false) b) l (subject-is k note h s (Truth false) b) ∙ ap (λ (z : Bool). Ok (Truth z)) p)

        kept_as : Bool → Variables
        kept_as y = kept k (with_met b (if y then numbered_so b.met d 2 else b.met))

        by : (y : Bool) → are_met b a d ≡ y → Heard (HasFinished a d) (hearing k c (on_finish k.teller k.span) (V (HasFinished a d) b) output)
        by true p =
            let m : Note = HasFinished a d in
            let line : line_of b m ≡ Some (E a) = ap (λ (y : Bool). if y then Some (E a) else None) p in
            let u : Task = hearing k c ended_line (V m b) output in
            step-heard m (hearing k c (on_finish k.teller k.span) (V m b) output) u refl
            (if-goes k note h (said m) (Truth false) b c output arms absent (present ended_line) (test-is true p)) refl
            (here-heard m u (event-written k c b m (E a) (V m b) (one_parts k (codes "E")) (one (stands_now (names_of k) k.span (names_of k).argument met_before)) line
            (one-texts k note h (said m) (Truth false) b (codes "E"))
            (met-left m (said m) (text (lines_of k) (b.events ++ E a ∷ [])) (names_of k).argument d (argument-is k note h (said m) (Truth false) b) l refl (sym (ap kept_as p))
            (with-line m (E a) line))))
        by false p =
            let m : Note = HasFinished a d in
            let none : line_of b m ≡ None = ap (λ (y : Bool). if y then Some (E a) else None) p in
            silent-heard m (hearing k c (on_finish k.teller k.span) (V m b) output) (hearing k c no_stmt (V m b) output) none refl refl
            (if-goes k note h (said m) (Truth false) b c output arms absent absent (test-is false p))
            (none-left m (said m) b output refl (sym (ap kept_as p)) (no-line m none))

    -- ---- a call has come back

    abbrev back_line : PStmts
    back_line = in_front (acceptor_line k.teller k.span) (one (stands_now (names_of k) k.span (names_of k).subject met_before))

    abbrev failed_line : PStmts
    failed_line = in_front (call_line (names_of k) k.span (codes "F")) (one (answered (names_of k) k.span true))

    abbrev has_not_met : PExpr
    has_not_met = EBinary And (stands (names_of k) k.span (names_of k).subject no_meeting) (EBinary Equal (EName (names_of k).kind k.span) (number k.span has_failed) k.span) k.span

    abbrev back_arms : PArms
    back_arms =
        arm_then (arm (stands (names_of k) k.span (names_of k).subject meeting) back_line)
        (arm_then (arm (stands (names_of k) k.span (names_of k).subject lost) (one (answered (names_of k) k.span true))) (arm_then (arm has_not_met failed_line) no_arm))

    -- the branch that is taken, where the note is of an exception or not
    back-taken : (n : Note) (t : ℕ) (failed x1 x3 x0 : Bool) → (said n).subject ≡ t → int_eq (pos (said n).kind) (pos 7) ≡ failed → t ≤ last_of k →
        (b.met t == 1) ≡ x1 → (b.met t == 3) ≡ x3 → (b.met t == 0) ≡ x0 →
        arm_taken (hearing k c (on_back k.teller k.span) (V n b) output) back_arms absent
        ≡ (if x1 then Ok (present back_line) else if x3 then Ok (present (one (answered (names_of k) k.span true))) else if x0 && failed then Ok (present failed_line) else Ok absent)
    back-taken n t failed x1 x3 x0 who kind l q1 q3 q0 =
        let v : Task = hearing k c (on_back k.teller k.span) (V n b) output in
        let s : Spelled = said n in
        let near : s.subject ≤ last_of k = omega (arith, who, l) in
        let so : (m : ℕ) (x : Bool) → (b.met t == m) ≡ x → (b.met s.subject == m) ≡ x = λ m x q. ap (λ (y : ℕ). b.met y == m) who ∙ q in
        arm-by v (stands (names_of k) k.span (names_of k).subject meeting) back_line
        (arm_then (arm (stands (names_of k) k.span (names_of k).subject lost) (one (answered (names_of k) k.span true))) (arm_then (arm has_not_met failed_line) no_arm)) absent x1
        (stands-so k note h s (Truth false) b 1 (few 1 (omega arith)) near x1 (so 1 x1 q1))
        ∙ ap (λ (r : Result PMaybe Raised). if x1 then Ok (present back_line) else r)
        (arm-by v (stands (names_of k) k.span (names_of k).subject lost) (one (answered (names_of k) k.span true)) (arm_then (arm has_not_met failed_line) no_arm) absent x3
        (stands-so k note h s (Truth false) b 3 (few 3 (omega arith)) near x3 (so 3 x3 q3))
        ∙ ap (λ (r : Result PMaybe Raised). if x3 then Ok (present (one (answered (names_of k) k.span true))) else r)
        (arm-by v has_not_met failed_line no_arm absent (x0 && failed)
        (ap (λ (r : Result Value Raised). operated And r (evaluated k.setting.types (V n b) (EBinary Equal (EName (names_of k).kind k.span) (number k.span has_failed) k.span)))
        (stands-so k note h s (Truth false) b 0 (few 0 (omega arith)) near x0 (so 0 x0 q0))
        ∙ ap (λ (r : Result Value Raised). operated And (Ok (Truth x0)) (operated Equal r (evaluated k.setting.types (V n b) (number k.span has_failed)))) (kind-is k note h s (Truth false) b)
        ∙ ap (λ (x : Bool). operated And (Ok (Truth x0)) (Ok (Truth x))) kind
        ∙ both x0 failed)))
      where
        both : (x y : Bool) → operated And (Ok (Truth x)) (Ok (Truth y)) ≡ Ok (Truth (x && y))
        both true true = refl
        both true false = refl
        both false true = refl
        both false false = refl

    -- a call has come back with its acceptor's line still to write
    ending-heard : (n : Note) (t : ℕ) → (said n).subject ≡ t → ((u : Task) → IsNoted k c (answer_of b n) (recorded b n) u → IsLineEnded k c b n u) → t ≤ last_of k →
        line_of b n ≡ Some (E (b.acceptor t)) → answer_of b n ≡ false → kept k (with_met b (numbered_so b.met t 2)) ≡ kept k (recorded b n) →
        arm_taken (hearing k c (on_back k.teller k.span) (V n b) output) back_arms absent ≡ Ok (present back_line) → Heard n (hearing k c (on_back k.teller k.span) (V n b) output)
    ending-heard n t who to_end l line answers same is =
        let s : Spelled = said n in
        let at : evaluated k.setting.types (V n b) (EName (names_of k).subject k.span) ≡ Ok (Number (pos t)) = subject-is k note h s (Truth false) b ∙ ap (λ (m : ℕ). Ok (Number (pos m))) who in
        let u : Task = hearing k c back_line (V n b) output in
        let left = met-left n s (text (lines_of k) (b.events ++ E (b.acceptor t) ∷ [])) (names_of k).subject t at l answers same (with-line n (E (b.acceptor t)) line) in
        let texts : HaveTexts k (V n b) (acceptor_parts k) (front (E (b.acceptor t))) =
        subst (λ (m : ℕ). HaveTexts k (V n b) (acceptor_parts k) (front (E (b.acceptor m)))) who (acceptor-texts k note h s (Truth false) b (omega (arith, who, l))) in
        step-heard n (hearing k c (on_back k.teller k.span) (V n b) output) u refl (if-goes k note h s (Truth false) b c output back_arms absent (present back_line) is) refl
        (here-heard n u (event-written k c b n (E (b.acceptor t)) (V n b) (acceptor_parts k) (one (stands_now (names_of k) k.span (names_of k).subject met_before)) line texts
        (left.0, left.1, to_end left.0 left.2)))

    -- by an exception
    failed-heard : (t e : ℕ) (i : ℤ) → position_of index ≡ i → t ≤ last_of k → Heard (HasFailed t e i) (hearing k c (on_back k.teller k.span) (V (HasFailed t e i) b) output)
    failed-heard t e i at l = by (b.met t == 1) (b.met t == 3) (b.met t == 0) refl refl refl
      where
        kept_as : Bool → Variables
        kept_as y = kept k (with_met b (if y then numbered_so b.met t 2 else b.met))

        by : (x1 x3 x0 : Bool) → (b.met t == 1) ≡ x1 → (b.met t == 3) ≡ x3 → (b.met t == 0) ≡ x0 → Heard (HasFailed t e i) (hearing k c (on_back k.teller k.span) (V (HasFailed t e i) b) output)
        by true x3 x0 q1 q3 q0 =
            ending-heard (HasFailed t e i) t refl (λ u x. x) l (ap (λ (y : Bool). if y then Some (E (b.acceptor t)) else (if b.met t == 0 then Some (F t e i) else None)) q1)
            (ap (λ (y : ℕ). (y == 3) || (y == 0)) (equal_is (b.met t) 1 q1)) (sym (ap kept_as q1)) (back-taken (HasFailed t e i) t true true x3 x0 refl refl l q1 q3 q0)
        by false true x0 q1 q3 q0 =
            let m : Note = HasFailed t e i in
            let none : line_of b m ≡ None =
            ap (λ (y : Bool). if y then Some (E (b.acceptor t)) else (if b.met t == 0 then Some (F t e i) else None)) q1
            ∙ ap (λ (y : ℕ). if y == 0 then Some (F t e i) else None) (equal_is (b.met t) 3 q3) in
            silent-heard m (hearing k c (on_back k.teller k.span) (V m b) output) (hearing k c (one (answered (names_of k) k.span true)) (V m b) output) none refl refl
            (if-goes k note h (said m) (Truth false) b c output back_arms absent (present (one (answered (names_of k) k.span true))) (back-taken m t true false true x0 refl refl l q1 q3 q0))
            (answer-left m (said m) b output (ap (λ (y : Bool). y || (b.met t == 0)) q3) (sym (ap kept_as q1)) (no-line m none))
        by false false true q1 q3 q0 =
            let m : Note = HasFailed t e i in
            let line : line_of b m ≡ Some (F t e i) =
            ap (λ (y : Bool). if y then Some (E (b.acceptor t)) else (if b.met t == 0 then Some (F t e i) else None)) q1 ∙ ap (λ (y : Bool). if y then Some (F t e i) else None) q0 in
            let u : Task = hearing k c failed_line (V m b) output in
            step-heard m (hearing k c (on_back k.teller k.span) (V m b) output) u refl
            (if-goes k note h (said m) (Truth false) b c output back_arms absent (present failed_line) (back-taken m t true false false true refl refl l q1 q3 q0)) refl
            (here-heard m u (event-written k c b m (F t e i) (V m b) (call_parts k (codes "F")) (one (answered (names_of k) k.span true)) line
            (call-texts k note h (said m) (Truth false) b (codes "F") i at)
            (answer-left m (said m) b (text (lines_of k) (b.events ++ F t e i ∷ [])) (ap (λ (y : Bool). y || (b.met t == 0)) q3 ∙ q0) (sym (ap kept_as q1)) (with-line m (F t e i) line))))
        by false false false q1 q3 q0 =
            let m : Note = HasFailed t e i in
            let none : line_of b m ≡ None =
            ap (λ (y : Bool). if y then Some (E (b.acceptor t)) else (if b.met t == 0 then Some (F t e i) else None)) q1 ∙ ap (λ (y : Bool). if y then Some (F t e i) else None) q0 in
            silent-heard m (hearing k c (on_back k.teller k.span) (V m b) output) (hearing k c no_stmt (V m b) output) none refl refl
            (if-goes k note h (said m) (Truth false) b c output back_arms absent absent (back-taken m t true false false false refl refl l q1 q3 q0))
            (none-left m (said m) b output (ap (λ (y : Bool). y || (b.met t == 0)) q3 ∙ q0) (sym (ap kept_as q1)) (no-line m none))

    -- without one
    returned-heard : (t : ℕ) → t ≤ last_of k → Heard (HasReturned t) (hearing k c (on_back k.teller k.span) (V (HasReturned t) b) output)
    returned-heard t l = by (b.met t == 1) (b.met t == 3) (b.met t == 0) refl refl refl
      where
        kept_as : Bool → Variables
        kept_as y = kept k (with_met b (if y then numbered_so b.met t 2 else b.met))

        nothing : (x0 : Bool) → (b.met t == 1) ≡ false → (b.met t == 3) ≡ false →
            arm_taken (hearing k c (on_back k.teller k.span) (V (HasReturned t) b) output) back_arms absent ≡ Ok absent →
            Heard (HasReturned t) (hearing k c (on_back k.teller k.span) (V (HasReturned t) b) output)
        nothing x0 q1 q3 is =
            let m : Note = HasReturned t in
            let none : line_of b m ≡ None = ap (λ (y : Bool). if y then Some (E (b.acceptor t)) else None) q1 in
            silent-heard m (hearing k c (on_back k.teller k.span) (V m b) output) (hearing k c no_stmt (V m b) output) none refl refl
            (if-goes k note h (said m) (Truth false) b c output back_arms absent absent is)
            (none-left m (said m) b output q3 (sym (ap kept_as q1)) (no-line m none))

        by : (x1 x3 x0 : Bool) → (b.met t == 1) ≡ x1 → (b.met t == 3) ≡ x3 → (b.met t == 0) ≡ x0 → Heard (HasReturned t) (hearing k c (on_back k.teller k.span) (V (HasReturned t) b) output)
        by true x3 x0 q1 q3 q0 =
            ending-heard (HasReturned t) t refl (λ u x. x) l (ap (λ (y : Bool). if y then Some (E (b.acceptor t)) else None) q1)
            (ap (λ (y : ℕ). y == 3) (equal_is (b.met t) 1 q1)) (sym (ap kept_as q1)) (back-taken (HasReturned t) t false true x3 x0 refl refl l q1 q3 q0)
        by false true x0 q1 q3 q0 =
            let m : Note = HasReturned t in
            let none : line_of b m ≡ None = ap (λ (y : Bool). if y then Some (E (b.acceptor t)) else None) q1 in
            silent-heard m (hearing k c (on_back k.teller k.span) (V m b) output) (hearing k c (one (answered (names_of k) k.span true)) (V m b) output) none refl refl
            (if-goes k note h (said m) (Truth false) b c output back_arms absent (present (one (answered (names_of k) k.span true))) (back-taken m t false false true x0 refl refl l q1 q3 q0))
            (answer-left m (said m) b output q3 (sym (ap kept_as q1)) (no-line m none))
        by false false true q1 q3 q0 = nothing true q1 q3 (back-taken (HasReturned t) t false false false true refl refl l q1 q3 q0)
        by false false false q1 q3 q0 = nothing false q1 q3 (back-taken (HasReturned t) t false false false false refl refl l q1 q3 q0)

    -- ---- each branch comes to where it writes the line

    branch-heard : (n : Note) → position_of index ≡ member_of n → IsWithin (last_of k) n → Heard n (hearing k c (branch_for n) (V n b) output)
    branch-heard (BeforeCall t) at l =
        let n : Note = BeforeCall t in
        let b' : Book = with_met b (numbered_so b.met t 0) in
        silent-heard n (hearing k c (branch_for n) (V n b) output) (hearing k c no_stmt (V n b') output) refl refl refl
        (met-kept k note h c (said n) (Truth false) b no_stmt output (names_of k).subject t (subject-is k note h (said n) (Truth false) b) l 0 (few 0 (omega arith)))
        (none-left n (said n) b' output refl refl (no-line n refl))
    branch-heard (HasBegun t e i a) at l = begun-heard t e i a at l.0 l.1 (b.gone t) refl
    branch-heard (HasFinished a d) at l = finished-heard a d l (are_met b a d) refl
    branch-heard (HasElse a) at l =
        let n : Note = HasElse a in
        here-heard n (hearing k c (branch_for n) (V n b) output)
        (event-written k c b n (S a) (V n b) (one_parts k (codes "S")) no_stmt refl (one-texts k note h (said n) (Truth false) b (codes "S"))
        (none-left n (said n) b (text (lines_of k) (b.events ++ S a ∷ [])) refl refl (with-line n (S a) refl)))
    branch-heard (HasDelay a d) at l =
        let n : Note = HasDelay a d in
        here-heard n (hearing k c (branch_for n) (V n b) output)
        (event-written k c b n (D a d) (V n b) (two_parts k (codes "D")) no_stmt refl (two-texts k note h (said n) (Truth false) b (codes "D"))
        (none-left n (said n) b (text (lines_of k) (b.events ++ D a d ∷ [])) refl refl (with-line n (D a d) refl)))
    branch-heard (HasCallElse t e i w) at l =
        let n : Note = HasCallElse t e i w in
        late-heard n (codes "C") (F t e i) (C t e i) (λ u x. x) l refl refl refl (call-texts k note h (said n) (Truth false) b (codes "F") i at)
        (call-texts k note h (said n) (Truth false) b (codes "C") i at)
    branch-heard (HasExpired t e i w) at l =
        let n : Note = HasExpired t e i w in
        late-heard n (codes "T") (F t e i) (T t e i) (λ u x. x) l refl refl refl (call-texts k note h (said n) (Truth false) b (codes "F") i at)
        (call-texts k note h (said n) (Truth false) b (codes "T") i at)
    branch-heard (HasFailed t e i) at l = failed-heard t e i at l
    branch-heard (AtEnd a) at l =
        let n : Note = AtEnd a in
        let b' : Book = with_gone b (flagged b.gone a true) in
        let u : Task = hearing k c (task_line (names_of k) k.span (codes "X")) (V n b') output in
        step-heard n (hearing k c (branch_for n) (V n b) output) u refl
        (gone-kept k note h c (said n) (Truth false) b (task_line (names_of k) k.span (codes "X")) output (names_of k).subject a (subject-is k note h (said n) (Truth false) b) l true) refl
        (here-heard n u (event-written k c b n (X a) (V n b') (one_parts k (codes "X")) no_stmt refl (one-texts k note h (said n) (Truth false) b' (codes "X"))
        (none-left n (said n) b' (text (lines_of k) (b.events ++ X a ∷ [])) refl refl (with-line n (X a) refl))))
    branch-heard (ToAbort t v) at l =
        let n : Note = ToAbort t v in
        here-heard n (hearing k c (branch_for n) (V n b) output)
        (event-written k c b n (B t v) (V n b) (two_parts k (codes "B"))
        (stmt_then (flag_set k.span (names_of k).gone (names_of k).argument true) (stmt_then (callers_lost k.teller k.span) (one (abort_made k.teller k.span)))) refl
        (two-texts k note h (said n) (Truth false) b (codes "B")) (strikes k note h c t v (said n) b refl l.0 l.1))
    branch-heard (HasReturned t) at l = returned-heard t l

  -- ---- from the wait

  pub hears : (n : Note) (teller : Task) → IsWithin (last_of k) n → Tells teller n →
      (u : Task) × Comes (accepted note (pos 0) c teller (waiting k b)) u × IsWriting k c b n [] (pieces (lines_of k) (line_of b n)) u
  hears n teller l tells =
      let first : Task = hearing k c (note_taken k.teller k.span) (note_variables k (spelled n tells.other tells.index) tells.opens_with b) output in
      let second : Task = hearing k c (branch_for n) (V tells.other tells.index n b) output in
      let way : Comes first second = to-branch tells.other tells.index n tells.opens_with in
      let heard : Heard tells.other tells.index n second = branch-heard tells.other tells.index n tells.member l in
      subst (λ (t : Task). (u : Task) × Comes t u × IsWriting k c b n [] (pieces (lines_of k) (line_of b n)) u)
      (sym (opened teller (spelled n tells.other tells.index) tells.opens_with tells.values))
      (heard.0, comes-on first second heard.0 way heard.1, heard.2)
