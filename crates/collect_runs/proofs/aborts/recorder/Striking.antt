-- How the recorder comes from the line of an abort to its abort statement: it keeps that the task is gone, goes through all tasks to keep which have lost their
-- acceptor, and takes the branch of the task.
use Rattle.std.proofs.Common.{◌≡◌, ℕ, zero, suc, pred, ◌+◌, ◌<◌, ◌≤◌, ◌==◌, Bool, true, false, List, [], ◌∷◌, ◌++◌, length, drop, slice_get, unwrap_or}
use Rattle.std.proofs.Common.{Option, Some, None, if◌then◌else◌, refl, sym, ap, ap₂, ◌∙◌, arith}
use Rattle.std.specs.Prelude.{pos, ◌&&◌, nat_lt, Result, Ok}
use Rattle.std.proofs.lemmas.Bool.Decides.{nat_tests}
use Rattle.event_machine.specs.declared.Event.TheVariants.{B}
use Rattle.common_lemmas.proofs.Lists.{element_at}
use Rattle.common_lemmas.proofs.Numbers.{equal_is, lt_true, lt_false}
use Rattle.common_lemmas.proofs.Options.{some_same, not_missing}
use Rattle.ada_tree.specs.declared.naming.Span.{Span}
use Rattle.ada_tree.specs.PlainExpr.{EName}
use Rattle.ada_tree.specs.PlainStmt.{PCallee, SAbort, SIf, SNull, PStmts, no_stmt, stmt_then, PMaybe, absent, present, arm, no_arm, arm_then}
use Rattle.ada_static_rules.specs.Scope.{integer_kind}
use Rattle.ada_value.specs.declared.values.Limits.{Limits}
use Rattle.ada_value.specs.declared.values.Value.{Value}
use Rattle.ada_value.specs.declared.values.Value.TheVariants.{Number, Truth}
use Rattle.ada_value.specs.declared.values.Raised.{Raised}
use Rattle.ada_value.specs.Values.{and_then, value_in, value_at, integer_limits}
use Rattle.ada_value.specs.Variables.{Object, Variables}
use Rattle.ada_value.specs.Evaluating.{range_between}
use Rattle.syn_event.specs.declared.numbering.TaskInfo.{TaskInfo}
use Rattle.task_model.specs.Frames.{Around, Loop, Counting, PFrame, control, settled_in}
use Rattle.task_model.specs.Tasks.{Task, gone_to, with_vars, pushed, or_raised}
use Rattle.task_model.specs.Stands.{stepped}
use Rattle.task_model.specs.Steps.{case_taken, counting_begun, loop_parameter, counted_on, loop_left, arm_taken}
use Rattle.normal_model.specs.Making.{one}
use Rattle.normal_model.specs.Ranges.{word_at}
use Rattle.table_law.specs.States.{Comes}
use Rattle.table_law.proofs.Numbers.{fitted-ok}
use Rattle.table_law.proofs.Turning.{step-first, comes-on, decided-other, decided-same, literal-fits}
use Rattle.run_laws.specs.collecting.Notes.{flagged, text}
use Rattle.collect_model.specs.Noting.{number}
use Rattle.collect_model.specs.Recording.{flag_set}
use Rattle.collect_runs.specs.recorder.Telling.{Spelled}
use Rattle.collect_model.specs.aborts.Recording.{lost, stands_now, is_meeting, callers_lost, aborts_from, abort_made}
use Rattle.run_laws.specs.aborts.Notes.{ToAbort, Book, are_met, numbered_so, recorded}
use Rattle.collect_runs.specs.aborts.recorder.Recorders.{Recorder, names_of, tasks_of, last_of, IsRecorder}
use Rattle.collect_runs.specs.aborts.recorder.States.{lines_of, standing, numbers_object, flags_object, formal_object, note_variables, hearing, IsStriking}
use Rattle.collect_runs.proofs.aborts.recorder.Tables.{table-same}
use Rattle.collect_runs.proofs.aborts.recorder.Stepping.{tests, assigns, entry-assigned, chooses}
use Rattle.collect_runs.proofs.aborts.recorder.Valuing.{arm-by, literal-is, number-fits, meeting-is}
use Rattle.collect_runs.proofs.aborts.recorder.Keeping.{body_around, around_body, body-holds, gone-kept}
use Rattle.collect_runs.proofs.aborts.recorder.Finding.{with_gone, with_met, each_object, argument-is, each-is, turn-argument-is, turn-acceptors-named, turn-met-named, turn-met-set}
use Rattle.ada_value.proofs.StaticLaws.{natural_integer as small}

-- ---- the branch of a task

-- who is named so
abbrev pub callee_named : Span → TaskInfo → PCallee
callee_named s info = record { name = word_at s info.name; index = None }

abbrev aborting : Span → TaskInfo → PStmts
aborting s info = one (SAbort (callee_named s info ∷ []) s)

task-taken : (t : Task) (s : Span) (tasks : List TaskInfo) (first n j : ℕ) (info : TaskInfo) (others : PMaybe) → n ≡ first + j → n ≤ 2147483647 → slice_get tasks j ≡ Some info →
    case_taken t (Number (pos n)) (aborts_from s first tasks) others ≡ Ok (present (aborting s info))
task-taken t s [] first n j info others e l there = absurd (not_missing info there)
task-taken t s (x ∷ tasks) first n zero info others e l there =
    ap (λ (r : Result Bool Raised). and_then r (λ (b : Bool). if b then Ok (present (aborting s x)) else case_taken t (Number (pos n)) (aborts_from s (first + 1) tasks) others))
    (literal-fits t s first n (omega (arith, e, l)) ∙ decided-same first n (omega (arith, e)) (omega (arith, e)))
    ∙ ap (λ (i : TaskInfo). Ok (present (aborting s i))) (some_same there)
task-taken t s (x ∷ tasks) first n (suc j) info others e l there =
    ap (λ (r : Result Bool Raised). and_then r (λ (b : Bool). if b then Ok (present (aborting s x)) else case_taken t (Number (pos n)) (aborts_from s (first + 1) tasks) others))
    (literal-fits t s first n (omega (arith, e, l)) ∙ decided-other first n (omega (arith, e)))
    ∙ task-taken t s tasks (first + 1) n j info others (omega (arith, e)) l there

beside : (n j : ℕ) → suc j ≤ pred n → suc j < n
beside n j l = omega (arith, l)

-- the task of a number beside main
task-beside : (tasks : List TaskInfo) (j : ℕ) → suc j < length tasks → (info : TaskInfo) × (slice_get (drop 1 tasks) j ≡ Some info)
task-beside [] j l = absurd (omega (arith, l))
task-beside (main ∷ tasks) j l = element_at tasks j (omega (arith, l))

-- ---- the loop

lt-other : (w u : ℕ) → (w == u) ≡ false → nat_lt w u ≡ nat_lt w (suc u)
lt-other w u e = grind (arith, nat_tests, e)

module _ (k : Recorder) (note : ℕ) (h : IsRecorder k note) (c : ℕ) (s : Spelled) (g : Value) (output : List ℕ) where
  abbrev lost_now : PStmts
  lost_now = one (stands_now (names_of k) k.span k.teller.each lost)

  abbrev turn_body : PStmts
  turn_body = one (SIf (arm_then (arm (is_meeting k.teller k.span k.teller.each (names_of k).argument) lost_now) no_arm) absent k.span)

  abbrev loop_place : Around
  loop_place = Loop None (Counting false (pos (last_of k))) turn_body

  abbrev loop_outer : List PFrame
  loop_outer = record { rest = one (abort_made k.teller k.span); place = body_around k c } ∷ around_body k

  loop-holds : (rest : PStmts) (vars : Variables) → settled_in loop_outer rest loop_place vars ≡ control rest loop_place loop_outer vars
  loop-holds no_stmt vars = refl
  loop-holds (stmt_then x rest) vars = refl

  abbrev turning : PStmts → Variables → Task
  turning stmts vars = standing k (control stmts loop_place loop_outer vars) output

  number-at : (n : ℕ) → n ≤ 2147483647 → value_at k.setting.types integer_kind (pos n) ≡ Number (pos n)
  number-at n l = ap (λ o. value_in integer_kind o (pos n)) h.integer ∙ ap (λ (b : Bool). if b then Number (pos n) else Number (pos 0)) (small n l)

  module _ (b : Book) where
    abbrev around_met : Object → Variables
    around_met o =
        formal_object k (names_of k).kind 0 (Number (pos s.kind)) ∷ formal_object k (names_of k).subject 0 (Number (pos s.subject))
        ∷ formal_object k (names_of k).argument 0 (Number (pos s.argument)) ∷ formal_object k (names_of k).index 0 s.index
        ∷ formal_object k (names_of k).owner 0 (Number (pos s.owner)) ∷ formal_object k (names_of k).reply 3 g
        ∷ numbers_object k k.teller.acceptors b.acceptor ∷ o ∷ flags_object k (names_of k).gone b.gone ∷ []

    abbrev V : (ℕ → ℕ) → Variables
    V f = note_variables k s g (with_met b f)

    -- only the numbers of tasks matter
    met-same : (f f' : ℕ → ℕ) → ((w : ℕ) → w ≤ last_of k → f w ≡ f' w) → V f ≡ V f'
    met-same f f' same =
        ap around_met (table-same k (names_of k).met integer_limits (λ t. Number (pos (f t))) (λ t. Number (pos (f' t))) (λ u l. ap (λ (n : ℕ). Number (pos n)) (same u l)))

    -- those of the first u tasks that are in a rendezvous with the acceptor have lost it
    abbrev below : ℕ → ℕ → ℕ
    below u w = if nat_lt w u && are_met b s.argument w then 3 else b.met w

    below-self : (u : ℕ) → below u u ≡ b.met u
    below-self u = ap (λ (x : Bool). if x && are_met b s.argument u then 3 else b.met u) (lt_false u u (omega arith))

    below-other : (u w : ℕ) → (w == u) ≡ false → below u w ≡ below (suc u) w
    below-other u w e = ap (λ (x : Bool). if x && are_met b s.argument w then 3 else b.met w) (lt-other w u e)

    below-next : (u : ℕ) → below (suc u) u ≡ (if are_met b s.argument u then 3 else b.met u)
    below-next u = ap (λ (x : Bool). if x && are_met b s.argument u then 3 else b.met u) (lt_true u (suc u) (omega arith))

    -- in a rendezvous with it, or not
    now-lost : (u w : ℕ) → are_met b s.argument u ≡ true → numbered_so (below u) u 3 w ≡ below (suc u) w
    now-lost u w met = by (w == u) refl
      where
        by : (x : Bool) → (w == u) ≡ x → (if w == u then 3 else below u w) ≡ below (suc u) w
        by true q =
            ap (λ (x : Bool). if x then 3 else below u w) q
            ∙ sym (ap (λ (y : ℕ). below (suc u) y) (equal_is w u q) ∙ below-next u ∙ ap (λ (x : Bool). if x then 3 else b.met u) met)
        by false q = ap (λ (x : Bool). if x then 3 else below u w) q ∙ below-other u w q

    still-so : (u w : ℕ) → are_met b s.argument u ≡ false → below u w ≡ below (suc u) w
    still-so u w met = by (w == u) refl
      where
        by : (x : Bool) → (w == u) ≡ x → below u w ≡ below (suc u) w
        by true q =
            ap (λ (y : ℕ). below u y) (equal_is w u q) ∙ below-self u
            ∙ sym (ap (λ (y : ℕ). below (suc u) y) (equal_is w u q) ∙ below-next u ∙ ap (λ (x : Bool). if x then 3 else b.met u) met)
        by false q = below-other u w q

    abbrev W : ℕ → (ℕ → ℕ) → Variables
    W u f = each_object k u ∷ V f

    -- a turn
    turn-ends : (u : ℕ) → u ≤ last_of k → (x : Bool) → are_met b s.argument u ≡ x → Comes (turning turn_body (W u (below u))) (turning no_stmt (W u (below (suc u))))
    turn-ends u l x q = by x q
      where
        test-is : (y : Bool) → are_met b s.argument u ≡ y →
            arm_taken (turning turn_body (W u (below u))) (arm_then (arm (is_meeting k.teller k.span k.teller.each (names_of k).argument) lost_now) no_arm) absent ≡
            (if y then Ok (present lost_now) else Ok absent)
        test-is y p =
            arm-by (turning turn_body (W u (below u))) (is_meeting k.teller k.span k.teller.each (names_of k).argument) lost_now no_arm absent y
            (meeting-is k (W u (below u)) k.teller.each (names_of k).argument (below u) b.acceptor u s.argument (turn-met-named k note h s g (with_met b (below u)) u)
            (turn-acceptors-named k note h s g (with_met b (below u)) u) (each-is k note h s g (with_met b (below u)) u) l (turn-argument-is k note h s g (with_met b (below u)) u)
            ∙ ap (λ (m : ℕ). Ok (Truth ((m == 1) && (b.acceptor u == s.argument)))) (below-self u)
            ∙ ap (λ (z : Bool). Ok (Truth z)) p)

        by : (y : Bool) → are_met b s.argument u ≡ y → Comes (turning turn_body (W u (below u))) (turning no_stmt (W u (below (suc u))))
        by true p =
            let there : Task = turning no_stmt (W u (below (suc u))) in
            step-first (turning turn_body (W u (below u))) (turning lost_now (W u (below u))) there refl
            (tests k loop_place loop_outer loop-holds (arm_then (arm (is_meeting k.teller k.span k.teller.each (names_of k).argument) lost_now) no_arm) absent
            (present lost_now) k.span no_stmt (W u (below u)) output (test-is true p)) refl
            (step-first (turning lost_now (W u (below u))) (turning no_stmt (W u (numbered_so (below u) u 3))) there refl
            (assigns k loop_place loop_outer loop-holds (record { name = word_at k.span (names_of k).met; index = Some (EName k.teller.each k.span) }) (number k.span 3) k.span no_stmt
            (W u (below u)) (W u (numbered_so (below u) u 3)) output
            (entry-assigned k loop_place loop_outer loop-holds lost_now (W u (below u)) (W u (numbered_so (below u) u 3)) output (names_of k).met k.teller.each integer_limits
            (λ t. Number (pos (below u t))) u (number k.span 3)
            (Number (pos 3)) k.span (turn-met-named k note h s g (with_met b (below u)) u) (each-is k note h s g (with_met b (below u)) u) l (literal-is k (W u (below u)) 3 (omega arith))
            (number-fits 3 (omega arith)) (turn-met-set k note h s g (with_met b (below u)) u 3 l))) refl
            (0, ap (λ (vs : Variables). turning no_stmt (each_object k u ∷ vs)) (met-same (numbered_so (below u) u 3) (below (suc u)) (λ w m. now-lost u w p))))
        by false p =
            let there : Task = turning no_stmt (W u (below (suc u))) in
            step-first (turning turn_body (W u (below u))) (turning no_stmt (W u (below u))) there refl
            (tests k loop_place loop_outer loop-holds (arm_then (arm (is_meeting k.teller k.span k.teller.each (names_of k).argument) lost_now) no_arm) absent absent k.span no_stmt
            (W u (below u)) output (test-is false p)) refl
            (0, ap (λ (vs : Variables). turning no_stmt (each_object k u ∷ vs)) (met-same (below u) (below (suc u)) (λ w m. still-so u w p)))

    -- the step at the end of a turn, by whether a turn is left
    abbrev ending : ℕ → Bool → Task
    ending u x =
        let t : Task = turning no_stmt (W u (below (suc u))) in
        if x then gone_to turn_body (with_vars t (counted_on t false (W u (below (suc u))))) else loop_left (Counting false (pos (last_of k))) t

    turned : (u : ℕ) → u < last_of k → stepped (turning no_stmt (W u (below (suc u)))) ≡ turning turn_body (W (suc u) (below (suc u)))
    turned u l =
        let next : u + 1 ≡ suc u = omega arith in
        let counted : Value → Task = λ v. turning turn_body (record { name = k.teller.each; limits = integer_limits; index = None; values = v ∷ [] } ∷ V (below (suc u))) in
        ap (ending u) (lt_true u (last_of k) l)
        ∙ ap (λ (n : ℕ). counted (value_at k.setting.types integer_kind (pos n))) next
        ∙ ap counted (number-at (suc u) (omega (arith, l, h.few)))

    abbrev behind : (ℕ → ℕ) → Task
    behind f = hearing k c (one (abort_made k.teller k.span)) (V f) output

    -- so many turns are left behind this one
    turns : (n u : ℕ) → u + n ≡ last_of k → Comes (turning turn_body (W u (below u))) (behind (below (suc (last_of k))))
    turns zero u e =
        let same : u ≡ last_of k = omega (arith, e) in
        let end : Task = turning no_stmt (W u (below (suc u))) in
        comes-on (turning turn_body (W u (below u))) end (behind (below (suc (last_of k)))) (turn-ends u (omega (arith, e)) (are_met b s.argument u) refl)
        (step-first end (behind (below (suc u))) (behind (below (suc (last_of k)))) refl (ap (ending u) (lt_false u (last_of k) (omega (arith, e)))) refl
        (0, ap (λ (m : ℕ). behind (below (suc m))) same))
    turns (suc n) u e =
        let end : Task = turning no_stmt (W u (below (suc u))) in
        comes-on (turning turn_body (W u (below u))) end (behind (below (suc (last_of k)))) (turn-ends u (omega (arith, e)) (are_met b s.argument u) refl)
        (step-first end (turning turn_body (W (suc u) (below (suc u)))) (behind (below (suc (last_of k)))) refl (turned u (omega (arith, e))) refl (turns n (suc u) (omega (arith, e))))

    -- the loop begins
    abbrev at_loop : Task
    at_loop = hearing k c (stmt_then (callers_lost k.teller k.span) (one (abort_made k.teller k.span))) (note_variables k s g b) output

    begun : stepped at_loop ≡ turning turn_body (W 0 b.met)
    begun =
        ap (λ (r : Result Value Raised). or_raised (λ (l : Limits). counting_begun None (word_at k.span k.teller.each) false turn_body (one (abort_made k.teller k.span)) at_loop l) at_loop
        (and_then r (λ y. Ok (range_between (Number (pos 0)) y)))) (fitted-ok (pos (last_of k)) (small (last_of k) h.few))
        ∙ ap (λ (x : Bool). if x then gone_to (one (abort_made k.teller k.span)) at_loop else pushed turn_body loop_place
        (loop_parameter at_loop (word_at k.span k.teller.each) integer_kind (pos 0) ∷ note_variables k s g b) (one (abort_made k.teller k.span)) at_loop) (lt_false (last_of k) 0 (omega arith))
        ∙ ap₂ (λ (l : Limits) (v : Value). turning turn_body (record { name = k.teller.each; limits = l; index = None; values = v ∷ [] } ∷ note_variables k s g b)) h.of_kind
        (number-at 0 (omega arith))

    looped : Comes at_loop (behind (below (suc (last_of k))))
    looped =
        step-first at_loop (turning turn_body (W 0 (below 0))) (behind (below (suc (last_of k)))) refl
        (begun ∙ ap (λ (vs : Variables). turning turn_body (each_object k 0 ∷ vs)) (met-same b.met (below 0)
        (λ w m. sym (ap (λ (x : Bool). if x && are_met b s.argument w then 3 else b.met w) (lt_false w 0 (omega arith)))))) refl
        (turns (last_of k) 0 (omega arith))

-- ---- the whole

pub strikes : (k : Recorder) (note : ℕ) (h : IsRecorder k note) (c a v : ℕ) (s : Spelled) (b : Book) → s.argument ≡ v → 0 < v → v ≤ last_of k →
    (u : Task) × Comes (hearing k c
    (stmt_then (flag_set k.span (names_of k).gone (names_of k).argument true) (stmt_then (callers_lost k.teller k.span) (one (abort_made k.teller k.span))))
    (note_variables k s (Truth false) b) (text (lines_of k) (b.events ++ B a v ∷ []))) u
    × IsStriking k c b a v u
strikes k note h c a zero s b is least within = absurd (omega (arith, least))
strikes k note h c a (suc j) s b is least within =
    let output : List ℕ = text (lines_of k) (b.events ++ B a (suc j) ∷ []) in
    let named : s.argument ≤ last_of k = omega (arith, is, within) in
    let gone : Book = with_gone b (flagged b.gone s.argument true) in
    let rest : PStmts = stmt_then (callers_lost k.teller k.span) (one (abort_made k.teller k.span)) in
    let found = task-beside (tasks_of k) j (beside (length (tasks_of k)) j within) in
    let all : Book = with_met gone (below k note h c s (Truth false) output gone (suc (last_of k))) in
    let making : Task = hearing k c (one (abort_made k.teller k.span)) (note_variables k s (Truth false) all) output in
    let there : Task = hearing k c (one (SAbort (callee_named k.span found.0 ∷ []) k.span)) (note_variables k s (Truth false) all) output in
    let vars : note_variables k s (Truth false) all ≡ note_variables k s (Truth false) (recorded b (ToAbort a (suc j))) =
    ap (λ (m : ℕ). note_variables k s (Truth false) (with_met (with_gone b (flagged b.gone m true)) (λ w. if nat_lt w (suc (last_of k)) && are_met b m w then 3 else b.met w))) is
    ∙ met-same k note h c s (Truth false) output (recorded b (ToAbort a (suc j))) (λ w. if nat_lt w (suc (last_of k)) && are_met b (suc j) w then 3 else b.met w)
    (λ w. if are_met b (suc j) w then 3 else b.met w)
    (λ w m. ap (λ (x : Bool). if x && are_met b (suc j) w then 3 else b.met w) (lt_true w (suc (last_of k)) (omega (arith, m)))) in (
      there,
      step-first _ (hearing k c rest (note_variables k s (Truth false) gone) output) there refl
          (gone-kept k note h c s (Truth false) b rest output (names_of k).argument s.argument (argument-is k note h s (Truth false) b) named true) refl
          (comes-on (hearing k c rest (note_variables k s (Truth false) gone) output) making there (looped k note h c s (Truth false) output gone)
          (step-first making there there refl
          (chooses k (body_around k c) (around_body k) (body-holds k c) (EName (names_of k).argument k.span) (Number (pos s.argument)) (aborts_from k.span 1 (drop 1 (tasks_of k)))
          (present (one (SNull k.span)))
          (present (one (SAbort (callee_named k.span found.0 ∷ []) k.span))) k.span no_stmt (note_variables k s (Truth false) all) output (argument-is k note h s (Truth false) all)
          (task-taken making k.span (drop 1 (tasks_of k)) 1 s.argument j found.0 (present (one (SNull k.span))) (omega (arith, is)) (omega (arith, named, h.few)) found.1)) refl
          (0, refl))),
      record {
        said = s;
        callee = callee_named k.span found.0;
        meant = ap (λ (o : Option ℕ). Ok (unwrap_or o 0)) (h.aborts j found.0 found.1);
        is = ap (λ (vs : Variables). hearing k c (one (SAbort (callee_named k.span found.0 ∷ []) k.span)) vs output) vars;
      },
    )
