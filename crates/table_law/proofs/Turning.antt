-- The local steps of the controller in its loop: from the head of a turn to its operation, and from the end of a turn to the next head or behind the loop.
use Rattle.std.proofs.Common.{◌≡◌, ℕ, zero, suc, ◌+◌, ◌<◌, ◌≤◌, Bool, true, false, List, [], ◌∷◌, ◌++◌, length, drop, option_map, unwrap_or, slice_get, length-append, Option, Some, None, if◌then◌else◌, refl, sym, ap, ◌∙◌, subst, arith}
use Rattle.std.specs.Prelude.{ℤ, pos, ◌&&◌, int_le, Result, Ok}
use Rattle.std.proofs.lemmas.Bool.{le-leb}
use Rattle.common_lemmas.proofs.Lists.{all_back, append_last, element_at}
use Rattle.common_lemmas.proofs.Numbers.{le_false, lt_true, lt_false}
use Rattle.common_lemmas.proofs.Options.{some_same, not_missing}
use Rattle.ada_tree.specs.declared.naming.NameId.{NameId}
use Rattle.ada_tree.specs.declared.naming.Span.{Span}
use Rattle.ada_tree.specs.PlainExpr.{EInteger}
use Rattle.ada_tree.specs.PlainStmt.{SNull, no_stmt, stmts_of, PMaybe, present, PCaseArms, case_arms_of, no_handler}
use Rattle.ada_static_rules.specs.Scope.{integer_kind}
use Rattle.ada_value.specs.declared.values.Value.{Value}
use Rattle.ada_value.specs.declared.values.Value.TheVariants.{Number}
use Rattle.ada_value.specs.declared.values.Raised.{Raised}
use Rattle.ada_value.specs.Values.{and_then, value_at, integer_limits}
use Rattle.ada_value.specs.Variables.{Variables}
use Rattle.syn_event.specs.declared.numbering.TaskInfo.{TaskInfo}
use Rattle.task_model.specs.Frames.{OwnBody, Counting, control}
use Rattle.task_model.specs.Tasks.{Task, stmts_or_none, entered, gone_to, with_vars, or_raised}
use Rattle.task_model.specs.Steps.{choice_end, lies_between, choices_fit, case_taken, counted_on, loop_left}
use Rattle.task_model.specs.Stands.{can_step, stepped}
use Rattle.control_script.specs.declared.Op.{Op}
use Rattle.control_script.specs.declared.Op.TheVariants.{Go, Done, Join, Hold}
use Rattle.normal_model.specs.Making.{one}
use Rattle.replay_model.specs.declared.tables.columns.Column.TheVariants.{Operation, Task as TaskColumn}
use Rattle.replay_model.specs.tables.Turns.{going, hearing, joined, join_arms, joining, turn_arms, turn}
use Rattle.replay_model.specs.tables.ControlBodies.{waits}
use Rattle.table_law.specs.Controllers.{Controller, Entries, name_at, IsController, CanMake, CanMakeAll}
use Rattle.table_law.specs.States.{standing, tables, objects, loop_around, behind_loop, turn_variables, turning, calling, behind, before, LeadsTo, Comes}
use Rattle.table_law.proofs.Numbers.{fitted-ok, number-at}
use Rattle.table_law.proofs.Lines.{line-in-turn}
use Rattle.ada_value.proofs.StaticLaws.{natural_integer as small}

-- ---- ways

-- one step in front of a way
pub step : (n : ℕ) (t u v : Task) → can_step t ≡ true → stepped t ≡ u → u.output ≡ t.output → LeadsTo n u v → LeadsTo (suc n) t v
step n t u v can is same more = (can, ap (λ (x : Task). x.output) is ∙ same, subst (λ (x : Task). LeadsTo n x v) (sym is) more)

pub step-first : (t u v : Task) → can_step t ≡ true → stepped t ≡ u → u.output ≡ t.output → Comes u v → Comes t v
step-first t u v can is same more = (suc more.0, step more.0 t u v can is same more.1)

-- one way behind another
pub way-on : (n : ℕ) (t u v : Task) → LeadsTo n t u → Comes u v → Comes t v
way-on zero t u v e more = subst (λ (x : Task). Comes x v) (sym e) more
way-on (suc n) t u v e more = let on = way-on n (stepped t) u v e.2 more in (suc on.0, (e.0, e.1, on.1))

pub comes-on : (t u v : Task) → Comes t u → Comes u v → Comes t v
comes-on t u v way more = way-on way.0 t u v way.1 more

-- ---- operations in lists

pub at-seam : (k : Controller) (made : List Op) (op : Op) (left : List Op) → CanMakeAll k (made ++ op ∷ left) → CanMake k op
at-seam k made op left can = (all_back (CanMake k) made (op ∷ left) can.each).0

-- the operations are the same, whether the one that is made stands with those before or with those behind
pub moved : (k : Controller) (made : List Op) (op : Op) (left : List Op) → CanMakeAll k (made ++ op ∷ left) → CanMakeAll k ((made ++ op ∷ []) ++ left)
moved k made op left can = subst (CanMakeAll k) (sym (append_last made op left)) can

-- the task of a number beside main
pub task-beside : (tasks : List TaskInfo) (j : ℕ) → suc j < length tasks → (info : TaskInfo) × (slice_get (drop 1 tasks) j ≡ Some info) × (name_at tasks (suc j) ≡ info.name)
task-beside [] j l = absurd (omega arith)
task-beside (main ∷ tasks) j l =
    let there = element_at tasks j (omega arith) in
    (there.0, there.1, ap (λ (o : Option TaskInfo). unwrap_or (option_map (λ (i : TaskInfo). i.name) o) (record { 0 = 0 })) there.1)

-- ---- case statements

-- the step at a case statement, by the value of its selector
abbrev chosen : PCaseArms → PMaybe → Task → Result Value Raised → Task
chosen arms others t r = or_raised (λ (branch : PMaybe). entered (stmts_or_none branch) no_stmt t) t (and_then r (λ v. case_taken t v arms others))

-- a number is a literal
abbrev pub decided : ℕ → ℕ → Result Bool Raised
decided m n = if int_le (pos m) (pos n) && int_le (pos n) (pos m) then Ok true else Ok false

pub literal-fits : (t : Task) (s : Span) (m n : ℕ) → m ≤ 2147483647 → choices_fit t (Number (pos n)) (record { first = EInteger m s; last = None } ∷ []) ≡ decided m n
literal-fits t s m n l =
    ap (λ (r : Result Value Raised). and_then (and_then r (λ a. and_then (choice_end t None a) (λ b. Ok (lies_between a b (Number (pos n)))))) (λ (b : Bool). if b then Ok true else Ok false))
    (fitted-ok (pos m) (small m l))

pub decided-same : (m n : ℕ) → m ≤ n → n ≤ m → decided m n ≡ Ok true
decided-same m n below above =
    ap (λ (b : Bool). if b && int_le (pos n) (pos m) then Ok true else Ok false) (le-leb m n below) ∙ ap (λ (b : Bool). if b then Ok true else Ok false) (le-leb n m above)

pub decided-other : (m n : ℕ) → m < n → decided m n ≡ Ok false
decided-other m n below =
    ap (λ (b : Bool). if b && int_le (pos n) (pos m) then Ok true else Ok false) (le-leb m n (omega (arith, below)))
    ∙ ap (λ (b : Bool). if b then Ok true else Ok false) (le_false n m below)

-- of the branches for tasks that of the number is taken
task-taken :
    (k : Controller) (t : Task) (tasks : List TaskInfo) (first n j : ℕ) (info : TaskInfo) (others : PMaybe) → n ≡ first + j → n ≤ 2147483647 → slice_get tasks j ≡ Some info →
    case_taken t (Number (pos n)) (case_arms_of (join_arms k.names k.span first tasks)) others ≡ Ok (present (one (joined k.names k.span info.name)))
task-taken k t [] first n j info others e l there = absurd (not_missing info there)
task-taken k t (x ∷ tasks) first n zero info others e l there =
    ap (λ (r : Result Bool Raised). and_then r (λ (b : Bool). if b then Ok (present (one (joined k.names k.span x.name))) else case_taken t (Number (pos n)) (case_arms_of (join_arms k.names k.span (suc first) tasks)) others))
    (literal-fits t k.span first n (omega (arith, e, l)) ∙ decided-same first n (omega (arith, e)) (omega (arith, e)))
    ∙ ap (λ (i : TaskInfo). Ok (present (one (joined k.names k.span i.name)))) (some_same there)
task-taken k t (x ∷ tasks) first n (suc j) info others e l there =
    ap (λ (r : Result Bool Raised). and_then r (λ (b : Bool). if b then Ok (present (one (joined k.names k.span x.name))) else case_taken t (Number (pos n)) (case_arms_of (join_arms k.names k.span (suc first) tasks)) others))
    (literal-fits t k.span first n (omega (arith, e, l)) ∙ decided-other first n (omega (arith, e)))
    ∙ task-taken k t tasks (suc first) n j info others (omega (arith, e)) l there

module _ (k : Controller) (e : Entries) (h : IsController k e) where
  -- ---- from the head of a turn

  abbrev head : Bool → List Op → ℕ → Task
  head hold all over = turning k hold all over (one (turn k.names k.tasks k.span))

  -- the step into the turn's case statement, by what the operation is
  abbrev entering : Bool → List Op → ℕ → Result Value Raised → Task
  entering hold all over r = chosen (case_arms_of (turn_arms k.names k.span)) (present (one (joining k.names k.tasks k.span))) (head hold all over) r

  goes :
      (hold : Bool) (made left : List Op) (task kind arg : ℕ) (index : ℤ) →
      stepped (head hold (made ++ Go task kind arg index ∷ left) (length made)) ≡ turning k hold (made ++ Go task kind arg index ∷ left) (length made) (one (going k.names k.span))
  goes hold made left task kind arg index =
      ap (entering hold (made ++ Go task kind arg index ∷ left) (length made)) (line-in-turn k e h Operation made (Go task kind arg index) left)

  hears :
      (hold : Bool) (made left : List Op) (task : ℕ) →
      stepped (head hold (made ++ Done task ∷ left) (length made)) ≡ turning k hold (made ++ Done task ∷ left) (length made) (one (hearing k.names k.span))
  hears hold made left task = ap (entering hold (made ++ Done task ∷ left) (length made)) (line-in-turn k e h Operation made (Done task) left)

  chooses :
      (hold : Bool) (made left : List Op) (task : ℕ) →
      stepped (head hold (made ++ Join task ∷ left) (length made)) ≡ turning k hold (made ++ Join task ∷ left) (length made) (one (joining k.names k.tasks k.span))
  chooses hold made left task = ap (entering hold (made ++ Join task ∷ left) (length made)) (line-in-turn k e h Operation made (Join task) left)

  -- the step into the branch of the task
  finds :
      (hold : Bool) (made left : List Op) (task j : ℕ) (info : TaskInfo) → task ≡ suc j → task ≤ 2147483647 → slice_get (drop 1 k.tasks) j ≡ Some info →
      stepped (turning k hold (made ++ Join task ∷ left) (length made) (one (joining k.names k.tasks k.span)))
      ≡ turning k hold (made ++ Join task ∷ left) (length made) (one (joined k.names k.span info.name))
  finds hold made left task j info same l there =
      let all : List Op = made ++ Join task ∷ left in
      let t : Task = turning k hold all (length made) (one (joining k.names k.tasks k.span)) in
      ap (chosen (case_arms_of (join_arms k.names k.span 1 (drop 1 k.tasks))) (present (one (SNull k.span))) t) (line-in-turn k e h TaskColumn made (Join task) left)
      ∙ ap (λ (r : Result PMaybe Raised). or_raised (λ (branch : PMaybe). entered (stmts_or_none branch) no_stmt t) t r)
      (task-taken k t (drop 1 k.tasks) 1 task j info (present (one (SNull k.span))) (omega (arith, same)) l there)

  pub from-head :
      (hold : Bool) (made : List Op) (op : Op) (left : List Op) → CanMakeAll k (made ++ op ∷ left) →
      Comes (head hold (made ++ op ∷ left) (length made)) (before k hold made (op ∷ left))
  from-head hold made (Go task kind arg index) left can =
      let all : List Op = made ++ Go task kind arg index ∷ left in
      let there : Task = turning k hold all (length made) (one (going k.names k.span)) in
      (1, step 0 (head hold all (length made)) there there refl (goes hold made left task kind arg index) refl refl)
  from-head hold made (Done task) left can =
      let all : List Op = made ++ Done task ∷ left in
      let there : Task = turning k hold all (length made) (one (hearing k.names k.span)) in
      (1, step 0 (head hold all (length made)) there there refl (hears hold made left task) refl refl)
  from-head hold made (Join task) left can =
      let all : List Op = made ++ Join task ∷ left in
      let it = at-seam k made (Join task) left can in
      let found = task-beside k.tasks it.0 it.2 in
      let few : task ≤ 2147483647 = omega (arith, it.1, it.2, h.few) in
      let inner : Task = turning k hold all (length made) (one (joining k.names k.tasks k.span)) in
      let block : Task = turning k hold all (length made) (one (joined k.names k.span found.0.name)) in
      let call : Task = calling k hold all (length made) found.0.name in
      subst (λ (id : NameId). Comes (head hold all (length made)) (calling k hold all (length made) id)) (sym (ap (name_at k.tasks) it.1 ∙ found.2)) (
        3,
        step 2 (head hold all (length made)) inner call refl (chooses hold made left task) refl
            (step 1 inner block call refl (finds hold made left task it.0 found.0 it.1 few found.1) refl
            (step 0 block call call refl refl refl refl)),
      )
  from-head hold made Hold left can = absurd (at-seam k made Hold left can)

  -- ---- from the end of a turn

  -- the step there, by whether a turn is left
  abbrev ending : Bool → List Op → ℕ → Bool → Task
  ending hold all over b =
      if b
      then gone_to (one (turn k.names k.tasks k.span)) (with_vars (turning k hold all over no_stmt) (counted_on (turning k hold all over no_stmt) false (turn_variables k all over)))
      else loop_left (Counting false (pos (length all))) (turning k hold all over no_stmt)

  -- the head of a turn whose loop parameter has this value
  abbrev counted : Bool → List Op → Value → Task
  counted hold all v =
      standing k
      (control (one (turn k.names k.tasks k.span)) (loop_around k all) (behind_loop k hold ∷ [])
      (record { name = k.names.counter; limits = integer_limits; index = None; values = v ∷ [] } ∷ tables k all))

  turned : (hold : Bool) (all : List Op) (over : ℕ) → suc over < length all → length all ≤ 2147483647 → stepped (turning k hold all over no_stmt) ≡ head hold all (suc over)
  turned hold all over l few =
      let next : suc over + 1 ≡ suc (suc over) = omega arith in
      ap (ending hold all over) (lt_true (suc over) (length all) l)
      ∙ ap (λ (n : ℕ). counted hold all (value_at k.setting.types integer_kind (pos n))) next
      ∙ ap (counted hold all) (number-at k e h (pos (suc (suc over))) (small (suc (suc over)) (omega (arith, l, few))))

  over-now : (hold : Bool) (all : List Op) (over : ℕ) →
      loop_left (Counting false (pos (length all))) (turning k hold all over no_stmt) ≡ standing k (control (stmts_of (waits k.names k.span hold)) (OwnBody no_handler None) [] (tables k all))
  over-now true all over = refl
  over-now false all over = refl

  objects-are : (made : List Op) (op : Op) → tables k (made ++ op ∷ []) ≡ objects k (made ++ op ∷ [])
  objects-are [] op = refl
  objects-are (x ∷ made) op = refl

  pub from-end :
      (hold : Bool) (made : List Op) (op : Op) (left : List Op) → CanMakeAll k (made ++ op ∷ left) →
      Comes (turning k hold (made ++ op ∷ left) (length made) no_stmt) (before k hold (made ++ op ∷ []) left)
  from-end hold made op [] can =
      let all : List Op = made ++ op ∷ [] in
      let last : length all ≤ suc (length made) = omega (arith, length-append made (op ∷ [])) in
      let place : Variables → Task = λ vars. standing k (control (stmts_of (waits k.names k.span hold)) (OwnBody no_handler None) [] vars) in
      step-first (turning k hold all (length made) no_stmt) (place (tables k all)) (behind k hold all) refl
      (ap (ending hold all (length made)) (lt_false (suc (length made)) (length all) last) ∙ over-now hold all (length made)) refl
      (0, ap place (objects-are made op))
  from-end hold made op (x ∷ left) can =
      let all : List Op = made ++ op ∷ x ∷ left in
      let more : List Op = made ++ op ∷ [] in
      let last : length more ≡ suc (length made) = omega (arith, length-append made (op ∷ [])) in
      let within : suc (length made) < length all = omega (arith, length-append made (op ∷ x ∷ left)) in
      let from : Comes (head hold (more ++ x ∷ left) (length more)) (before k hold more (x ∷ left)) = from-head hold more x left (moved k made op (x ∷ left) can) in
      step-first (turning k hold all (length made) no_stmt) (head hold all (suc (length made))) (before k hold more (x ∷ left)) refl
      (turned hold all (length made) within can.few) refl
      (subst (λ (ops : List Op). Comes (head hold ops (suc (length made))) (before k hold more (x ∷ left))) (append_last made op (x ∷ left))
      (subst (λ (n : ℕ). Comes (head hold (more ++ x ∷ left) n) (before k hold more (x ∷ left))) last from))
