-- How the controller starts: its objects, and the loop.
use Rattle.std.proofs.Common.{◌≡◌, ℕ, ◌<◌, ◌≤◌, Bool, true, false, List, [], ◌∷◌, ◌++◌, map, length, Option, Some, None, option_map, if◌then◌else◌, refl, sym, ap, ◌∙◌, subst, arith}
use Rattle.std.specs.Prelude.{ℤ, pos, Result, Ok}
use Rattle.std.specs.List.{AllByRecursion}
use Rattle.common_lemmas.proofs.Numbers.{lt_false}
use Rattle.common_lemmas.proofs.Options.{some_same, not_missing}
use Rattle.ada_tree.specs.declared.static_types.Mark.{Mark}
use Rattle.ada_tree.specs.PlainStmt.{stmts_of, no_handler}
use Rattle.ada_tree.specs.PlainDecl.{decls_of}
use Rattle.ada_static_rules.specs.Scope.{integer_kind}
use Rattle.ada_static_rules.specs.StaticValue.{is_integer_value, mark_named}
use Rattle.ada_value.specs.declared.values.Value.{Value}
use Rattle.ada_value.specs.declared.values.Value.TheVariants.{Number}
use Rattle.ada_value.specs.declared.values.Raised.{Raised}
use Rattle.ada_value.specs.declared.values.Form.{Form}
use Rattle.ada_value.specs.declared.values.Limits.{Limits}
use Rattle.ada_value.specs.Values.{and_then, limits_of, limits_of_kind, integer_limits, lower_bound, value_at}
use Rattle.ada_value.specs.Variables.{Variables, object_with}
use Rattle.ada_value.specs.Evaluating.{range_of, range_between}
use Rattle.task_model.specs.Frames.{OwnBody, control}
use Rattle.task_model.specs.Tasks.{Task, gone_to, or_raised}
use Rattle.task_model.specs.Steps.{counting_begun}
use Rattle.task_model.specs.Stands.{stepped}
use Rattle.task_model.specs.Starting.{form_of, array_form, known_range, initials, initial, value_or_lower, objects_of, declared_objects, after_declaration}
use Rattle.control_script.specs.declared.Op.{Op}
use Rattle.control_script.specs.declared.Op.TheVariants.{Go, Done, Join, Hold}
use Rattle.normal_model.specs.Making.{one}
use Rattle.normal_model.specs.Members.{integer_literal}
use Rattle.normal_model.specs.Ranges.{word_at, integer_subtype}
use Rattle.replay_model.specs.declared.tables.columns.Column.{Column}
use Rattle.replay_model.specs.declared.tables.columns.Column.TheVariants.{Operation, Task as TaskColumn, Kind, Argument, Index}
use Rattle.replay_model.specs.tables.Columns.{columns, says, table_name}
use Rattle.replay_model.specs.tables.Tables.{up_to, array_of, table_value, table_declared, tables_for}
use Rattle.replay_model.specs.tables.Turns.{turn}
use Rattle.replay_model.specs.tables.ControlBodies.{loops, waits}
use Rattle.table_law.specs.Controllers.{Controller, Entries, IsController, CanMake, CanMakeAll}
use Rattle.table_law.specs.States.{standing, table_object, tables, behind_loop, loop_around, turning, before, Comes}
use Rattle.table_law.proofs.Numbers.{fitted-ok, number-at, literal-is}
use Rattle.table_law.proofs.Turning.{step-first, from-head}
use Rattle.ada_value.proofs.StaticLaws.{natural_integer as small}

module _ (k : Controller) (e : Entries) (h : IsController k e) where
  -- ---- the values of a table

  -- what a table says of an operation that can be made is a number of INTEGER
  says-whole : (column : Column) (op : Op) → CanMake k op → is_integer_value (says column op) ≡ true
  says-whole Operation (Go task kind arg index) can = refl
  says-whole Operation (Done task) can = refl
  says-whole Operation (Join task) can = refl
  says-whole Operation Hold can = refl
  says-whole TaskColumn (Go task kind arg index) can = small task (let l : task < length k.tasks = can.0 in omega (arith, l, h.few))
  says-whole TaskColumn (Done task) can = small task (omega (arith, can, h.few))
  says-whole TaskColumn (Join task) can = small task (omega (arith, can.1, can.2, h.few))
  says-whole TaskColumn Hold can = refl
  says-whole Kind (Go task kind arg index) can = small kind can.1
  says-whole Kind (Done task) can = refl
  says-whole Kind (Join task) can = refl
  says-whole Kind Hold can = refl
  says-whole Argument (Go task kind arg index) can = small arg can.2
  says-whole Argument (Done task) can = refl
  says-whole Argument (Join task) can = refl
  says-whole Argument Hold can = refl
  says-whole Index (Go task kind arg index) can = can.3
  says-whole Index (Done task) can = refl
  says-whole Index (Join task) can = refl
  says-whole Index Hold can = refl

  -- the initial value that a literal gives
  initial-is : (z : ℤ) → is_integer_value z ≡ true → initial k.setting.types integer_limits (integer_literal k.span z) ≡ Number z
  initial-is z whole =
      ap (value_or_lower k.setting.types integer_limits) (literal-is k e h [] k.span z whole)
      ∙ ap (λ (b : Bool). if b then Number z else lower_bound k.setting.types integer_limits) whole

  initials-are : (column : Column) (all : List Op) → AllByRecursion (CanMake k) all → map (initial k.setting.types integer_limits) (map (integer_literal k.span) (map (says column) all)) ≡ map (λ op. Number (says column op)) all
  initials-are column [] can = refl
  initials-are column (op ∷ all) can = λ i. initial-is (says column op) (says-whole column op can.0) i ∷ initials-are column all can.1 i

  -- ---- the objects

  -- the form of a table of so many operations
  abbrev table_form : ℕ → Form
  table_form n = record { limits = integer_limits; index = Some record { kind = integer_kind; first = pos 1; last = pos n } }

  -- such a form with another subtype and range
  abbrev form_with : Limits → Result Limits Raised → Option Form
  form_with limits range = Some record { limits = limits; index = Some (known_range range) }

  range-is : (vars : Variables) (n : ℕ) → n ≤ 2147483647 → range_of k.setting.types vars (up_to k.span n) ≡ Ok record { kind = integer_kind; first = pos 1; last = pos n }
  range-is vars n few = ap (λ (r : Result Value Raised). and_then r (λ v. Ok (range_between (Number (pos 1)) v))) (fitted-ok (pos n) (small n few))

  mark-there : (o : Option Mark) → option_map limits_of o ≡ Some integer_limits → (m : Mark) × (o ≡ Some m) × (limits_of m ≡ integer_limits)
  mark-there None same = absurd (not_missing integer_limits same)
  mark-there (Some m) same = (m, refl, some_same same)

  form-is : (n : ℕ) → n ≤ 2147483647 → form_of k.setting.types (array_of k.span n) ≡ Some (table_form n)
  form-is n few =
      let there = mark-there (mark_named k.setting.types record { 0 = 0 }) h.of_mark in
      ap (array_form k.setting.types (up_to k.span n) (integer_subtype k.span)) there.1
      ∙ ap (λ (l : Limits). form_with l (range_of k.setting.types [] (up_to k.span n))) there.2
      ∙ ap (form_with integer_limits) (range-is [] n few)

  -- the values of a table, whether it has one component or more
  values-are : (column : Column) (all : List Op) → AllByRecursion (CanMake k) all → (n : ℕ) → n ≡ length all → 0 < n →
      initials k.setting.types (table_form n) (Some (table_value k.span (map (says column) all))) ≡ map (λ op. Number (says column op)) all
  values-are column [] can n same some = absurd (omega (arith, same, some))
  values-are column (op ∷ []) can n same some =
      subst (λ (m : ℕ). initials k.setting.types (table_form m) (Some (table_value k.span (says column op ∷ []))) ≡ Number (says column op) ∷ []) (sym same)
      (ap (λ (v : Value). v ∷ []) (initial-is (says column op) (says-whole column op can.0)))
  values-are column (op ∷ x ∷ all) can n same some = initials-are column (op ∷ x ∷ all) can

  -- the variables behind the declaration of a table
  declared-is : (column : Column) (all : List Op) → CanMakeAll k all → 0 < length all → (vars : Variables) →
      after_declaration k.setting.types false (table_declared k.names k.span column all) vars ≡ table_object k column all ∷ vars
  declared-is column all can some vars =
      ap (λ (o : Option Form). declared_objects k.setting.types false (word_at k.span (table_name k.names column) ∷ []) true (Some (table_value k.span (map (says column) all))) o vars) (form-is (length all) can.few)
      ∙ ap (λ (vs : List Value). object_with (table_name k.names column) (table_form (length all)) vs ∷ vars) (values-are column all can.each (length all) refl some)

  -- variables behind the declarations of tables, the latest first
  abbrev with_tables : List Op → List Column → Variables → Variables
  with_tables all [] vars = vars
  with_tables all (column ∷ more) vars = with_tables all more (table_object k column all ∷ vars)

  tables-declared : (all : List Op) → CanMakeAll k all → 0 < length all → (more : List Column) (vars : Variables) →
      objects_of k.setting.types false (decls_of (map (λ column. table_declared k.names k.span column all) more)) vars ≡ with_tables all more vars
  tables-declared all can some [] vars = refl
  tables-declared all can some (column ∷ more) vars =
      ap (objects_of k.setting.types false (decls_of (map (λ c. table_declared k.names k.span c all) more))) (declared-is column all can some vars)
      ∙ tables-declared all can some more (table_object k column all ∷ vars)

  -- ---- the loop

  -- the controller's statements, with these variables
  abbrev unlooped : Bool → List Op → Variables → Task
  unlooped hold all vars = standing k (control (stmts_of (loops k.names k.tasks k.span (length all) ++ waits k.names k.span hold)) (OwnBody no_handler None) [] vars)

  -- the head of the first turn, where the loop parameter has this subtype and value
  abbrev begun : Bool → List Op → Limits → Value → Task
  begun hold all limits v =
      standing k
      (control (one (turn k.names k.tasks k.span)) (loop_around k all) (behind_loop k hold ∷ []) (record { name = k.names.counter; limits = limits; index = None; values = v ∷ [] } ∷ tables k all))

  loop-begins : (hold : Bool) (op : Op) (rest : List Op) → CanMakeAll k (op ∷ rest) → stepped (unlooped hold (op ∷ rest) (tables k (op ∷ rest))) ≡ turning k hold (op ∷ rest) 0 (one (turn k.names k.tasks k.span))
  loop-begins hold op rest can =
      let all : List Op = op ∷ rest in
      let t : Task = unlooped hold all (tables k all) in
      ap (λ (r : Result Limits Raised). or_raised (λ (x : Limits). counting_begun None (word_at k.span k.names.counter) false (one (turn k.names k.tasks k.span)) (stmts_of (waits k.names k.span hold)) t x) t r)
      (range-is (tables k all) (length all) can.few)
      ∙ ap (λ (b : Bool). if b then gone_to (stmts_of (waits k.names k.span hold)) t else begun hold all (limits_of_kind k.setting.types integer_kind) (value_at k.setting.types integer_kind (pos 1)))
      (lt_false (length all) 1 (omega arith))
      ∙ ap (λ (l : Limits). begun hold all l (value_at k.setting.types integer_kind (pos 1))) h.of_kind
      ∙ ap (begun hold all integer_limits) (number-at k e h (pos 1) refl)

  pub starts : (hold : Bool) (all : List Op) → CanMakeAll k all →
      Comes (unlooped hold all (objects_of k.setting.types false (decls_of (tables_for k.names k.span all)) [])) (before k hold [] all)
  starts hold [] can = (0, refl)
  starts hold (op ∷ rest) can =
      let all : List Op = op ∷ rest in
      subst (λ (vars : Variables). Comes (unlooped hold all vars) (before k hold [] all)) (sym (tables-declared all can (omega arith) columns []))
      (step-first (unlooped hold all (tables k all)) (turning k hold all 0 (one (turn k.names k.tasks k.span))) (before k hold [] all) refl (loop-begins hold op rest can) refl
      (from-head k e h hold [] op rest can))
