-- The statements of the controller and of the idle task are well placed.
use Rattle.std.proofs.Common.{◌≡◌, ℕ, suc, ◌+◌, ◌≤◌, ◌==◌, ℤ, pos, negsuc, Bool, true, false, if◌then◌else◌, List, [], ◌∷◌, ◌++◌, length, map, drop, Some, None, All, refl, sym, true≢false, arith}
use Rattle.std.specs.List.{AllByRecursion}
use Rattle.std.proofs.lemmas.List.Elements.{All-from_recursion}
use Rattle.std.proofs.lemmas.Bool.Decides.{nat_tests}
use Rattle.ada_tree.specs.declared.naming.NameId.{NameId}
use Rattle.ada_tree.specs.declared.naming.Span.{Span}
use Rattle.ada_tree.specs.declared.naming.Word.{Word}
use Rattle.ada_tree.specs.declared.expressions.UnaryOp.TheVariants as unary
use Rattle.ada_tree.specs.Lexical.{IsInteger}
use Rattle.ada_tree.specs.PlainExpr.{EInteger, EAttribute, EUnary}
use Rattle.ada_tree.specs.PlainStmt.{PFormal, PStmt, stmts_of, absent, case_arms_of}
use Rattle.ada_tree.specs.PlainDecl.{PEntry, decls_of}
use Rattle.ada_tree.specs.Every.{Rules, EveryWord, EveryExpr, EveryDrange, EveryChoice, EveryFormal, EveryStmt, EverySome, EveryCaseArm, EveryCaseArms, EveryInit, EveryEntry, EveryPriority, EveryDecl, EveryDecls}
use Rattle.ada_tree.specs.WellPlaced.{AreObjects, well_placed}
use Rattle.syn_event.specs.declared.numbering.TaskInfo.{TaskInfo}
use Rattle.task_model.specs.Setting.{Setting}
use Rattle.control_script.specs.declared.Op.{Op}
use Rattle.normal_model.specs.Ranges.{word_at}
use Rattle.normal_model.specs.Making.{one}
use Rattle.normal_model.specs.Members.{negative_literal, integer_literal}
use Rattle.common_lemmas.proofs.Lists.{mapped_length}
use Rattle.normal_laws.specs.structure.placed.Placeable.{IsName, IsSmallIndex}
use Rattle.replay_model.specs.Names.{kind_text, argument_text, index_text, go_text, done_text, hold_text, stop_text, rest_text, added_id, added_word}
use Rattle.replay_model.specs.declared.tables.columns.Column.{Column}
use Rattle.replay_model.specs.declared.tables.columns.Column.TheVariants.{Operation, Task, Kind, Argument, Index}
use Rattle.replay_model.specs.declared.tables.names.ControlNames.{ControlNames}
use Rattle.replay_model.specs.tables.Columns.{acts, holds, says, table_name}
use Rattle.replay_model.specs.tables.Tables.{up_to, table_value, table_declared, tables_for}
use Rattle.replay_model.specs.tables.Turns.{line_of, accept_by, part_given, going, hearing, joined, value_arm, join_arms, joining, turn}
use Rattle.replay_model.specs.tables.ControlBodies.{loop_over, loops, waits}
use Rattle.replay_model.specs.Controlling.{added_entry, all_tasks, control_ids, permit_formals, control_declared, idle_declared, control_body, idle_body}
use Rattle.replay_structure.specs.placed.Placeable.{HasLiterals}
use Rattle.replay_structure.proofs.placed.Said.{all-small, acts-all, acts-few, acts-or-holds}
use Rattle.replay_structure.proofs.placed.Tests.{AreAdded}

module _ (g : Setting) (names' : List (List ℕ)) (known : AreAdded g names') (tasks : AllByRecursion (λ info. IsName names' info.name) g.numbers.tasks) (s : Span) where
  abbrev r : Rules
  r = well_placed names'

  abbrev ids : ControlNames
  ids = control_ids g.program

  -- ---- entries

  formal-placed : All (EveryFormal r) (permit_formals g.program s)
  formal-placed =
      let ws : List Word = added_word g.program s kind_text ∷ added_word g.program s argument_text ∷ added_word g.program s index_text ∷ [] in
      All-from_recursion (EveryFormal r) (permit_formals g.program s)
      (((omega arith, All-from_recursion (EveryWord r) ws (known.kind_part, (known.argument_part, (known.index_part, tt)))), known.first 0 (omega arith)), tt)

  none-placed : All (EveryFormal r) []
  none-placed = All-from_recursion (EveryFormal r) [] tt

  pub plain-entry : (t : List ℕ) → IsName names' (added_id g.program t) → EveryEntry r (added_entry g.program s t None [])
  plain-entry t h = (omega arith, h, tt, none-placed)

  family-entry : (t : List ℕ) (n : ℕ) (fs : List PFormal) → IsInteger n → IsName names' (added_id g.program t) → All (EveryFormal r) fs → EveryEntry r (added_entry g.program s t (all_tasks s n) fs)
  family-entry t n fs few h i = (omega arith, h, ((omega arith, omega arith), (omega arith, omega arith), (omega arith, few)), i)

  pub control-declared : (n : ℕ) → IsInteger n → EveryDecl r (control_declared g.program s n)
  control-declared n few =
      let es : List PEntry = added_entry g.program s go_text (all_tasks s n) (permit_formals g.program s) ∷ added_entry g.program s done_text (all_tasks s n) [] ∷ added_entry g.program s hold_text None [] ∷ [] in (
        omega arith,
        (
          known.control,
          All-from_recursion (EveryEntry r) es (family-entry go_text n (permit_formals g.program s) few known.go formal-placed, (family-entry done_text n [] few known.done none-placed, (plain-entry hold_text known.hold, tt))),
          All-from_recursion (EveryPriority r) [] tt,
          tt,
        ),
      )

  pub idle-declared : EveryDecl r (idle_declared g.program s)
  idle-declared =
      let es : List PEntry = added_entry g.program s stop_text None [] ∷ added_entry g.program s rest_text None [] ∷ [] in (
        omega arith,
        (known.idle, All-from_recursion (EveryEntry r) es (plain-entry stop_text known.stop, (plain-entry rest_text known.rest, tt)), All-from_recursion (EveryPriority r) [] tt, tt),
      )

  -- ---- literals

  negative-placed : (n q : ℕ) → q + 1 ≤ 300 → n ≤ 2147483647 → EveryExpr r q (negative_literal s n)
  negative-placed n q le small = by_test (n == 2147483647) refl
    where
      by_test : (c : Bool) → (n == 2147483647) ≡ c → EveryExpr r q (if c then EAttribute (word_at s record { 0 = 0 }) (word_at s record { 0 = 18 }) s else EUnary unary.Minus (EInteger (suc n) s) s)
      by_test true e = (omega (arith, le), known.first 0 (omega arith), known.first 18 (omega arith))
      by_test false e = let d : suc n ≤ 2147483647 = grind (arith, nat_tests) in (omega (arith, le), omega arith, (omega (arith, le), d))

  number-placed : (z : ℤ) (q : ℕ) → q + 1 ≤ 300 → IsSmallIndex z → EveryExpr r q (integer_literal s z)
  number-placed (pos n) q le small = (omega (arith, le), small)
  number-placed (negsuc n) q le small = negative-placed n q le small

  -- ---- tables

  table-named : (column : Column) → IsName names' (table_name ids column)
  table-named Operation = known.operations
  table-named Task = known.tasks
  table-named Kind = known.permit_kinds
  table-named Argument = known.arguments
  table-named Index = known.indices

  -- `1 .. n`
  up-to-placed : (n : ℕ) → IsInteger n → EveryDrange r 2 (up_to s n)
  up-to-placed n few = ((omega arith, omega arith), (omega arith, omega arith), (omega arith, few))

  numbers-placed : (zs : List ℤ) → AllByRecursion IsSmallIndex zs → AllByRecursion (EveryExpr r 2) (map (integer_literal s) zs)
  numbers-placed [] h = tt
  numbers-placed (z ∷ zs) h = (number-placed z 2 (omega arith) h.0, numbers-placed zs h.1)

  value-placed : (zs : List ℤ) → 1 ≤ length zs → AllByRecursion IsSmallIndex zs → EveryInit r (table_value s zs)
  value-placed [] some h = let never : ⊥ = omega (arith, some) in absurd never
  value-placed (z ∷ []) some h = number-placed z 2 (omega arith) h.0
  value-placed (z ∷ y ∷ zs) some h = (omega arith, All-from_recursion (EveryExpr r 2) (map (integer_literal s) (z ∷ y ∷ zs)) (numbers-placed (z ∷ y ∷ zs) h))

  table-placed : (column : Column) (made : List Op) → 1 ≤ length made → IsInteger (length made) → AllByRecursion HasLiterals made → EveryDecl r (table_declared ids s column made)
  table-placed column made some few h =
      let ws : List Word = word_at s (table_name ids column) ∷ [] in
      let many : 1 ≤ length (map (says column) made) = let e = mapped_length (says column) made in omega (arith, e, some) in (
        omega arith,
        (omega arith, All-from_recursion (EveryWord r) ws (table-named column, tt)),
        (up-to-placed (length made) few, (known.first 0 (omega arith), tt)),
        tt,
        value-placed (map (says column) made) many (all-small column made h),
      )

  -- ---- what is done in a turn

  line-placed : (column : Column) (k : ℕ) → k + 1 ≤ 300 → EveryExpr r k (line_of ids s column)
  line-placed column k le = (omega (arith, le), table-named column, (le, known.counter))

  part-placed : (t : List ℕ) (column : Column) → IsName names' (added_id g.program t) → EveryStmt r 4 (part_given s (added_id g.program t) (line_of ids s column))
  part-placed t column h = (omega arith, (h, tt), line-placed column 5 (omega arith))

  going-placed : EveryStmt r 3 (going ids s)
  going-placed = (
    omega arith,
    (known.go, line-placed Task 4 (omega arith), formal-placed),
    (omega arith, part-placed kind_text Kind known.kind_part, (part-placed argument_text Argument known.argument_part, (part-placed index_text Index known.index_part, tt))),
  )

  hearing-placed : EveryStmt r 3 (hearing ids s)
  hearing-placed = (omega arith, (known.done, line-placed Task 4 (omega arith), none-placed), tt)

  -- the statements for one value
  arm-placed : (value k : ℕ) (x : PStmt) → IsInteger value → k ≤ 300 → EveryStmt r k x → EveryCaseArm r k (value_arm s value (one x))
  arm-placed value k x few le h = (omega arith, All-from_recursion (EveryChoice r k) (record { first = EInteger value s; last = None } ∷ []) (((le, few), tt), tt), (omega arith, h, tt))

  joined-placed : (id : NameId) → IsName names' id → EveryStmt r 4 (joined ids s id)
  joined-placed id h =
      let ws : List Word = word_at s record { 0 = 9 } ∷ [] in (
        omega arith,
        (
          (omega arith, (omega arith, ((h, tt), known.join, tt)), tt),
          (tt, tt),
          ((omega arith, All-from_recursion (EveryWord r) ws (known.first 9 (omega arith), tt), (omega arith, omega arith, tt)), tt),
        ),
      )

  arms-placed : (t : ℕ) (infos : List TaskInfo) → t + length infos ≤ 2147483647 → AllByRecursion (λ (info : TaskInfo). IsName names' info.name) infos → EveryCaseArms r 4 (case_arms_of (join_arms ids s t infos))
  arms-placed t [] few h = tt
  arms-placed t (info ∷ infos) few h = (arm-placed t 4 (joined ids s info.name) (omega (arith, few)) (omega arith) (joined-placed info.name h.0), arms-placed (suc t) infos (omega (arith, few)) h.1)

  beside-placed : (infos : List TaskInfo) → IsInteger (length infos) → AllByRecursion (λ (info : TaskInfo). IsName names' info.name) infos → EveryCaseArms r 4 (case_arms_of (join_arms ids s 1 (drop 1 infos)))
  beside-placed [] few h = tt
  beside-placed (info ∷ infos) few h = arms-placed 1 infos (omega (arith, few)) h.1

  joining-placed : IsInteger (length g.numbers.tasks) → EveryStmt r 3 (joining ids g.numbers.tasks s)
  joining-placed few = (omega arith, line-placed Task 4 (omega arith), beside-placed g.numbers.tasks few tasks, (omega arith, omega arith, tt))

  turn-placed : IsInteger (length g.numbers.tasks) → EveryStmt r 2 (turn ids g.numbers.tasks s)
  turn-placed few = (
    omega arith,
    line-placed Operation 3 (omega arith),
    (arm-placed 1 3 (going ids s) (omega arith) (omega arith) going-placed, (arm-placed 2 3 (hearing ids s) (omega arith) (omega arith) hearing-placed, tt)),
    (omega arith, joining-placed few, tt),
  )

  -- ---- bodies

  loop-placed : (n : ℕ) → IsInteger n → IsInteger (length g.numbers.tasks) → EveryStmt r 1 (loop_over ids g.numbers.tasks s n)
  loop-placed n short few = (omega arith, tt, (known.counter, up-to-placed n short), (omega arith, turn-placed few, tt))

  wait-placed : EveryStmt r 1 (accept_by s ids.hold None [] absent)
  wait-placed = (omega arith, (known.hold, tt, none-placed), tt)

  -- the objects and the statements, by what is made and whether the controller waits then
  abbrev PartsPlaced : List Op → Bool → Type 0
  PartsPlaced made hold =
      AreObjects (decls_of (tables_for ids s made)) × EveryDecls r (decls_of (tables_for ids s made))
      × EverySome r 1 (stmts_of (loops ids g.numbers.tasks s (length made) ++ waits ids s hold))

  tables-placed : (op : Op) (made : List Op) → IsInteger (suc (length made)) → AllByRecursion HasLiterals (op ∷ made) → EveryDecls r (decls_of (tables_for ids s (op ∷ made)))
  tables-placed op made short h =
      let one : (column : Column) → EveryDecl r (table_declared ids s column (op ∷ made)) = λ column. table-placed column (op ∷ made) (omega arith) short h in
      (one Operation, (one Task, (one Kind, (one Argument, (one Index, tt)))))

  parts-placed : IsInteger (length g.numbers.tasks) → (made : List Op) (hold : Bool) → (made ≡ [] → hold ≡ true) → IsInteger (length made) → AllByRecursion HasLiterals made → PartsPlaced made hold
  parts-placed few [] false some short h = absurd (true≢false (sym (some refl)))
  parts-placed few [] true some short h = (tt, tt, (omega arith, wait-placed, tt))
  parts-placed few (op ∷ made) false some short h = (tt, tables-placed op made short h, (omega arith, loop-placed (suc (length made)) short few, tt))
  parts-placed few (op ∷ made) true some short h = (tt, tables-placed op made short h, (omega arith, loop-placed (suc (length made)) short few, (wait-placed, tt)))

  pub control-placed : IsInteger (length g.numbers.tasks) → (ops : List Op) → 1 ≤ length ops → IsInteger (length ops) → AllByRecursion HasLiterals ops → EveryDecl r (control_body g s ops)
  control-placed few ops some short h =
      let fewer = acts-few ops in
      let parts : PartsPlaced (acts ops) (holds ops) = parts-placed few (acts ops) (holds ops) (acts-or-holds ops some) (omega (arith, fewer, short)) (acts-all HasLiterals ops h) in
      (omega arith, known.control, parts.0, parts.1, (parts.2, tt, tt))

  pub idle-placed : EveryDecl r (idle_body g.program s)
  idle-placed = (
    omega arith,
    known.idle,
    tt,
    tt,
    (
      (omega arith, (omega arith, omega arith, ((omega arith, tt, ((omega arith, (known.rest, tt, none-placed), tt), tt)), ((omega arith, tt, tt), tt)), tt), tt),
      tt,
      tt,
    ),
  )
