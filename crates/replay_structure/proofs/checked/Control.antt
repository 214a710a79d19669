-- The statements of the controller and of the idle task meet the rules 13 to 23.
use Rattle.std.proofs.Common.{◌≡◌, ℕ, ℤ, pos, negsuc, ◌-ℤ◌, ◌+ℤ◌, zero, suc, ◌+◌, ◌≤◌, ◌==◌, ◌||◌, not, Bool, true, false, cond, if◌then◌else◌, List, [], ◌∷◌, ◌++◌, length, map, drop, find, Some, None, unwrap_or, refl, ap, ◌∙◌, arith}
use Rattle.std.specs.List.{AllByRecursion, list_any}
use Rattle.std.proofs.lemmas.Int.{ints}
use Rattle.std.proofs.lemmas.Bool.{or_left, or_right}
use Rattle.common_lemmas.proofs.Lists.{all_joined, all_three}
use Rattle.common_lemmas.proofs.Numbers.{equal_self}
use Rattle.ada_tree.specs.declared.naming.NameId.{NameId}
use Rattle.ada_tree.specs.declared.naming.Span.{Span}
use Rattle.ada_tree.specs.declared.naming.Word.{Word}
use Rattle.ada_tree.specs.declared.expressions.UnaryOp.TheVariants as unary
use Rattle.ada_tree.specs.PlainExpr.{EInteger, EAttribute, EUnary}
use Rattle.ada_tree.specs.PlainStmt.{LFor, PHead, PStmt, PStmts, no_stmt, stmts_of, accepting, absent, alternative, AAccept, ATerminate, no_alt, alt_then, PCaseArms, no_case_arm, case_arm_then, case_arms_of, body, no_handler}
use Rattle.ada_tree.specs.PlainDecl.{decls_of}
use Rattle.ada_tree.specs.PlainProgram.{PProgram}
use Rattle.syn_event.specs.declared.limits.What.TheVariants.{Components}
use Rattle.syn_event.specs.declared.meanings.Meant.TheVariants.{Inner}
use Rattle.syn_event.specs.declared.numbering.TaskInfo.{TaskInfo}
use Rattle.syn_event.specs.CheckScope.{CheckScope, CheckSite, declares, accepts, uses, addresses, counts}
use Rattle.syn_event.specs.CheckSites as check
use Rattle.syn_event.specs.Extents.{count_to, size, range_start}
use Rattle.syn_event.specs.RuleAcceptPlace.{is_among, is_own_entry}
use Rattle.syn_event.specs.RuleMainEntry.{main_entry}
use Rattle.syn_event.specs.RuleSharedVariable.{shared_variable}
use Rattle.task_model.specs.Setting.{Setting}
use Rattle.control_script.specs.declared.Op.{Op}
use Rattle.normal_model.specs.Making.{one}
use Rattle.normal_model.specs.Ranges.{word_at}
use Rattle.normal_model.specs.Members.{integer_literal}
use Rattle.normal_laws.proofs.structure.checked.Places.{met-deep, met-alternative, met-use, met-callee, met-accept, met-wait, passed-not}
use Rattle.replay_model.specs.Names.{kind_text, argument_text, index_text, control_text, go_text, done_text, hold_text, idle_text, stop_text, rest_text, operations_text, tasks_text, kinds_text, arguments_text, indices_text, counter_text, replay_names, added_id, added_word}
use Rattle.replay_model.specs.declared.tables.columns.Column.{Column}
use Rattle.replay_model.specs.declared.tables.columns.Column.TheVariants.{Operation, Task, Kind, Argument, Index}
use Rattle.replay_model.specs.declared.tables.names.ControlNames.{ControlNames}
use Rattle.replay_model.specs.tables.Columns.{acts, holds, columns, says, table_name}
use Rattle.replay_model.specs.tables.Tables.{up_to, table_value, table_declared, tables_for}
use Rattle.replay_model.specs.tables.Turns.{line_of, accept_by, permit_formals as formals_of_permit, part_given, given, going, hearing, joined, value_arm, join_arms, joining, turn_arms, turn}
use Rattle.replay_model.specs.tables.ControlBodies.{loop_over, loops, waits}
use Rattle.replay_model.specs.Controlling.{control_ids, control_body, idle_body}
use Rattle.replay_structure.proofs.texts.Rooted.{ids-apart}
use Rattle.replay_structure.specs.checked.Checkable.{IsBeside}
use Rattle.replay_structure.proofs.placed.Said.{acts-few}
use Rattle.replay_structure.proofs.checked.Scopes.{uses-under, callees-under, inner-use}
use Rattle.replay_structure.proofs.checked.Stays.{IsTextMet}
use Rattle.replay_structure.proofs.checked.Tasks.{added-declared}
use Rattle.replay_structure.proofs.checked.Units.{entries_named, own-beside}
use Rattle.replay_structure.proofs.checked.Bodies.{first-there, second-there, third-there, permit_words}
use Rattle.replay_structure.proofs.checked.Before.{control_unit, idle_unit, behind_added}

module _ (q : PProgram) (d : CheckScope) (s : Span) (n : ℕ) where
  -- ---- the own entries

  -- the idle task is another than the controller
  idle-other : ((added_id q idle_text).0 == (added_id q control_text).0) ≡ false
  idle-other = ids-apart q idle_text control_text refl refl (λ e. let long : 8 ≡ 11 = ap (λ (t : List ℕ). length t) e in omega (arith, long))

  control-entries : (t : Span) → entries_named q (added_word q t control_text) (idle_unit q ∷ control_unit q ∷ d.units) ≡ (control_unit q).entries
  control-entries t =
      own-beside q (added_word q t control_text) (idle_unit q) (control_unit q ∷ d.units) idle-other
      ∙ ap (λ b. (unwrap_or (cond b (Some (control_unit q)) (find (λ u. u.name.0 == (added_id q control_text).0) d.units)) (record { name = added_id q control_text; entries = [] })).entries) (equal_self (added_id q control_text).0)

  idle-entries : (t : Span) → entries_named q (added_word q t idle_text) (idle_unit q ∷ control_unit q ∷ d.units) ≡ (idle_unit q).entries
  idle-entries t =
      ap (λ b. (unwrap_or (cond b (Some (idle_unit q)) (find (λ u. u.name.0 == (added_id q idle_text).0) (control_unit q ∷ d.units))) (record { name = added_id q idle_text; entries = [] })).entries) (equal_self (added_id q idle_text).0)

module _ (q : PProgram) (e : CheckScope) where
  abbrev At' : List CheckSite → Type 0
  At' xs = AllByRecursion (IsTextMet q) xs

  accept-met : (h : PHead) → is_own_entry e.own h.entry.name ≡ true → e.accepting ≡ [] → IsTextMet q (check.site e (accepts h))
  accept-met h own outside =
      met-accept (replay_names q) e h
      (ap (λ t. if not t || is_among e.accepting h.entry.name then h.span ∷ [] else []) own ∙ ap (λ l. if is_among l h.entry.name then h.span ∷ [] else []) outside)

  integer-met : (z : ℤ) (s : Span) (n : ℕ) → n + 1 ≤ 300 → At' (check.expr_sites e n (integer_literal s z))
  integer-met (pos i) s n le = (met-deep (replay_names q) e n s (omega (arith, le)), tt)
  integer-met (negsuc i) s n le = go (i == 2147483647)
    where
      go : (t : Bool) → At' (check.expr_sites e n (if t then EAttribute (word_at s record { 0 = 0 }) (word_at s record { 0 = 18 }) s else EUnary unary.Minus (EInteger (suc i) s) s))
      go true = (met-deep (replay_names q) e n s (omega (arith, le)), tt)
      go false = (met-deep (replay_names q) e n s (omega (arith, le)), (met-deep (replay_names q) e (n + 1) s le, tt))

-- ---- the tables

counted-to : (n : ℕ) → count_to ((pos n -ℤ pos 1) +ℤ pos 1) ≡ n
counted-to zero = refl
counted-to (suc n) = let e : (pos (suc n) -ℤ pos 1) +ℤ pos 1 ≡ pos (suc n) = grind (arith, ints) in ap count_to e

module _ (q : PProgram) (s : Span) where
  abbrev ids : ControlNames
  ids = control_ids q

  abbrev Met : List CheckSite → Type 0
  Met xs = AllByRecursion (IsTextMet q) xs

  -- the names of the tables, in the order in which they are declared
  abbrev table_words : List Word
  table_words = word_at s ids.operations ∷ word_at s ids.tasks ∷ word_at s ids.kinds ∷ word_at s ids.arguments ∷ word_at s ids.indices ∷ []

  named-among : (front : List Word) (w : Word) (back : List Word) → list_any (λ (v : Word). v.name.0 == w.name.0) (front ++ w ∷ back) ≡ true
  named-among [] w back = or_left (w.name.0 == w.name.0) (list_any (λ (v : Word). v.name.0 == w.name.0) back) (equal_self w.name.0)
  named-among (v ∷ front) w back = or_right (v.name.0 == w.name.0) (list_any (λ (x : Word). x.name.0 == w.name.0) (front ++ w ∷ back)) (named-among front w back)

  table-among : (column : Column) → list_any (λ (v : Word). v.name.0 == (table_name ids column).0) table_words ≡ true
  table-among Operation = named-among [] (word_at s ids.operations) (word_at s ids.tasks ∷ word_at s ids.kinds ∷ word_at s ids.arguments ∷ word_at s ids.indices ∷ [])
  table-among Task = named-among (word_at s ids.operations ∷ []) (word_at s ids.tasks) (word_at s ids.kinds ∷ word_at s ids.arguments ∷ word_at s ids.indices ∷ [])
  table-among Kind = named-among (word_at s ids.operations ∷ word_at s ids.tasks ∷ []) (word_at s ids.kinds) (word_at s ids.arguments ∷ word_at s ids.indices ∷ [])
  table-among Argument = named-among (word_at s ids.operations ∷ word_at s ids.tasks ∷ word_at s ids.kinds ∷ []) (word_at s ids.arguments) (word_at s ids.indices ∷ [])
  table-among Index = named-among (word_at s ids.operations ∷ word_at s ids.tasks ∷ word_at s ids.kinds ∷ word_at s ids.arguments ∷ []) (word_at s ids.indices) []

  table-named : (d : CheckScope) (column : Column) → IsTextMet q (check.site d (declares (word_at s (table_name ids column))))
  table-named d Operation = added-declared q d operations_text s refl (omega arith)
  table-named d Task = added-declared q d tasks_text s refl (omega arith)
  table-named d Kind = added-declared q d kinds_text s refl (omega arith)
  table-named d Argument = added-declared q d arguments_text s refl (omega arith)
  table-named d Index = added-declared q d indices_text s refl (omega arith)

  -- an array has no more components than operations are made
  components-met : (d : CheckScope) (n : ℕ) → n ≤ 1000000 → IsTextMet q (check.site d (counts Components 0 (size d.types (up_to s n)) (range_start (up_to s n))))
  components-met d n few =
      let e : size d.types (up_to s n) ≡ n = counted-to n in
      record {
        shared = refl;
        accepts = refl;
        selects = refl;
        twice = refl;
        reserved = refl;
        main = refl;
        order = refl;
        bodies = refl;
        exits = refl;
        raises = refl;
        limits = passed-not Components 1000000 0 (size d.types (up_to s n)) s (omega (arith, e, few));
      }

  numbers-met : (d : CheckScope) (zs : List ℤ) → Met (check.exprs_sites d 2 (map (integer_literal s) zs))
  numbers-met d [] = tt
  numbers-met d (z ∷ zs) = all_joined (IsTextMet q) (check.expr_sites d 2 (integer_literal s z)) (check.exprs_sites d 2 (map (integer_literal s) zs)) (integer-met q d z s 2 (omega arith)) (numbers-met d zs)

  value-met : (d : CheckScope) (zs : List ℤ) → Met (check.init_sites d (table_value s zs))
  value-met d [] = tt
  value-met d (z ∷ []) = integer-met q d z s 2 (omega arith)
  value-met d (z ∷ y ∷ zs) = numbers-met d (z ∷ y ∷ zs)

  table-met : (d : CheckScope) (column : Column) (made : List Op) → length made ≤ 1000000 → Met (check.own_object_sites d (table_declared ids s column made))
  table-met d column made few = (
    table-named d column,
    (components-met d (length made) few, (met-deep (replay_names q) d 2 s (omega arith), (met-deep (replay_names q) d 2 s (omega arith), value-met d (map (says column) made)))),
  )

  listed-met : (cols : List Column) (made : List Op) → length made ≤ 1000000 → (d : CheckScope) → Met (check.own_sites d (decls_of (map (λ column. table_declared ids s column made) cols)))
  listed-met [] made few d = tt
  listed-met (column ∷ cols) made few d =
      let next : CheckScope = check.after_own_object d (table_declared ids s column made) in
      all_joined (IsTextMet q) (check.own_object_sites d (table_declared ids s column made)) (check.own_sites next (decls_of (map (λ x. table_declared ids s x made) cols))) (table-met d column made few) (listed-met cols made few next)

  pub tables-met : (made : List Op) → length made ≤ 1000000 → (d : CheckScope) → Met (check.own_sites d (decls_of (tables_for ids s made)))
  tables-met [] few d = tt
  tables-met (op ∷ made) few d = listed-met columns (op ∷ made) few d

-- ---- what is done in a turn

-- what stands around a turn: the controller's entries, and its own names, of which none is a shared variable; and tasks beside main can be called
record IsTurning (q : PProgram) (e : CheckScope) : Type 0 where
  outside : e.accepting ≡ []
  own_go : is_own_entry e.own (added_id q go_text) ≡ true
  own_done : is_own_entry e.own (added_id q done_text) ≡ true
  tables : (column : Column) (t : Span) → shared_variable e (uses (table_name (control_ids q) column) t) ≡ []
  counter : (t : Span) → shared_variable e (uses (added_id q counter_text) t) ≡ []
  calls : (w : Word) → (w.name.0 == q.name.name.0) ≡ false → main_entry e (addresses w) ≡ []

module _ (g : Setting) (s : Span) where
  abbrev q : PProgram
  q = g.program

  abbrev names : ControlNames
  names = control_ids q

  abbrev Done : List CheckSite → Type 0
  Done xs = AllByRecursion (IsTextMet q) xs

  line-met : (e : CheckScope) → ((column : Column) (t : Span) → shared_variable e (uses (table_name names column) t) ≡ []) → ((t : Span) → shared_variable e (uses names.counter t) ≡ []) →
      (column : Column) (n : ℕ) → n + 1 ≤ 300 → Done (check.expr_sites e n (line_of names s column))
  line-met e tables counter column n le = (
    met-deep (replay_names q) e n s (omega (arith, le)),
    (met-use (replay_names q) e (table_name names column) s (tables column s), (met-deep (replay_names q) e (n + 1) s le, (met-use (replay_names q) e names.counter s (counter s), tt))),
  )

  -- the statements for one value
  arm-met : (e : CheckScope) (value n : ℕ) (x : PStmt) (rest : PCaseArms) → n ≤ 300 → Done (check.stmt_sites e n x) → Done (check.case_arms_sites e n rest) → Done (check.case_arms_sites e n (case_arm_then (value_arm s value (one x)) rest))
  arm-met e value n x rest le m later =
      all_three (IsTextMet q) (stands ∷ []) (check.stmts_sites e n (one x)) (check.case_arms_sites e n rest) (met-deep (replay_names q) e n s le, tt) (all_joined (IsTextMet q) (check.stmt_sites e n x) [] m tt) later
    where
      stands : CheckSite
      stands = check.stands e n s

  module _ (e : CheckScope) (h : IsTurning q e) where
    abbrev head : PHead
    head = record { entry = word_at s names.go; index = Some (line_of names s Task); formals = formals_of_permit names s; span = s }

    abbrev inner : CheckScope
    inner = check.in_accept e head

    -- the parts of a permit
    part-met : (t : List ℕ) (column : Column) → shared_variable inner (uses (added_id q t) s) ≡ [] → Done (check.stmt_sites inner 4 (part_given s (added_id q t) (line_of names s column)))
    part-met t column h' = (
      met-deep (replay_names q) inner 4 s (omega arith),
      (
        met-use (replay_names q) inner (added_id q t) s h',
        line-met inner (λ c v. uses-under around words (table_name names c) v (h.tables c v)) (λ v. uses-under around words names.counter v (h.counter v)) column 5 (omega arith),
      ),
    )
      where
        around : CheckScope
        around = record e { accepting = names.go ∷ e.accepting; loops = [] }

        words : List Word
        words = permit_words q s

    going-met : Done (check.stmt_sites e 3 (going names s))
    going-met =
        let around : CheckScope = record e { accepting = names.go ∷ e.accepting; loops = [] } in
        let words : List Word = permit_words q s in
        let one' : ℕ = (added_id q kind_text).0 in
        let two : ℕ = (added_id q argument_text).0 in
        let three : ℕ = (added_id q index_text).0 in
        let first : PStmt = part_given s (added_id q kind_text) (line_of names s Kind) in
        let second : PStmt = part_given s (added_id q argument_text) (line_of names s Argument) in
        let third : PStmt = part_given s (added_id q index_text) (line_of names s Index) in
        all_joined (IsTextMet q) (check.head_sites e 3 head) (check.stmts_sites inner 4 (stmts_of (given names s))) (
          met-deep (replay_names q) e 3 s (omega arith),
          (
            accept-met q e head h.own_go h.outside,
            all_joined (IsTextMet q) (check.expr_sites e 4 (line_of names s Task)) (check.names_sites e (check.formal_names (formals_of_permit names s))) (line-met e h.tables h.counter Task 4 (omega arith))
                (added-declared q e kind_text s refl (omega arith), (added-declared q e argument_text s refl (omega arith), (added-declared q e index_text s refl (omega arith), tt))),
          ),
        )
        (all_joined (IsTextMet q) (check.stmt_sites inner 4 first) (check.stmt_sites inner 4 second ++ (check.stmt_sites inner 4 third ++ [])) (part-met kind_text Kind (inner-use around words (added_id q kind_text) s (first-there one' two three)))
        (all_joined (IsTextMet q) (check.stmt_sites inner 4 second) (check.stmt_sites inner 4 third ++ []) (part-met argument_text Argument (inner-use around words (added_id q argument_text) s (second-there one' two three)))
        (all_joined (IsTextMet q) (check.stmt_sites inner 4 third) [] (part-met index_text Index (inner-use around words (added_id q index_text) s (third-there one' two three))) tt)))

    hearing-met : Done (check.stmt_sites e 3 (hearing names s))
    hearing-met = (
      met-deep (replay_names q) e 3 s (omega arith),
      (accept-met q e (record { entry = word_at s names.done; index = Some (line_of names s Task); formals = []; span = s }) h.own_done h.outside, line-met e h.tables h.counter Task 4 (omega arith)),
    )

    joined-met : (id : NameId) → (id.0 == q.name.name.0) ≡ false → Done (check.stmt_sites e 4 (joined names s id))
    joined-met id other = (
      met-deep (replay_names q) e 4 s (omega arith),
      (
        met-deep (replay_names q) e 5 s (omega arith),
        (met-callee (replay_names q) e (word_at s id) (h.calls (word_at s id) other), (met-deep (replay_names q) e 5 s (omega arith), (met-deep (replay_names q) (check.handling e) 6 s (omega arith), tt))),
      ),
    )

    arms-met : (t : ℕ) (infos : List TaskInfo) → AllByRecursion (IsBeside q) infos → Done (check.case_arms_sites e 4 (case_arms_of (join_arms names s t infos)))
    arms-met t [] j = tt
    arms-met t (info ∷ infos) j = arm-met e t 4 (joined names s info.name) (case_arms_of (join_arms names s (suc t) infos)) (omega arith) (joined-met info.name j.0) (arms-met (suc t) infos j.1)

    joining-met : AllByRecursion (IsBeside q) (drop 1 g.numbers.tasks) → Done (check.stmt_sites e 3 (joining names g.numbers.tasks s))
    joining-met j = (
      met-deep (replay_names q) e 3 s (omega arith),
      all_three (IsTextMet q) (check.expr_sites e 4 (line_of names s Task)) (check.case_arms_sites e 4 (case_arms_of (join_arms names s 1 (drop 1 g.numbers.tasks)))) (check.stands e 4 s ∷ [])
          (line-met e h.tables h.counter Task 4 (omega arith)) (arms-met 1 (drop 1 g.numbers.tasks) j) (met-deep (replay_names q) e 4 s (omega arith), tt),
    )

    turn-met : AllByRecursion (IsBeside q) (drop 1 g.numbers.tasks) → Done (check.stmt_sites e 2 (turn names g.numbers.tasks s))
    turn-met j = (
      met-deep (replay_names q) e 2 s (omega arith),
      all_three (IsTextMet q) (check.expr_sites e 3 (line_of names s Operation)) (check.case_arms_sites e 3 (case_arms_of (turn_arms names s))) (check.stmts_sites e 3 (one (joining names g.numbers.tasks s)))
          (line-met e h.tables h.counter Operation 3 (omega arith))
          (arm-met e 1 3 (going names s) (case_arm_then (value_arm s 2 (one (hearing names s))) no_case_arm) (omega arith) going-met (arm-met e 2 3 (hearing names s) no_case_arm (omega arith) hearing-met tt))
          (all_joined (IsTextMet q) (check.stmt_sites e 3 (joining names g.numbers.tasks s)) [] (joining-met j) tt),
    )

-- ---- both bodies

module _ (g : Setting) (d : CheckScope) (s : Span) (n : ℕ) (outside : (behind_added g.program s n d).accepting ≡ []) (calls : (w : Word) → (w.name.0 == g.program.name.name.0) ≡ false → main_entry (behind_added g.program s n d) (addresses w) ≡ []) where
  abbrev p : PProgram
  p = g.program

  abbrev behind : CheckScope
  behind = behind_added p s n d

  -- the scope of the controller's objects, and that of its statements behind the tables
  abbrev e0 : CheckScope
  e0 = check.in_body behind (added_word p s control_text)

  abbrev e1 : CheckScope
  e1 = check.with_meant Inner e0 (table_words p s)

  abbrev counters : List Word
  counters = added_word p s counter_text ∷ []

  own-entry : (t : List ℕ) → is_among (control_unit p).entries (added_id p t) ≡ true → is_own_entry e0.own (added_id p t) ≡ true
  own-entry t h = ap (λ l. is_among l (added_id p t)) (control-entries p d s n s) ∙ h

  abbrev one' : ℕ
  one' = (added_id p go_text).0

  abbrev two : ℕ
  two = (added_id p done_text).0

  abbrev three : ℕ
  three = (added_id p hold_text).0

  -- in the loop
  abbrev e2 : ℕ → CheckScope
  e2 count = check.in_loop e1 None (Some (LFor (word_at s (control_ids p).counter) false (up_to s count)))

  abbrev looping : CheckScope
  looping = record e1 { loops = None ∷ e1.loops }

  turning : (count : ℕ) → IsTurning p (e2 count)
  turning count = record {
    outside = outside;
    own_go = own-entry go_text (first-there one' two three);
    own_done = own-entry done_text (second-there one' two three);
    tables = λ column t. uses-under looping counters (table_name (control_ids p) column) t (inner-use e0 (table_words p s) (table_name (control_ids p) column) t (table-among p s column));
    counter = λ t. inner-use looping counters (added_id p counter_text) t (named-among p s [] (added_word p s counter_text) []);
    calls = λ w other. callees-under looping counters w (callees-under e0 (table_words p s) w (calls w other));
  }

  loop-met : (count : ℕ) → AllByRecursion (IsBeside p) (drop 1 g.numbers.tasks) → AllByRecursion (IsTextMet p) (check.stmt_sites e1 1 (loop_over (control_ids p) g.numbers.tasks s count))
  loop-met count j = (
    met-deep (replay_names p) e1 1 s (omega arith),
    (
      added-declared p e1 counter_text s refl (omega arith),
      (
        met-deep (replay_names p) e1 2 s (omega arith),
        (
          met-deep (replay_names p) e1 2 s (omega arith),
          all_joined (IsTextMet p) (check.stmt_sites (e2 count) 2 (turn (control_ids p) g.numbers.tasks s)) [] (turn-met g s (e2 count) (turning count) j) tt,
        ),
      ),
    ),
  )

  -- the controller waits, behind its tables or without them
  wait-met : (e : CheckScope) → is_own_entry e.own (added_id p hold_text) ≡ true → e.accepting ≡ [] → AllByRecursion (IsTextMet p) (check.stmt_sites e 1 (accept_by s (control_ids p).hold None [] absent))
  wait-met e own empty = (met-deep (replay_names p) e 1 s (omega arith), (accept-met p e (record { entry = word_at s (control_ids p).hold; index = None; formals = []; span = s }) own empty, tt))

  hold-own : is_own_entry e0.own (added_id p hold_text) ≡ true
  hold-own = own-entry hold_text (third-there one' two three)

  -- the statements, by what is made and whether the controller waits then
  body-met : (made : List Op) (hold : Bool) → AllByRecursion (IsBeside p) (drop 1 g.numbers.tasks) →
      AllByRecursion (IsTextMet p) (check.stmts_sites (check.after_own e0 (decls_of (tables_for (control_ids p) s made))) 1 (stmts_of (loops (control_ids p) g.numbers.tasks s (length made) ++ waits (control_ids p) s hold)))
  body-met [] false j = tt
  body-met [] true j = all_joined (IsTextMet p) (check.stmt_sites e0 1 (accept_by s (control_ids p).hold None [] absent)) [] (wait-met e0 hold-own outside) tt
  body-met (op ∷ made) false j = all_joined (IsTextMet p) (check.stmt_sites e1 1 (loop_over (control_ids p) g.numbers.tasks s (suc (length made)))) [] (loop-met (suc (length made)) j) tt
  body-met (op ∷ made) true j =
      all_joined (IsTextMet p) (check.stmt_sites e1 1 (loop_over (control_ids p) g.numbers.tasks s (suc (length made)))) (check.stmt_sites e1 1 (accept_by s (control_ids p).hold None [] absent) ++ []) (loop-met (suc (length made)) j)
      (all_joined (IsTextMet p) (check.stmt_sites e1 1 (accept_by s (control_ids p).hold None [] absent)) [] (wait-met e1 hold-own outside) tt)

  pub control-met : (bodies : List ℕ) (ops : List Op) → length ops ≤ 1000000 → AllByRecursion (IsBeside p) (drop 1 g.numbers.tasks) → AllByRecursion (IsTextMet p) (check.decl_sites behind bodies (control_body g s ops))
  control-met bodies ops few j =
      let fewer = acts-few ops in
      let made : List Op = acts ops in
      let its : PStmts = stmts_of (loops (control_ids p) g.numbers.tasks s (length made) ++ waits (control_ids p) s (holds ops)) in
      let within : CheckScope = check.after_own e0 (decls_of (tables_for (control_ids p) s made)) in
      all_joined (IsTextMet p) (check.own_sites e0 (decls_of (tables_for (control_ids p) s made))) (check.body_sites within 1 (body its no_handler)) (tables-met p s made (omega (arith, fewer, few)) e0)
      (all_joined (IsTextMet p) (check.stmts_sites within 1 its) [] (body-met made (holds ops) j) tt)

  pub idle-met : (bodies : List ℕ) → AllByRecursion (IsTextMet p) (check.decl_sites behind bodies (idle_body p s))
  idle-met bodies =
      let e : CheckScope = check.in_body behind (added_word p s idle_text) in
      let head : PHead = record { entry = added_word p s rest_text; index = None; formals = []; span = s } in
      let one : ℕ = (added_id p stop_text).0 in
      let two : ℕ = (added_id p rest_text).0 in
      let own : is_own_entry e.own (added_id p rest_text) ≡ true = ap (λ l. is_among l (added_id p rest_text)) (idle-entries p d s n s) ∙ or_right (one == two) ((two == two) || false) (ap (λ t. t || false) (equal_self two)) in (
        met-deep (replay_names p) e 1 s (omega arith),
        (
          met-wait (replay_names p) e (alt_then (alternative None (AAccept (accepting head absent) no_stmt) s) (alt_then (alternative None ATerminate s) no_alt)) false s refl refl,
          (
            met-alternative (replay_names p) e 0 s (omega arith),
            (
              met-alternative (replay_names p) e 1 s (omega arith),
              (
                met-deep (replay_names p) e 2 s (omega arith),
                (met-deep (replay_names p) e 3 s (omega arith), (accept-met p e head own outside, (met-deep (replay_names p) e 2 s (omega arith), tt))),
              ),
            ),
          ),
        ),
      )
