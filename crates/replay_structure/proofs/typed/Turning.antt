-- The body of the controller meets the static rules 1 and 3 to 12: the tables, the loop over them, and what is done in a turn.
use Rattle.std.proofs.Common.{◌≡◌, ℕ, suc, ◌+◌, ◌≤◌, ◌==◌, pos, negsuc, int_le, Bool, true, false, ◌&&◌, if◌then◌else◌, List, [], ◌∷◌, ◌++◌, length, drop, Some, None, is_some, refl, sym, ap, subst, ◌∙◌, arith}
use Rattle.std.specs.List.{AllByRecursion, list_any}
use Rattle.std.proofs.lemmas.Int.{ints}
use Rattle.std.proofs.lemmas.Bool.{eq-eqb, or_from}
use Rattle.common_lemmas.proofs.Numbers.{equal_is}
use Rattle.common_lemmas.proofs.Lists.{all_joined, all_three, all_weaker, found_some, found_at, found_passes}
use Rattle.ada_tree.specs.declared.naming.NameId.{NameId}
use Rattle.ada_tree.specs.declared.naming.Span.{Span}
use Rattle.ada_tree.specs.declared.naming.Word.{Word}
use Rattle.ada_tree.specs.declared.static_types.Mark.{Mark}
use Rattle.ada_tree.specs.Lexical.{IsInteger as IsLiteral}
use Rattle.ada_tree.specs.PlainExpr.{PExpr, EInteger}
use Rattle.ada_tree.specs.PlainStmt.{PCall, PChoice, PHead, PStmt, SNull, PStmts, stmts_of, PCaseArms, no_case_arm, case_arm_then, case_arms_of, absent, body, no_handler}
use Rattle.ada_tree.specs.PlainDecl.{decls_of}
use Rattle.ada_tree.specs.PlainProgram.{PProgram}
use Rattle.ada_static_rules.specs.Scope.{Scope, Range, FormalPart, Family, single, family, EntryPart, AnException, integer_kind, mark_at, meaning, entry_named, and_then}
use Rattle.ada_static_rules.specs.ExprTypes.{kind_of}
use Rattle.ada_static_rules.specs.Declaring.{inner_scope, in_body, own_entries, after_objects, first_mark_of, loop_thing, drange_kind, with_loop_parameter}
use Rattle.ada_static_rules.specs.Demand.{Site, chooses, must_lie_in}
use Rattle.ada_static_rules.specs.Sites.{site, names_sites, expr_sites, expr_of, drange_sites, choice_sites, arm_choices, head_sites, handler_names_sites, call_sites, stmt_sites, stmts_sites, case_arms_sites, body_sites, own_sites, decl_sites}
use Rattle.ada_static_rules.specs.RuleNotException.{no_exception}
use Rattle.ada_static_rules.specs.RuleChoiceBad.{selected_range, choice_span, do_overlap, overlapping, bad_choices}
use Rattle.ada_static_rules.proofs.found_twice.Declared.{objects_own}
use Rattle.syn_event.specs.declared.numbering.TaskInfo.{TaskInfo}
use Rattle.task_model.specs.Setting.{Setting}
use Rattle.control_script.specs.declared.Op.{Op}
use Rattle.task_laws.specs.legal.rewritten_types.Agreement.{IsScalar}
use Rattle.task_laws.specs.legal.alike_scopes.Laws.{IsMetBut}
use Rattle.task_laws.proofs.legal.rewritten_types.Keeping.{grows-self, keeps-self}
use Rattle.task_laws.proofs.legal.types.GoodScopes.{IsIn, names-kept}
use Rattle.normal_model.specs.Making.{one}
use Rattle.normal_model.specs.Ranges.{word_at}
use Rattle.normal_laws.proofs.structure.typed.Places.{met-chooses, met-exception, met-handles, gives-met}
use Rattle.normal_laws.proofs.structure.typed.Variables.{AllMetBut, words-met}
use Rattle.normal_laws.proofs.structure.typed.Scopes.{meaning-more}
use Rattle.normal_laws.proofs.structure.typed.Literals.{plain-fixed}
use Rattle.normal_laws.proofs.structure.typed.Choices.{choice-met}
use Rattle.replay_model.specs.declared.tables.columns.Column.{Column}
use Rattle.replay_model.specs.declared.tables.columns.Column.TheVariants.{Operation, Task, Kind, Argument, Index}
use Rattle.replay_model.specs.declared.tables.names.ControlNames.{ControlNames}
use Rattle.replay_model.specs.Names.{kind_text, argument_text, index_text, control_text, go_text, done_text, hold_text, counter_text, added_id, added_word}
use Rattle.replay_model.specs.tables.Columns.{acts, holds, columns, table_name}
use Rattle.replay_model.specs.tables.Tables.{up_to, tables_for}
use Rattle.replay_model.specs.tables.Turns.{line_of, accept_by, part_given, given, going, hearing, joined, value_arm, join_arms, joining, turn_arms, turn}
use Rattle.replay_model.specs.tables.ControlBodies.{loop_over, loops, waits}
use Rattle.replay_model.specs.Controlling.{control_ids, permit_formals, control_body}
use Rattle.replay_structure.specs.placed.Placeable.{HasLiterals}
use Rattle.replay_structure.specs.typed.ScopeOf.{HasLists, permit_parts}
use Rattle.replay_structure.specs.typed.Controller.{IsInteger, IsOutside, IsController, IsJoinable, IsAwaited}
use Rattle.replay_structure.proofs.placed.Said.{acts-all}
use Rattle.replay_structure.proofs.typed.Calls.{single-met, listed-call}
use Rattle.replay_structure.proofs.typed.Control.{all_values, listed-accept, out-assigned, formals, words, same-names, formals-met, behind, out-number, kind-in, argument-in, index-in}
use Rattle.replay_structure.proofs.typed.Tables.{IsTable, IsCounter, table-step, counter-step, line-kind, line-sites, line-in, line-selects, loop-range-met, means-behind, integer-behind, tables-met, tables-seen, two-apart, tables-apart, no-table, table-other}
use Rattle.replay_structure.proofs.scopes.Permit.{integer-step}

-- ---- choices of one value each, in ascending order

-- the values of a choice lie below the next ones
abbrev pub IsBelow : ℕ → Range → Type 0
IsBelow v r = int_le (pos v) r.last ≡ false

pub third-false : (a b c d : Bool) → c ≡ false → (a && b && c && d) ≡ false
third-false true true c d e = ap (λ t. t && d) e
third-false true false c d e = refl
third-false false b c d e = refl

pub none-overlap : (v : ℕ) (seen : List Range) → AllByRecursion (IsBelow v) seen → list_any (do_overlap (record { kind = integer_kind; first = pos v; last = pos v })) seen ≡ false
none-overlap v [] h = refl
none-overlap v (r ∷ seen) h =
    or_from (do_overlap (record { kind = integer_kind; first = pos v; last = pos v }) r) (list_any (do_overlap (record { kind = integer_kind; first = pos v; last = pos v })) seen)
    (third-false (int_le (pos v) (pos v)) (int_le r.first r.last) (int_le (pos v) r.last) (int_le r.first (pos v)) h.0) (none-overlap v seen h.1)

next-below : (v : ℕ) (r : Range) → IsBelow v r → IsBelow (suc v) r
next-below v r h = grind (arith, ints)

point-below : (v : ℕ) → int_le (pos (suc v)) (pos v) ≡ false
point-below v = grind (arith, ints)

module _ (d : Scope) (n : ControlNames) (s : Span) where
  joins-apart : (t : ℕ) (infos : List TaskInfo) (seen : List Range) → AllByRecursion (IsBelow t) seen → overlapping d integer_kind seen (arm_choices (case_arms_of (join_arms n s t infos))) ≡ []
  joins-apart t [] seen h = refl
  joins-apart t (info ∷ infos) seen h =
      let point : Range = record { kind = integer_kind; first = pos t; last = pos t } in
      let rest = overlapping d integer_kind (point ∷ seen) (arm_choices (case_arms_of (join_arms n s (suc t) infos))) in
      ap (λ (b : Bool). (if b then choice_span (record { first = EInteger t s; last = None }) ∷ [] else []) ++ rest) (none-overlap t seen h)
      ∙ joins-apart (suc t) infos (point ∷ seen) (point-below t, all_weaker (IsBelow t) (IsBelow (suc t)) seen (next-below t) h)

  -- the choices of a case over numbers, where others may follow
  choices-met : (e : PExpr) (xs : List PChoice) → kind_of d e ≡ Some integer_kind → overlapping d integer_kind [] xs ≡ [] → IsMetBut (site d (chooses e xs true s))
  choices-met e xs k apart = met-chooses d e xs true s (ap (λ o. bad_choices d o e xs true s) k ∙ ap (λ l. l ++ []) apart)

value-small : (v : ℕ) → v ≤ 2147483647 → (int_le (negsuc 2147483647) (pos v) && int_le (pos v) (pos 2147483647)) ≡ true
value-small v h = grind (arith, ints)

-- ---- the parameter of the loop

-- the first mark of numbers
pub counter-mark : (d : Scope) → IsInteger d → (j : ℕ) × (m : Mark) × (first_mark_of d.types integer_kind ≡ Some j) × (mark_at d.types j ≡ Some m) × (m.kind ≡ integer_kind)
counter-mark d int =
    let test : Mark → Bool = λ m. m.kind == integer_kind in
    let some = found_some test d.types.marks int.its.place int.its.mark int.its.there (eq-eqb int.its.mark.kind integer_kind int.its.kind) in
    let at = found_at test d.types.marks some.0 some.1 in
    (at.0, some.0, at.1, at.2, equal_is some.0.kind integer_kind (found_passes test d.types.marks some.0 some.1))

-- ---- the statements of the controller

module _ (q : PProgram) (entries : List EntryPart) (range : Range) (numbers : range.kind ≡ integer_kind) (go : HasLists (entry_named entries (added_id q go_text)) (family range) (permit_parts q))
    (done : HasLists (entry_named entries (added_id q done_text)) (family range) []) (hold : HasLists (entry_named entries (added_id q hold_text)) single []) (s : Span) where
  abbrev ids : ControlNames
  ids = control_ids q

  -- What can be used in a turn: the tables, the loop parameter, INTEGER, TASKING_ERROR, and tasks with DED_JOIN.
  record IsTurning (infos : List TaskInfo) (d : Scope) : Type 0 where
    integer : IsInteger d
    own : d.own ≡ entries
    tables : (column : Column) → IsTable d (table_name ids column)
    counter : IsCounter d ids.counter
    tasking : meaning d (record { 0 = 9 }) ≡ Some AnException
    tasks : AllByRecursion (λ (info : TaskInfo). IsJoinable q d info.name) infos

  own-lists : (d : Scope) → d.own ≡ entries → (id : NameId) (members : Family) (fs : List FormalPart) → HasLists (entry_named entries id) members fs → HasLists (entry_named d.own id) members fs
  own-lists d e id members fs h = subst (λ l. HasLists (entry_named l id) members fs) (sym e) h

  -- the formals of GO have other names than tables and the loop parameter
  formals-other : (id : NameId) → ((added_id q kind_text).0 == id.0) ≡ false → ((added_id q argument_text).0 == id.0) ≡ false → ((added_id q index_text).0 == id.0) ≡ false →
      AllByRecursion (λ (w : Word). (w.name.0 == id.0) ≡ false) (words q s)
  formals-other id a b c = (a, (b, (c, tt)))

  table-formals : (column : Column) → AllByRecursion (λ (w : Word). (w.name.0 == (table_name ids column).0) ≡ false) (words q s)
  table-formals column =
      formals-other (table_name ids column) (table-other q kind_text refl refl refl refl refl refl column) (table-other q argument_text refl refl refl refl refl refl column) (table-other q index_text refl refl refl refl refl refl column)

  counter-formals : AllByRecursion (λ (w : Word). (w.name.0 == ids.counter.0) ≡ false) (words q s)
  counter-formals = formals-other ids.counter (two-apart q kind_text counter_text refl refl refl) (two-apart q argument_text counter_text refl refl refl) (two-apart q index_text counter_text refl refl refl)

  module _ (infos : List TaskInfo) (d : Scope) (h : IsTurning infos d) where
    abbrev its : Column → PExpr
    its column = line_of ids s column

    -- ---- a permit is given

    abbrev inner : Scope
    inner = behind q d h.integer.its s

    table-inner : (column : Column) → IsTable inner (table_name ids column)
    table-inner column = table-step d inner (table_name ids column) (names-kept _ (words q s) (inner_scope d) (table_name ids column) (table-formals column)) (grows-self d.types) (h.tables column)

    counter-inner : IsCounter inner ids.counter
    counter-inner = counter-step d inner ids.counter (names-kept _ (words q s) (inner_scope d) ids.counter counter-formals) (grows-self d.types) h.counter

    part-met : (id : NameId) → IsIn (words q s) id → (column : Column) → AllMetBut (stmt_sites inner (part_given s id (its column)))
    part-met id i column =
        out-assigned inner id s (its column) (out-number q d h.integer.its s id i) (line-sites inner (table_name ids column) ids.counter s (table-inner column) counter-inner)
        (line-kind inner (table_name ids column) ids.counter s (table-inner column) counter-inner)

    given-met : AllMetBut (stmts_sites inner (stmts_of (given ids s)))
    given-met =
        let first : List Site = stmt_sites inner (part_given s (added_id q kind_text) (its Kind)) in
        let second : List Site = stmt_sites inner (part_given s (added_id q argument_text) (its Argument)) in
        let third : List Site = stmt_sites inner (part_given s (added_id q index_text) (its Index)) in
        all_joined IsMetBut first (second ++ (third ++ [])) (part-met (added_id q kind_text) (kind-in q d h.integer.its s) Kind)
        (all_joined IsMetBut second (third ++ []) (part-met (added_id q argument_text) (argument-in q d h.integer.its s) Argument)
        (all_joined IsMetBut third [] (part-met (added_id q index_text) (index-in q d h.integer.its s) Index) tt))

    -- ---- operations

    index-met : AllMetBut (expr_of d (Some range.kind) (its Task) ++ site d (must_lie_in (its Task) (Some range)) ∷ [])
    index-met = line-in d (table_name ids Task) ids.counter s (h.tables Task) h.counter range numbers

    going-met : AllMetBut (stmt_sites d (going ids s))
    going-met =
        let head : PHead = record { entry = word_at s ids.go; index = Some (its Task); formals = permit_formals q s; span = s } in
        all_joined IsMetBut (head_sites d head) (stmts_sites inner (stmts_of (given ids s)))
        (listed-accept d head (family range) (permit_parts q) (own-lists d h.own (added_id q go_text) (family range) (permit_parts q) go) refl (same-names q s) index-met (formals-met q d h.integer.its s)) given-met

    hearing-met : AllMetBut (stmt_sites d (hearing ids s))
    hearing-met =
        let head : PHead = record { entry = word_at s ids.done; index = Some (its Task); formals = []; span = s } in
        all_joined IsMetBut (head_sites d head) [] (listed-accept d head (family range) [] (own-lists d h.own (added_id q done_text) (family range) [] done) refl refl index-met tt) tt

    joined-met : (id : NameId) → IsJoinable q d id → AllMetBut (stmt_sites d (joined ids s id))
    joined-met id j =
        let x : PCall = record { task = record { name = word_at s id; index = None }; entry = word_at s ids.join; args = None } in
        all_joined IsMetBut (call_sites d x ++ []) (handler_names_sites d [] (word_at s record { 0 = 9 } ∷ []))
        (all_joined IsMetBut (call_sites d x) [] ((single-met d (word_at s id) j.entries j.means).0, listed-call d x j.entries single [] j.means j.join refl tt) tt)
        (met-exception d (word_at s record { 0 = 9 }) (ap (λ o. if is_some o then [] else s ∷ []) h.tasking) (ap (λ o. no_exception o (word_at s record { 0 = 9 })) h.tasking), (met-handles d [] (word_at s record { 0 = 9 }), tt))

    -- ---- a case over the values of a line

    abbrev Arms : PCaseArms → Type 0
    Arms x = AllMetBut (case_arms_sites d (Some integer_kind) (Some all_values) x)

    arm-met : (v : ℕ) (x : PStmt) (rest : PCaseArms) → v ≤ 2147483647 → AllMetBut (stmt_sites d x) → Arms rest → Arms (case_arm_then (value_arm s v (one x)) rest)
    arm-met v x rest few m later =
        let choice : PChoice = record { first = EInteger v s; last = None } in
        all_three IsMetBut (choice_sites d (Some integer_kind) (Some all_values) choice ++ []) (stmts_sites d (one x)) (case_arms_sites d (Some integer_kind) (Some all_values) rest)
        (all_joined IsMetBut (choice_sites d (Some integer_kind) (Some all_values) choice) [] (choice-met d integer_kind (EInteger v s) (pos v) (plain-fixed d h.integer.its v s) all_values refl (value-small v few)) tt)
        (all_joined IsMetBut (stmt_sites d x) [] m tt) later

    case-met : (column : Column) (x : PCaseArms) (others : PStmts) → overlapping d integer_kind [] (arm_choices x) ≡ [] → Arms x → AllMetBut (stmts_sites d others) →
        AllMetBut (site d (chooses (its column) (arm_choices x) true s) ∷ expr_sites d (its column) ++ case_arms_sites d (kind_of d (its column)) (selected_range d (its column)) x ++ stmts_sites d others)
    case-met column x others apart m o =
        let kind = line-kind d (table_name ids column) ids.counter s (h.tables column) h.counter in
        let values = line-selects d (table_name ids column) ids.counter s (h.tables column) h.counter in (
          choices-met d ids s (its column) (arm_choices x) kind apart,
          all_three IsMetBut (expr_sites d (its column)) (case_arms_sites d (kind_of d (its column)) (selected_range d (its column)) x) (stmts_sites d others)
              (line-sites d (table_name ids column) ids.counter s (h.tables column) h.counter)
              (subst (λ k. AllMetBut (case_arms_sites d k (selected_range d (its column)) x)) (sym kind) (subst (λ r. AllMetBut (case_arms_sites d (Some integer_kind) r x)) (sym values) m)) o,
        )

    arms-met : (t : ℕ) (xs : List TaskInfo) → t + length xs ≤ 2147483648 → AllByRecursion (λ (info : TaskInfo). IsJoinable q d info.name) xs → Arms (case_arms_of (join_arms ids s t xs))
    arms-met t [] few j = tt
    arms-met t (info ∷ xs) few j = arm-met t (joined ids s info.name) (case_arms_of (join_arms ids s (suc t) xs)) (omega (arith, few)) (joined-met info.name j.0) (arms-met (suc t) xs (omega (arith, few)) j.1)

  joining-met : (all : List TaskInfo) (d : Scope) (h : IsTurning (drop 1 all) d) → IsLiteral (length all) → AllMetBut (stmt_sites d (joining ids all s))
  joining-met all d h few = case-met (drop 1 all) d h Task (case_arms_of (join_arms ids s 1 (drop 1 all))) (one (SNull s)) (joins-apart d ids s 1 (drop 1 all) [] tt) (arms-met (drop 1 all) d h 1 (drop 1 all) (fewer all few) h.tasks) tt
    where
      fewer : (xs : List TaskInfo) → length xs ≤ 2147483647 → 1 + length (drop 1 xs) ≤ 2147483648
      fewer [] l = omega arith
      fewer (x ∷ xs) l = omega (arith, l)

  turn-met : (all : List TaskInfo) (d : Scope) (h : IsTurning (drop 1 all) d) → IsLiteral (length all) → AllMetBut (stmt_sites d (turn ids all s))
  turn-met all d h few =
      case-met (drop 1 all) d h Operation (case_arms_of (turn_arms ids s)) (one (joining ids all s)) refl
      (arm-met (drop 1 all) d h 1 (going ids s) (case_arm_then (value_arm s 2 (one (hearing ids s))) no_case_arm) (omega arith) (going-met (drop 1 all) d h)
      (arm-met (drop 1 all) d h 2 (hearing ids s) no_case_arm (omega arith) (hearing-met (drop 1 all) d h) tt))
      (all_joined IsMetBut (stmt_sites d (joining ids all s)) [] (joining-met all d h few) tt)

  -- ---- the loop

  module _ (all : List TaskInfo) (d : Scope) (int : IsInteger d) (own : d.own ≡ entries) (tables : (column : Column) → IsTable d (table_name ids column)) (outside : IsOutside q (record { 0 = 0 }))
      (tasking : meaning d (record { 0 = 9 }) ≡ Some AnException) (outside' : IsOutside q (record { 0 = 9 })) (tasks : AllByRecursion (λ (info : TaskInfo). IsJoinable q d info.name × IsOutside q info.name) (drop 1 all)) where
    abbrev looping : ℕ → Scope
    looping n = with_loop_parameter d (word_at s ids.counter) (up_to s n)

    kept : (n : ℕ) (id : NameId) → (ids.counter.0 == id.0) ≡ false → meaning (looping n) id ≡ meaning d id
    kept n id e = meaning-more _ (inner_scope d) (word_at s ids.counter) id ∙ ap (λ b. if b then Some (loop_thing (and_then (first_mark_of d.types) (drange_kind d (up_to s n)))) else meaning d id) e

    counter-seen : (n : ℕ) → IsCounter (looping n) ids.counter
    counter-seen n =
        let c = counter-mark d int in
        record {
          place = c.0;
          mark = c.1;
          means =
              meaning-more _ (inner_scope d) (word_at s ids.counter) ids.counter
              ∙ ap (λ b. if b then Some (loop_thing (and_then (first_mark_of d.types) (drange_kind d (up_to s n)))) else meaning d ids.counter) (eq-eqb ids.counter.0 ids.counter.0 refl)
              ∙ ap (λ o. Some (loop_thing o)) c.2;
          there = c.3;
          kind = c.4;
          scalar = subst (λ k. IsScalar d.types k) (int.its.kind ∙ sym c.4) int.its.scalar;
        }

    joins-kept : (n : ℕ) (xs : List TaskInfo) → AllByRecursion (λ (info : TaskInfo). IsJoinable q d info.name × IsOutside q info.name) xs → AllByRecursion (λ (info : TaskInfo). IsJoinable q (looping n) info.name) xs
    joins-kept n [] h = tt
    joins-kept n (info ∷ xs) h = (record { entries = h.0.0.entries; means = kept n info.name h.0.1.counter ∙ h.0.0.means; join = h.0.0.join }, joins-kept n xs h.1)

    turning : (n : ℕ) → IsTurning (drop 1 all) (looping n)
    turning n = record {
      integer = integer-step d (looping n) (kept n (record { 0 = 0 }) outside.counter) (keeps-self d.types) int;
      own = own;
      tables = λ column. table-step d (looping n) (table_name ids column) (kept n (table_name ids column) (table-other q counter_text refl refl refl refl refl refl column)) (grows-self d.types) (tables column);
      counter = counter-seen n;
      tasking = kept n (record { 0 = 9 }) outside'.counter ∙ tasking;
      tasks = joins-kept n (drop 1 all) tasks;
    }

    loop-met : (n : ℕ) → 1 ≤ n → IsLiteral (length all) → AllMetBut (stmt_sites d (loop_over ids all s n))
    loop-met n some few =
        all_joined IsMetBut (names_sites false (inner_scope d) (word_at s ids.counter ∷ []) ++ drange_sites false d (up_to s n)) (stmts_sites (looping n) (one (turn ids all s)))
        (all_joined IsMetBut (names_sites false (inner_scope d) (word_at s ids.counter ∷ [])) (drange_sites false d (up_to s n)) (words-met false (word_at s ids.counter ∷ []) (inner_scope d)) (loop-range-met d s n some))
        (all_joined IsMetBut (stmt_sites (looping n) (turn ids all s)) [] (turn-met all (looping n) (turning n) few) tt)

  -- ---- where the controller waits

  wait-met : (d : Scope) → d.own ≡ entries → AllMetBut (stmt_sites d (accept_by s ids.hold None [] absent))
  wait-met d own =
      let head : PHead = record { entry = word_at s ids.hold; index = None; formals = []; span = s } in
      all_joined IsMetBut (head_sites d head) [] (listed-accept d head single [] (own-lists d own (added_id q hold_text) single [] hold) refl refl tt tt) tt

-- ---- the body

module _ (g : Setting) (d : Scope) (control : IsController g.program d) (s : Span) (few : IsLiteral (length g.numbers.tasks)) (awaited : AllByRecursion (IsAwaited g.program d) (drop 1 g.numbers.tasks)) where
  abbrev q : PProgram
  q = g.program

  abbrev names : ControlNames
  names = control_ids q

  abbrev infos : List TaskInfo
  infos = g.numbers.tasks

  abbrev inside : Scope
  inside = in_body d (added_word q s control_text)

  inside-own : inside.own ≡ control.seen.entries
  inside-own = ap own_entries control.seen.means

  inside-integer : IsInteger inside
  inside-integer = integer-step d inside refl (keeps-self d.types) control.integer

  abbrev within : List Op → Scope
  within made = inner_scope (after_objects inside (decls_of (tables_for names s made)))

  -- the statements, by what is made and whether the controller waits then
  abbrev statements : List Op → Bool → PStmts
  statements made hold = stmts_of (loops names infos s (length made) ++ waits names s hold)

  module _ (op : Op) (rest : List Op) where
    abbrev made : List Op
    made = op ∷ rest

    abbrev end : Scope
    end = within made

    means-end : (id : NameId) → IsOutside q id → meaning end id ≡ meaning d id
    means-end id o = means-behind q s made id columns inside (no-table q s made id o.tables)

    own-end : end.own ≡ control.seen.entries
    own-end = objects_own (decls_of (tables_for names s made)) inside ∙ inside-own

    integer-end : IsInteger end
    integer-end =
        let at : IsInteger (after_objects inside (decls_of (tables_for names s made))) = integer-behind q s made columns inside refl (no-table q s made (record { 0 = 0 }) control.integer_outside.tables) inside-integer in
        integer-step (after_objects inside (decls_of (tables_for names s made))) end refl (keeps-self (after_objects inside (decls_of (tables_for names s made))).types) at

    all-seen : AllByRecursion (λ column. IsTable (after_objects inside (decls_of (tables_for names s made))) (table_name names column)) columns
    all-seen = tables-seen q s made columns inside refl (no-table q s made (record { 0 = 0 }) control.integer_outside.tables) (tables-apart q s made) inside-integer

    tables-end : (column : Column) → IsTable end (table_name names column)
    tables-end column = table-step (after_objects inside (decls_of (tables_for names s made))) end (table_name names column) refl (grows-self (after_objects inside (decls_of (tables_for names s made))).types) (seen column)
      where
        seen : (c : Column) → IsTable (after_objects inside (decls_of (tables_for names s made))) (table_name names c)
        seen Operation = all-seen.0
        seen Task = all-seen.1.0
        seen Kind = all-seen.1.1.0
        seen Argument = all-seen.1.1.1.0
        seen Index = all-seen.1.1.1.1.0

    awaited-end : (xs : List TaskInfo) → AllByRecursion (IsAwaited q d) xs → AllByRecursion (λ (info : TaskInfo). IsJoinable q end info.name × IsOutside q info.name) xs
    awaited-end [] h = tt
    awaited-end (info ∷ xs) h = (
      (record { entries = h.0.joinable.entries; means = means-end info.name h.0.outside ∙ h.0.joinable.means; join = h.0.joinable.join }, h.0.outside),
      awaited-end xs h.1,
    )

    loops-met : AllMetBut (stmt_sites end (loop_over names infos s (length made)))
    loops-met =
        loop-met q control.seen.entries control.seen.range control.seen.numbers control.seen.go control.seen.done control.hold s infos end integer-end own-end tables-end control.integer_outside
        (means-end (record { 0 = 9 }) control.tasking_outside ∙ control.tasking) control.tasking_outside (awaited-end (drop 1 infos) awaited) (length made) (omega arith) few

  hold-met : (e : Scope) → e.own ≡ control.seen.entries → AllMetBut (stmt_sites e (accept_by s names.hold None [] absent))
  hold-met e own = wait-met q control.seen.entries control.seen.range control.seen.numbers control.seen.go control.seen.done control.hold s e own

  stmts-met : (made : List Op) (hold : Bool) → AllMetBut (stmts_sites (within made) (statements made hold))
  stmts-met [] false = tt
  stmts-met [] true = all_joined IsMetBut (stmt_sites (within []) (accept_by s names.hold None [] absent)) [] (hold-met (within []) inside-own) tt
  stmts-met (op ∷ rest) false = all_joined IsMetBut (stmt_sites (within (op ∷ rest)) (loop_over names infos s (length (op ∷ rest)))) [] (loops-met op rest) tt
  stmts-met (op ∷ rest) true =
      all_joined IsMetBut (stmt_sites (within (op ∷ rest)) (loop_over names infos s (length (op ∷ rest)))) (stmt_sites (within (op ∷ rest)) (accept_by s names.hold None [] absent) ++ []) (loops-met op rest)
      (all_joined IsMetBut (stmt_sites (within (op ∷ rest)) (accept_by s names.hold None [] absent)) [] (hold-met (within (op ∷ rest)) (own-end op rest)) tt)

  objects-met : (made : List Op) → AllByRecursion HasLiterals made → AllMetBut (own_sites inside (decls_of (tables_for names s made)))
  objects-met [] h = tt
  objects-met (op ∷ rest) h = tables-met q s (op ∷ rest) columns inside refl (no-table q s (op ∷ rest) (record { 0 = 0 }) control.integer_outside.tables) inside-integer (omega arith) h

  -- The body of the controller meets the rules.
  pub control-met : (ops : List Op) → AllByRecursion HasLiterals ops → AllMetBut (decl_sites d (control_body g s ops))
  control-met ops h = (
    gives-met d (added_word q s control_text) control.seen.entries control.seen.means,
    all_joined IsMetBut (own_sites inside (decls_of (tables_for names s (acts ops)))) (body_sites (within (acts ops)) (body (statements (acts ops) (holds ops)) no_handler)) (objects-met (acts ops) (acts-all HasLiterals ops h))
        (all_joined IsMetBut (stmts_sites (within (acts ops)) (statements (acts ops) (holds ops))) [] (stmts-met (acts ops) (holds ops)) tt),
  )
