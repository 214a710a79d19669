-- What the recorder of a collecting text does when a task aborts another meets the static rules 1 and 3 to 12: it marks the callers whose rendezvous is lost, and aborts the task, by its name.
use Rattle.std.proofs.Common.{Bool, List, None, Some, [], ap, arith, drop, eq-eqb, false, if◌then◌else◌, int_le, length, negsuc, pos, refl, subst, sym, true, ℕ, ◌&&◌, ◌+◌, ◌++◌, ◌==◌, ◌∙◌, ◌∷◌, ◌≡◌, ◌≤◌}
use Rattle.std.proofs.lemmas.Int.{ints}
use Rattle.std.specs.List.{AllByRecursion}
use Rattle.common_lemmas.proofs.Lists.{all_joined, all_three, all_weaker}
use Rattle.ada_tree.specs.Lexical.{IsInteger as IsLiteral}
use Rattle.ada_tree.specs.PlainExpr.{EBinary, EInteger, EName, PExpr}
use Rattle.ada_tree.specs.PlainStmt.{PArms, PCaseArms, PChoice, PMaybe, PStmt, PStmts, SAbort, SCase, SIf, SNull, absent, arm, arm_then, no_arm, present}
use Rattle.ada_tree.specs.declared.expressions.BinaryOp.TheVariants as binary
use Rattle.ada_tree.specs.declared.naming.NameId.{NameId}
use Rattle.ada_tree.specs.declared.naming.Span.{Span}
use Rattle.ada_static_rules.specs.Declaring.{drange_kind, first_mark_of, inner_scope, loop_thing, with_loop_parameter}
use Rattle.ada_static_rules.specs.ExprTypes.{kind_of, name_kind}
use Rattle.ada_static_rules.specs.RuleChoiceBad.{bad_choices, choice_span, mark_of_object, mark_of_thing, overlapping, selected_range}
use Rattle.ada_static_rules.specs.Scope.{LoopParameter, Range, Scope, and_then, integer_kind, kind_at, meaning, range_of_mark, reading_of, reading_of_mark, truth_kind, AsScalar}
use Rattle.ada_static_rules.specs.Sites.{arm_choices, arms_sites, callee_sites, case_arms_sites, choice_sites, condition_sites, drange_sites, expr_of, expr_sites, maybe_sites, names_sites, stmt_sites, stmts_sites}
use Rattle.syn_event.specs.declared.numbering.TaskInfo.{TaskInfo}
use Rattle.task_laws.proofs.legal.alike_scopes.Marks.{scalar-reading}
use Rattle.task_laws.proofs.legal.rewritten_types.Keeping.{grows-self}
use Rattle.task_laws.specs.legal.alike_scopes.Laws.{IsMetBut}
use Rattle.task_laws.specs.legal.rewritten_types.Agreement.{IsScalar}
use Rattle.normal_laws.specs.structure.asked.Pieces.{named}
use Rattle.normal_model.specs.Making.{one}
use Rattle.normal_model.specs.Ranges.{word_at}
use Rattle.normal_laws.proofs.structure.typed.Choices.{choice-met}
use Rattle.normal_laws.proofs.structure.typed.Literals.{plain-fixed}
use Rattle.normal_laws.proofs.structure.typed.Places.{met-chooses, met-whole}
use Rattle.normal_laws.proofs.structure.typed.Scopes.{meaning-more}
use Rattle.normal_laws.proofs.structure.typed.Variables.{AllMetBut, words-met}
use Rattle.replay_model.specs.ReplayTree.{last_task}
use Rattle.replay_structure.proofs.typed.Calls.{single-met}
use Rattle.replay_structure.proofs.typed.Tests.{IsFit, IsLoose, and-loose, fit-met, literal-fit}
use Rattle.replay_structure.specs.typed.Controller.{IsInteger}
use Rattle.replay_structure.specs.typed.ScopeOf.{IsSingle}
use Rattle.collect_model.specs.Noting.{number}
use Rattle.collect_model.specs.Recording.{branch}
use Rattle.collect_model.specs.declared.AddedNames.{AddedNames}
use Rattle.collect_structure.proofs.typed.Flags.{number-node}
use Rattle.collect_structure.specs.typed.Recording.{IsInNumber, integer_values}
use Rattle.collect_model.specs.aborts.AbortTeller.{AbortTeller}
use Rattle.collect_model.specs.aborts.Recording.{abort_made, aborts_from, callers_lost, entry_for, is_meeting, lost, meeting, stands, stands_now}
use Rattle.collect_structure.proofs.aborts.typed.Tables.{entry-fit, entry-kind, entry-set-met, formal-read, from_main, numbers-compared, range-met, read-fit, read-step, table-step}
use Rattle.collect_structure.specs.aborts.typed.Recording.{IsRead, IsTable}
use Rattle.replay_structure.proofs.typed.Turning.{counter-mark, IsBelow, none-overlap}

-- ---- statements

module _ (d : Scope) (s : Span) where
  abbrev pub Met : PStmts → Type 0
  Met l = AllMetBut (stmts_sites d l)

  pub one-met : (y : PStmt) → AllMetBut (stmt_sites d y) → Met (one y)
  one-met y m = all_joined IsMetBut (stmt_sites d y) [] m tt

  -- an arm in front of others
  pub arm-met : (e : PExpr) (l : PStmts) (rest : PArms) → IsFit d truth_kind e → Met l → AllMetBut (arms_sites d rest) → AllMetBut (arms_sites d (arm_then (arm e l) rest))
  arm-met e l rest f m later = all_three IsMetBut (condition_sites d e) (stmts_sites d l) (arms_sites d rest) (fit-met d truth_kind e f) m later

  pub if-met : (arms : PArms) (o : PMaybe) → AllMetBut (arms_sites d arms) → AllMetBut (maybe_sites d o) → AllMetBut (stmt_sites d (SIf arms o s))
  if-met arms o m k = all_joined IsMetBut (arms_sites d arms) (maybe_sites d o) m k

  -- a number that is written in the text
  pub literal-met : (m : ℕ) → AllMetBut (expr_of d (Some integer_kind) (number s m))
  literal-met m = fit-met d integer_kind (number s m) (literal-fit d m s)

-- ---- tests of the tables

module _ (d : Scope) (s : Span) (n : AddedNames) (met : IsTable d n.met) (u : NameId) (v : IsRead d u) where
  pub stands-loose : (m : ℕ) → IsLoose d (stands n s u m)
  stands-loose m = numbers-compared d binary.Equal refl (entry_for s n.met u) (number s m) s (entry-fit d n.met u s met v) (entry-kind d n.met u s met v) refl (literal-fit d m s)

  pub stands-now-met : (m : ℕ) → AllMetBut (stmt_sites d (stands_now n s u m))
  stands-now-met m = entry-set-met d n.met u s met v (number s m) (literal-met d s m)

pub meeting-loose : (d : Scope) (x : AbortTeller) (s : Span) (u v : NameId) → IsTable d x.teller.added.met → IsTable d x.acceptors → IsRead d u → IsRead d v → IsLoose d (is_meeting x s u v)
meeting-loose d x s u v met acceptors i j =
    let same : IsLoose d (EBinary binary.Equal (entry_for s x.acceptors u) (EName v s) s) =
    numbers-compared d binary.Equal refl (entry_for s x.acceptors u) (EName v s) s (entry-fit d x.acceptors u s acceptors i) (entry-kind d x.acceptors u s acceptors i) refl (read-fit d v s j) in
    and-loose d s (stands x.teller.added s u meeting) (EBinary binary.Equal (entry_for s x.acceptors u) (EName v s) s) (stands-loose d s x.teller.added met u i meeting) same.fit

-- ---- the callers of a task that is aborted

module _ (x : AbortTeller) (d : Scope) (s : Span) (int : IsInteger d) (met : IsTable d x.teller.added.met) (acceptors : IsTable d x.acceptors) (argument : IsInNumber d x.teller.added.argument) where
  abbrev n : AddedNames
  n = x.teller.added

  abbrev last : ℕ
  last = last_task x.teller.numbers

  abbrev looping : Scope
  looping = with_loop_parameter d (word_at s x.each) (from_main s last)

  kept : (id : NameId) → (x.each.0 == id.0) ≡ false → meaning looping id ≡ meaning d id
  kept id e = meaning-more _ (inner_scope d) (word_at s x.each) id ∙ ap (λ b. if b then Some (loop_thing (and_then (first_mark_of d.types) (drange_kind d (from_main s last)))) else meaning d id) e

  each-seen : IsRead looping x.each
  each-seen =
      let c = counter-mark d int in
      let means : meaning looping x.each ≡ Some (LoopParameter c.0) =
      (meaning-more _ (inner_scope d) (word_at s x.each) x.each
      ∙ ap (λ b. if b then Some (loop_thing (and_then (first_mark_of d.types) (drange_kind d (from_main s last)))) else meaning d x.each) (eq-eqb x.each.0 x.each.0 refl)
      ∙ ap (λ o. Some (loop_thing o)) c.2) in
      let scalar : IsScalar d.types c.1.kind = subst (λ k. IsScalar d.types k) (int.its.kind ∙ sym c.4) int.its.scalar in
      record {
        thing = LoopParameter c.0;
        means = means;
        read =
            ap (reading_of d.types) means ∙ ap (reading_of_mark d.types) c.3
            ∙ scalar-reading c.1.kind (kind_at d.types c.1.kind) scalar.0 scalar.1 ∙ ap AsScalar c.4;
        seen = λ t. refl;
      }

  -- the loop that marks the callers whose rendezvous is lost
  pub callers-lost-met : (x.each.0 == n.met.0) ≡ false → (x.each.0 == x.acceptors.0) ≡ false → (x.each.0 == n.argument.0) ≡ false → AllMetBut (stmt_sites d (callers_lost x s))
  callers-lost-met a b c =
      let met-inside : IsTable looping n.met = table-step d looping n.met (kept n.met a) (grows-self d.types) met in
      let acceptors-inside : IsTable looping x.acceptors = table-step d looping x.acceptors (kept x.acceptors b) (grows-self d.types) acceptors in
      let argument-inside : IsRead looping n.argument = read-step d looping n.argument (kept n.argument c) refl (formal-read d n.argument argument) in
      let test : PExpr = is_meeting x s x.each n.argument in
      let l : PStmts = one (stands_now n s x.each lost) in
      let within : PStmt = SIf (arm_then (arm test l) no_arm) absent s in
      all_joined IsMetBut (names_sites false (inner_scope d) (word_at s x.each ∷ []) ++ drange_sites false d (from_main s last)) (stmts_sites looping (one within))
      (all_joined IsMetBut (names_sites false (inner_scope d) (word_at s x.each ∷ [])) (drange_sites false d (from_main s last))
      (words-met false (word_at s x.each ∷ []) (inner_scope d)) (range-met d s last false))
      (one-met looping s within
      (if-met looping s (arm_then (arm test l) no_arm) absent
      (arm-met looping s test l no_arm (meeting-loose looping x s x.each n.argument met-inside acceptors-inside each-seen argument-inside).fit
      (one-met looping s (stands_now n s x.each lost) (stands-now-met looping s n met-inside x.each each-seen lost)) tt) tt))

-- ---- choices of one value each

next-below : (v : ℕ) (r : Range) → IsBelow v r → IsBelow (v + 1) r
next-below v r h = grind (arith, ints)

point-below : (v : ℕ) → int_le (pos (v + 1)) (pos v) ≡ false
point-below v = grind (arith, ints)

aborts-apart : (d : Scope) (s : Span) (u : ℕ) (infos : List TaskInfo) (seen : List Range) → AllByRecursion (IsBelow u) seen → overlapping d integer_kind seen (arm_choices (aborts_from s u infos)) ≡ []
aborts-apart d s u [] seen h = refl
aborts-apart d s u (info ∷ infos) seen h =
    let point : Range = record { kind = integer_kind; first = pos u; last = pos u } in
    let rest = overlapping d integer_kind (point ∷ seen) (arm_choices (aborts_from s (u + 1) infos)) in
    ap (λ (b : Bool). (if b then choice_span (record { first = EInteger u s; last = None }) ∷ [] else []) ++ rest) (none-overlap u seen h)
    ∙ aborts-apart d s (u + 1) infos (point ∷ seen) (point-below u, all_weaker (IsBelow u) (IsBelow (u + 1)) seen (next-below u) h)

-- ---- cases over numbers

module _ (d : Scope) (int : IsInteger d) (s : Span) where
  abbrev pub Arms : PCaseArms → Type 0
  Arms y = AllMetBut (case_arms_sites d (Some integer_kind) (Some integer_values) y)

  value-small : (v : ℕ) → v ≤ 2147483647 → (int_le (negsuc 2147483647) (pos v) && int_le (pos v) (pos 2147483647)) ≡ true
  value-small v l = grind (arith, ints)

  pub number-choice-met : (v : ℕ) → v ≤ 2147483647 → AllMetBut (choice_sites d (Some integer_kind) (Some integer_values) (record { first = number s v; last = None }))
  number-choice-met v few = choice-met d integer_kind (number s v) (pos v) (plain-fixed d int.its v s) integer_values refl (value-small v few)

  pub branch-met : (v : ℕ) (l : PStmts) (rest : PCaseArms) → v ≤ 2147483647 → Met d s l → Arms rest → Arms (branch s v l rest)
  branch-met v l rest few m later =
      let choice : PChoice = record { first = number s v; last = None } in
      all_three IsMetBut (choice_sites d (Some integer_kind) (Some integer_values) choice ++ []) (stmts_sites d l) (case_arms_sites d (Some integer_kind) (Some integer_values) rest)
      (all_joined IsMetBut (choice_sites d (Some integer_kind) (Some integer_values) choice) [] (number-choice-met v few) tt) m later

  -- a case over a formal of mode in, where others may follow
  module _ (id : NameId) (v : IsInNumber d id) where
    abbrev selector : PExpr
    selector = EName id s

    selector-kind : kind_of d selector ≡ Some integer_kind
    selector-kind = ap name_kind v.read

    selected-by : (m : ℕ) → mark_of_object d selector ≡ Some m → selected_range d selector ≡ range_of_mark d.types m
    selected-by m e = rw e refl

    selector-values : selected_range d selector ≡ Some integer_values
    selector-values = selected-by v.place (ap mark_of_thing v.means) ∙ v.values

    pub case-met : (arms : PCaseArms) → overlapping d integer_kind [] (arm_choices arms) ≡ [] → Arms arms → AllMetBut (stmt_sites d (SCase selector arms (present (one (SNull s))) s))
    case-met arms apart m = (
      met-chooses d selector (arm_choices arms) true s (ap (λ o. bad_choices d o selector (arm_choices arms) true s) selector-kind ∙ ap (λ l. l ++ []) apart),
      all_three IsMetBut (expr_sites d selector) (case_arms_sites d (kind_of d selector) (selected_range d selector) arms) []
          (met-whole d selector refl, (number-node d false id s v, tt))
          (subst (λ k. AllMetBut (case_arms_sites d k (selected_range d selector) arms)) (sym selector-kind)
          (subst (λ r. AllMetBut (case_arms_sites d (Some integer_kind) r arms)) (sym selector-values) m)) tt,
    )

  -- ---- the abort

  aborts-met : (u : ℕ) (infos : List TaskInfo) → u + length infos ≤ 2147483648 → AllByRecursion (λ (info : TaskInfo). IsSingle (meaning d info.name)) infos → Arms (aborts_from s u infos)
  aborts-met u [] few h = tt
  aborts-met u (info ∷ infos) few h =
      let aborts : PStmt = SAbort (record { name = word_at s info.name; index = None } ∷ []) s in
      branch-met u (one aborts) (aborts_from s (u + 1) infos) (omega (arith, few))
      (one-met d s aborts (all_joined IsMetBut (callee_sites d (named (word_at s info.name))) [] (single-met d (word_at s info.name) h.0.0 h.0.1) tt))
      (aborts-met (u + 1) infos (omega (arith, few)) h.1)

  fewer : (xs : List TaskInfo) → length xs ≤ 2147483647 → 1 + length (drop 1 xs) ≤ 2147483648
  fewer [] l = omega arith
  fewer (y ∷ xs) l = omega (arith, l)

  -- the task whose number is in the argument is aborted
  pub abort-made-met : (x : AbortTeller) → IsLiteral (length x.teller.numbers.tasks) → IsInNumber d x.teller.added.argument →
      AllByRecursion (λ (info : TaskInfo). IsSingle (meaning d info.name)) (drop 1 x.teller.numbers.tasks) → AllMetBut (stmt_sites d (abort_made x s))
  abort-made-met x few argument tasks =
      let infos : List TaskInfo = drop 1 x.teller.numbers.tasks in
      case-met x.teller.added.argument argument (aborts_from s 1 infos) (aborts-apart d s 1 infos [] tt) (aborts-met 1 infos (fewer x.teller.numbers.tasks few) tasks)
