-- What a collecting text's recorder does with a note meets the static rules 1 and 3 to 12: the lines that it writes, and the case over the kind of the note.
use Rattle.std.proofs.Common.{Bool, List, None, Some, [], ap, arith, codes, false, int_le, negsuc, pos, refl, subst, sym, true, ℕ, ◌&&◌, ◌++◌, ◌∙◌, ◌∷◌, ◌≡◌, ◌≤◌}
use Rattle.std.proofs.lemmas.Int.{ints}
use Rattle.std.specs.List.{AllByRecursion}
use Rattle.common_lemmas.proofs.Lists.{all_joined, all_three}
use Rattle.ada_tree.specs.PlainExpr.{EName, EUnary, PExpr}
use Rattle.ada_tree.specs.PlainStmt.{PCaseArms, PChoice, PMaybe, PStmt, PStmts, SCase, SIf, SNewLine, SNull, absent, arm, arm_then, no_arm, no_case_arm, no_stmt, present, stmt_then}
use Rattle.ada_tree.specs.declared.expressions.UnaryOp.TheVariants.{Not}
use Rattle.ada_tree.specs.declared.naming.NameId.{NameId}
use Rattle.ada_tree.specs.declared.naming.Span.{Span}
use Rattle.ada_static_rules.specs.Demand.{chooses}
use Rattle.ada_static_rules.specs.ExprTypes.{kind_of, name_kind}
use Rattle.ada_static_rules.specs.RuleChoiceBad.{bad_choices, mark_of_object, mark_of_thing, selected_range}
use Rattle.ada_static_rules.specs.Scope.{Scope, integer_kind, range_of_mark, truth_kind}
use Rattle.ada_static_rules.specs.Sites.{arm_choices, case_arms_sites, choice_sites, condition_sites, expr_sites, maybe_sites, site, stmt_sites, stmts_sites}
use Rattle.task_model.specs.Frames.{in_front}
use Rattle.task_laws.specs.legal.alike_scopes.Laws.{IsMetBut}
use Rattle.normal_model.specs.Making.{one}
use Rattle.normal_laws.proofs.structure.typed.Choices.{choice-met}
use Rattle.normal_laws.proofs.structure.typed.Literals.{plain-fixed}
use Rattle.normal_laws.proofs.structure.typed.Places.{met-chooses, met-of, met-whole}
use Rattle.normal_laws.proofs.structure.typed.Variables.{AllMetBut, of-kind}
use Rattle.replay_structure.proofs.typed.Tests.{IsFit, fit-met, not-fit}
use Rattle.collect_model.specs.Lines.{call_line, delay_line, numbers_put, put_number, put_words, task_line}
use Rattle.collect_model.specs.Noting.{number}
use Rattle.collect_model.specs.Recording.{answered, branch, branches, flag_of, flag_set, note_taken, on_before_call, on_begun, on_delay, on_else, on_end, on_failed, on_finish, on_other_part}
use Rattle.collect_model.specs.declared.AddedNames.{AddedNames}
use Rattle.collect_structure.proofs.typed.Flags.{flag-fit, flag-set-met, number-node, reply-met}
use Rattle.collect_structure.specs.typed.Recording.{AreFlags, ArePredefined, IsInNumber, IsOutTruth, integer_values}

-- ---- lines

module _ (d : Scope) (s : Span) where
  -- `PUT(v);`
  put-number-met : (id : NameId) → IsInNumber d id → AllMetBut (stmt_sites d (put_number s id))
  put-number-met id v = (
    met-whole d (EName id s) refl,
    (
      number-node d true id s v,
      (
        record { known = refl; matched = refl; static = refl; ranged = refl; variable = refl; readable = refl; counted = refl; chosen = refl; arrays = refl; texts = refl; exceptions = refl },
        (met-of d (EName id s) (Some integer_kind) (of-kind d (EName id s) integer_kind (ap name_kind v.read)), tt),
      ),
    ),
  )

  numbers-put-met : (ids : List NameId) (rest : PStmts) → AllByRecursion (IsInNumber d) ids → AllMetBut (stmts_sites d rest) → AllMetBut (stmts_sites d (numbers_put s ids rest))
  numbers-put-met [] rest h m = m
  numbers-put-met (id ∷ ids) rest h m =
      all_joined IsMetBut (stmt_sites d (put_number s id)) (stmts_sites d (numbers_put s ids rest)) (put-number-met id h.0) (numbers-put-met ids rest h.1 m)

  -- a line, and other statements behind it
  pub line-met : (letter : List ℕ) (ids : List NameId) (rest : PStmts) → AllByRecursion (IsInNumber d) ids → AllMetBut (stmts_sites d rest) →
      AllMetBut (stmts_sites d (stmt_then (put_words s letter) (numbers_put s ids (stmt_then (SNewLine s) rest))))
  line-met letter ids rest h m = numbers-put-met ids (stmt_then (SNewLine s) rest) h m

-- ---- notes

-- What can be used where a note is taken: the formals of the note, and the flags.
pub record IsTaking (n : AddedNames) (d : Scope) : Type 0 where
  pub known : ArePredefined d
  pub kind : IsInNumber d n.kind
  pub subject : IsInNumber d n.subject
  pub argument : IsInNumber d n.argument
  pub index : IsInNumber d n.index
  pub owner : IsInNumber d n.owner
  pub reply : IsOutTruth d n.reply
  pub gone : AreFlags d n.gone
  pub met : AreFlags d n.met

module _ (n : AddedNames) (d : Scope) (h : IsTaking n d) (s : Span) where
  abbrev Met : PStmts → Type 0
  Met l = AllMetBut (stmts_sites d l)

  one-met : (x : PStmt) → AllMetBut (stmt_sites d x) → Met (one x)
  one-met x m = all_joined IsMetBut (stmt_sites d x) [] m tt

  task-line-met : (letter : List ℕ) → Met (task_line n s letter)
  task-line-met letter = line-met d s letter (n.subject ∷ []) no_stmt (h.subject, tt) tt

  delay-line-met : (letter : List ℕ) → Met (delay_line n s letter)
  delay-line-met letter = line-met d s letter (n.subject ∷ n.argument ∷ []) no_stmt (h.subject, (h.argument, tt)) tt

  call-line-met : (letter : List ℕ) (rest : PStmts) → Met rest → Met (stmt_then (put_words s letter) (numbers_put s (n.subject ∷ n.argument ∷ n.index ∷ []) (stmt_then (SNewLine s) rest)))
  call-line-met letter rest m = line-met d s letter (n.subject ∷ n.argument ∷ n.index ∷ []) rest (h.subject, (h.argument, (h.index, tt))) m

  answered-met : (b : Bool) → AllMetBut (stmt_sites d (answered n s b))
  answered-met b = reply-met d h.known n.reply h.reply s b

  set-then : (flags : NameId) → AreFlags d flags → (b : Bool) (rest : PStmts) → Met rest → Met (stmt_then (flag_set s flags n.subject b) rest)
  set-then flags f b rest m = all_joined IsMetBut (stmt_sites d (flag_set s flags n.subject b)) (stmts_sites d rest) (flag-set-met d flags n.subject s f h.subject h.known b) m

  -- a test of a flag, with statements where it holds, and others where it does not
  test-met : (e : PExpr) (l : PStmts) (o : PMaybe) → IsFit d truth_kind e → Met l → AllMetBut (maybe_sites d o) → Met (one (SIf (arm_then (arm e l) no_arm) o s))
  test-met e l o f m k =
      one-met (SIf (arm_then (arm e l) no_arm) o s)
      (all_joined IsMetBut (condition_sites d e ++ stmts_sites d l ++ []) (maybe_sites d o)
      (all_joined IsMetBut (condition_sites d e ++ stmts_sites d l) [] (all_joined IsMetBut (condition_sites d e) (stmts_sites d l) (fit-met d truth_kind e f) m) tt) k)

  other-part-met : (letter : List ℕ) → Met (on_other_part n s letter)
  other-part-met letter =
      test-met (flag_of s n.gone n.owner) (in_front (call_line n s (codes "F")) (one (answered n s true))) (present (call_line n s letter)) (flag-fit d n.gone n.owner s h.gone h.owner)
      (call-line-met (codes "F") (one (answered n s true)) (one-met (answered n s true) (answered-met true))) (call-line-met letter no_stmt tt)

  failed-met : Met (on_failed n s)
  failed-met =
      test-met (EUnary Not (flag_of s n.met n.subject) s) (call_line n s (codes "F")) absent
      (not-fit d s (flag_of s n.met n.subject) (flag-fit d n.met n.subject s h.met h.subject)) (call-line-met (codes "F") no_stmt tt) tt

  -- ---- the case

  abbrev Arms : PCaseArms → Type 0
  Arms x = AllMetBut (case_arms_sites d (Some integer_kind) (Some integer_values) x)

  value-small : (v : ℕ) → v ≤ 2147483647 → (int_le (negsuc 2147483647) (pos v) && int_le (pos v) (pos 2147483647)) ≡ true
  value-small v l = grind (arith, ints)

  branch-met : (v : ℕ) (l : PStmts) (rest : PCaseArms) → v ≤ 2147483647 → Met l → Arms rest → Arms (branch s v l rest)
  branch-met v l rest few m later =
      let choice : PChoice = record { first = number s v; last = None } in
      all_three IsMetBut (choice_sites d (Some integer_kind) (Some integer_values) choice ++ []) (stmts_sites d l) (case_arms_sites d (Some integer_kind) (Some integer_values) rest)
      (all_joined IsMetBut (choice_sites d (Some integer_kind) (Some integer_values) choice) []
      (choice-met d integer_kind (number s v) (pos v) (plain-fixed d h.known.integer.its v s) integer_values refl (value-small v few)) tt) m
      later

  branches-met : Arms (branches n s)
  branches-met =
      let eight : PCaseArms = branch s 8 (on_end n s) no_case_arm in
      let seven : PCaseArms = branch s 7 (on_failed n s) eight in
      let six : PCaseArms = branch s 6 (on_other_part n s (codes "T")) seven in
      let five : PCaseArms = branch s 5 (on_other_part n s (codes "C")) six in
      let four : PCaseArms = branch s 4 (on_delay n s) five in
      let three : PCaseArms = branch s 3 (on_else n s) four in
      let two : PCaseArms = branch s 2 (on_finish n s) three in
      let first : PCaseArms = branch s 1 (on_begun n s) two in
      branch-met 0 (on_before_call n s) first (omega arith) (set-then n.met h.met false no_stmt tt)
      (branch-met 1 (on_begun n s) two (omega arith) (set-then n.met h.met true (call_line n s (codes "R")) (call-line-met (codes "R") no_stmt tt))
      (branch-met 2 (on_finish n s) three (omega arith) (task-line-met (codes "E"))
      (branch-met 3 (on_else n s) four (omega arith) (task-line-met (codes "S"))
      (branch-met 4 (on_delay n s) five (omega arith) (delay-line-met (codes "D"))
      (branch-met 5 (on_other_part n s (codes "C")) six (omega arith) (other-part-met (codes "C"))
      (branch-met 6 (on_other_part n s (codes "T")) seven (omega arith) (other-part-met (codes "T"))
      (branch-met 7 (on_failed n s) eight (omega arith) failed-met
      (branch-met 8 (on_end n s) no_case_arm (omega arith) (set-then n.gone h.gone true (task_line n s (codes "X")) (task-line-met (codes "X"))) tt))))))))

  abbrev selector : PExpr
  selector = EName n.kind s

  selector-kind : kind_of d selector ≡ Some integer_kind
  selector-kind = ap name_kind h.kind.read

  selected-by : (m : ℕ) → mark_of_object d selector ≡ Some m → selected_range d selector ≡ range_of_mark d.types m
  selected-by m e = rw e refl

  selector-values : selected_range d selector ≡ Some integer_values
  selector-values = selected-by h.kind.place (ap mark_of_thing h.kind.means) ∙ h.kind.values

  choices-met : IsMetBut (site d (chooses selector (arm_choices (branches n s)) true s))
  choices-met = met-chooses d selector (arm_choices (branches n s)) true s (ap (λ o. bad_choices d o selector (arm_choices (branches n s)) true s) selector-kind)

  abbrev the_case : PStmt
  the_case = SCase selector (branches n s) (present (one (SNull s))) s

  case-met : AllMetBut (stmt_sites d the_case)
  case-met = (
    choices-met,
    all_three IsMetBut (expr_sites d selector) (case_arms_sites d (kind_of d selector) (selected_range d selector) (branches n s)) []
        (met-whole d selector refl, (number-node d false n.kind s h.kind, tt))
        (subst (λ k. AllMetBut (case_arms_sites d k (selected_range d selector) (branches n s))) (sym selector-kind)
        (subst (λ r. AllMetBut (case_arms_sites d (Some integer_kind) r (branches n s))) (sym selector-values) branches-met)) tt,
  )

  -- A note is taken: the answer, and the case over its kind.
  pub note-taken-met : AllMetBut (stmts_sites d (note_taken n s))
  note-taken-met = all_joined IsMetBut (stmt_sites d (answered n s false)) (stmts_sites d (one the_case)) (answered-met false) (one-met the_case case-met)
