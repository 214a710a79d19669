-- What the recorder of a collecting text of a program with abort statements does with a note meets the static rules 1 and 3 to 12.
use Rattle.std.proofs.Common.{Bool, List, Some, [], arith, codes, drop, length, refl, true, false, ℕ, ◌++◌, ◌∷◌}
use Rattle.std.specs.List.{AllByRecursion}
use Rattle.common_lemmas.proofs.Lists.{all_joined, all_three}
use Rattle.ada_tree.specs.Lexical.{IsInteger as IsLiteral}
use Rattle.ada_tree.specs.PlainExpr.{EBinary, EName, PExpr}
use Rattle.ada_tree.specs.PlainStmt.{PArms, PCaseArms, PMaybe, PStmt, PStmts, PValue, SCase, SIf, SNewLine, SNull, SPut, absent, arm, arm_then, case_arm, case_arm_then, no_arm, no_case_arm, no_stmt, present, stmt_then}
use Rattle.ada_tree.specs.declared.expressions.BinaryOp.TheVariants as binary
use Rattle.ada_tree.specs.declared.naming.NameId.{NameId}
use Rattle.ada_tree.specs.declared.naming.Span.{Span}
use Rattle.ada_static_rules.specs.Scope.{Scope, integer_kind, meaning, truth_kind}
use Rattle.ada_static_rules.specs.Sites.{case_arms_sites, choice_sites, maybe_sites, stmt_sites, stmts_sites}
use Rattle.syn_event.specs.declared.numbering.TaskInfo.{TaskInfo}
use Rattle.task_model.specs.Frames.{in_front}
use Rattle.task_laws.specs.legal.alike_scopes.Laws.{IsMetBut}
use Rattle.normal_model.specs.Making.{one}
use Rattle.normal_laws.proofs.structure.typed.Places.{met-of, met-whole}
use Rattle.normal_laws.proofs.structure.typed.Variables.{AllMetBut, of-kind}
use Rattle.replay_structure.proofs.typed.Tests.{IsFit, IsLoose, and-loose, fit-met}
use Rattle.replay_structure.specs.typed.ScopeOf.{IsSingle}
use Rattle.collect_model.specs.Lines.{call_line, numbers_put, put_words, task_line}
use Rattle.collect_model.specs.Noting.{has_failed, number}
use Rattle.collect_model.specs.Recording.{answered, branch, flag_of, flag_set, on_delay, on_else, on_end, on_other_part}
use Rattle.collect_model.specs.declared.AddedNames.{AddedNames}
use Rattle.collect_structure.proofs.typed.Flags.{flag-fit, flag-set-met, reply-met}
use Rattle.collect_structure.proofs.typed.Noted.{line-met}
use Rattle.collect_structure.specs.typed.Recording.{AreFlags, ArePredefined, IsInNumber, IsOutTruth, integer_values}
use Rattle.collect_model.specs.aborts.AbortTeller.{AbortTeller}
use Rattle.collect_model.specs.aborts.Recording.{abort_made, acceptor_line, branches, callers_lost, choice_of, entry_for, entry_set, is_meeting, lost, meeting, met_before, no_meeting, note_taken, on_abort, on_back, on_before_call, on_begun, on_finish, stands, stands_now}
use Rattle.collect_structure.proofs.aborts.typed.Aborting.{Arms, abort-made-met, arm-met, branch-met, callers-lost-met, case-met, if-met, meeting-loose, number-choice-met, one-met, stands-loose, stands-now-met}
use Rattle.collect_structure.proofs.aborts.typed.Tables.{entry-kind, entry-node, entry-set-met, formal-read, name-compared, read-fit}
use Rattle.collect_structure.specs.aborts.typed.Recording.{AreApart, IsRead, IsTable}

-- What can be used where a note is taken: the formals of the note, the flags, the tables and the tasks.
pub record IsTaking (x : AbortTeller) (d : Scope) : Type 0 where
  pub known : ArePredefined d
  pub kind : IsInNumber d x.teller.added.kind
  pub subject : IsInNumber d x.teller.added.subject
  pub argument : IsInNumber d x.teller.added.argument
  pub index : IsInNumber d x.teller.added.index
  pub owner : IsInNumber d x.teller.added.owner
  pub reply : IsOutTruth d x.teller.added.reply
  pub gone : AreFlags d x.teller.added.gone
  pub met : IsTable d x.teller.added.met
  pub acceptors : IsTable d x.acceptors
  pub tasks : AllByRecursion (λ (info : TaskInfo). IsSingle (meaning d info.name)) (drop 1 x.teller.numbers.tasks)

module _ (x : AbortTeller) (apart : AreApart x) (few : IsLiteral (length x.teller.numbers.tasks)) (d : Scope) (h : IsTaking x d) (s : Span) where
  abbrev n : AddedNames
  n = x.teller.added

  abbrev Met : PStmts → Type 0
  Met l = AllMetBut (stmts_sites d l)

  -- ---- what is read

  subject-read : IsRead d n.subject
  subject-read = formal-read d n.subject h.subject

  argument-read : IsRead d n.argument
  argument-read = formal-read d n.argument h.argument

  -- ---- statements

  then-met : (y : PStmt) (rest : PStmts) → AllMetBut (stmt_sites d y) → Met rest → Met (stmt_then y rest)
  then-met y rest m k = all_joined IsMetBut (stmt_sites d y) (stmts_sites d rest) m k

  one-if : (e : PExpr) (l : PStmts) (o : PMaybe) → IsFit d truth_kind e → Met l → AllMetBut (maybe_sites d o) → Met (one (SIf (arm_then (arm e l) no_arm) o s))
  one-if e l o f m k = one-met d s (SIf (arm_then (arm e l) no_arm) o s) (if-met d s (arm_then (arm e l) no_arm) o (arm-met d s e l no_arm f m tt) k)

  answered-met : (b : Bool) → AllMetBut (stmt_sites d (answered n s b))
  answered-met b = reply-met d h.known n.reply h.reply s b

  task-line-met : (letter : List ℕ) (rest : PStmts) → Met rest → Met (in_front (task_line n s letter) rest)
  task-line-met letter rest m = line-met d s letter (n.subject ∷ []) rest (h.subject, tt) m

  two-met : (letter : List ℕ) (rest : PStmts) → Met rest → Met (stmt_then (put_words s letter) (numbers_put s (n.subject ∷ n.argument ∷ []) (stmt_then (SNewLine s) rest)))
  two-met letter rest m = line-met d s letter (n.subject ∷ n.argument ∷ []) rest (h.subject, (h.argument, tt)) m

  call-line-met : (letter : List ℕ) (rest : PStmts) → Met rest → Met (in_front (call_line n s letter) rest)
  call-line-met letter rest m = line-met d s letter (n.subject ∷ n.argument ∷ n.index ∷ []) rest (h.subject, (h.argument, (h.index, tt))) m

  refused-met : Met (one (answered n s true))
  refused-met = one-met d s (answered n s true) (answered-met true)

  stands-met : (id : NameId) → IsRead d id → (m : ℕ) → Met (one (stands_now n s id m))
  stands-met id v m = one-met d s (stands_now n s id m) (stands-now-met d s n h.met id v m)

  -- ---- calls

  before-call-met : Met (on_before_call n s)
  before-call-met = stands-met n.subject subject-read no_meeting

  begun-met : Met (on_begun x s)
  begun-met =
      let owner : AllMetBut (stmt_sites d (entry_set s x.acceptors n.subject (EName n.owner s))) =
      entry-set-met d x.acceptors n.subject s h.acceptors subject-read (EName n.owner s) (fit-met d integer_kind (EName n.owner s) (read-fit d n.owner s (formal-read d n.owner h.owner))) in
      let line : PStmts = call_line n s (codes "R") in
      let rest : PStmts = stmt_then (entry_set s x.acceptors n.subject (EName n.owner s)) line in
      one-if (flag_of s n.gone n.subject) (one (answered n s true)) (present (stmt_then (stands_now n s n.subject meeting) rest)) (flag-fit d n.gone n.subject s h.gone h.subject) refused-met
      (then-met (stands_now n s n.subject meeting) rest (stands-now-met d s n h.met n.subject subject-read meeting)
      (then-met (entry_set s x.acceptors n.subject (EName n.owner s)) line owner (call-line-met (codes "R") no_stmt tt)))

  finish-met : Met (on_finish x s)
  finish-met =
      let l : PStmts = one (stands_now n s n.argument met_before) in
      one-if (is_meeting x s n.argument n.subject) (in_front (task_line n s (codes "E")) l) absent (meeting-loose d x s n.argument n.subject h.met h.acceptors argument-read subject-read).fit
      (task-line-met (codes "E") l (stands-met n.argument argument-read met_before)) tt

  -- `PUT(DED_ACC(DED_NS));`
  abbrev the_acceptor : PExpr
  the_acceptor = entry_for s x.acceptors n.subject

  put-acceptor-met : AllMetBut (stmt_sites d (SPut (PValue the_acceptor ∷ []) s))
  put-acceptor-met = (
    met-whole d the_acceptor refl,
    (
      entry-node d x.acceptors n.subject s h.acceptors subject-read true,
      (
        (read-fit d n.subject s subject-read).parts.0,
        (
          record { known = refl; matched = refl; static = refl; ranged = refl; variable = refl; readable = refl; counted = refl; chosen = refl; arrays = refl; texts = refl; exceptions = refl },
          (met-of d the_acceptor (Some integer_kind) (of-kind d the_acceptor integer_kind (entry-kind d x.acceptors n.subject s h.acceptors subject-read)), tt),
        ),
      ),
    ),
  )

  acceptor-line-met : (rest : PStmts) → Met rest → Met (in_front (acceptor_line x s) rest)
  acceptor-line-met rest m = then-met (SPut (PValue the_acceptor ∷ []) s) rest put-acceptor-met m

  -- the call has come back by an exception
  failed-loose : IsLoose d (EBinary binary.And (stands n s n.subject no_meeting) (EBinary binary.Equal (EName n.kind s) (number s has_failed) s) s)
  failed-loose =
      and-loose d s (stands n s n.subject no_meeting) (EBinary binary.Equal (EName n.kind s) (number s has_failed) s) (stands-loose d s n h.met n.subject subject-read no_meeting)
      (name-compared d n.kind s has_failed (formal-read d n.kind h.kind))

  back-met : Met (on_back x s)
  back-met =
      let first : PStmts = in_front (acceptor_line x s) (one (stands_now n s n.subject met_before)) in
      let second : PStmts = one (answered n s true) in
      let third : PStmts = in_front (call_line n s (codes "F")) (one (answered n s true)) in
      let failed : PExpr = EBinary binary.And (stands n s n.subject no_meeting) (EBinary binary.Equal (EName n.kind s) (number s has_failed) s) s in
      let last : PArms = arm_then (arm failed third) no_arm in
      let others : PArms = arm_then (arm (stands n s n.subject lost) second) last in
      one-met d s (SIf (arm_then (arm (stands n s n.subject meeting) first) others) absent s)
      (if-met d s (arm_then (arm (stands n s n.subject meeting) first) others) absent
      (arm-met d s (stands n s n.subject meeting) first others (stands-loose d s n h.met n.subject subject-read meeting).fit
      (acceptor-line-met (one (stands_now n s n.subject met_before)) (stands-met n.subject subject-read met_before))
      (arm-met d s (stands n s n.subject lost) second last (stands-loose d s n h.met n.subject subject-read lost).fit refused-met
      (arm-met d s failed third no_arm failed-loose.fit (call-line-met (codes "F") (one (answered n s true)) refused-met) tt))) tt)

  other-part-met : (letter : List ℕ) → Met (on_other_part n s letter)
  other-part-met letter =
      one-if (flag_of s n.gone n.owner) (in_front (call_line n s (codes "F")) (one (answered n s true))) (present (call_line n s letter)) (flag-fit d n.gone n.owner s h.gone h.owner)
      (call-line-met (codes "F") (one (answered n s true)) refused-met) (call-line-met letter no_stmt tt)

  -- ---- ends and aborts

  end-met : Met (on_end n s)
  end-met = then-met (flag_set s n.gone n.subject true) (task_line n s (codes "X")) (flag-set-met d n.gone n.subject s h.gone h.subject h.known true) (task-line-met (codes "X") no_stmt tt)

  abort-met : Met (on_abort x s)
  abort-met =
      let last : PStmts = one (abort_made x s) in
      let lost-then : PStmts = stmt_then (callers_lost x s) last in
      let rest : PStmts = stmt_then (flag_set s n.gone n.argument true) lost-then in
      two-met (codes "B") rest
      (then-met (flag_set s n.gone n.argument true) lost-then (flag-set-met d n.gone n.argument s h.gone h.argument h.known true)
      (then-met (callers_lost x s) last (callers-lost-met x d s h.known.integer h.met h.acceptors h.argument apart.each.0 apart.each.1.0 apart.each.1.1.0)
      (one-met d s (abort_made x s) (abort-made-met d h.known.integer s x few h.argument h.tasks))))

  -- ---- the case

  back-branch-met : (rest : PCaseArms) → Arms d h.known.integer s rest → Arms d h.known.integer s (case_arm_then (case_arm (choice_of s 7 ∷ choice_of s 10 ∷ []) (on_back x s)) rest)
  back-branch-met rest later =
      let at = λ (v : ℕ). choice_sites d (Some integer_kind) (Some integer_values) (choice_of s v) in
      all_three IsMetBut (at 7 ++ (at 10 ++ [])) (stmts_sites d (on_back x s)) (case_arms_sites d (Some integer_kind) (Some integer_values) rest)
      (all_joined IsMetBut (at 7) (at 10 ++ []) (number-choice-met d h.known.integer s 7 (omega arith))
      (all_joined IsMetBut (at 10) [] (number-choice-met d h.known.integer s 10 (omega arith)) tt)) back-met later

  branches-met : Arms d h.known.integer s (branches x s)
  branches-met =
      let nine : PCaseArms = branch s 9 (on_abort x s) no_case_arm in
      let eight : PCaseArms = branch s 8 (on_end n s) nine in
      let seven : PCaseArms = case_arm_then (case_arm (choice_of s 7 ∷ choice_of s 10 ∷ []) (on_back x s)) eight in
      let six : PCaseArms = branch s 6 (on_other_part n s (codes "T")) seven in
      let five : PCaseArms = branch s 5 (on_other_part n s (codes "C")) six in
      let four : PCaseArms = branch s 4 (on_delay n s) five in
      let three : PCaseArms = branch s 3 (on_else n s) four in
      let two : PCaseArms = branch s 2 (on_finish x s) three in
      let first : PCaseArms = branch s 1 (on_begun x s) two in
      branch-met d h.known.integer s 0 (on_before_call n s) first (omega arith) before-call-met
      (branch-met d h.known.integer s 1 (on_begun x s) two (omega arith) begun-met
      (branch-met d h.known.integer s 2 (on_finish x s) three (omega arith) finish-met
      (branch-met d h.known.integer s 3 (on_else n s) four (omega arith) (task-line-met (codes "S") no_stmt tt)
      (branch-met d h.known.integer s 4 (on_delay n s) five (omega arith) (two-met (codes "D") no_stmt tt)
      (branch-met d h.known.integer s 5 (on_other_part n s (codes "C")) six (omega arith) (other-part-met (codes "C"))
      (branch-met d h.known.integer s 6 (on_other_part n s (codes "T")) seven (omega arith) (other-part-met (codes "T"))
      (back-branch-met eight
      (branch-met d h.known.integer s 8 (on_end n s) nine (omega arith) end-met
      (branch-met d h.known.integer s 9 (on_abort x s) no_case_arm (omega arith) abort-met tt)))))))))

  abbrev the_case : PStmt
  the_case = SCase (EName n.kind s) (branches x s) (present (one (SNull s))) s

  -- A note is taken: the answer, and the case over its kind.
  pub note-taken-met : Met (note_taken x s)
  note-taken-met =
      then-met (answered n s false) (one the_case) (answered-met false)
      (one-met d s the_case (case-met d h.known.integer s n.kind h.kind (branches x s) refl branches-met))
