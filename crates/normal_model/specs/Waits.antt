-- Accept statements and selective waits in the normal form (9.5, 9.7.1; this project's rule). The index of an accept that is not static goes to a variable in front of it. Of a selective wait, alternative by alternative, a guard goes to a variable, and then such an index, under an `if` where there is a guard. Where every alternative has a guard and there is no else part, PROGRAM_ERROR is raised in front of the wait if no guard holds.
use Rattle.std.specs.Prelude.{ℕ, ◌+◌, List, [], ◌∷◌, ◌++◌, Option, Some, None, option_map}
use Rattle.std.specs.List.{fold}
use Rattle.ada_tree.specs.declared.naming.Span.{Span}
use Rattle.ada_tree.specs.declared.expressions.UnaryOp.TheVariants as unary
use Rattle.ada_tree.specs.declared.expressions.BinaryOp.TheVariants as binary
use Rattle.ada_tree.specs.PlainExpr.{PExpr, EUnary, EBinary, PSubind}
use Rattle.ada_tree.specs.PlainStmt.{PHead, SRaise, SAccept, SWait, SIf, PStmts, no_stmt, stmt_then, PMaybe, absent, present, PAccept, accepting, PAlt, alternative, PAltKind, AAccept, ADelay, ATerminate, PAlts, no_alt, alt_then, arm, no_arm, arm_then}
use Rattle.task_model.specs.Setting.{entry_of}
use Rattle.task_model.specs.Frames.{in_front}
use Rattle.normal_model.specs.RewrittenUnit.{RewrittenUnit}
use Rattle.normal_model.specs.Ranges.{word_at, truth_subtype, subtype_of_range, family_range}
use Rattle.normal_model.specs.Making.{one, variable, assignment, Kept, kept_before, kept_subtypes, kept_if, moving, index_left}

-- ---- accepts

-- the index that is kept in front of an accept: one that is not static, in a variable of the family's range
abbrev pub accept_kept : RewrittenUnit → Span → PHead → List Kept
accept_kept u s head =
    kept_if (subtype_of_range u.setting.types s (family_range u.setting (entry_of u.setting.numbers u.task head.entry.name))) (moving u.setting.types head.index)

-- the head of the new accept, whose index has the number k where it is a variable
abbrev pub head_left : RewrittenUnit → Span → PHead → ℕ → PHead
head_left u s head k = record {
  entry = head.entry;
  index = index_left u.setting s k (moving u.setting.types head.index) head.index;
  formals = head.formals;
  span = head.span;
}

abbrev pub accept_left : RewrittenUnit → Span → PAccept → ℕ → PAccept
accept_left u s (accepting head body) k = accepting (head_left u s head k) body

-- the head of an accept
abbrev pub head_of : PAccept → PHead
head_of (accepting head body) = head

-- What stands in the place of an accept statement, where n variables were made before.
abbrev pub accept_image : RewrittenUnit → Span → PAccept → ℕ → PStmts
accept_image u s accept n = in_front (kept_before u.setting s (accept_kept u s (head_of accept)) n) (one (SAccept (accept_left u s accept n) s))

-- ---- alternatives

-- the index that is kept for an alternative: only an accept has one
abbrev pub kind_kept : RewrittenUnit → Span → PAltKind → List Kept
kind_kept u s (AAccept accept stmts) = accept_kept u s (head_of accept)
kind_kept u s (ADelay duration stmts) = []
kind_kept u s ATerminate = []

abbrev pub kind_left : RewrittenUnit → Span → PAltKind → ℕ → PAltKind
kind_left u s (AAccept accept stmts) k = AAccept (accept_left u s accept k) stmts
kind_left u s (ADelay duration stmts) k = ADelay duration stmts
kind_left u s ATerminate k = ATerminate

-- the assignment of an index under a guard's variable
abbrev pub under_guard : RewrittenUnit → Span → ℕ → List Kept → PStmts
under_guard u s n [] = no_stmt
under_guard u s n (x ∷ xs) = one (SIf (arm_then (arm (variable u.setting s n) (kept_before u.setting s (x ∷ xs) (n + 1))) no_arm) absent s)

-- what an alternative puts in front of its wait, by its guard, where n variables were made before
abbrev pub guarded_before : RewrittenUnit → Span → Option PExpr → List Kept → ℕ → PStmts
guarded_before u s None kept n = kept_before u.setting s kept n
guarded_before u s (Some e) kept n = stmt_then (assignment u.setting s n e) (under_guard u s n kept)

-- What an alternative puts in front of its wait: its guard's variable gets the guard's value, and then its index's variable the index's, where the guard holds.
abbrev pub alternative_before : RewrittenUnit → PAlt → ℕ → PStmts
alternative_before u (alternative guard what s) n = guarded_before u s guard (kind_kept u s what) n

-- the number of the variable of an alternative's index, behind that of its guard
abbrev pub behind_guard : Option PExpr → ℕ → ℕ
behind_guard None n = n
behind_guard (Some e) n = n + 1

-- The alternative of the new wait.
abbrev pub alternative_left : RewrittenUnit → PAlt → ℕ → PAlt
alternative_left u (alternative guard what s) n = alternative (option_map (λ e. variable u.setting s n) guard) (kind_left u s what (behind_guard guard n)) s

abbrev pub guard_subtypes : Span → Option PExpr → List PSubind
guard_subtypes s None = []
guard_subtypes s (Some e) = truth_subtype s ∷ []

-- the subtypes of the variables of an alternative: BOOLEAN for a guard, and the family's range for an index
abbrev pub alternative_subtypes : RewrittenUnit → PAlt → List PSubind
alternative_subtypes u (alternative guard what s) = guard_subtypes s guard ++ kept_subtypes (kind_kept u s what)

-- ---- waits

-- a guard in front of others
abbrev pub guard_then : Option PExpr → Option (List PExpr) → Option (List PExpr)
guard_then (Some e) (Some es) = Some (e ∷ es)
guard_then _ _ = None

-- the guards of alternatives, in order, where each has one
abbrev pub all_guards : PAlts → Option (List PExpr)
all_guards no_alt = Some []
all_guards (alt_then (alternative guard what s) rest) = guard_then guard (all_guards rest)

-- `not G`
abbrev pub not_held : Span → PExpr → PExpr
not_held s e = EUnary unary.Not e s

-- `not G1 and not G2 and not G3`, for the first of them and the others
abbrev pub none_held : Span → PExpr → List PExpr → PExpr
none_held s e es = fold (λ test g. EBinary binary.And test (not_held s g) s) (not_held s e) es

-- `if not G1 and not G2 then raise PROGRAM_ERROR; end if;`
abbrev pub raised_unless : Span → List PExpr → PStmts
raised_unless s [] = no_stmt
raised_unless s (e ∷ es) = one (SIf (arm_then (arm (none_held s e es) (one (SRaise (Some (word_at s record { 0 = 8 })) s))) no_arm) absent s)

-- the test in front of a wait whose alternatives may all be closed, by its else part and the guards
abbrev pub closed_test : Span → PMaybe → Option (List PExpr) → PStmts
closed_test s absent (Some guards) = raised_unless s guards
closed_test s absent None = no_stmt
closed_test s (present stmts) guards = no_stmt

-- What stands in the place of a selective wait, behind what its alternatives put in front of it: the test whether all are closed, and the wait with variables.
abbrev pub wait_image : Span → PAlts → PMaybe → PStmts
wait_image s alts otherwise = in_front (closed_test s otherwise (all_guards alts)) (one (SWait alts otherwise s))
