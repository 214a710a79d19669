-- Selective waits in a replay text (9.7.1; this project's rule): one branch for each alternative, in written order, and one for the else part. Each branch has a wait of its own, in which only its alternative can be taken; an entry that nobody calls makes it a selective wait.
use Rattle.std.specs.Prelude.{ℕ, ◌+◌, ◌==◌, nat_lt, if◌then◌else◌, List, [], ◌∷◌, Option, Some, None}
use Rattle.std.specs.List.{fold}
use Rattle.ada_tree.specs.declared.naming.Span.{Span}
use Rattle.ada_tree.specs.declared.expressions.UnaryOp.TheVariants.{Not}
use Rattle.ada_tree.specs.Attributes.{false_name}
use Rattle.ada_tree.specs.PlainExpr.{PExpr, EName, EUnary}
use Rattle.ada_tree.specs.PlainStmt.{PStmt, SNull, SWait, PStmts, no_stmt, stmt_then, PMaybe, absent, present, accepting, PAlt, alternative, AAccept, ADelay, ATerminate, PAlts, no_alt, alt_then, PArms, no_arm}
use Rattle.task_model.specs.Frames.{in_front}
use Rattle.normal_model.specs.Making.{one}
use Rattle.normal_model.specs.RewrittenUnit.{RewrittenUnit}
use Rattle.normal_model.specs.Waits.{head_of}
use Rattle.replay_model.specs.Names.{never_text, added_word}
use Rattle.replay_model.specs.Asking.{done, both, permit_is_kind, permit_is_for, ask_which, branch}
use Rattle.replay_model.specs.Serving.{permits_start, serve}

-- ---- guards

-- FALSE
abbrev pub never_so : Span → PExpr
never_so s = EName record { 0 = false_name } s

-- a test, and that a guard holds
abbrev pub and_guard : Span → PExpr → Option PExpr → PExpr
and_guard s test None = test
and_guard s test (Some e) = both s test e

-- a guard does not hold: `not G`, and `FALSE` where there is none
abbrev pub is_shut : Span → Option PExpr → PExpr
is_shut s None = never_so s
is_shut s (Some e) = EUnary Not e s

-- ---- delays

-- A delay alternative: its duration in thousandths, and its guard.
pub record Pause : Type 0 where
  pub duration : ℕ
  pub guard : Option PExpr

-- the delay alternatives among alternatives, in written order
abbrev pub pauses_of : PAlts → List Pause
pauses_of no_alt = []
pauses_of (alt_then (alternative guard (AAccept a l) s) rest) = pauses_of rest
pauses_of (alt_then (alternative guard (ADelay d l) s) rest) = record { duration = d; guard = guard } ∷ pauses_of rest
pauses_of (alt_then (alternative guard ATerminate s) rest) = pauses_of rest

-- a test, and that a delay alternative is shut where it is shorter than d: else it would be taken first (9.7.1)
abbrev pub and_later : Span → ℕ → PExpr → Pause → PExpr
and_later s d test x = if nat_lt x.duration d then both s test (is_shut s x.guard) else test

-- The permit is for the k-th delay alternative, of duration d, its guard holds, and each shorter one is shut.
abbrev pub is_due : RewrittenUnit → Span → List Pause → ℕ → ℕ → Option PExpr → PExpr
is_due u s pauses k d guard = fold (and_later s d) (and_guard s (permit_is_for u s 4 k) guard) pauses

-- ---- waits in which one alternative can be taken

-- `accept DED_NEVER;` as an alternative
abbrev pub never_alt : RewrittenUnit → Span → PAlt
never_alt u s =
    alternative None
    (AAccept (accepting (record { entry = added_word u.setting.program s never_text; index = None; formals = []; span = s }) absent) no_stmt)
    s

-- `select accept DED_NEVER; or` these alternatives `end select;`
abbrev pub select_of : RewrittenUnit → Span → PAlts → PMaybe → PStmt
select_of u s alts otherwise = SWait (alt_then (never_alt u s) alts) otherwise s

-- the delay alternatives, numbered from n on, those but the k-th with `when FALSE =>`
abbrev pub only_pause : Span → ℕ → List Pause → ℕ → PAlts
only_pause s k [] n = no_alt
only_pause s k (x ∷ xs) n = alt_then (alternative (if n == k then None else Some (never_so s)) (ADelay x.duration no_stmt) s) (only_pause s k xs (n + 1))

-- the wait for the k-th delay alternative
abbrev pub pausing : RewrittenUnit → Span → List Pause → ℕ → PStmt
pausing u s pauses k = select_of u s (only_pause s k pauses 1) absent

-- `select accept DED_NEVER; or terminate; end select;`
abbrev pub never_or_terminate : RewrittenUnit → Span → PStmt
never_or_terminate u s = select_of u s (alt_then (alternative None ATerminate s) no_alt) absent

-- `select accept DED_NEVER; else null; end select;`
abbrev pub passing : RewrittenUnit → Span → PStmt
passing u s = select_of u s no_alt (present (one (SNull s)))

-- ---- the branches

-- those of alternatives, whose delay alternatives are numbered from k on, in front of others
abbrev pub alternative_branches : RewrittenUnit → List Pause → PArms → PAlts → ℕ → PArms
alternative_branches u pauses others no_alt k = others
alternative_branches u pauses others (alt_then (alternative guard (AAccept a l) s) rest) k =
    branch (and_guard s (permits_start u s (head_of a)) guard) (in_front (serve u s a) l) (alternative_branches u pauses others rest k)
alternative_branches u pauses others (alt_then (alternative guard (ADelay d l) s) rest) k =
    branch (is_due u s pauses k d guard) (stmt_then (pausing u s pauses k) (stmt_then (done u s) l)) (alternative_branches u pauses others rest (k + 1))
alternative_branches u pauses others (alt_then (alternative guard ATerminate s) rest) k =
    branch (and_guard s (permit_is_kind u s 10) guard) (one (never_or_terminate u s)) (alternative_branches u pauses others rest k)

-- that of the else part
abbrev pub else_branch : RewrittenUnit → Span → PMaybe → PArms
else_branch u s absent = no_arm
else_branch u s (present l) = branch (permit_is_kind u s 3) (stmt_then (passing u s) (stmt_then (done u s) l)) no_arm

-- What stands in the place of a selective wait.
abbrev pub wait_image : RewrittenUnit → Span → PAlts → PMaybe → PStmts
wait_image u s alts otherwise = ask_which u s (alternative_branches u (pauses_of alts) (else_branch u s otherwise) alts 1)
