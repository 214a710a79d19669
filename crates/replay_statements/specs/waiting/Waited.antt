-- Selective waits of a replay text, by ids that are looked up once: one branch for each alternative, as a list.
use Rattle.std.specs.Prelude.{ℕ, ◌+◌, ◌==◌, if◌then◌else◌, List, [], ◌∷◌, ◌++◌, Option, Some, None, option_map}
use Rattle.std.specs.List.{fold}
use Rattle.ada_tree.specs.declared.naming.Span.{Span}
use Rattle.ada_tree.specs.PlainExpr.{PExpr, plain_expr}
use Rattle.ada_tree.specs.PlainStmt.{PStmt, SNull, SWait, PStmts, no_stmt, stmt_then, PMaybe, absent, present, accepting, PAlt, alternative, AAccept, ADelay, ATerminate, PAlts, no_alt, alt_then, alts_of, PArm, arm, arms_of}
use Rattle.task_model.specs.Frames.{in_front}
use Rattle.normal_model.specs.Making.{one}
use Rattle.normal_model.specs.Waits.{head_of}
use Rattle.normal_model.specs.Ranges.{word_at}
use Rattle.replay_model.specs.Waiting.{Pause, pauses_of, never_so, and_guard, and_later}
use Rattle.replay_asking.specs.Voice.{Voice}
use Rattle.replay_asking.specs.Spoken.{done, is_kind, is_for, ask_which}
use Rattle.replay_asking.specs.Served.{permits_start, serve}
use Rattle.replay_statements.specs.declared.waiting.seen_pause.SeenPause.{SeenPause}

-- what is seen of a delay alternative
abbrev pub plain_pause : SeenPause → Pause
plain_pause p = record { duration = p.thousandths; guard = option_map plain_expr p.guard }

abbrev pub is_due : Voice → Span → List Pause → ℕ → ℕ → Option PExpr → PExpr
is_due x s pauses k d guard = fold (and_later s d) (and_guard s (is_for x s 4 k) guard) pauses

abbrev pub never_alt : Voice → Span → PAlt
never_alt x s =
    alternative None (AAccept (accepting (record { entry = word_at s x.added.never; index = None; formals = []; span = s }) absent) no_stmt) s

abbrev pub select_of : Voice → Span → PAlts → PMaybe → PStmt
select_of x s alts otherwise = SWait (alt_then (never_alt x s) alts) otherwise s

-- the n-th delay alternative where the k-th is waited for
abbrev pub pause_alt : Span → ℕ → Pause → ℕ → PAlt
pause_alt s k p n = alternative (if n == k then None else Some (never_so s)) (ADelay p.duration no_stmt) s

-- the delay alternatives, numbered from n on
abbrev pub pause_alts : Span → ℕ → List Pause → ℕ → List PAlt
pause_alts s k [] n = []
pause_alts s k (p ∷ ps) n = pause_alt s k p n ∷ pause_alts s k ps (n + 1)

abbrev pub pausing : Voice → Span → List Pause → ℕ → PStmt
pausing x s pauses k = select_of x s (alts_of (pause_alts s k pauses 1)) absent

abbrev pub never_or_terminate : Voice → Span → PStmt
never_or_terminate x s = select_of x s (alts_of (alternative None ATerminate s ∷ [])) absent

abbrev pub passing : Voice → Span → PStmt
passing x s = select_of x s no_alt (present (one (SNull s)))

-- the branch of an alternative, which is the k-th delay alternative if it is one
abbrev pub branch_of : Voice → List Pause → PAlt → ℕ → PArm
branch_of x pauses (alternative guard (AAccept a l) s) k = arm (and_guard s (permits_start x s (head_of a)) guard) (in_front (serve x s a) l)
branch_of x pauses (alternative guard (ADelay d l) s) k = arm (is_due x s pauses k d guard) (stmt_then (pausing x s pauses k) (stmt_then (done x s) l))
branch_of x pauses (alternative guard ATerminate s) k = arm (and_guard s (is_kind x s 10) guard) (one (never_or_terminate x s))

-- the number of the next delay alternative
abbrev pub next_number : PAlt → ℕ → ℕ
next_number (alternative guard (AAccept a l) s) k = k
next_number (alternative guard (ADelay d l) s) k = k + 1
next_number (alternative guard ATerminate s) k = k

-- the number of the delay alternative behind some alternatives, numbered from k on
abbrev pub number_behind : List PAlt → ℕ → ℕ
number_behind [] k = k
number_behind (x ∷ xs) k = number_behind xs (next_number x k)

abbrev pub branches : Voice → List Pause → List PAlt → ℕ → List PArm
branches x pauses [] k = []
branches x pauses (a ∷ rest) k = branch_of x pauses a k ∷ branches x pauses rest (next_number a k)

abbrev pub else_branch : Voice → Span → PMaybe → List PArm
else_branch x s absent = []
else_branch x s (present l) = arm (is_kind x s 3) (stmt_then (passing x s) (stmt_then (done x s) l)) ∷ []

abbrev pub wait_image : Voice → Span → List PAlt → PMaybe → PStmts
wait_image x s alts otherwise = ask_which x s (arms_of (branches x (pauses_of (alts_of alts)) alts 1 ++ else_branch x s otherwise))
