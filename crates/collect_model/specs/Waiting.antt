-- Selective waits in a collecting text (9.7.1; this project's rule): a wait keeps its alternatives and guards. A task tells of an else part or a delay alternative when it has been taken, in front of its statements; the delay alternatives are numbered from 1, in written order. Of a terminate alternative nobody tells.
use Rattle.std.specs.Prelude.{ℕ, ◌+◌}
use Rattle.ada_tree.specs.declared.naming.Span.{Span}
use Rattle.ada_tree.specs.PlainStmt.{SWait, PStmts, stmt_then, PMaybe, absent, present, PAlt, alternative, AAccept, ADelay, ATerminate, PAlts, no_alt, alt_then}
use Rattle.normal_model.specs.Making.{one}
use Rattle.collect_model.specs.Teller.{Teller}
use Rattle.collect_model.specs.Noting.{has_else, has_delay, own_note}
use Rattle.collect_model.specs.Serving.{accept_told}

-- what stands in the place of an alternative, which is the k-th delay alternative if it is one
abbrev pub alternative_told : Teller → PAlt → ℕ → PAlt
alternative_told x (alternative guard (AAccept a l) s) k = alternative guard (AAccept (accept_told x s a) l) s
alternative_told x (alternative guard (ADelay d l) s) k = alternative guard (ADelay d (stmt_then (own_note x s has_delay k) l)) s
alternative_told x (alternative guard ATerminate s) k = alternative guard ATerminate s

-- the number of the next delay alternative
abbrev pub next_delay : PAlt → ℕ → ℕ
next_delay (alternative guard (AAccept a l) s) k = k
next_delay (alternative guard (ADelay d l) s) k = k + 1
next_delay (alternative guard ATerminate s) k = k

-- what stands in the place of alternatives, whose delay alternatives are numbered from k on
abbrev pub alternatives_told : Teller → PAlts → ℕ → PAlts
alternatives_told x no_alt k = no_alt
alternatives_told x (alt_then a rest) k = alt_then (alternative_told x a k) (alternatives_told x rest (next_delay a k))

-- what stands in the place of an else part
abbrev pub else_told : Teller → Span → PMaybe → PMaybe
else_told x s absent = absent
else_told x s (present l) = present (stmt_then (own_note x s has_else 0) l)

-- What stands in the place of a selective wait.
abbrev pub wait_image : Teller → Span → PAlts → PMaybe → PStmts
wait_image x s alts otherwise = one (SWait (alternatives_told x alts 1) (else_told x s otherwise) s)
