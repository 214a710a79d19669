-- Selective waits in a collecting text of a program with abort statements (9.7.1, 9.10; this project's rule). A wait keeps its alternatives and guards, and each alternative keeps its number, counted from 1 with the else part as the last, in a variable. An accept whose caller was refused keeps 0 there, and the wait is tried again. The statements of all alternatives stand behind, so that a second try finds nothing done, and no exception of theirs is taken for the rendezvous'.
use Rattle.std.specs.Prelude.{ℕ, ◌+◌}
use Rattle.ada_tree.specs.declared.naming.Span.{Span}
use Rattle.ada_tree.specs.declared.expressions.BinaryOp.TheVariants.{NotEqual}
use Rattle.ada_tree.specs.PlainExpr.{PExpr, EName, EBinary}
use Rattle.ada_tree.specs.PlainStmt.{PStmt, SWait, SIf, PStmts, stmt_then, PMaybe, absent, present, PAlt, alternative, AAccept, ADelay, ATerminate, PAlts, no_alt, alt_then, PArms, arm, no_arm, arm_then}
use Rattle.normal_model.specs.Making.{one, or_null}
use Rattle.collect_model.specs.Noting.{has_else, has_delay, number, own_note}
use Rattle.collect_model.specs.Calling.{part_is}
use Rattle.collect_model.specs.Waiting.{next_delay}
use Rattle.collect_model.specs.aborts.AbortTeller.{AbortTeller}
use Rattle.collect_model.specs.aborts.Noting.{over}
use Rattle.collect_model.specs.aborts.Calling.{is_part}
use Rattle.collect_model.specs.aborts.Serving.{accept_told, service_watched, repeated}

-- ---- the wait

-- `if DED_R1 then DED_W := 0; else DED_W := j; end if;`
abbrev pub part_unless_refused : AbortTeller → Span → ℕ → ℕ → PStmt
part_unless_refused x s n j = SIf (arm_then (arm (EName (x.refused n) s) (part_is x.teller s 0)) no_arm) (present (part_is x.teller s j)) s

-- what stands in the place of an alternative of the wait of number n, which is its j-th, and the k-th delay alternative if it is one
abbrev pub alternative_told : AbortTeller → ℕ → PAlt → ℕ → ℕ → PAlt
alternative_told x n (alternative guard (AAccept a l) s) j k = alternative guard (AAccept (accept_told x s n a) (one (part_unless_refused x s n j))) s
alternative_told x n (alternative guard (ADelay d l) s) j k = alternative guard (ADelay d (stmt_then (own_note x.teller s has_delay k) (part_is x.teller s j))) s
alternative_told x n (alternative guard ATerminate s) j k = alternative guard ATerminate s

-- what stands in the place of alternatives, which are numbered from j on, and whose delay alternatives are from k on
abbrev pub alternatives_told : AbortTeller → ℕ → PAlts → ℕ → ℕ → PAlts
alternatives_told x n no_alt j k = no_alt
alternatives_told x n (alt_then a rest) j k = alt_then (alternative_told x n a j k) (alternatives_told x n rest (j + 1) (next_delay a k))

-- the number of the else part: how many alternatives there are, from j on
abbrev pub behind_alternatives : PAlts → ℕ → ℕ
behind_alternatives no_alt j = j
behind_alternatives (alt_then a rest) j = behind_alternatives rest (j + 1)

-- what stands in the place of an else part, whose number is j
abbrev pub else_told : AbortTeller → Span → PMaybe → ℕ → PMaybe
else_told x s absent j = absent
else_told x s (present l) j = present (stmt_then (own_note x.teller s has_else 0) (part_is x.teller s j))

-- `select` the alternatives `end select;`
abbrev pub wait_told : AbortTeller → Span → ℕ → PAlts → PMaybe → PStmt
wait_told x s n alts otherwise = SWait (alternatives_told x n alts 1 1) (else_told x s otherwise (behind_alternatives alts 1)) s

-- `DED_W /= 0`
abbrev pub is_taken : AbortTeller → Span → PExpr
is_taken x s = EBinary NotEqual (EName x.teller.added.part s) (number s 0) s

-- ---- the branches behind it

-- the branch of an alternative, whose number is j, in front of others: behind an accept it is told first that it is over, and terminate has no branch
abbrev pub branch_then : AbortTeller → ℕ → PAlt → ℕ → PArms → PArms
branch_then x n (alternative guard (AAccept a l) s) j rest = arm_then (arm (is_part x.teller s j) (stmt_then (over x s n) l)) rest
branch_then x n (alternative guard (ADelay d l) s) j rest = arm_then (arm (is_part x.teller s j) (or_null s l)) rest
branch_then x n (alternative guard ATerminate s) j rest = rest

-- that of the else part
abbrev pub else_branch : AbortTeller → Span → PMaybe → ℕ → PArms
else_branch x s absent j = no_arm
else_branch x s (present l) j = arm_then (arm (is_part x.teller s j) (or_null s l)) no_arm

-- those of alternatives, which are numbered from j on, and of the else part
abbrev pub branches : AbortTeller → Span → ℕ → PAlts → PMaybe → ℕ → PArms
branches x s n no_alt otherwise j = else_branch x s otherwise j
branches x s n (alt_then a rest) otherwise j = branch_then x n a j (branches x s n rest otherwise (j + 1))

-- What stands in the place of a selective wait, at the place of number n.
abbrev pub wait_image : AbortTeller → Span → ℕ → PAlts → PMaybe → PStmts
wait_image x s n alts otherwise =
    stmt_then (repeated s (service_watched x s n (wait_told x s n alts otherwise)) (is_taken x s)) (one (SIf (branches x s n alts otherwise 1) absent s))
