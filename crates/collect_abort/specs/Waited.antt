-- The alternatives of a selective wait and the branches behind it, as lists.
use Rattle.std.specs.Prelude.{ℕ, ◌+◌, List, [], ◌∷◌, ◌++◌}
use Rattle.ada_tree.specs.declared.naming.Span.{Span}
use Rattle.ada_tree.specs.PlainStmt.{PStmts, no_stmt, stmt_then, PMaybe, absent, present, PAlt, alternative, AAccept, ADelay, ATerminate, PArm, arm}
use Rattle.normal_model.specs.Making.{or_null}
use Rattle.collect_model.specs.Waiting.{next_delay}
use Rattle.collect_model.specs.aborts.AbortTeller.{AbortTeller}
use Rattle.collect_model.specs.aborts.Noting.{over}
use Rattle.collect_model.specs.aborts.Calling.{is_part}
use Rattle.collect_model.specs.aborts.Waiting.{alternative_told}

-- ---- one alternative

-- the statements behind it
abbrev pub behind_of : PAlt → PStmts
behind_of (alternative guard (AAccept a l) s) = l
behind_of (alternative guard (ADelay d l) s) = l
behind_of (alternative guard ATerminate s) = no_stmt

-- it without these
abbrev pub without_behind : PAlt → PAlt
without_behind (alternative guard (AAccept a l) s) = alternative guard (AAccept a no_stmt) s
without_behind (alternative guard (ADelay d l) s) = alternative guard (ADelay d no_stmt) s
without_behind (alternative guard ATerminate s) = alternative guard ATerminate s

-- behind an accept it is told first that it is over; proofs see into this where they ask to
unfoldable pub over_then : AbortTeller → Span → ℕ → PStmts → PStmts
over_then x s n k = stmt_then (over x s n) k

-- its branch with these statements, where its number is j; terminate has none
abbrev pub branch_with : AbortTeller → ℕ → PAlt → PStmts → ℕ → List PArm
branch_with x n (alternative guard (AAccept a l) s) k j = arm (is_part x.teller s j) (over_then x s n k) ∷ []
branch_with x n (alternative guard (ADelay d l) s) k j = arm (is_part x.teller s j) (or_null s k) ∷ []
branch_with x n (alternative guard ATerminate s) k j = []

abbrev pub branch_of : AbortTeller → ℕ → PAlt → ℕ → List PArm
branch_of x n a j = branch_with x n a (behind_of a) j

-- ---- all of them

-- what stands in the place of alternatives, which are numbered from j on, and whose delay alternatives are from k on
abbrev pub alternative_list : AbortTeller → ℕ → List PAlt → ℕ → ℕ → List PAlt
alternative_list x n [] j k = []
alternative_list x n (a ∷ rest) j k = alternative_told x n a j k ∷ alternative_list x n rest (j + 1) (next_delay a k)

-- their branches
abbrev pub branch_list : AbortTeller → ℕ → List PAlt → ℕ → List PArm
branch_list x n [] j = []
branch_list x n (a ∷ rest) j = branch_of x n a j ++ branch_list x n rest (j + 1)

-- the number of the delay alternative behind some alternatives, numbered from k on
abbrev pub delay_behind : List PAlt → ℕ → ℕ
delay_behind [] k = k
delay_behind (a ∷ rest) k = delay_behind rest (next_delay a k)

-- the branch of the else part
abbrev pub else_list : AbortTeller → Span → PMaybe → ℕ → List PArm
else_list x s absent j = []
else_list x s (present l) j = arm (is_part x.teller s j) (or_null s l) ∷ []
