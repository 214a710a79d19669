-- Accept statements in a collecting text of a program with abort statements (9.5, 9.10, 11.5; this project's rule). The acceptor keeps its caller, tells first thing that this call has been accepted, and keeps the answer: a caller that has been aborted in between is refused. Then the accept body is left out, and the accept is tried again. Behind the rendezvous, also where it ends by an exception, the acceptor tells that it is over.
use Rattle.std.specs.Prelude.{ℕ, None, Some}
use Rattle.ada_tree.specs.declared.naming.NameId.{NameId}
use Rattle.ada_tree.specs.declared.naming.Span.{Span}
use Rattle.ada_tree.specs.declared.expressions.UnaryOp.TheVariants.{Not}
use Rattle.ada_tree.specs.PlainExpr.{PExpr, EName, EUnary}
use Rattle.ada_tree.specs.PlainStmt.{PHead, PStmt, SAssign, SExit, SAccept, SIf, SBlock, SLoop, PStmts, no_stmt, stmt_then, PMaybe, absent, present, PAccept, accepting, body, arm, no_arm, arm_then}
use Rattle.normal_model.specs.Ranges.{word_at}
use Rattle.normal_model.specs.Making.{one}
use Rattle.replay_model.specs.Serving.{raise_again, whatever}
use Rattle.collect_model.specs.Serving.{begin_note, head_telling}
use Rattle.collect_model.specs.aborts.AbortTeller.{AbortTeller}
use Rattle.collect_model.specs.aborts.Noting.{over}

-- ---- the accept body

-- `a := b;`
abbrev pub variable_is : Span → NameId → NameId → PStmt
variable_is s a b = SAssign (record { name = word_at s a; index = None }) (EName b s) s

-- `not DED_R1`: the caller that was taken last at the place of number n has not been refused
abbrev pub is_not_refused : AbortTeller → Span → ℕ → PExpr
is_not_refused x s n = EUnary Not (EName (x.refused n) s) s

-- `if not DED_R1 then` the body `end if;`, where there is a body
abbrev pub unless_refused : AbortTeller → Span → ℕ → PMaybe → PStmts
unless_refused x s n absent = no_stmt
unless_refused x s n (present stmts) = one (SIf (arm_then (arm (is_not_refused x s n) stmts) no_arm) absent s)

-- START: `DED_Q1 := DED_C; NOTE(1, DED_C, e, i, a); DED_R1 := DED_G;` and the body
abbrev pub begins : AbortTeller → Span → ℕ → PHead → PMaybe → PStmts
begins x s n head stmts =
    stmt_then (variable_is s (x.taken n) x.teller.added.caller)
    (stmt_then (begin_note x.teller s head)
    (stmt_then (variable_is s (x.refused n) x.teller.added.answer)
    (unless_refused x s n stmts)))

-- What stands in the place of an accept, as a statement or in an alternative.
abbrev pub accept_told : AbortTeller → Span → ℕ → PAccept → PAccept
accept_told x s n (accepting head stmts) = accepting (head_telling x.teller head) (present (begins x s n head stmts))

-- ---- what stands around it

-- a statement that accepts in a block: `begin` it `exception when others => NOTE(2, ..); raise; end;`
abbrev pub service_watched : AbortTeller → Span → ℕ → PStmt → PStmt
service_watched x s n y = SBlock (body (one y) (whatever s (stmt_then (over x s n) (one (raise_again s))))) s

-- `loop` these statements `exit when` a condition `; end loop;`
abbrev pub repeated : Span → PStmt → PExpr → PStmt
repeated s y e = SLoop None None (stmt_then y (one (SExit None (Some e) s))) s

-- What stands in the place of an accept statement, at the place of number n.
abbrev pub accept_image : AbortTeller → Span → ℕ → PAccept → PStmts
accept_image x s n a = stmt_then (repeated s (service_watched x s n (SAccept (accept_told x s n a) s)) (is_not_refused x s n)) (one (over x s n))
