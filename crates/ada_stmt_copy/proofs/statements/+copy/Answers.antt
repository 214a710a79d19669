use Rattle.std.proofs.Common.{rules, map, option_map, Vec, Global}
use Rattle.ada_tree.proofs.Rows.{rows}
use Rattle.ada_tree.specs.PlainStmt.{plain_call, plain_scheme, plain_case_arm, plain_stmt, stmts_of, case_arms_of, present, SConditional, STimed, SCase, SLoop}
use Rattle.ada_tree.specs.PlainExpr.{plain_expr}
use Rattle.ada_tree.specs.declared.statements.Stmt.{Stmt}
use Rattle.ada_tree.specs.declared.statements.CaseArm.{CaseArm}
use Rattle.ada_stmt_copy.proofs.expressions.Carried.{two, three}
use Rattle.ada_stmt_copy.proofs.statements.+copy.Goals as goal

pub StmtStmtCopy::copy-returns-in-Conditional : goal.StmtStmtCopy::copy-returns-in-Conditional
StmtStmtCopy::copy-returns-in-Conditional t c =
    three plain_call (λ (v : Vec Stmt Global). map plain_stmt v.items) (λ (v : Vec Stmt Global). map plain_stmt v.items) plain_stmt
    (λ x y z. SConditional x (stmts_of y) (stmts_of z) c.args.self.now.span)
    _ _ _ _
    c.conditional_of.result c.copy-in-Conditional.result c.copy_stmts-behind.result c.copy_stmts-otherwise.result
    c.conditional_of.ensures c.copy-in-Conditional.ensures c.copy_stmts-behind.ensures c.copy_stmts-otherwise.ensures
    (search (rules, rows))

pub StmtStmtCopy::copy-returns-in-Timed : goal.StmtStmtCopy::copy-returns-in-Timed
StmtStmtCopy::copy-returns-in-Timed t c =
    three plain_call (λ (v : Vec Stmt Global). map plain_stmt v.items) (λ (v : Vec Stmt Global). map plain_stmt v.items) plain_stmt
    (λ x y z. STimed x (stmts_of y) c.in-Timed.thousandths (stmts_of z) c.args.self.now.span)
    _ _ _ _
    c.timed_of.result c.copy-in-Timed.result c.copy_stmts-behind-in-Timed.result c.copy_stmts-after.result
    c.timed_of.ensures c.copy-in-Timed.ensures c.copy_stmts-behind-in-Timed.ensures c.copy_stmts-after.ensures
    (search (rules, rows))

pub StmtStmtCopy::copy-returns-in-Loop : goal.StmtStmtCopy::copy-returns-in-Loop
StmtStmtCopy::copy-returns-in-Loop t c =
    two (option_map plain_scheme) (λ (v : Vec Stmt Global). map plain_stmt v.items) plain_stmt
    (λ x y. SLoop c.in-Loop.name x (stmts_of y) c.args.self.now.span)
    _ _ _
    c.loop_of.result c.copy_scheme.result c.copy_stmts-in-Loop.result
    c.loop_of.ensures c.copy_scheme.ensures c.copy_stmts-in-Loop.ensures
    (search (rules, rows))

pub StmtStmtCopy::copy-returns-in-Some-others : goal.StmtStmtCopy::copy-returns-in-Some-others
StmtStmtCopy::copy-returns-in-Some-others t c =
    three plain_expr (λ (v : Vec CaseArm Global). map plain_case_arm v.items) (λ (v : Vec Stmt Global). map plain_stmt v.items) plain_stmt
    (λ x y z. SCase x (case_arms_of y) (present (stmts_of z)) c.args.self.now.span)
    _ _ _ _
    c.case_others_of.result c.copy-selector.result c.copy_case_arms-arms.result c.copy_stmts-in-Some-others.result
    c.case_others_of.ensures c.copy-selector.ensures c.copy_case_arms-arms.ensures c.copy_stmts-in-Some-others.ensures
    (search (rules, rows))
