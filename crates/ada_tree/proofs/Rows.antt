-- A row of the declared tree, seen plainly, is the row of its items seen plainly; `rows` joins the code's lists to the mirror.
use Rattle.std.proofs.Common.{◌≡◌, Option, Some, None, Vec, Global, map, option_map, refl, ap, ◌∙◌}
use Rattle.ada_tree.specs.declared.statements.StmtKind.{Row_of-Stmt, end_of-Stmt, more_of-Stmt, items-the_row-Stmt, Row_of-Alt, end_of-Alt, more_of-Alt, items-the_row-Alt, Row_of-Arm, end_of-Arm, more_of-Arm, items-the_row-Arm, Row_of-CaseArm, end_of-CaseArm, more_of-CaseArm, items-the_row-CaseArm, the_lemmas}
use Rattle.ada_tree.specs.declared.statements.AltKind.TheBlock.{hidden-the_row-Stmt-0, items_hidden-the_row-Stmt-0, hidden-the_row-Handler-4, items_hidden-the_row-Handler-4, back-StmtKind-Wait-1}
use Rattle.ada_tree.specs.declared.statements.Stmt.{Stmt}
use Rattle.ada_tree.specs.declared.statements.Accept.{Accept, out-Accept, is-Accept'}
use Rattle.ada_tree.specs.declared.statements.Arm.{Arm, out-Arm, is-Arm'}
use Rattle.ada_tree.specs.declared.statements.CaseArm.{CaseArm, out-CaseArm, is-CaseArm'}
use Rattle.ada_tree.specs.declared.statements.Handler.{Handler, out-Handler, is-Handler'}
use Rattle.ada_tree.specs.declared.statements.Body.{Body, out-Body, is-Body', Row_of-Handler, end_of-Handler, more_of-Handler, items-the_row-Handler}
use Rattle.ada_tree.specs.declared.declarations.DeclKind.{Row_of-Decl, end_of-Decl, more_of-Decl, items-the_row-Decl}
use Rattle.ada_tree.specs.declared.declarations.DeclKind as declaration
use Rattle.ada_tree.specs.declared.expressions.ExprKind as expression
use Rattle.ada_tree.specs.PlainExpr.{plain_expr}
use Rattle.ada_tree.specs.PlainStmt.{plain_accept, plain_maybe, plain_body, plain_choice, plain_formal, accepting, present, arm, case_arm, handler, body, maybe_of, stmts_of, alts_of, arms_of, case_arms_of, handlers_of, stmt_then, alt_then, arm_then, case_arm_then, handler_then, plain_stmt, plain_stmts, plain_alt, plain_alts, plain_arm, plain_arms, plain_case_arm, plain_case_arms, plain_handler, plain_handlers, stmt_at}
use Rattle.ada_tree.specs.PlainDecl.{decls_of, decl_then, decl_at, plain_decl, plain_decls}

pub plain_stmts-items : (n : _) (k : Row_of-Stmt n) → plain_stmts k ≡ stmts_of (map plain_stmt (items-the_row-Stmt n k))
plain_stmts-items _ end_of-Stmt = refl
plain_stmts-items _ (more_of-Stmt k s rest) = ap (stmt_then (stmt_at k s)) (plain_stmts-items _ rest)

pub plain_alts-items : (n : _) (k : Row_of-Alt n) → plain_alts k ≡ alts_of (map plain_alt (items-the_row-Alt n k))
plain_alts-items _ end_of-Alt = refl
plain_alts-items _ (more_of-Alt g k s rest) = ap (alt_then (plain_alt record { guard = g; kind = k; span = s })) (plain_alts-items _ rest)

pub plain_arms-items : (n : _) (k : Row_of-Arm n) → plain_arms k ≡ arms_of (map plain_arm (items-the_row-Arm n k))
plain_arms-items _ end_of-Arm = refl
plain_arms-items _ (more_of-Arm x rest) = ap (arm_then (plain_arm x)) (plain_arms-items _ rest)

pub plain_case_arms-items : (n : _) (k : Row_of-CaseArm n) → plain_case_arms k ≡ case_arms_of (map plain_case_arm (items-the_row-CaseArm n k))
plain_case_arms-items _ end_of-CaseArm = refl
plain_case_arms-items _ (more_of-CaseArm x rest) = ap (case_arm_then (plain_case_arm x)) (plain_case_arms-items _ rest)

pub plain_handlers-items : (n : _) (k : Row_of-Handler n) → plain_handlers k ≡ handlers_of (map plain_handler (items-the_row-Handler n k))
plain_handlers-items _ end_of-Handler = refl
plain_handlers-items _ (more_of-Handler x rest) = ap (handler_then (plain_handler x)) (plain_handlers-items _ rest)

pub plain_decls-items : (n : _) (k : Row_of-Decl n) → plain_decls k ≡ decls_of (map plain_decl (items-the_row-Decl n k))
plain_decls-items _ end_of-Decl = refl
plain_decls-items _ (more_of-Decl k s rest) = ap (decl_then (decl_at k s)) (plain_decls-items _ rest)

-- the row that stands for a list of the code
stmts_hidden : (v : Vec Stmt Global) → plain_stmts (hidden-the_row-Stmt-0 v) ≡ stmts_of (map plain_stmt v.items)
stmts_hidden v = plain_stmts-items _ (hidden-the_row-Stmt-0 v) ∙ ap (λ xs. stmts_of (map plain_stmt xs)) (items_hidden-the_row-Stmt-0 v)

handlers_hidden : (v : Vec Handler Global) → plain_handlers (hidden-the_row-Handler-4 v) ≡ handlers_of (map plain_handler v.items)
handlers_hidden v = plain_handlers-items _ (hidden-the_row-Handler-4 v) ∙ ap (λ xs. handlers_of (map plain_handler xs)) (items_hidden-the_row-Handler-4 v)

pub plain_maybe-back : (o : Option (Vec Stmt Global)) → plain_maybe (back-StmtKind-Wait-1 o) ≡ maybe_of (option_map (λ v. map plain_stmt v.items) o)
plain_maybe-back None = refl
plain_maybe-back (Some v) = ap present (stmts_hidden v)

-- a struct of the family, seen plainly, from its fields
pub plain_accept-out :
    (x : Accept) →
    plain_accept x ≡
    accepting record { entry = (out-Accept x).entry; index = option_map plain_expr (out-Accept x).index; formals = map plain_formal (out-Accept x).formals.items; span = (out-Accept x).span }
    (maybe_of (option_map (λ v. map plain_stmt v.items) (out-Accept x).stmts))
plain_accept-out x = ap plain_accept (is-Accept' x) ∙ ap (accepting record { entry = (out-Accept x).entry; index = option_map plain_expr (out-Accept x).index; formals = map plain_formal (out-Accept x).formals.items; span = (out-Accept x).span }) (plain_maybe-back (out-Accept x).stmts)

pub plain_arm-out : (x : Arm) → plain_arm x ≡ arm (plain_expr (out-Arm x).test) (stmts_of (map plain_stmt (out-Arm x).stmts.items))
plain_arm-out x = ap plain_arm (is-Arm' x) ∙ ap (arm (plain_expr (out-Arm x).test)) (stmts_hidden (out-Arm x).stmts)

pub plain_case_arm-out : (x : CaseArm) → plain_case_arm x ≡ case_arm (map plain_choice (out-CaseArm x).choices.items) (stmts_of (map plain_stmt (out-CaseArm x).stmts.items))
plain_case_arm-out x = ap plain_case_arm (is-CaseArm' x) ∙ ap (case_arm (map plain_choice (out-CaseArm x).choices.items)) (stmts_hidden (out-CaseArm x).stmts)

pub plain_handler-out : (x : Handler) → plain_handler x ≡ handler (out-Handler x).names.items (stmts_of (map plain_stmt (out-Handler x).stmts.items)) (out-Handler x).span
plain_handler-out x = ap plain_handler (is-Handler' x) ∙ ap (λ r. handler (out-Handler x).names.items r (out-Handler x).span) (stmts_hidden (out-Handler x).stmts)

pub plain_body-out : (x : Body) → plain_body x ≡ body (stmts_of (map plain_stmt (out-Body x).stmts.items)) (handlers_of (map plain_handler (out-Body x).handlers.items))
plain_body-out x = ap plain_body (is-Body' x) ∙ (λ i. body (stmts_hidden (out-Body x).stmts i) (handlers_hidden (out-Body x).handlers i))

pub ruleset rows = (plain_stmts-items, plain_alts-items, plain_arms-items, plain_case_arms-items, plain_handlers-items, plain_decls-items, plain_accept-out, plain_arm-out, plain_case_arm-out, plain_handler-out, plain_body-out, the_lemmas, declaration.the_lemmas, expression.the_lemmas)
