-- The variables that a unit gets are numbered in their order.
use Rattle.std.proofs.Common.{◌≡◌, ℕ, ◌+◌, List, [], ◌∷◌, ◌++◌, length, subst, arith}
use Rattle.ada_tree.specs.declared.naming.Span.{Span}
use Rattle.ada_tree.specs.PlainExpr.{PSubind}
use Rattle.ada_tree.specs.PlainStmt.{PStmt, SNull, SAssign, SDelay, SExit, SRaise, SAbort, SCall, SAccept, SWait, SConditional, STimed, SPut, SPutLine, SNewLine, SGet, SIf, SCase, SBlock, SLoop, PBody}
use Rattle.ada_tree.specs.PlainDecl.{PDecl}
use Rattle.task_model.specs.Setting.{Setting}
use Rattle.normal_model.specs.RewrittenUnit.{RewrittenUnit}
use Rattle.normal_model.specs.Variables.{variable_declared, variables_declared, statement_variables}
use Rattle.normal_model.specs.NormalStmts.{normal_rewriter, unit_variables}
use Rattle.normal_laws.proofs.structure.types.Walking.{body-keeps}

-- declarations of variables, numbered from k on
pub data AreNumbered (g : Setting) : List PDecl → ℕ → Type 0 where
  none_numbered : (k : ℕ) → AreNumbered g [] k
  numbered_then : (s : Span) (x : PSubind) (rest : List PDecl) (k : ℕ) → AreNumbered g rest (k + 1) → AreNumbered g (variable_declared g s x k ∷ rest) k

module _ (g : Setting) where
  declared-numbered : (s : Span) (xs : List PSubind) (k : ℕ) → AreNumbered g (variables_declared g s xs k) k
  declared-numbered s [] k = none_numbered k
  declared-numbered s (x ∷ xs) k = numbered_then s x (variables_declared g s xs (k + 1)) k (declared-numbered s xs (k + 1))

  joined-numbered : {xs : List PDecl} {k : ℕ} → AreNumbered g xs k → (ys : List PDecl) → AreNumbered g ys (k + length xs) → AreNumbered g (xs ++ ys) k
  joined-numbered (none_numbered k) ys h = let e : k + 0 ≡ k = omega arith in subst (AreNumbered g ys) e h
  joined-numbered (numbered_then s x rest k more) ys h =
      let e : k + length (variable_declared g s x k ∷ rest) ≡ (k + 1) + length rest = omega arith in
      numbered_then s x (rest ++ ys) k (joined-numbered more ys (subst (AreNumbered g ys) e h))

  more-numbered : (s : Span) (xs : List PSubind) (vars : List PDecl) → AreNumbered g vars 0 → AreNumbered g (vars ++ variables_declared g s xs (length vars)) 0
  more-numbered s xs vars h =
      let e : length vars ≡ 0 + length vars = omega arith in
      joined-numbered h (variables_declared g s xs (length vars)) (subst (AreNumbered g (variables_declared g s xs (length vars))) e (declared-numbered s xs (length vars)))

module _ (u : RewrittenUnit) where
  statement-numbered : (vars : List PDecl) (x : PStmt) → AreNumbered u.setting vars 0 → AreNumbered u.setting (statement_variables u vars x) 0
  statement-numbered vars (SCall c s) h = more-numbered u.setting s _ vars h
  statement-numbered vars (SConditional c l o s) h = more-numbered u.setting s _ vars h
  statement-numbered vars (STimed c l d o s) h = more-numbered u.setting s _ vars h
  statement-numbered vars (SAccept a s) h = more-numbered u.setting s _ vars h
  statement-numbered vars (SAbort cs s) h = more-numbered u.setting s _ vars h
  statement-numbered vars (SWait x o s) h = h
  statement-numbered vars (SNull s) h = h
  statement-numbered vars (SAssign x e s) h = h
  statement-numbered vars (SDelay d s) h = h
  statement-numbered vars (SExit w e s) h = h
  statement-numbered vars (SRaise w s) h = h
  statement-numbered vars (SPut ps s) h = h
  statement-numbered vars (SPutLine ps s) h = h
  statement-numbered vars (SNewLine s) h = h
  statement-numbered vars (SGet x s) h = h
  statement-numbered vars (SIf x o s) h = h
  statement-numbered vars (SCase e x o s) h = h
  statement-numbered vars (SBlock c s) h = h
  statement-numbered vars (SLoop w c l s) h = h

  pub unit-numbered : (c : PBody) → AreNumbered u.setting (unit_variables u c) 0
  unit-numbered c = body-keeps (normal_rewriter u) (normal_rewriter u) (λ v w. AreNumbered u.setting v 0) (λ v w x h. statement-numbered v x h) (λ v w x h. more-numbered u.setting _ _ v h) c [] [] (none_numbered 0)
