-- Lists of statements that are as asked, and the variables of a statement by their numbers.
use Rattle.std.proofs.Common.{◌≡◌, ℕ, ◌+◌, List, [], ◌∷◌, ◌++◌, length, Some, slice_get, refl, sym, ap, subst, ◌∙◌, arith, length-append}
use Rattle.std.proofs.lemmas.List.{append_assoc}
use Rattle.ada_tree.specs.declared.naming.Span.{Span}
use Rattle.ada_tree.specs.PlainExpr.{PSubind}
use Rattle.ada_tree.specs.PlainStmt.{PStmts, no_stmt, stmt_then}
use Rattle.ada_tree.specs.PlainDecl.{PDecl}
use Rattle.task_model.specs.Setting.{Setting}
use Rattle.task_model.specs.Frames.{in_front}
use Rattle.normal_model.specs.Variables.{variable_declared, variables_declared}
use Rattle.normal_model.proofs.VariablesLemmas.{Begins}
use Rattle.task_laws.specs.legal.asked.Asked.{Asks, AskedStmts, AskedSome}
use Rattle.normal_laws.specs.structure.asked.Pieces.{AreVariables}
use Rattle.common_lemmas.proofs.Lists.{seam_there}

-- ---- lists of statements

-- there is a first statement
abbrev pub HasStmt : PStmts → Type 0
HasStmt no_stmt = ⊥
HasStmt (stmt_then x l) = Prim.Unit {0}

pub some-front : (xs ys : PStmts) → HasStmt xs → HasStmt (in_front xs ys)
some-front no_stmt ys h = absurd h
some-front (stmt_then x l) ys h = tt

pub some-back : (xs ys : PStmts) → HasStmt ys → HasStmt (in_front xs ys)
some-back no_stmt ys h = h
some-back (stmt_then x l) ys h = tt

module _ {D : Type 0} (a : Asks D) where
  -- two lists, one behind the other
  pub asked-join : (d : D) (k : ℕ) (xs ys : PStmts) → AskedStmts a d k xs → AskedStmts a d k ys → AskedStmts a d k (in_front xs ys)
  asked-join d k no_stmt ys h g = g
  asked-join d k (stmt_then x l) ys h g = (h.0, asked-join d k l ys h.1 g)

  -- statements, one at least
  pub asked-some : ((n : ℕ) → a.many (1 + n)) → (d : D) (k : ℕ) (xs : PStmts) → HasStmt xs → AskedStmts a d k xs → AskedSome a d k xs
  asked-some many d k no_stmt s h = absurd s
  asked-some many d k (stmt_then x l) s h = (many _, h.0, h.1)

  -- of statements that are one at least
  pub asked-all : (d : D) (k : ℕ) (xs : PStmts) → AskedSome a d k xs → AskedStmts a d k xs
  asked-all d k no_stmt h = tt
  asked-all d k (stmt_then x l) h = (h.1, h.2)

-- ---- variables

module _ (g : Setting) (vars : List PDecl) (s : Span) where
  pub variables-there : (xs : List PSubind) (pre more : List PDecl) (k : ℕ) → k ≡ length pre → vars ≡ (pre ++ variables_declared g s xs k) ++ more → AreVariables g vars s xs k
  variables-there [] pre more k e f = tt
  variables-there (x ∷ xs) pre more k e f =
      let v : PDecl = variable_declared g s x k in
      let rest : List PDecl = variables_declared g s xs (k + 1) in
      let split : (pre ++ v ∷ rest) ++ more ≡ pre ++ v ∷ (rest ++ more) = append_assoc pre (v ∷ rest) more in
      let one : slice_get vars k ≡ Some v = ap (slice_get vars) e ∙ ap (λ l. slice_get l (length pre)) (f ∙ split) ∙ seam_there pre v (rest ++ more) in
      let next : k + 1 ≡ length (pre ++ v ∷ []) = rw (length-append pre (v ∷ [])) (omega arith) in
      let same : pre ++ v ∷ rest ≡ (pre ++ v ∷ []) ++ rest = sym (append_assoc pre (v ∷ []) rest) in
      (one, variables-there xs (pre ++ v ∷ []) more (k + 1) next (f ∙ ap (λ l. l ++ more) same))

  -- the variables that a statement adds behind those that were made before
  pub added-there : (xs : List PSubind) (t : List PDecl) → Begins (t ++ variables_declared g s xs (length t)) vars → AreVariables g vars s xs (length t)
  added-there xs t b = variables-there xs t b.more (length t) refl b.joined

  pub variables-front : (xs ys : List PSubind) (k : ℕ) → AreVariables g vars s (xs ++ ys) k → AreVariables g vars s xs k
  variables-front [] ys k h = tt
  variables-front (x ∷ xs) ys k h = (h.0, variables-front xs ys (k + 1) h.1)

  pub variables-back : (xs ys : List PSubind) (k : ℕ) → AreVariables g vars s (xs ++ ys) k → AreVariables g vars s ys (k + length xs)
  variables-back [] ys k h = let e : k ≡ k + 0 = omega arith in subst (AreVariables g vars s ys) e h
  variables-back (x ∷ xs) ys k h =
      let e : (k + 1) + length xs ≡ k + length (x ∷ xs) = omega arith in
      subst (AreVariables g vars s ys) e (variables-back xs ys (k + 1) h.1)
