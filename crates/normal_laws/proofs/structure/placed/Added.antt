-- The variables that the normal form adds: each has one of a few subtypes, so what holds of those holds of all of them.
use Rattle.std.proofs.Common.{◌≡◌, ℕ, ◌+◌, Bool, true, false, List, [], ◌∷◌, ◌++◌, length, Option, Some, None, refl, subst, arith}
use Rattle.std.specs.List.{AllByRecursion}
use Rattle.ada_tree.specs.declared.naming.NameId.{NameId}
use Rattle.ada_tree.specs.declared.naming.Span.{Span}
use Rattle.ada_tree.specs.PlainExpr.{PExpr, PSubind}
use Rattle.ada_tree.specs.PlainStmt.{PCallee, PCall, PHead, PStmt, SNull, SAssign, SDelay, SExit, SRaise, SAbort, SCall, SAccept, SWait, SConditional, STimed, SPut, SPutLine, SNewLine, SGet, SIf, SCase, SBlock, SLoop, PAlt, alternative, PAltKind, AAccept, ADelay, ATerminate, accepting, PBody}
use Rattle.ada_tree.specs.PlainDecl.{PDecl}
use Rattle.syn_event.specs.Numbering.{entry_at}
use Rattle.task_model.specs.Setting.{Setting, entry_of, formals_of_info}
use Rattle.normal_model.specs.Ranges.{marked, integer_subtype, truth_subtype, subtype_of_range, array_range, family_range}
use Rattle.normal_model.specs.Making.{Kept, kept_subtypes, kept_if, moving}
use Rattle.normal_model.specs.Members.{callee_kept}
use Rattle.normal_model.specs.Calls.{Slot, slots_of, slots_called, lists_called, entry_called, actual_subtypes, indices_kept, call_subtypes, is_chosen, flag_subtypes, select_subtypes}
use Rattle.normal_model.specs.RewrittenUnit.{RewrittenUnit}
use Rattle.normal_model.specs.Waits.{accept_kept, kind_kept, guard_subtypes, alternative_subtypes}
use Rattle.normal_model.specs.Aborts.{abort_subtypes}
use Rattle.normal_model.specs.Variables.{variable_declared, variables_declared, statement_variables, alternative_place, alternative_variables}
use Rattle.normal_model.specs.NormalStmts.{normal_rewriter, unit_variables}
use Rattle.normal_laws.proofs.structure.types.Walking.{body-keeps}
use Rattle.common_lemmas.proofs.Lists.{all_joined}

-- What is to be known of the subtypes of added variables: INTEGER, BOOLEAN, those of ranges of arrays of tasks and of families, and the marks of formals.
pub record AreSubtypes (g : Setting) (Q : PSubind → Type 0) : Type 0 where
  pub integers : (s : Span) → Q (integer_subtype s)
  pub truths : (s : Span) → Q (truth_subtype s)
  pub arrays : (s : Span) (id : NameId) → Q (subtype_of_range g.types s (array_range g.program id))
  pub families : (s : Span) (e : ℕ) → Q (subtype_of_range g.types s (family_range g e))
  pub formals : (e : ℕ) → AllByRecursion (λ (x : Slot). Q (marked x.mark)) (slots_of (formals_of_info g (entry_at g.numbers e)))

module _ (g : Setting) (Q : PSubind → Type 0) where
  -- ---- declarations of variables that are numbered from k on

  pub record IsVariableAt (k : ℕ) (d : PDecl) : Type 0 where
    pub place : Span
    pub subtype : PSubind
    pub is : d ≡ variable_declared g place subtype k
    pub fits : Q subtype

  abbrev pub AreVariablesFrom : ℕ → List PDecl → Type 0
  AreVariablesFrom k [] = Prim.Unit {0}
  AreVariablesFrom k (d ∷ ds) = IsVariableAt k d × AreVariablesFrom (k + 1) ds

  module _ (its : AreSubtypes g Q) where
    -- ---- the subtypes of a statement

    abbrev AllFit : List PSubind → Type 0
    AllFit xs = AllByRecursion Q xs

    kept-fit : (x : PSubind) (o : Option PExpr) → Q x → AllFit (kept_subtypes (kept_if x o))
    kept-fit x None h = tt
    kept-fit x (Some e) h = (h, tt)

    callee-fit : (s : Span) (x : PCallee) → AllFit (kept_subtypes (callee_kept g s x))
    callee-fit s x = kept-fit _ (moving g.types x.index) (its.arrays s x.name.name)

    actuals-fit : (xs : List Slot) (es : List PExpr) → AllByRecursion (λ (x : Slot). Q (marked x.mark)) xs → AllFit (actual_subtypes xs es)
    actuals-fit [] es h = tt
    actuals-fit (x ∷ xs) [] h = tt
    actuals-fit (x ∷ xs) (e ∷ es) h = (h.0, actuals-fit xs es h.1)

    kept-append : (s : Span) (x : PCallee) (y : PSubind) (o : Option PExpr) → Q y → AllFit (kept_subtypes (callee_kept g s x ++ kept_if y o))
    kept-append s x y o h = go (callee_kept g s x) (callee-fit s x)
      where
        go : (xs : List Kept) → AllFit (kept_subtypes xs) → AllFit (kept_subtypes (xs ++ kept_if y o))
        go [] i = kept-fit y o h
        go (z ∷ zs) i = (i.0, go zs i.1)

    call-fit : (s : Span) (x : PCall) → AllFit (call_subtypes g s x)
    call-fit s x =
        all_joined Q (kept_subtypes (indices_kept g s x)) (actual_subtypes (slots_called g x) (lists_called g x).actuals)
        (kept-append s x.task _ (lists_called g x).index (its.families s (entry_called g x)))
        (actuals-fit (slots_called g x) (lists_called g x).actuals (its.formals (entry_called g x)))

    select-fit : (s : Span) (x : PCall) → AllFit (select_subtypes g s x)
    select-fit s x = all_joined Q (call_subtypes g s x) (flag_subtypes (is_chosen g x) s) (call-fit s x) (go (is_chosen g x))
      where
        go : (b : Bool) → AllFit (flag_subtypes b s)
        go true = (its.integers s, tt)
        go false = tt

    accept-fit : (t : ℕ) (s : Span) (h : PHead) → AllFit (kept_subtypes (accept_kept (record { setting = g; task = t }) s h))
    accept-fit t s h = kept-fit _ (moving g.types h.index) (its.families s (entry_of g.numbers t h.entry.name))

    abort-fit : (s : Span) (xs : List PCallee) → AllFit (abort_subtypes g s xs)
    abort-fit s [] = tt
    abort-fit s (x ∷ xs) = all_joined Q (kept_subtypes (callee_kept g s x)) (abort_subtypes g s xs) (callee-fit s x) (abort-fit s xs)

    alternative-fit : (t : ℕ) (x : PAlt) → AllFit (alternative_subtypes (record { setting = g; task = t }) x)
    alternative-fit t (alternative guard what s) = all_joined Q (guard_subtypes s guard) (kept_subtypes (kind_kept (record { setting = g; task = t }) s what)) (guards guard) (kinds what)
      where
        guards : (o : Option PExpr) → AllFit (guard_subtypes s o)
        guards None = tt
        guards (Some e) = (its.truths s, tt)

        kinds : (k : PAltKind) → AllFit (kept_subtypes (kind_kept (record { setting = g; task = t }) s k))
        kinds (AAccept (accepting h o) l) = accept-fit t s h
        kinds (ADelay n l) = tt
        kinds ATerminate = tt

    -- ---- the variables of a unit

    from-append : (k : ℕ) (xs ys : List PDecl) → AreVariablesFrom k xs → AreVariablesFrom (k + length xs) ys → AreVariablesFrom k (xs ++ ys)
    from-append k [] ys h i = let e : k + 0 ≡ k = omega arith in subst (λ m. AreVariablesFrom m ys) e i
    from-append k (x ∷ xs) ys h i =
        let e : k + length (x ∷ xs) ≡ (k + 1) + length xs = omega arith in
        (h.0, from-append (k + 1) xs ys h.1 (subst (λ m. AreVariablesFrom m ys) e i))

    declared-from : (s : Span) (xs : List PSubind) (k : ℕ) → AllFit xs → AreVariablesFrom k (variables_declared g s xs k)
    declared-from s [] k h = tt
    declared-from s (x ∷ xs) k h = (record { place = s; subtype = x; is = refl; fits = h.0 }, declared-from s xs (k + 1) h.1)

    more-from : (s : Span) (xs : List PSubind) (t : List PDecl) → AllFit xs → AreVariablesFrom 0 t → AreVariablesFrom 0 (t ++ variables_declared g s xs (length t))
    more-from s xs t h i =
        let e : length t ≡ 0 + length t = omega arith in
        from-append 0 t (variables_declared g s xs (length t)) i (subst (λ m. AreVariablesFrom m (variables_declared g s xs (length t))) e (declared-from s xs (length t) h))

    module _ (number : ℕ) where
      abbrev u : RewrittenUnit
      u = record { setting = g; task = number }

      entered : (t : List PDecl) (x : PStmt) → AreVariablesFrom 0 t → AreVariablesFrom 0 (statement_variables u t x)
      entered t (SCall x s) h = more-from s (call_subtypes g s x) t (call-fit s x) h
      entered t (SConditional x l o s) h = more-from s (select_subtypes g s x) t (select-fit s x) h
      entered t (STimed x l n o s) h = more-from s (select_subtypes g s x) t (select-fit s x) h
      entered t (SAccept (accepting i o) s) h = more-from s (kept_subtypes (accept_kept u s i)) t (accept-fit number s i) h
      entered t (SAbort xs s) h = more-from s (abort_subtypes g s xs) t (abort-fit s xs) h
      entered t (SWait x o s) h = h
      entered t (SNull s) h = h
      entered t (SAssign x e s) h = h
      entered t (SDelay n s) h = h
      entered t (SExit w e s) h = h
      entered t (SRaise w s) h = h
      entered t (SPut ps s) h = h
      entered t (SPutLine ps s) h = h
      entered t (SNewLine s) h = h
      entered t (SGet x s) h = h
      entered t (SIf x o s) h = h
      entered t (SCase e x o s) h = h
      entered t (SBlock x s) h = h
      entered t (SLoop w c l s) h = h

      opened : (t : List PDecl) (x : PAlt) → AreVariablesFrom 0 t → AreVariablesFrom 0 (alternative_variables u t x)
      opened t x h = more-from (alternative_place x) (alternative_subtypes u x) t (alternative-fit number x) h

      pub unit-from : (b : PBody) → AreVariablesFrom 0 (unit_variables u b)
      unit-from b = body-keeps (normal_rewriter u) (normal_rewriter u) (λ v w. AreVariablesFrom 0 v) (λ v w x h. entered v x h) (λ v w x h. opened v x h) b [] [] tt
