-- What holds of the subtypes of ranges and formals, of BOOLEAN and of INTEGER holds of each variable that the normal form adds to a unit.
use Rattle.std.proofs.Common.{ℕ, ◌+◌, Bool, true, false, List, [], ◌∷◌, ◌++◌, length, map, Option, Some, None}
use Rattle.std.specs.List.{AllByRecursion}
use Rattle.common_lemmas.proofs.Lists.{all_joined}
use Rattle.ada_tree.specs.declared.naming.NameId.{NameId}
use Rattle.ada_tree.specs.declared.naming.Span.{Span}
use Rattle.ada_tree.specs.declared.naming.Word.{Word}
use Rattle.ada_tree.specs.PlainExpr.{PExpr, PSubind}
use Rattle.ada_tree.specs.PlainStmt.{PCallee, PCall, PFormal, PHead, PStmt, SNull, SAssign, SDelay, SExit, SRaise, SAbort, SCall, SAccept, SWait, SConditional, STimed, SPut, SPutLine, SNewLine, SGet, SIf, SCase, SBlock, SLoop, PAlt, alternative, PAltKind, AAccept, ADelay, ATerminate, PBody}
use Rattle.ada_tree.specs.PlainDecl.{PDecl}
use Rattle.syn_event.specs.Numbering.{entry_at}
use Rattle.task_model.specs.Setting.{Setting, formals_of_info}
use Rattle.normal_model.specs.Ranges.{marked, integer_subtype, truth_subtype, subtype_of_range, array_range, family_range}
use Rattle.normal_model.specs.Making.{Kept, kept_subtypes, kept_if, moving}
use Rattle.normal_model.specs.Members.{callee_kept}
use Rattle.normal_model.specs.Calls.{Slot, entry_called, slots_of, slots_called, lists_called, actual_subtypes, indices_kept, call_subtypes, flag_subtypes, is_chosen, select_subtypes}
use Rattle.normal_model.specs.RewrittenUnit.{RewrittenUnit}
use Rattle.normal_model.specs.Waits.{accept_kept, head_of, kind_kept, guard_subtypes, alternative_subtypes}
use Rattle.normal_model.specs.Aborts.{abort_subtypes}
use Rattle.normal_model.specs.Variables.{variable_declared, variables_declared, more_variables, statement_variables}
use Rattle.normal_model.specs.NormalStmts.{normal_rewriter, unit_variables}
use Rattle.normal_laws.proofs.structure.types.Walking.{body-keeps}

-- It holds of these subtypes.
pub record AreSubtypes (g : Setting) (Q : PSubind → Type 0) : Type 0 where
  pub array : (s : Span) (id : NameId) → Q (subtype_of_range g.types s (array_range g.program id))
  pub family : (s : Span) (e : ℕ) → Q (subtype_of_range g.types s (family_range g e))
  pub formals : (e : ℕ) → AllByRecursion (λ (f : PFormal). Q (marked f.mark)) (formals_of_info g (entry_at g.numbers e))
  pub integer : (s : Span) → Q (integer_subtype s)
  pub truth : (s : Span) → Q (truth_subtype s)

module _ (g : Setting) (Q : PSubind → Type 0) (h : AreSubtypes g Q) where
  abbrev AreAll : List PSubind → Type 0
  AreAll xs = AllByRecursion Q xs

  abbrev IsSlot : Slot → Type 0
  IsSlot x = Q (marked x.mark)

  all-slots : (fs : List PFormal) → AllByRecursion (λ (f : PFormal). Q (marked f.mark)) fs → AllByRecursion IsSlot (slots_of fs)
  all-slots [] k = tt
  all-slots (f ∷ fs) k = all_joined IsSlot (map (λ w. record { mode = f.mode; mark = f.mark }) f.names) (slots_of fs) (of-names f.names) (all-slots fs k.1)
    where
      of-names : (ws : List Word) → AllByRecursion IsSlot (map (λ w. record { mode = f.mode; mark = f.mark }) ws)
      of-names [] = tt
      of-names (w ∷ ws) = (k.0, of-names ws)

  all-actuals : (xs : List Slot) (es : List PExpr) → AllByRecursion IsSlot xs → AreAll (actual_subtypes xs es)
  all-actuals [] es k = tt
  all-actuals (x ∷ xs) [] k = tt
  all-actuals (x ∷ xs) (e ∷ es) k = (k.0, all-actuals xs es k.1)

  all-kept : (x : PSubind) (o : Option PExpr) → Q x → AreAll (kept_subtypes (kept_if x o))
  all-kept x None k = tt
  all-kept x (Some e) k = (k, tt)

  kept-append : (xs ys : List Kept) → AreAll (kept_subtypes xs) → AreAll (kept_subtypes ys) → AreAll (kept_subtypes (xs ++ ys))
  kept-append [] ys a b = b
  kept-append (x ∷ xs) ys a b = (a.0, kept-append xs ys a.1 b)

  all-callee : (s : Span) (c : PCallee) → AreAll (kept_subtypes (callee_kept g s c))
  all-callee s c = all-kept _ (moving g.types c.index) (h.array s c.name.name)

  all-call : (s : Span) (c : PCall) → AreAll (call_subtypes g s c)
  all-call s c =
      all_joined Q (kept_subtypes (indices_kept g s c)) (actual_subtypes (slots_called g c) (lists_called g c).actuals)
      (kept-append (callee_kept g s c.task) _ (all-callee s c.task) (all-kept _ (lists_called g c).index (h.family s (entry_called g c))))
      (all-actuals (slots_called g c) (lists_called g c).actuals (all-slots _ (h.formals (entry_called g c))))

  all-flags : (b : Bool) (s : Span) → AreAll (flag_subtypes b s)
  all-flags true s = (h.integer s, tt)
  all-flags false s = tt

  all-select : (s : Span) (c : PCall) → AreAll (select_subtypes g s c)
  all-select s c = all_joined Q (call_subtypes g s c) (flag_subtypes (is_chosen g c) s) (all-call s c) (all-flags (is_chosen g c) s)

  all-aborts : (s : Span) (cs : List PCallee) → AreAll (abort_subtypes g s cs)
  all-aborts s [] = tt
  all-aborts s (c ∷ cs) = all_joined Q (kept_subtypes (callee_kept g s c)) (abort_subtypes g s cs) (all-callee s c) (all-aborts s cs)

  -- what is said of the declarations of such variables
  module _ (P : PDecl → Type 0) (declared : (s : Span) (x : PSubind) (k : ℕ) → Q x → P (variable_declared g s x k)) (task : ℕ) where
    abbrev u : RewrittenUnit
    u = record { setting = g; task = task }

    all-accept : (s : Span) (x : PHead) → AreAll (kept_subtypes (accept_kept u s x))
    all-accept s x = all-kept _ (moving g.types x.index) (h.family s _)

    all-kind : (s : Span) (x : PAltKind) → AreAll (kept_subtypes (kind_kept u s x))
    all-kind s (AAccept a l) = all-accept s (head_of a)
    all-kind s (ADelay d l) = tt
    all-kind s ATerminate = tt

    all-guard : (s : Span) (o : Option PExpr) → AreAll (guard_subtypes s o)
    all-guard s None = tt
    all-guard s (Some e) = (h.truth s, tt)

    all-alternative : (x : PAlt) → AreAll (alternative_subtypes u x)
    all-alternative (alternative guard what s) = all_joined Q (guard_subtypes s guard) (kept_subtypes (kind_kept u s what)) (all-guard s guard) (all-kind s what)

    all-declared : (s : Span) (xs : List PSubind) (k : ℕ) → AreAll xs → AllByRecursion P (variables_declared g s xs k)
    all-declared s [] k a = tt
    all-declared s (x ∷ xs) k a = (declared s x k a.0, all-declared s xs (k + 1) a.1)

    all-more : (s : Span) (xs : List PSubind) (vars : List PDecl) → AreAll xs → AllByRecursion P vars → AllByRecursion P (more_variables u s xs vars)
    all-more s xs vars a b = all_joined P vars (variables_declared g s xs (length vars)) b (all-declared s xs (length vars) a)

    all-statement : (vars : List PDecl) (x : PStmt) → AllByRecursion P vars → AllByRecursion P (statement_variables u vars x)
    all-statement vars (SCall c s) a = all-more s _ vars (all-call s c) a
    all-statement vars (SConditional c b o s) a = all-more s _ vars (all-select s c) a
    all-statement vars (STimed c b d e s) a = all-more s _ vars (all-select s c) a
    all-statement vars (SAccept x s) a = all-more s _ vars (all-accept s (head_of x)) a
    all-statement vars (SAbort cs s) a = all-more s _ vars (all-aborts s cs) a
    all-statement vars (SWait x o s) a = a
    all-statement vars (SNull s) a = a
    all-statement vars (SAssign x e s) a = a
    all-statement vars (SDelay d s) a = a
    all-statement vars (SExit w e s) a = a
    all-statement vars (SRaise w s) a = a
    all-statement vars (SPut ps s) a = a
    all-statement vars (SPutLine ps s) a = a
    all-statement vars (SNewLine s) a = a
    all-statement vars (SGet x s) a = a
    all-statement vars (SIf x o s) a = a
    all-statement vars (SCase e x o s) a = a
    all-statement vars (SBlock b s) a = a
    all-statement vars (SLoop w c l s) a = a

    -- So it is with all variables of a unit.
    pub all-variables : (b : PBody) → AllByRecursion P (unit_variables u b)
    all-variables b = body-keeps (normal_rewriter u) (normal_rewriter u) (λ v w. AllByRecursion P v) (λ v w x a. all-statement v x a) (λ v w x a. all-more _ _ v (all-alternative x) a) b [] [] tt
