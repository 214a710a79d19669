-- What stands in the place of an accept or a selective wait is as asked, from its pieces.
use Rattle.std.proofs.Common.{◌≡◌, ℕ, ◌+◌, ◌≤◌, Bool, List, [], ◌∷◌, length, Option, Some, None, IfSome, refl, sym, subst, arith}
use Rattle.std.specs.List.{AllByRecursion}
use Rattle.ada_tree.specs.declared.naming.Span.{Span}
use Rattle.ada_tree.specs.PlainExpr.{PExpr, PSubind}
use Rattle.ada_tree.specs.PlainStmt.{PHead, SRaise, PMaybe, absent, present, PAccept, accepting, alternative, PAltKind, AAccept, ADelay, ATerminate, PAlts, no_alt, alt_then}
use Rattle.ada_tree.specs.PlainDecl.{PDecl}
use Rattle.ada_tree.specs.Every.{alts_count}
use Rattle.task_model.specs.Setting.{Setting, entry_of}
use Rattle.normal_model.specs.Ranges.{word_at, truth_subtype, subtype_of_range, family_range}
use Rattle.normal_model.specs.Making.{one, variable, Kept, kept_before, kept_subtypes, kept_if, moving, index_left}
use Rattle.normal_model.specs.Walk.{Rewriter, after_alt, after_alts, after_kind, alts_leads, inside_alts}
use Rattle.normal_model.specs.RewrittenUnit.{RewrittenUnit}
use Rattle.normal_model.specs.Waits.{accept_kept, head_left, accept_image, kind_kept, under_guard, alternative_before, alternative_subtypes, guard_then, all_guards, raised_unless, closed_test, wait_image}
use Rattle.normal_model.specs.NormalStmts.{normal_rewriter}
use Rattle.normal_model.proofs.VariablesLemmas.{Begins, begins-trans, kind-begins, alts-begin, normal-adds}
use Rattle.task_laws.specs.legal.asked.Asked.{Asks, AskedStmts, AskedMaybe, AskedAlts, AskedKind}
use Rattle.normal_laws.specs.structure.asked.Pieces.{IsVariable, AreVariables, IsGuard, Pieces}
use Rattle.normal_laws.proofs.structure.asked.Lists.{HasStmt, some-back, asked-join, asked-some, added-there}

module _ {C D : Type 0} (u : RewrittenUnit) (vars : List PDecl) (b : Asks C) (a : Asks D) (R : C → D → Type 0) (P : Pieces u vars b a R) where
  abbrev g : Setting
  g = u.setting

  abbrev r : Rewriter (List PDecl)
  r = normal_rewriter u

  -- ---- accepts

  abbrev head_subtype : Span → PHead → PSubind
  head_subtype s h = subtype_of_range g.types s (family_range g (entry_of g.numbers u.task h.entry.name))

  pub index-before : (c : C) (d : D) (k n : ℕ) (s : Span) (h : PHead) (j : ℕ) → R c d → b.head c k h → AreVariables g vars s (kept_subtypes (accept_kept u s h)) j → n ≤ k + 4 → AskedStmts a d n (kept_before g s (accept_kept u s h) j)
  index-before c d k n s h j rel i v le = go (moving g.types h.index) refl v
    where
      go : (m : Option PExpr) → moving g.types h.index ≡ m → AreVariables g vars s (kept_subtypes (kept_if (head_subtype s h) m)) j → AskedStmts a d n (kept_before g s (kept_if (head_subtype s h) m) j)
      go None e w = tt
      go (Some y) e w = (P.accept_index c d k n s h y j rel i e w.0 le, tt)

  pub head-asked : (c : C) (d : D) (k : ℕ) (s : Span) (h : PHead) (j : ℕ) → R c d → b.head c k h → AreVariables g vars s (kept_subtypes (accept_kept u s h)) j → a.head d k (head_left u s h j)
  head-asked c d k s h j rel i v = go (moving g.types h.index) refl v
    where
      go : (m : Option PExpr) → moving g.types h.index ≡ m → AreVariables g vars s (kept_subtypes (kept_if (head_subtype s h) m)) j → a.head d k (head_left u s h j)
      go None e w =
          subst (λ m. a.head d k (record { entry = h.entry; index = index_left g s j m h.index; formals = h.formals; span = h.span })) (sym e) (P.head c d k h rel i e)
      go (Some y) e w = P.head_moved c d k s h y j rel i e w.0

  pub accept-asked : (c : C) (d : D) (k : ℕ) (s : Span) (h : PHead) (o : PMaybe) (j : ℕ) → R c d → b.head c k h → AreVariables g vars s (kept_subtypes (accept_kept u s h)) j →
      AskedMaybe a (a.accepting d (head_left u s h j)) (k + 1) o → AskedStmts a d k (accept_image u s (accepting h o) j)
  accept-asked c d k s h o j rel i v m =
      asked-join a d k (kept_before g s (accept_kept u s h) j) _ (index-before c d k k s h j rel i v (omega arith)) ((head-asked c d k s h j rel i v, m), tt)

  pub accept-some : (s : Span) (x : PAccept) (j : ℕ) → HasStmt (accept_image u s x j)
  accept-some s (accepting h o) j = some-back (kept_before g s (accept_kept u s h) j) _ tt

  -- ---- what alternatives put in front of their wait

  kind-before : (c : C) (d : D) (k n : ℕ) (guard : Option PExpr) (s : Span) (x : PAltKind) (j : ℕ) → R c d → AskedKind b c k guard s x → AreVariables g vars s (kept_subtypes (kind_kept u s x)) j → n ≤ k + 4 →
      AskedStmts a d n (kept_before g s (kind_kept u s x) j)
  kind-before c d k n guard s (AAccept (accepting h o) l) j rel i v le = index-before c d k n s h j rel i.0.0 v le
  kind-before c d k n guard s (ADelay length l) j rel i v le = tt
  kind-before c d k n guard s ATerminate j rel i v le = tt

  -- an alternative of a wait with the nesting k
  module _ (c : C) (d : D) (k : ℕ) (s : Span) (rel : R c d) (o : b.outer c (k + 1) s) where
    under-guard : (kept : List Kept) (j : ℕ) → IsVariable g vars s (truth_subtype s) j → AskedStmts a d (k + 1) (kept_before g s kept (j + 1)) → AskedStmts a d k (under_guard u s j kept)
    under-guard [] j v h = tt
    under-guard (x ∷ xs) j v h = (
      (
        P.outer c d (k + 1) k s rel o (omega arith),
        P.some 0,
        (P.guard_test c d (k + 1) (k + 1) s j rel o v (omega arith), asked-some a P.some d (k + 1) (kept_before g s (x ∷ xs) (j + 1)) tt h, tt),
        tt,
      ),
      tt,
    )

    pub alternative-before : (guard : Option PExpr) (x : PAltKind) (j : ℕ) → IfSome guard (b.condition c ((k + 1) + 1)) → AskedKind b c ((k + 1) + 1) guard s x →
        AreVariables g vars s (alternative_subtypes u (alternative guard x s)) j → AskedStmts a d k (alternative_before u (alternative guard x s) j)
    alternative-before None x j i h v = kind-before c d ((k + 1) + 1) k None s x j rel h v (omega arith)
    alternative-before (Some e) x j i h v = (
      P.guard c d ((k + 1) + 1) k s e j rel i v.0 (omega arith),
      under-guard (kind_kept u s x) j v.0 (kind-before c d ((k + 1) + 1) (k + 1) (Some e) s x (j + 1) rel h v.1 (omega arith)),
    )

  -- the variables of an alternative, where those behind it are among the unit's
  pub alternative-there : (guard : Option PExpr) (x : PAltKind) (s : Span) (t : List PDecl) → Begins (after_kind r x (r.entered_alternative t (alternative guard x s))) vars → AreVariables g vars s (alternative_subtypes u (alternative guard x s)) (length t)
  alternative-there guard x s t begins = added-there g vars s (alternative_subtypes u (alternative guard x s)) t (begins-trans (kind-begins r (normal-adds u) x (r.entered_alternative t (alternative guard x s))) begins)

  pub leads-asked : (x : PAlts) (c : C) (d : D) (k : ℕ) (t : List PDecl) → R c d → AskedAlts b c (k + 1) x → Begins (after_alts r x t) vars → AskedStmts a d k (alts_leads r x t)
  leads-asked no_alt c d k t rel h begins = tt
  leads-asked (alt_then (alternative guard x s) l) c d k t rel h begins =
      let here : Begins (after_kind r x (r.entered_alternative t (alternative guard x s))) vars = begins-trans (alts-begin r (normal-adds u) l (after_kind r x (r.entered_alternative t (alternative guard x s)))) begins in
      asked-join a d k (alternative_before u (alternative guard x s) (length t)) (alts_leads r l (after_alt r (alternative guard x s) t))
      (alternative-before c d k s rel h.0 guard x (length t) h.1 h.2 (alternative-there guard x s t here))
      (leads-asked l c d k (after_alt r (alternative guard x s) t) rel h.3 begins)

  -- ---- the test whether all alternatives are closed

  -- the guards of the new alternatives
  abbrev AreGuards : ℕ → Option (List PExpr) → Type 0
  AreGuards n m = IfSome m (λ es. AllByRecursion (IsGuard g vars) es × (length es ≤ n))

  guard-more : (n : ℕ) (e : PExpr) (m : Option (List PExpr)) → IsGuard g vars e → AreGuards n m → AreGuards (1 + n) (guard_then (Some e) m)
  guard-more n e None i h = tt
  guard-more n e (Some es) i h = ((i, h.0), omega (arith, h.1))

  pub guards-are : (x : PAlts) (t : List PDecl) → Begins (after_alts r x t) vars → AreGuards (alts_count x) (all_guards (inside_alts r x t))
  guards-are no_alt t begins = (tt, omega arith)
  guards-are (alt_then (alternative None x s) l) t begins = tt
  guards-are (alt_then (alternative (Some e) x s) l) t begins =
      let here : Begins (after_kind r x (r.entered_alternative t (alternative (Some e) x s))) vars = begins-trans (alts-begin r (normal-adds u) l (after_kind r x (r.entered_alternative t (alternative (Some e) x s)))) begins in
      guard-more (alts_count l) (variable g s (length t)) (all_guards (inside_alts r l (after_kind r x (r.entered_alternative t (alternative (Some e) x s)))))
      (s, length t, refl, (alternative-there (Some e) x s t here).0)
      (guards-are l (after_kind r x (r.entered_alternative t (alternative (Some e) x s))) begins)

  module _ (c : C) (d : D) (k : ℕ) (x : PAlts) (others : Bool) (s : Span) (rel : R c d) (o : b.outer c k s) (w : b.wait c k x others s) where
    raised-asked : (es : List PExpr) → AllByRecursion (IsGuard g vars) es → length es ≤ alts_count x → AskedStmts a d k (raised_unless s es)
    raised-asked [] h few = tt
    raised-asked (e ∷ es) h few = (
      (
        P.outer c d k k s rel o (omega arith),
        P.some 0,
        (P.closed c d k (k + 1) x others s e es rel o w h (omega (arith, few)) (omega arith), asked-some a P.some d (k + 1) (one (SRaise (Some (word_at s record { 0 = 8 })) s)) tt (P.program_error c d k (k + 1) s rel o (omega arith), tt), tt),
        tt,
      ),
      tt,
    )

    pub closed-asked : (y : PMaybe) (m : Option (List PExpr)) → AreGuards (alts_count x) m → AskedStmts a d k (closed_test s y m)
    closed-asked absent None h = tt
    closed-asked absent (Some es) h = raised-asked es h.0 h.1
    closed-asked (present l) m h = tt

  pub wait-some : (s : Span) (x : PAlts) (y : PMaybe) → HasStmt (wait_image s x y)
  wait-some s x y = some-back (closed_test s y (all_guards x)) _ tt
