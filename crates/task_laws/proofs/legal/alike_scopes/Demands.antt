-- A demand that speaks of old names alone, and is met in one of two scopes that are alike, is met in the other; if it is no accept, also where only the
-- names mean the same, whatever entries the own task has.
use Rattle.std.proofs.Common.{◌≡◌, ℕ, Bool, true, not, ◌&&◌, ◌||◌, if◌then◌else◌, List, [], ◌∷◌, Option, Some, None, IfSome, is_some, ⊎_elim, refl, sym, ap, ap₂, ◌∙◌}
use Rattle.std.specs.List.{AllByRecursion}
use Rattle.common_lemmas.proofs.Lists.{not_empty}
use Rattle.ada_tree.specs.declared.naming.NameId.{NameId}
use Rattle.ada_tree.specs.declared.naming.Span.{Span}
use Rattle.ada_tree.specs.declared.naming.Word.{Word}
use Rattle.ada_tree.specs.declared.statements.ParMode.{ParMode}
use Rattle.ada_tree.specs.declared.statements.ParMode.TheVariants.{Take, Give, Both}
use Rattle.ada_tree.specs.PlainExpr.{PExpr, EInteger, EName, EIndex, EAttribute, EAttributeOf, EParen, EUnary, EBinary}
use Rattle.ada_tree.specs.PlainStmt.{PTarget, PChoice, PHead}
use Rattle.ada_static_rules.specs.Scope.{Scope, Range, integer_kind, reading, marking, meaning, entry_named, is_entry_somewhere}
use Rattle.ada_static_rules.specs.ExprTypes.{expr_place, kind_of, is_other_kind}
use Rattle.ada_static_rules.specs.Demand.{MarkUse, Demand, declares, declares_entry, labels, gives_body, makes_instance, stands_as_mark, whole, node, must_be_of, must_be_alike, must_be_static, must_not_be_empty, must_lie_in, writes, gets, is_actual, addresses, calls, accepts, names_exception, handles, chooses, initializes, is_written}
use Rattle.ada_static_rules.specs.Sites.{site}
use Rattle.ada_static_rules.specs.RuleMismatch.{of_other_kind}
use Rattle.ada_static_rules.specs.RuleNotVariable.{unless, whole_written}
use Rattle.ada_static_rules.specs.RuleRangeBad.{is_below, empty_range, is_outside, out_of}
use Rattle.ada_static_rules.specs.RuleArgCount.{wrong_accept}
use Rattle.ada_static_rules.specs.RuleReadOut.{read_out}
use Rattle.ada_static_rules.specs.RuleChoiceBad.{bad_choices}
use Rattle.task_laws.specs.legal.rewritten_types.Rewriting.{is_no_task}
use Rattle.task_laws.specs.legal.alike_scopes.Alike.{SameNames}
use Rattle.task_laws.specs.legal.alike_scopes.Old.{IsOldExpr, IsOldTarget, IsOldChoice, allows_task, IsOldDemand}
use Rattle.task_laws.specs.legal.alike_scopes.Laws.{IsMetBut, AlikeRefusesSame}
use Rattle.task_laws.proofs.legal.alike_scopes.Exprs.{read-same, kind-same, expr-same, static-in-same}
use Rattle.task_laws.proofs.legal.alike_scopes.Faces.{SameFace, AreNoValues, index-same, whole-same, array-same, no-variable-at, no-variable-there, no-exception-there, no-type-there}
use Rattle.task_laws.proofs.legal.alike_scopes.Selectors.{target-same, bad-same}
use Rattle.task_laws.proofs.legal.alike_scopes.Nodes.{empty-too, face, other-same, misfit-same, node-met, whole-met}

module _ (old : ℕ → Bool) (s t : Scope) (n : SameNames old s t) where
  -- ---- what a value must be

  of-met : (e : PExpr) (k : Option ℕ) → IsOldExpr old e → IsMetBut (site s (must_be_of e k)) → IsMetBut (site t (must_be_of e k))
  of-met e k o h = record {
    known = refl;
    matched = empty-too (other-same old s t n k e o) h.matched;
    static = refl;
    ranged = refl;
    variable = refl;
    readable = refl;
    counted = refl;
    chosen = refl;
    arrays = refl;
    texts = refl;
    exceptions = refl;
  }

  alike-met : (a b : PExpr) → IsOldExpr old a → IsOldExpr old b → IsMetBut (site s (must_be_alike a b)) → IsMetBut (site t (must_be_alike a b))
  alike-met a b o p h = record {
    known = refl;
    matched = empty-too (ap (λ k. of_other_kind s k b) (kind-same old s t n a o) ∙ other-same old s t n (kind_of t a) b p) h.matched;
    static = refl;
    ranged = refl;
    variable = refl;
    readable = refl;
    counted = refl;
    chosen = refl;
    arrays = refl;
    texts = refl;
    exceptions = refl;
  }

  static-met : (e : PExpr) → IsOldExpr old e → IsMetBut (site s (must_be_static e)) → IsMetBut (site t (must_be_static e))
  static-met e o h =
      let x = expr-same old s t n e o in
      record {
        known = refl;
        matched = refl;
        static = empty-too (ap₂ (λ k b. if is_some k && not b then expr_place e ∷ [] else []) x.kind x.static) h.static;
        ranged = refl;
        variable = refl;
        readable = refl;
        counted = refl;
        chosen = refl;
        arrays = refl;
        texts = refl;
        exceptions = refl;
      }

  empty-same : (a b : PExpr) (k : Option ℕ) → IsOldExpr old a → IsOldExpr old b → empty_range s a b k ≡ empty_range t a b k
  empty-same a b (Some k) o p = ap₂ (λ x y. if is_below x y then expr_place a ∷ [] else []) (static-in-same old s t n k b p) (static-in-same old s t n k a o)
  empty-same a b None o p = refl

  empty-met : (a b : PExpr) → IsOldExpr old a → IsOldExpr old b → IsMetBut (site s (must_not_be_empty a b)) → IsMetBut (site t (must_not_be_empty a b))
  empty-met a b o p h = record {
    known = refl;
    matched = refl;
    static = refl;
    ranged = empty-too (ap (empty_range s a b) (kind-same old s t n a o) ∙ empty-same a b (kind_of t a) o p) h.ranged;
    variable = refl;
    readable = refl;
    counted = refl;
    chosen = refl;
    arrays = refl;
    texts = refl;
    exceptions = refl;
  }

  out-same : (e : PExpr) (r : Option Range) → IsOldExpr old e → out_of s e r ≡ out_of t e r
  out-same e (Some r) o = ap (λ z. if is_outside r z then expr_place e ∷ [] else []) (static-in-same old s t n r.kind e o)
  out-same e None o = refl

  lie-met : (e : PExpr) (r : Option Range) → IsOldExpr old e → IsMetBut (site s (must_lie_in e r)) → IsMetBut (site t (must_lie_in e r))
  lie-met e r o h = record {
    known = refl;
    matched = refl;
    static = refl;
    ranged = empty-too (out-same e r o) h.ranged;
    variable = refl;
    readable = refl;
    counted = refl;
    chosen = refl;
    arrays = refl;
    texts = refl;
    exceptions = refl;
  }

  -- ---- what is written

  target-met : (w : Word) (i : Option PExpr) → old w.name.0 ≡ true → IfSome i (IsOldExpr old) →
      IsMetBut (site s (writes record { name = w; index = i })) → IsMetBut (site t (writes record { name = w; index = i }))
  target-met w None o p h =
      let r = read-same old s t n w.name o in
      ⊎_elim
      (λ (f : SameFace s.types t.types (meaning s w.name) (meaning t w.name)). record {
        known = ap (λ x. if x then [] else w.span ∷ []) (sym f.seen) ∙ h.known;
        matched = refl;
        static = refl;
        ranged = refl;
        variable = empty-too (ap₂ (λ x y. whole_written x y w.span) (array-same s.types t.types (reading s w.name) (reading t w.name) r) f.variable) h.variable;
        readable = refl;
        counted = refl;
        chosen = refl;
        arrays = empty-too (whole-same s.types t.types (reading s w.name) (reading t w.name) w.span r) h.arrays;
        texts = refl;
        exceptions = refl;
      })
      (λ (x : AreNoValues (meaning s w.name) (meaning t w.name)). no-variable-there s.types (meaning s w.name) w.span w.span x.left h.known h.variable)
      (face old s t n w.name o)
  target-met w (Some e) o p h =
      let r = read-same old s t n w.name o in
      ⊎_elim
      (λ (f : SameFace s.types t.types (meaning s w.name) (meaning t w.name)). record {
        known = ap (λ x. if x then [] else w.span ∷ []) (sym f.seen) ∙ h.known;
        matched = empty-too (misfit-same old s t n (reading s w.name) (reading t w.name) e p r) h.matched;
        static = refl;
        ranged = refl;
        variable = empty-too (ap (λ x. unless x w.span) f.variable) h.variable;
        readable = refl;
        counted = empty-too (index-same s.types t.types (reading s w.name) (reading t w.name) w.span r) h.counted;
        chosen = refl;
        arrays = refl;
        texts = refl;
        exceptions = refl;
      })
      (λ (x : AreNoValues (meaning s w.name) (meaning t w.name)). no-variable-at (meaning s w.name) w.span w.span x.left h.known h.variable)
      (face old s t n w.name o)

  gets-met : (x : PTarget) → IsOldTarget old x → IsMetBut (site s (gets x)) → IsMetBut (site t (gets x))
  gets-met x o h = record {
    known = refl;
    matched = empty-too (ap (λ k. if is_other_kind (Some integer_kind) k then x.name.span ∷ [] else []) (target-same old s t n x o)) h.matched;
    static = refl;
    ranged = refl;
    variable = refl;
    readable = refl;
    counted = refl;
    chosen = refl;
    arrays = refl;
    texts = refl;
    exceptions = refl;
  }

  actual-name : (mode : ParMode) (id : NameId) (sp : Span) → old id.0 ≡ true → IsMetBut (site s (is_actual mode (EName id sp))) → IsMetBut (site t (is_actual mode (EName id sp)))
  actual-name mode id sp o h =
      let r = read-same old s t n id o in
      ⊎_elim
      (λ (f : SameFace s.types t.types (meaning s id) (meaning t id)). record {
        known = ap (λ x. if x then [] else sp ∷ []) (sym f.seen) ∙ h.known;
        matched = refl;
        static = refl;
        ranged = refl;
        variable = empty-too (ap₂ (λ x y. whole_written x y sp) (array-same s.types t.types (reading s id) (reading t id) r) f.variable) h.variable;
        readable = by_mode mode f h.readable;
        counted = refl;
        chosen = refl;
        arrays = empty-too (whole-same s.types t.types (reading s id) (reading t id) sp r) h.arrays;
        texts = refl;
        exceptions = refl;
      })
      (λ (x : AreNoValues (meaning s id) (meaning t id)). no-variable-there s.types (meaning s id) sp sp x.left h.known h.variable)
      (face old s t n id o)
    where
      by_mode : (m : ParMode) → SameFace s.types t.types (meaning s id) (meaning t id) → read_out s (is_actual m (EName id sp)) ≡ [] → read_out t (is_actual m (EName id sp)) ≡ []
      by_mode Take f g = refl
      by_mode Give f g = refl
      by_mode Both f g = empty-too (f.out sp) g

  actual-met : (mode : ParMode) (e : PExpr) → IsOldExpr old e → IsMetBut (site s (is_actual mode e)) → IsMetBut (site t (is_actual mode e))
  actual-met mode (EName id sp) o h = actual-name mode id sp o h
  actual-met mode (EInteger z sp) o h = absurd (not_empty _ _ h.variable)
  actual-met mode (EIndex w e sp) o h = absurd (not_empty _ _ h.variable)
  actual-met mode (EAttribute m w sp) o h = absurd (not_empty _ _ h.variable)
  actual-met mode (EAttributeOf m w e sp) o h = absurd (not_empty _ _ h.variable)
  actual-met mode (EParen e sp) o h = absurd (not_empty _ _ h.variable)
  actual-met mode (EUnary op e sp) o h = absurd (not_empty _ _ h.variable)
  actual-met mode (EBinary op l r sp) o h = absurd (not_empty _ _ h.variable)

  -- ---- marks, exceptions and cases

  mark-met : (u : MarkUse) (w : Word) → old w.name.0 ≡ true → (not (allows_task u) || is_no_task (marking s w.name)) ≡ true →
      IsMetBut (site s (stands_as_mark u w)) → IsMetBut (site t (stands_as_mark u w))
  mark-met u w o free h =
      ⊎_elim
      (λ (f : SameFace s.types t.types (meaning s w.name) (meaning t w.name)). record {
        known = ap (λ x. if x then [] else w.span ∷ []) (sym f.seen) ∙ h.known;
        matched = empty-too (ap (λ x. if x then [] else w.span ∷ []) (f.allowed u)) h.matched;
        static = refl;
        ranged = refl;
        variable = refl;
        readable = refl;
        counted = refl;
        chosen = refl;
        arrays = refl;
        texts = refl;
        exceptions = refl;
      })
      (λ (x : AreNoValues (meaning s w.name) (meaning t w.name)). no-type-there s.types (meaning s w.name) w.span w.span u x.left free h.known h.matched)
      (face old s t n w.name o)

  exception-met : (w : Word) → old w.name.0 ≡ true → IsMetBut (site s (names_exception w)) → IsMetBut (site t (names_exception w))
  exception-met w o h =
      ⊎_elim
      (λ (f : SameFace s.types t.types (meaning s w.name) (meaning t w.name)). record {
        known = ap (λ x. if x then [] else w.span ∷ []) (sym f.seen) ∙ h.known;
        matched = refl;
        static = refl;
        ranged = refl;
        variable = refl;
        readable = refl;
        counted = refl;
        chosen = refl;
        arrays = refl;
        texts = refl;
        exceptions = empty-too (f.exception w) h.exceptions;
      })
      (λ (x : AreNoValues (meaning s w.name) (meaning t w.name)). no-exception-there (meaning s w.name) w x.left h.known h.exceptions)
      (face old s t n w.name o)

  case-met : (e : PExpr) (cs : List PChoice) (others : Bool) (sp : Span) → IsOldExpr old e → AllByRecursion (IsOldChoice old) cs →
      IsMetBut (site s (chooses e cs others sp)) → IsMetBut (site t (chooses e cs others sp))
  case-met e cs others sp o c h = record {
    known = refl;
    matched = refl;
    static = refl;
    ranged = refl;
    variable = refl;
    readable = refl;
    counted = refl;
    chosen = empty-too (bad-same old s t n (kind_of s e) e cs others sp o refl c ∙ ap (λ k. bad_choices t k e cs others sp) (kind-same old s t n e o)) h.chosen;
    arrays = refl;
    texts = refl;
    exceptions = refl;
  }

  -- ---- all but accepts

  -- a demand of old names that is no accept
  abbrev pub IsPlainDemand : Demand → Type 0
  IsPlainDemand (accepts h) = ⊥
  IsPlainDemand x = IsOldDemand old s x

  pub names-refuse-same : (x : Demand) → IsPlainDemand x → IsMetBut (site s x) → IsMetBut (site t x)
  names-refuse-same (stands_as_mark u w) o h = mark-met u w o.0 o.1 h
  names-refuse-same (whole e) o h = whole-met old s t n e o h
  names-refuse-same (node b e) o h = node-met old s t n b e o h
  names-refuse-same (must_be_of e k) o h = of-met e k o h
  names-refuse-same (must_be_alike x y) o h = alike-met x y o.0 o.1 h
  names-refuse-same (must_be_static e) o h = static-met e o h
  names-refuse-same (must_not_be_empty x y) o h = empty-met x y o.0 o.1 h
  names-refuse-same (must_lie_in e r) o h = lie-met e r o h
  names-refuse-same (writes x) o h = target-met x.name x.index o.0 o.1 h
  names-refuse-same (gets x) o h = gets-met x o h
  names-refuse-same (is_actual mode e) o h = actual-met mode e o h
  names-refuse-same (accepts x) o h = absurd o
  names-refuse-same (names_exception w) o h = exception-met w o h
  names-refuse-same (chooses e cs others sp) o h = case-met e cs others sp o.0 o.1 h
  names-refuse-same (declares fixed w) o h = record { known = refl; matched = refl; static = refl; ranged = refl; variable = refl; readable = refl; counted = refl; chosen = refl; arrays = refl; texts = refl; exceptions = refl }
  names-refuse-same (declares_entry names w) o h = record { known = refl; matched = refl; static = refl; ranged = refl; variable = refl; readable = refl; counted = refl; chosen = refl; arrays = refl; texts = refl; exceptions = refl }
  names-refuse-same (labels w) o h = record { known = refl; matched = refl; static = refl; ranged = refl; variable = refl; readable = refl; counted = refl; chosen = refl; arrays = refl; texts = refl; exceptions = refl }
  names-refuse-same (makes_instance w) o h = record { known = refl; matched = refl; static = refl; ranged = refl; variable = refl; readable = refl; counted = refl; chosen = refl; arrays = refl; texts = refl; exceptions = refl }
  names-refuse-same (handles names w) o h = record { known = refl; matched = refl; static = refl; ranged = refl; variable = refl; readable = refl; counted = refl; chosen = refl; arrays = refl; texts = refl; exceptions = refl }
  names-refuse-same (initializes what value) o h = record { known = refl; matched = refl; static = refl; ranged = refl; variable = refl; readable = refl; counted = refl; chosen = refl; arrays = h.arrays; texts = refl; exceptions = refl }
  names-refuse-same (is_written alone e) o h = record { known = refl; matched = refl; static = refl; ranged = refl; variable = refl; readable = refl; counted = refl; chosen = refl; arrays = refl; texts = h.texts; exceptions = refl }
  names-refuse-same (gives_body w) o h = absurd o
  names-refuse-same (addresses c) o h = absurd o
  names-refuse-same (calls c) o h = absurd o

-- ---- accepts

-- an accept of an entry that both tasks have alike
pub accept-met : (s t : Scope) (h : PHead) → entry_named s.own h.entry.name ≡ entry_named t.own h.entry.name → is_some (entry_named s.own h.entry.name) ≡ true →
    IsMetBut (site s (accepts h)) → IsMetBut (site t (accepts h))
accept-met s t h e i m = record {
  known = ap (λ b. if b || is_entry_somewhere t h.entry.name then [] else h.entry.span ∷ []) (ap is_some (sym e) ∙ i);
  matched = refl;
  static = refl;
  ranged = refl;
  variable = refl;
  readable = refl;
  counted = empty-too (ap (λ x. wrong_accept x h) e) m.counted;
  chosen = refl;
  arrays = refl;
  texts = refl;
  exceptions = refl;
}

-- ---- the law

pub alike_refuses_same : AlikeRefusesSame
alike_refuses_same old s t a (stands_as_mark u w) o h = mark-met old s t a.names u w o.0 o.1 h
alike_refuses_same old s t a (whole e) o h = whole-met old s t a.names e o h
alike_refuses_same old s t a (node b e) o h = node-met old s t a.names b e o h
alike_refuses_same old s t a (must_be_of e k) o h = of-met old s t a.names e k o h
alike_refuses_same old s t a (must_be_alike x y) o h = alike-met old s t a.names x y o.0 o.1 h
alike_refuses_same old s t a (must_be_static e) o h = static-met old s t a.names e o h
alike_refuses_same old s t a (must_not_be_empty x y) o h = empty-met old s t a.names x y o.0 o.1 h
alike_refuses_same old s t a (must_lie_in e r) o h = lie-met old s t a.names e r o h
alike_refuses_same old s t a (writes x) o h = target-met old s t a.names x.name x.index o.0 o.1 h
alike_refuses_same old s t a (gets x) o h = gets-met old s t a.names x o h
alike_refuses_same old s t a (is_actual mode e) o h = actual-met old s t a.names mode e o h
alike_refuses_same old s t a (accepts x) o h = accept-met s t x (a.own x.entry.name o.0) o.1 h
alike_refuses_same old s t a (names_exception w) o h = exception-met old s t a.names w o h
alike_refuses_same old s t a (chooses e cs others sp) o h = case-met old s t a.names e cs others sp o.0 o.1 h
alike_refuses_same old s t a (declares fixed w) o h = record { known = refl; matched = refl; static = refl; ranged = refl; variable = refl; readable = refl; counted = refl; chosen = refl; arrays = refl; texts = refl; exceptions = refl }
alike_refuses_same old s t a (declares_entry names w) o h = record { known = refl; matched = refl; static = refl; ranged = refl; variable = refl; readable = refl; counted = refl; chosen = refl; arrays = refl; texts = refl; exceptions = refl }
alike_refuses_same old s t a (labels w) o h = record { known = refl; matched = refl; static = refl; ranged = refl; variable = refl; readable = refl; counted = refl; chosen = refl; arrays = refl; texts = refl; exceptions = refl }
alike_refuses_same old s t a (makes_instance w) o h = record { known = refl; matched = refl; static = refl; ranged = refl; variable = refl; readable = refl; counted = refl; chosen = refl; arrays = refl; texts = refl; exceptions = refl }
alike_refuses_same old s t a (handles names w) o h = record { known = refl; matched = refl; static = refl; ranged = refl; variable = refl; readable = refl; counted = refl; chosen = refl; arrays = refl; texts = refl; exceptions = refl }
alike_refuses_same old s t a (initializes what value) o h = record { known = refl; matched = refl; static = refl; ranged = refl; variable = refl; readable = refl; counted = refl; chosen = refl; arrays = h.arrays; texts = refl; exceptions = refl }
alike_refuses_same old s t a (is_written alone e) o h = record { known = refl; matched = refl; static = refl; ranged = refl; variable = refl; readable = refl; counted = refl; chosen = refl; arrays = refl; texts = h.texts; exceptions = refl }
alike_refuses_same old s t a (gives_body w) o h = absurd o
alike_refuses_same old s t a (addresses c) o h = absurd o
alike_refuses_same old s t a (calls c) o h = absurd o
