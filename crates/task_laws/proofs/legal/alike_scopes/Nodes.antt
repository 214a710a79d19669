-- Where old names mean the same, a part of an expression and a whole expression that are met in one scope are met in the other.
use Rattle.std.proofs.Common.{◌≡◌, ℕ, Bool, true, ◌&&◌, if◌then◌else◌, List, [], ◌∷◌, ◌++◌, Option, Some, None, is_some, ◌⊎◌, ⊎_elim, refl, sym, ap, ap₂, ◌∙◌}
use Rattle.common_lemmas.proofs.Lists.{front_empty}
use Rattle.ada_tree.specs.declared.naming.NameId.{NameId}
use Rattle.ada_tree.specs.declared.naming.Span.{Span}
use Rattle.ada_tree.specs.declared.naming.Word.{Word}
use Rattle.ada_tree.specs.PlainExpr.{PExpr, EInteger, EName, EIndex, EAttribute, EAttributeOf, EParen, EUnary, EBinary}
use Rattle.ada_tree.specs.Attributes.{Attribute, attribute_of, is_function}
use Rattle.ada_static_rules.specs.Scope.{Scope, Reading, reading, marking, scalar_kind, meaning}
use Rattle.ada_static_rules.specs.StaticValue.{value_of}
use Rattle.ada_static_rules.specs.ExprTypes.{expr_place, takes, takes_one, argument_kind, is_other_kind}
use Rattle.ada_static_rules.specs.Demand.{scalar_only, node, whole}
use Rattle.ada_static_rules.specs.Sites.{site}
use Rattle.ada_static_rules.specs.RuleUnknown.{unknown, no_attribute}
use Rattle.ada_static_rules.specs.RuleMismatch.{mismatch, of_other_kind, no_value, misfit_index, wrong_mark, misfit_argument, is_misfit, misfit_operand}
use Rattle.ada_static_rules.specs.RuleReadOut.{read_out}
use Rattle.ada_static_rules.specs.RuleArgCount.{arg_count}
use Rattle.ada_static_rules.specs.RuleArrayUse.{array_use}
use Rattle.ada_static_rules.specs.RuleTextUse.{text_use}
use Rattle.ada_static_rules.specs.RuleRangeBad.{is_fixed, raised, raises}
use Rattle.task_laws.specs.legal.alike_scopes.Alike.{SameNames}
use Rattle.task_laws.specs.legal.alike_scopes.Old.{IsOldExpr}
use Rattle.task_laws.specs.legal.alike_scopes.Laws.{IsMetBut}
use Rattle.task_laws.proofs.legal.alike_scopes.Readings.{SameReading, both_scalar, both_rows, both_nothing, both_unclear, IsNothing, is_no_value, is_unknown}
use Rattle.task_laws.proofs.legal.alike_scopes.Exprs.{read-same, mark-kind-same, kind-same, expr-same}
use Rattle.task_laws.proofs.legal.alike_scopes.Faces.{SameFace, AreNoValues, face-same, index-same, whole-same, no-value-there, no-type-there, unless_seen}

-- what is empty on one side is so on the other
pub empty-too : {xs ys : List Span} → xs ≡ ys → xs ≡ [] → ys ≡ []
empty-too e h = sym e ∙ h

nothing-misfit : (s : Scope) (r : Reading) (e : PExpr) → IsNothing r → misfit_index s r e ≡ []
nothing-misfit s r e (is_no_value f) = ap (λ x. misfit_index s x e) f
nothing-misfit s r e (is_unknown f) = ap (λ x. misfit_index s x e) f

-- the place of a mark that may not stand there
abbrev marked_wrong : Bool → Span → List Span
marked_wrong b sp = if b then [] else sp ∷ []

module _ (old : ℕ → Bool) (s t : Scope) (n : SameNames old s t) where
  -- what the rules see of an old name
  pub face : (id : NameId) → old id.0 ≡ true → SameFace s.types t.types (meaning s id) (meaning t id) ⊎ AreNoValues (meaning s id) (meaning t id)
  face id o = face-same s.types t.types n.types.kinds (meaning s id) (meaning t id) (n.things id o)

  pub other-same : (k : Option ℕ) (e : PExpr) → IsOldExpr old e → of_other_kind s k e ≡ of_other_kind t k e
  other-same k e o = ap (λ j. if is_other_kind k j then expr_place e ∷ [] else []) (kind-same old s t n e o)

  pub misfit-same : (r q : Reading) (e : PExpr) → IsOldExpr old e → SameReading s.types t.types r q → misfit_index s r e ≡ misfit_index t q e
  misfit-same r q e o (both_scalar k h f g) = ap (λ x. misfit_index s x e) f ∙ sym (ap (λ x. misfit_index t x e) g)
  misfit-same r q e o (both_rows index part part' h f g) = ap (λ x. misfit_index s x e) f ∙ other-same (Some index) e o ∙ sym (ap (λ x. misfit_index t x e) g)
  misfit-same r q e o (both_nothing x y) = nothing-misfit s r e x ∙ sym (nothing-misfit t q e y)
  misfit-same r q e o (both_unclear f g) = ap (λ x. misfit_index s x e) f ∙ sym (ap (λ x. misfit_index t x e) g)

  argument-same : (a : Attribute) (k : Option ℕ) (e : PExpr) → IsOldExpr old e → misfit_argument s a k e ≡ misfit_argument t a k e
  argument-same a (Some k) e o = ap (λ x. if is_function a then x else []) (other-same (Some (argument_kind a k)) e o)
  argument-same a None e o = refl

  -- ---- parts of expressions

  -- of a part six rules ask something of the scope
  noded : (b : Bool) (e : PExpr) → unknown t (node b e) ≡ [] → mismatch t (node b e) ≡ [] → read_out t (node b e) ≡ [] → arg_count t (node b e) ≡ [] → array_use t (node b e) ≡ [] → text_use t (node b e) ≡ [] →
      IsMetBut (site t (node b e))
  noded b e known matched readable counted arrays texts = record {
    known = known;
    matched = matched;
    static = refl;
    ranged = refl;
    variable = refl;
    readable = readable;
    counted = counted;
    chosen = refl;
    arrays = arrays;
    texts = texts;
    exceptions = refl;
  }

  name-met : (b : Bool) (id : NameId) (sp : Span) → old id.0 ≡ true → IsMetBut (site s (node b (EName id sp))) → IsMetBut (site t (node b (EName id sp)))
  name-met b id sp o h =
      ⊎_elim
      (λ (f : SameFace s.types t.types (meaning s id) (meaning t id)). noded b (EName id sp)
      (ap (λ x. if x then [] else sp ∷ []) (sym f.seen) ∙ h.known)
      (empty-too (f.value sp) h.matched) (empty-too (f.out sp) h.readable)
      refl
      (empty-too (whole-same s.types t.types (reading s id) (reading t id) sp (read-same old s t n id o)) h.arrays)
      h.texts)
      (λ (x : AreNoValues (meaning s id) (meaning t id)). no-value-there s.types (meaning s id) sp sp x.left h.known h.matched)
      (face id o)

  index-met : (b : Bool) (w : Word) (e : PExpr) (sp : Span) → old w.name.0 ≡ true → IsOldExpr old e → IsMetBut (site s (node b (EIndex w e sp))) → IsMetBut (site t (node b (EIndex w e sp)))
  index-met b w e sp o p h =
      let r = read-same old s t n w.name o in
      ⊎_elim
      (λ (f : SameFace s.types t.types (meaning s w.name) (meaning t w.name)). noded b (EIndex w e sp)
      (ap (λ x. if x then [] else w.span ∷ []) (sym f.seen) ∙ h.known)
      (empty-too (ap₂ (λ x y. x ++ y) (f.value w.span) (misfit-same (reading s w.name) (reading t w.name) e p r)) h.matched)
      refl
      (empty-too (index-same s.types t.types (reading s w.name) (reading t w.name) w.span r) h.counted)
      refl h.texts)
      (λ (x : AreNoValues (meaning s w.name) (meaning t w.name)).
      no-value-there s.types (meaning s w.name) w.span w.span x.left h.known (front_empty (no_value (reading s w.name) w.span) (misfit_index s (reading s w.name) e) h.matched))
      (face w.name o)

  attribute-met : (b : Bool) (m w : Word) (sp : Span) → old m.name.0 ≡ true → IsMetBut (site s (node b (EAttribute m w sp))) → IsMetBut (site t (node b (EAttribute m w sp)))
  attribute-met b m w sp o h =
      ⊎_elim
      (λ (f : SameFace s.types t.types (meaning s m.name) (meaning t m.name)). noded b (EAttribute m w sp)
      (empty-too (ap (λ x. (if x then [] else m.span ∷ []) ++ no_attribute (attribute_of w.name) w.span) f.seen) h.known)
      (empty-too (ap (λ x. marked_wrong x m.span) (f.allowed scalar_only)) h.matched)
      refl h.counted refl h.texts)
      (λ (x : AreNoValues (meaning s m.name) (meaning t m.name)).
      no-type-there s.types (meaning s m.name) m.span m.span scalar_only x.left refl (front_empty (unless_seen (meaning s m.name) m.span) (no_attribute (attribute_of w.name) w.span) h.known) h.matched)
      (face m.name o)

  function-met : (b : Bool) (m w : Word) (e : PExpr) (sp : Span) → old m.name.0 ≡ true → IsOldExpr old e →
      IsMetBut (site s (node b (EAttributeOf m w e sp))) → IsMetBut (site t (node b (EAttributeOf m w e sp)))
  function-met b m w e sp o p h =
      let argument =
      ap (λ k. misfit_argument s (attribute_of w.name) k e) (mark-kind-same old s t n m.name o) ∙ argument-same (attribute_of w.name) (scalar_kind (marking t m.name)) e p in
      ⊎_elim
      (λ (f : SameFace s.types t.types (meaning s m.name) (meaning t m.name)). noded b (EAttributeOf m w e sp)
      (empty-too (ap (λ x. (if x then [] else m.span ∷ []) ++ no_attribute (attribute_of w.name) w.span) f.seen) h.known)
      (empty-too (ap₂ (λ x y. marked_wrong x m.span ++ y) (f.allowed scalar_only) argument) h.matched)
      refl h.counted refl h.texts)
      (λ (x : AreNoValues (meaning s m.name) (meaning t m.name)).
      no-type-there s.types (meaning s m.name) m.span m.span scalar_only x.left refl
      (front_empty (unless_seen (meaning s m.name) m.span) (no_attribute (attribute_of w.name) w.span) h.known)
      (front_empty (wrong_mark scalar_only s m) (misfit_argument s (attribute_of w.name) (scalar_kind (marking s m.name)) e) h.matched))
      (face m.name o)

  pub node-met : (b : Bool) (e : PExpr) → IsOldExpr old e → IsMetBut (site s (node b e)) → IsMetBut (site t (node b e))
  node-met b (EName id sp) o h = name-met b id sp o h
  node-met b (EIndex w e sp) o h = index-met b w e sp o.0 o.1 h
  node-met b (EAttribute m w sp) o h = attribute-met b m w sp o h
  node-met b (EAttributeOf m w e sp) o h = function-met b m w e sp o.0 o.1 h
  node-met b (EInteger z sp) o h = noded b (EInteger z sp) refl refl refl refl refl h.texts
  node-met b (EParen e sp) o h = noded b (EParen e sp) refl refl refl refl refl h.texts
  node-met b (EUnary op e sp) o h = noded b (EUnary op e sp)
      refl
      (empty-too (ap (λ k. if is_misfit (takes_one op) k then expr_place e ∷ [] else []) (kind-same old s t n e o)) h.matched)
      refl refl refl h.texts
  node-met b (EBinary op l r sp) o h = noded b (EBinary op l r sp)
      refl
      (empty-too (ap₂ (λ j k. misfit_operand (takes op) j k l r) (kind-same old s t n l o.0) (kind-same old s t n r o.1)) h.matched)
      refl refl refl h.texts

  -- ---- whole expressions

  -- static or not
  pub fixed-same : (e : PExpr) → IsOldExpr old e → is_fixed s e ≡ is_fixed t e
  fixed-same e o = let x = expr-same old s t n e o in ap₂ (λ k b. is_some k && b) x.kind x.static

  -- the operation that raises, in the expression or in a part of it
  raised-in : (e : PExpr) → IsOldExpr old e → (xs ys : List Span) → xs ≡ ys →
      (if is_fixed s e then raised (value_of s.types e) else xs) ≡ (if is_fixed t e then raised (value_of t.types e) else ys)
  raised-in e o xs ys h =
      let x = expr-same old s t n e o in
      ap (λ b. if b then raised (value_of s.types e) else xs) (fixed-same e o) ∙ ap₂ (λ v zs. if is_fixed t e then raised v else zs) x.value h

  pub raises-same : (e : PExpr) → IsOldExpr old e → raises s e ≡ raises t e
  raises-same (EInteger z sp) o = refl
  raises-same (EName id sp) o = refl
  raises-same (EIndex w e sp) o = raises-same e o.1
  raises-same (EAttribute m w sp) o = refl
  raises-same (EAttributeOf m w e sp) o = raised-in (EAttributeOf m w e sp) o (raises s e) (raises t e) (raises-same e o.1)
  raises-same (EParen e sp) o = raises-same e o
  raises-same (EUnary op e sp) o = raised-in (EUnary op e sp) o (raises s e) (raises t e) (raises-same e o)
  raises-same (EBinary op l r sp) o =
      raised-in (EBinary op l r sp) o (raises s l ++ raises s r) (raises t l ++ raises t r) (ap₂ (λ x y. x ++ y) (raises-same l o.0) (raises-same r o.1))

  pub whole-met : (e : PExpr) → IsOldExpr old e → IsMetBut (site s (whole e)) → IsMetBut (site t (whole e))
  whole-met e o h = record {
    known = refl;
    matched = refl;
    static = refl;
    ranged = empty-too (raises-same e o) h.ranged;
    variable = refl;
    readable = refl;
    counted = refl;
    chosen = refl;
    arrays = refl;
    texts = refl;
    exceptions = refl;
  }
