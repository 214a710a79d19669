-- In a scope with more names an expression of old names has the same kind and the same static value, and types are made in the same way.
use Rattle.std.proofs.Common.{◌≡◌, ℕ, Bool, true, ◌&&◌, if◌then◌else◌, Option, Some, None, IfSome, refl, sym, ap, ap₂, ◌∙◌}
use Rattle.ada_tree.specs.declared.naming.NameId.{NameId}
use Rattle.ada_tree.specs.PlainExpr.{PExpr, EInteger, EName, EIndex, EAttribute, EAttributeOf, EParen, EUnary, EBinary, PBounds, PSubind, PDrange, RGiven, RMarked}
use Rattle.ada_tree.specs.PlainDecl.{PShape, OPlain, OArray}
use Rattle.ada_tree.specs.PlainProgram.{PProgram}
use Rattle.ada_tree.specs.Attributes.{attribute_of}
use Rattle.ada_static_rules.specs.StaticValue.{is_static, value_of}
use Rattle.ada_static_rules.specs.Scope.{Scope, Marking, ScalarMark, ArrayMark, TaskMark, NoMark, UnknownMark, UnclearMark, and_then, meaning, reading, reading_of, marking, marking_of, scalar_kind, range_of_mark}
use Rattle.ada_static_rules.specs.ExprTypes.{kind_of, name_kind, component_kind, bound_kind, attribute_kind, unary_kind, binary_kind, takes, takes_one, is_kind, ok_value, static_in, range_between, static_range}
use Rattle.ada_static_rules.specs.Declaring.{Made, made_range, made_array, made_subind, subind_made, given_range, marked_range, drange_range, object_meaning, of_made, task_object, task_array, plain_object, array_object, declared_object}
use Rattle.task_laws.specs.legal.alike_scopes.Old.{IsOldExpr, IsOldBounds, IsOldSubind, IsOldDrange, IsOldShape}
use Rattle.replay_structure.specs.scopes.More.{IsGrown, stays, doubled, IsMore}

module _ (q : PProgram) (old : ℕ → Bool) (c d : Scope) (more : IsMore q old c d) where
  same-types : c.types ≡ d.types
  same-types = sym more.types

  -- ---- names

  pub reading-same : (id : NameId) → old id.0 ≡ true → reading c id ≡ reading d id
  reading-same id o = by_grown (more.things id o)
    where
      by_grown : IsGrown q old (meaning c id) (meaning d id) → reading c id ≡ reading d id
      by_grown (stays e n) = ap₂ reading_of same-types (sym e)
      by_grown (doubled entries e h) = ap (reading_of c.types) e ∙ sym (ap (reading_of d.types) h.doubles.means)

  pub marking-same : (id : NameId) → old id.0 ≡ true → marking c id ≡ marking d id
  marking-same id o = by_grown (more.things id o)
    where
      by_grown : IsGrown q old (meaning c id) (meaning d id) → marking c id ≡ marking d id
      by_grown (stays e n) = ap₂ marking_of same-types (sym e)
      by_grown (doubled entries e h) = ap (marking_of c.types) e ∙ sym (ap (marking_of d.types) h.doubles.means)

  -- ---- expressions

  kind-same : (e : PExpr) → IsOldExpr old e → kind_of c e ≡ kind_of d e
  kind-same (EInteger n s) o = refl
  kind-same (EName id s) o = ap name_kind (reading-same id o)
  kind-same (EIndex w e s) o =
      ap₂ (component_kind c.types) (reading-same w.name o.0) (kind-same e o.1) ∙ ap (λ T. component_kind T (reading d w.name) (kind_of d e)) same-types
  kind-same (EAttribute m w s) o = ap (λ x. and_then (bound_kind (attribute_of w.name)) (scalar_kind x)) (marking-same m.name o)
  kind-same (EAttributeOf m w e s) o = ap₂ (λ x k. attribute_kind (attribute_of w.name) (scalar_kind x) k) (marking-same m.name o.0) (kind-same e o.1)
  kind-same (EParen e s) o = kind-same e o
  kind-same (EUnary op e s) o = ap (unary_kind (takes_one op)) (kind-same e o)
  kind-same (EBinary op l r s) o = ap₂ (binary_kind (takes op)) (kind-same l o.0) (kind-same r o.1)

  static-same : (k : ℕ) (e : PExpr) → IsOldExpr old e → static_in c k e ≡ static_in d k e
  static-same k e o = ap₂ (λ x T. if is_kind k x && is_static T e then ok_value (value_of T e) else None) (kind-same e o) same-types

  bounds-same : (k : ℕ) (b : PBounds) → IsOldBounds old b → static_range c k b ≡ static_range d k b
  bounds-same k b o = ap₂ (range_between k) (static-same k b.first o.0) (static-same k b.last o.1)

  -- ---- ranges and subtypes

  pub drange-same : (x : PDrange) → IsOldDrange old x → drange_range c x ≡ drange_range d x
  drange-same (RGiven b) o = ap (λ k. given_range c k b) (kind-same b.first o.0) ∙ by_kind (kind_of d b.first)
    where
      by_kind : (k : Option ℕ) → given_range c k b ≡ given_range d k b
      by_kind None = refl
      by_kind (Some k) = bounds-same k b o
  drange-same (RMarked x) o = ap (λ m. marked_range c m x.bounds) (marking-same x.mark.name o.0) ∙ by_marking (marking d x.mark.name) x.bounds o.1
    where
      by_marking : (m : Marking) (b : Option PBounds) → IfSome b (IsOldBounds old) → marked_range c m b ≡ marked_range d m b
      by_marking (ScalarMark m k) None i = ap (λ T. range_of_mark T m) same-types
      by_marking (ScalarMark m k) (Some b) i = bounds-same k b i
      by_marking (ArrayMark m range part) b i = refl
      by_marking (TaskMark entries) b i = refl
      by_marking NoMark b i = refl
      by_marking UnknownMark b i = refl
      by_marking UnclearMark b i = refl

  subind-same : (x : PSubind) → IsOldSubind old x → made_subind c x ≡ made_subind d x
  subind-same x o = ap (λ m. subind_made c m x.bounds) (marking-same x.mark.name o.0) ∙ by_marking (marking d x.mark.name) x.bounds o.1
    where
      by_marking : (m : Marking) (b : Option PBounds) → IfSome b (IsOldBounds old) → subind_made c m b ≡ subind_made d m b
      by_marking (ScalarMark m k) None i = ap (λ T. record { types = T; mark = Some m }) same-types
      by_marking (ScalarMark m k) (Some b) i = ap₂ made_range same-types (bounds-same k b i)
      by_marking (ArrayMark m range part) b i = ap (λ T. record { types = T; mark = None }) same-types
      by_marking (TaskMark entries) b i = ap (λ T. record { types = T; mark = None }) same-types
      by_marking NoMark b i = ap (λ T. record { types = T; mark = None }) same-types
      by_marking UnknownMark b i = ap (λ T. record { types = T; mark = None }) same-types
      by_marking UnclearMark b i = ap (λ T. record { types = T; mark = None }) same-types

  -- ---- objects

  same-main : c.in_main ≡ d.in_main
  same-main = sym more.main

  -- what an object declaration of old types declares, and the types that it leaves
  pub declared-same : (constant : Bool) (shape : PShape) → IsOldShape old shape → declared_object c constant shape ≡ declared_object d constant shape
  declared-same constant (OPlain x) o = ap (λ m. plain_object c constant m x) (marking-same x.mark.name o.0) ∙ by_marking (marking d x.mark.name)
    where
      made : of_made constant (made_subind c x) ≡ of_made constant (made_subind d x)
      made = ap (of_made constant) (subind-same x o)

      by_marking : (m : Marking) → plain_object c constant m x ≡ plain_object d constant m x
      by_marking (TaskMark entries) = ap₂ (λ T b. record { types = T; thing = task_object b entries }) same-types same-main
      by_marking (ArrayMark m range part) = ap (λ T. record { types = T; thing = object_meaning constant (Some m) }) same-types
      by_marking (ScalarMark m k) = made
      by_marking NoMark = made
      by_marking UnknownMark = made
      by_marking UnclearMark = made
  declared-same constant (OArray index x) o = ap (λ m. array_object c constant m index x) (marking-same x.mark.name o.1.0) ∙ by_marking (marking d x.mark.name)
    where
      made : of_made constant (made_array None (made_subind c x).types (drange_range c index) (made_subind c x).mark) ≡ of_made constant (made_array None (made_subind d x).types (drange_range d index) (made_subind d x).mark)
      made = ap₂ (λ (m : Made) r. of_made constant (made_array None m.types r m.mark)) (subind-same x o.1) (drange-same index o.0)

      by_marking : (m : Marking) → array_object c constant m index x ≡ array_object d constant m index x
      by_marking (TaskMark entries) =
          ap₂ (λ T b. record { types = T; thing = task_array b (drange_range c index) entries }) same-types same-main
          ∙ ap (λ r. record { types = d.types; thing = task_array d.in_main r entries }) (drange-same index o.0)
      by_marking (ArrayMark m range part) = made
      by_marking (ScalarMark m k) = made
      by_marking NoMark = made
      by_marking UnknownMark = made
      by_marking UnclearMark = made
