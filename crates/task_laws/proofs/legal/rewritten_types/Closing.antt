-- Two scopes with one table in which each name means the same, where it means a value or a type: expressions, ranges and subtype indications are the
-- same in both.
use Rattle.std.proofs.Common.{◌≡◌, ℕ, ◌&&◌, if◌then◌else◌, Option, Some, None, refl, sym, ap, ap₂, ◌∙◌}
use Rattle.ada_tree.specs.declared.naming.NameId.{NameId}
use Rattle.ada_tree.specs.TypeTable.{TypeTable}
use Rattle.ada_tree.specs.Attributes.{attribute_of}
use Rattle.ada_static_rules.specs.StaticValue.{is_static, value_of}
use Rattle.ada_tree.specs.PlainExpr.{PExpr, EInteger, EName, EIndex, EAttribute, EAttributeOf, EParen, EUnary, EBinary, PBounds, PSubind, PDrange, RGiven, RMarked}
use Rattle.ada_static_rules.specs.Scope.{Scope, Thing, TypeMark, TaskType, SingleTask, TaskObject, TaskArray, Variable, ConstantObject, Parameter, LoopParameter, Literal, AnException, MainProcedure, AnotherUnit, Unclear, Marking, ScalarMark, ArrayMark, TaskMark, NoMark, UnknownMark, UnclearMark, reading_of, reading, marking_of, marking, scalar_kind, range_of_mark, meaning, and_then}
use Rattle.ada_static_rules.specs.ExprTypes.{name_kind, component_kind, bound_kind, attribute_kind, takes, takes_one, unary_kind, binary_kind, kind_of, is_kind, ok_value, static_in, range_between, static_range}
use Rattle.ada_static_rules.specs.Declaring.{made_none, made_range, subind_made, made_subind, given_range, marked_range, drange_range}
use Rattle.task_laws.specs.legal.rewritten_types.Rewriting.{valued}

-- The scopes have one table, both stand in main or both not, and each name means the same, where it means a value or a type.
pub record Close (s s' : Scope) : Type 0 where
  pub types : s.types ≡ s'.types
  pub main : s.in_main ≡ s'.in_main
  pub things : (id : NameId) → valued (meaning s id) ≡ valued (meaning s' id)

pub close-self : (s : Scope) → Close s s
close-self s = record { types = refl; main = refl; things = λ id. refl }

-- ---- readings and markings hang on what is valued alone

-- the kind of a name
kind-valued : (T : TypeTable) (o : Option Thing) → name_kind (reading_of T o) ≡ name_kind (reading_of T (valued o))
kind-valued T (Some (TypeMark m)) = refl
kind-valued T (Some (TaskType entries)) = refl
kind-valued T (Some (SingleTask entries)) = refl
kind-valued T (Some (TaskObject entries)) = refl
kind-valued T (Some (TaskArray r entries)) = refl
kind-valued T (Some (Variable m)) = refl
kind-valued T (Some (ConstantObject m)) = refl
kind-valued T (Some (Parameter mode m)) = refl
kind-valued T (Some (LoopParameter m)) = refl
kind-valued T (Some (Literal k)) = refl
kind-valued T (Some AnException) = refl
kind-valued T (Some MainProcedure) = refl
kind-valued T (Some AnotherUnit) = refl
kind-valued T (Some Unclear) = refl
kind-valued T None = refl

-- that of a component
component-valued : (T : TypeTable) (o : Option Thing) (k : Option ℕ) → component_kind T (reading_of T o) k ≡ component_kind T (reading_of T (valued o)) k
component-valued T (Some (TypeMark m)) k = refl
component-valued T (Some (TaskType entries)) k = refl
component-valued T (Some (SingleTask entries)) k = refl
component-valued T (Some (TaskObject entries)) k = refl
component-valued T (Some (TaskArray r entries)) k = refl
component-valued T (Some (Variable m)) k = refl
component-valued T (Some (ConstantObject m)) k = refl
component-valued T (Some (Parameter mode m)) k = refl
component-valued T (Some (LoopParameter m)) k = refl
component-valued T (Some (Literal n)) k = refl
component-valued T (Some AnException) k = refl
component-valued T (Some MainProcedure) k = refl
component-valued T (Some AnotherUnit) k = refl
component-valued T (Some Unclear) k = refl
component-valued T None k = refl

-- a marking that is none of values counts as none
abbrev pub typed : Marking → Marking
typed (ScalarMark m k) = ScalarMark m k
typed (ArrayMark m r part) = ArrayMark m r part
typed _ = NoMark

pub typed-valued : (T : TypeTable) (o : Option Thing) → typed (marking_of T o) ≡ typed (marking_of T (valued o))
typed-valued T (Some (TypeMark m)) = refl
typed-valued T (Some (TaskType entries)) = refl
typed-valued T (Some (SingleTask entries)) = refl
typed-valued T (Some (TaskObject entries)) = refl
typed-valued T (Some (TaskArray r entries)) = refl
typed-valued T (Some (Variable m)) = refl
typed-valued T (Some (ConstantObject m)) = refl
typed-valued T (Some (Parameter mode m)) = refl
typed-valued T (Some (LoopParameter m)) = refl
typed-valued T (Some (Literal n)) = refl
typed-valued T (Some AnException) = refl
typed-valued T (Some MainProcedure) = refl
typed-valued T (Some AnotherUnit) = refl
typed-valued T (Some Unclear) = refl
typed-valued T None = refl

scalar-typed : (m : Marking) → scalar_kind m ≡ scalar_kind (typed m)
scalar-typed (ScalarMark m k) = refl
scalar-typed (ArrayMark m r part) = refl
scalar-typed (TaskMark entries) = refl
scalar-typed NoMark = refl
scalar-typed UnknownMark = refl
scalar-typed UnclearMark = refl

subind-typed : (s : Scope) (m : Marking) (b : Option PBounds) → subind_made s m b ≡ subind_made s (typed m) b
subind-typed s (ScalarMark m k) b = refl
subind-typed s (ArrayMark m r part) b = refl
subind-typed s (TaskMark entries) b = refl
subind-typed s NoMark b = refl
subind-typed s UnknownMark b = refl
subind-typed s UnclearMark b = refl

range-typed : (s : Scope) (m : Marking) (b : Option PBounds) → marked_range s m b ≡ marked_range s (typed m) b
range-typed s (ScalarMark m k) b = refl
range-typed s (ArrayMark m r part) b = refl
range-typed s (TaskMark entries) b = refl
range-typed s NoMark b = refl
range-typed s UnknownMark b = refl
range-typed s UnclearMark b = refl

-- ---- two close scopes

module _ (s s' : Scope) (close : Close s s') where
  name-alike : (id : NameId) → name_kind (reading s id) ≡ name_kind (reading s' id)
  name-alike id =
      kind-valued s.types (meaning s id)
      ∙ ap (λ o. name_kind (reading_of s.types o)) (close.things id)
      ∙ sym (kind-valued s.types (meaning s' id))
      ∙ ap (λ T. name_kind (reading_of T (meaning s' id))) close.types

  component-alike : (id : NameId) (k : Option ℕ) → component_kind s.types (reading s id) k ≡ component_kind s'.types (reading s' id) k
  component-alike id k =
      component-valued s.types (meaning s id) k
      ∙ ap (λ o. component_kind s.types (reading_of s.types o) k) (close.things id)
      ∙ sym (component-valued s.types (meaning s' id) k)
      ∙ ap (λ T. component_kind T (reading_of T (meaning s' id)) k) close.types

  pub typed-alike : (id : NameId) → typed (marking s id) ≡ typed (marking s' id)
  typed-alike id =
      typed-valued s.types (meaning s id)
      ∙ ap (λ o. typed (marking_of s.types o)) (close.things id)
      ∙ sym (typed-valued s.types (meaning s' id))
      ∙ ap (λ T. typed (marking_of T (meaning s' id))) close.types

  scalar-alike : (id : NameId) → scalar_kind (marking s id) ≡ scalar_kind (marking s' id)
  scalar-alike id = scalar-typed (marking s id) ∙ ap scalar_kind (typed-alike id) ∙ sym (scalar-typed (marking s' id))

  -- the kind of an expression
  pub kind-alike : (e : PExpr) → kind_of s e ≡ kind_of s' e
  kind-alike (EInteger n sp) = refl
  kind-alike (EName id sp) = name-alike id
  kind-alike (EIndex w e sp) = ap (component_kind s.types (reading s w.name)) (kind-alike e) ∙ component-alike w.name (kind_of s' e)
  kind-alike (EAttribute m w sp) = ap (and_then (bound_kind (attribute_of w.name))) (scalar-alike m.name)
  kind-alike (EAttributeOf m w e sp) = ap₂ (attribute_kind (attribute_of w.name)) (scalar-alike m.name) (kind-alike e)
  kind-alike (EParen e sp) = kind-alike e
  kind-alike (EUnary op e sp) = ap (unary_kind (takes_one op)) (kind-alike e)
  kind-alike (EBinary op l r sp) = ap₂ (binary_kind (takes op)) (kind-alike l) (kind-alike r)

  -- its static value
  pub static-alike : (k : ℕ) (e : PExpr) → static_in s k e ≡ static_in s' k e
  static-alike k e = ap₂ (λ T o. if is_kind k o && is_static T e then ok_value (value_of T e) else None) close.types (kind-alike e)

  -- a static range
  pub range-alike : (k : ℕ) (b : PBounds) → static_range s k b ≡ static_range s' k b
  range-alike k b = ap₂ (range_between k) (static-alike k b.first) (static-alike k b.last)

  subind-alike : (m : Marking) (b : Option PBounds) → subind_made s m b ≡ subind_made s' m b
  subind-alike (ScalarMark m k) None = ap (λ T. record { types = T; mark = Some m }) close.types
  subind-alike (ScalarMark m k) (Some b) = ap₂ made_range close.types (range-alike k b)
  subind-alike (ArrayMark m r part) b = ap made_none close.types
  subind-alike (TaskMark entries) b = ap made_none close.types
  subind-alike NoMark b = ap made_none close.types
  subind-alike UnknownMark b = ap made_none close.types
  subind-alike UnclearMark b = ap made_none close.types

  -- the mark of a subtype indication, and the table that it leaves
  pub made-alike : (x : PSubind) → made_subind s x ≡ made_subind s' x
  made-alike x =
      subind-typed s (marking s x.mark.name) x.bounds
      ∙ ap (λ m. subind_made s m x.bounds) (typed-alike x.mark.name)
      ∙ sym (subind-typed s (marking s' x.mark.name) x.bounds)
      ∙ subind-alike (marking s' x.mark.name) x.bounds

  given-alike : (k : Option ℕ) (b : PBounds) → given_range s k b ≡ given_range s' k b
  given-alike (Some k) b = range-alike k b
  given-alike None b = refl

  marked-alike : (m : Marking) (b : Option PBounds) → marked_range s m b ≡ marked_range s' m b
  marked-alike (ScalarMark m k) None = ap (λ T. range_of_mark T m) close.types
  marked-alike (ScalarMark m k) (Some b) = range-alike k b
  marked-alike (ArrayMark m r part) b = refl
  marked-alike (TaskMark entries) b = refl
  marked-alike NoMark b = refl
  marked-alike UnknownMark b = refl
  marked-alike UnclearMark b = refl

  -- a discrete range
  pub drange-alike : (x : PDrange) → drange_range s x ≡ drange_range s' x
  drange-alike (RGiven b) = ap (λ k. given_range s k b) (kind-alike b.first) ∙ given-alike (kind_of s' b.first) b
  drange-alike (RMarked x) =
      range-typed s (marking s x.mark.name) x.bounds
      ∙ ap (λ m. marked_range s m x.bounds) (typed-alike x.mark.name)
      ∙ sym (range-typed s (marking s' x.mark.name) x.bounds)
      ∙ marked-alike (marking s' x.mark.name) x.bounds
