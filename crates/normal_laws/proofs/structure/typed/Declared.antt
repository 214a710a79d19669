-- What stays in declarations meets the rules, where it does in the program: objects, types, numbers, exceptions and pragmas.
use Rattle.std.proofs.Common.{◌≡◌, ℕ, ◌&&◌, ◌||◌, not, Bool, true, false, List, [], ◌∷◌, ◌++◌, flat_map, Option, Some, None, option_map, is_none, IfSome, ◌⊎◌, inl, inr, refl, sym, ap, subst, ◌∙◌}
use Rattle.std.specs.List.{AllByRecursion}
use Rattle.std.proofs.lemmas.List.Elements.{recursion_from_All}
use Rattle.common_lemmas.proofs.Options.{some_same}
use Rattle.common_lemmas.proofs.Lists.{all_front, all_back, all_joined}
use Rattle.ada_tree.specs.declared.naming.NameId.{NameId}
use Rattle.ada_tree.specs.declared.naming.Word.{Word}
use Rattle.ada_tree.specs.TypeTable.{TypeTable}
use Rattle.ada_tree.specs.PlainExpr.{PExpr, PBounds, PSubind}
use Rattle.ada_tree.specs.PlainDecl.{PShape, OPlain, OArray, PInit, IOne, IList, IOthers, PDecl, DNumber, DObject, DEnumeration, DArray, DSubtype, DException, DIntIo, DPragma, DTask, DTaskBody, PDecls, no_decl, decl_then}
use Rattle.ada_tree.specs.Every.{EveryExpr, EveryShape, EveryInit, EveryDecl, EveryDecls}
use Rattle.ada_static_rules.specs.Scope.{Scope, Range, Thing, TypeMark, Variable, ConstantObject, Parameter, LoopParameter, Literal, AnException, Unclear, Marking, ScalarMark, ArrayMark, integer_kind, marking, mark_at, marking_of_mark, range_of_mark}
use Rattle.ada_static_rules.specs.Demand.{scalar_only, makes_instance, must_be_static, must_lie_in, initializes, for_scalar, for_array, Site}
use Rattle.ada_static_rules.specs.Declaring.{Declared, declared_object, with_constants, with_types, after_own_object}
use Rattle.ada_static_rules.specs.Sites.{site, if_there, is_task_object, names_sites, expr_sites, static_of, subind_sites, drange_sites, may_be_task, object_marks, component_marks, shape_sites, value_sites, free_value_sites, all_init_sites, array_init_sites, scalar_init_sites, object_marking, init_sites, object_sites, own_object_sites, own_sites, decl_sites}
use Rattle.task_laws.specs.legal.rewritten_types.Rewriting.{is_no_task, mark_of}
use Rattle.task_laws.specs.legal.rewritten_types.Agreement.{IsScalar}
use Rattle.normal_laws.specs.structure.checked.Around.{own_rules}
use Rattle.task_laws.specs.legal.alike_scopes.Alike.{of_values, of_arrays, SameMark, IsNoValue, no_thing, a_task_type, a_task, a_task_object, a_task_array, the_procedure, a_unit, SameThing, same_type, same_variable, same_constant, same_parameter, same_loop_parameter, same_literal, same_exception, same_unclear, no_values, SameTypes, Alike}
use Rattle.task_laws.specs.legal.alike_scopes.Old.{IsOldExpr, IsOldShape, allows_task}
use Rattle.task_laws.specs.legal.alike_scopes.Laws.{IsMetBut}
use Rattle.task_laws.proofs.legal.rewritten_types.Adding.{names-main, keeps-shape}
use Rattle.task_laws.proofs.legal.alike_scopes.Naming.{tables-kept}
use Rattle.task_laws.proofs.legal.alike_scopes.Objects.{declared-same}
use Rattle.task_laws.proofs.legal.alike_scopes.Inner.{own-object-alike}
use Rattle.task_laws.proofs.legal.alike_scopes.Marks.{values-marking, array-marking}
use Rattle.normal_laws.proofs.structure.typed.Places.{met-declares}
use Rattle.normal_laws.proofs.structure.typed.Variables.{AllMetBut}
use Rattle.normal_laws.proofs.structure.typed.Stays.{old-expr, old-drange, old-subind, stays, expr-stays, static-stays, IsNoTaskThere, subind-stays, drange-stays}

-- ---- what an object is, for its initial value

-- two objects ask the same of an initial value: both are of one range, both arrays with one index and one range of components, or both neither
pub data SameInit (T U : TypeTable) (m n : Marking) : Type 0 where
  both_values : (i k j l : ℕ) (range : Option Range) → m ≡ ScalarMark i k → n ≡ ScalarMark j l → range_of_mark T i ≡ range → range_of_mark U j ≡ range → SameInit T U m n
  both_arrays : (i j p q : ℕ) (index : Range) (range : Option Range) → m ≡ ArrayMark i index p → n ≡ ArrayMark j index q → range_of_mark T p ≡ range → range_of_mark U q ≡ range → SameInit T U m n
  both_free : ((scope : Scope) (value : PInit) → init_sites scope T m value ≡ all_init_sites scope value) → ((scope : Scope) (value : PInit) → init_sites scope U n value ≡ all_init_sites scope value) → SameInit T U m n

module _ (T U : TypeTable) (kinds : (k : ℕ) → IsScalar T k → IsScalar U k) where
  -- the marks of two objects, by each table
  mark-init : (m n : ℕ) → SameMark T U m n → SameInit T U (marking_of_mark T m (mark_at T m)) (marking_of_mark U n (mark_at U n))
  mark-init m n (of_values h) =
      both_values m h.range.kind n h.range.kind (Some h.range) (values-marking T m h.range h.left h.kind) (values-marking U n h.range h.right (kinds h.range.kind h.kind)) h.left h.right
  mark-init m n (of_arrays h) =
      both_arrays m n h.left_part h.right_part (record { kind = h.index; first = h.first; last = h.last }) (Some h.parts.range)
      (array-marking T m h.left_mark h.index h.first h.last h.left_part h.left h.left_kind) (array-marking U n h.right_mark h.index h.first h.last h.right_part h.right h.right_kind) h.parts.left h.parts.right

  abbrev of_left : Thing → Marking
  of_left x = object_marking (record { types = T; thing = x })

  abbrev of_right : Thing → Marking
  of_right x = object_marking (record { types = U; thing = x })

  same-init : (a b x y : Thing) → Some a ≡ Some x → Some b ≡ Some y → SameInit T U (of_left x) (of_right y) → SameInit T U (of_left a) (of_right b)
  same-init a b x y e f h = subst (λ z. SameInit T U (of_left z) (of_right b)) (sym (some_same e)) (subst (λ z. SameInit T U (of_left x) (of_right z)) (sym (some_same f)) h)

  -- what is no value asks nothing
  left-free : (a : Thing) → IsNoValue (Some a) → (scope : Scope) (value : PInit) → init_sites scope T (of_left a) value ≡ all_init_sites scope value
  left-free a (no_thing e) scope value = cc
  left-free a (a_task_type es e) scope value = ap (λ x. init_sites scope T (of_left x) value) (some_same e)
  left-free a (a_task es e) scope value = ap (λ x. init_sites scope T (of_left x) value) (some_same e)
  left-free a (a_task_object es e) scope value = ap (λ x. init_sites scope T (of_left x) value) (some_same e)
  left-free a (a_task_array range es e) scope value = ap (λ x. init_sites scope T (of_left x) value) (some_same e)
  left-free a (the_procedure e) scope value = ap (λ x. init_sites scope T (of_left x) value) (some_same e)
  left-free a (a_unit e) scope value = ap (λ x. init_sites scope T (of_left x) value) (some_same e)

  right-free : (a : Thing) → IsNoValue (Some a) → (scope : Scope) (value : PInit) → init_sites scope U (of_right a) value ≡ all_init_sites scope value
  right-free a (no_thing e) scope value = cc
  right-free a (a_task_type es e) scope value = ap (λ x. init_sites scope U (of_right x) value) (some_same e)
  right-free a (a_task es e) scope value = ap (λ x. init_sites scope U (of_right x) value) (some_same e)
  right-free a (a_task_object es e) scope value = ap (λ x. init_sites scope U (of_right x) value) (some_same e)
  right-free a (a_task_array range es e) scope value = ap (λ x. init_sites scope U (of_right x) value) (some_same e)
  right-free a (the_procedure e) scope value = ap (λ x. init_sites scope U (of_right x) value) (some_same e)
  right-free a (a_unit e) scope value = ap (λ x. init_sites scope U (of_right x) value) (some_same e)

  pub thing-init : (a b : Thing) → SameThing T U (Some a) (Some b) → SameInit T U (of_left a) (of_right b)
  thing-init a b (same_variable m n e f h) = same-init a b (Variable m) (Variable n) e f (mark-init m n h)
  thing-init a b (same_constant m n e f h) = same-init a b (ConstantObject m) (ConstantObject n) e f (mark-init m n h)
  thing-init a b (same_type m n e f h) = same-init a b (TypeMark m) (TypeMark n) e f (both_free (λ s v. refl) (λ s v. refl))
  thing-init a b (same_parameter mode m n e f h) = same-init a b (Parameter mode m) (Parameter mode n) e f (both_free (λ s v. refl) (λ s v. refl))
  thing-init a b (same_loop_parameter m n e f h) = same-init a b (LoopParameter m) (LoopParameter n) e f (both_free (λ s v. refl) (λ s v. refl))
  thing-init a b (same_literal k e f h) = same-init a b (Literal k) (Literal k) e f (both_free (λ s v. refl) (λ s v. refl))
  thing-init a b (same_exception e f) = same-init a b AnException AnException e f (both_free (λ s v. refl) (λ s v. refl))
  thing-init a b (same_unclear e f) = same-init a b Unclear Unclear e f (both_free (λ s v. refl) (λ s v. refl))
  thing-init a b (no_values x y) = both_free (left-free a x) (right-free b y)

-- an initial value in which all names are old
abbrev pub IsOldInit : (ℕ → Bool) → PInit → Type 0
IsOldInit own (IOne e) = IsOldExpr own e
IsOldInit own (IList es s) = AllByRecursion (IsOldExpr own) es
IsOldInit own (IOthers e s) = IsOldExpr own e

-- a number, a type, an exception, an instance or a pragma
abbrev pub IsOther : PDecl → Type 0
IsOther (DObject names constant shape init s) = ⊥
IsOther (DTask t s) = ⊥
IsOther (DTaskBody w objects its s) = ⊥
IsOther _ = Prim.Unit {0}

module _ (P : Site → Type 0) (but : (s : Site) → P s → IsMetBut s) (own : ℕ → Bool) (c d : Scope) (alike : Alike own c d) where
  abbrev At : List Site → Type 0
  At xs = AllByRecursion P xs

  -- ---- initial values

  value-stays : (range : Option Range) (e : PExpr) → IsOldExpr own e → At (value_sites c range e) → AllMetBut (value_sites d range e)
  value-stays range e o m =
      all_joined IsMetBut (static_of d (option_map (λ (r : Range). r.kind) range) e) _ (static-stays P but own c d alike.names (option_map (λ (r : Range). r.kind) range) e o (all_front P (static_of c (option_map (λ (r : Range). r.kind) range) e) _ m))
      (stays P but own c d alike.names (must_lie_in e range) o (all_back P (static_of c (option_map (λ (r : Range). r.kind) range) e) (site c (must_lie_in e range) ∷ []) m).0, tt)

  free-stays : (e : PExpr) → IsOldExpr own e → At (free_value_sites c e) → AllMetBut (free_value_sites d e)
  free-stays e o m =
      all_joined IsMetBut (expr_sites d e) _ (expr-stays P but own c d alike.names e o (all_front P (expr_sites c e) _ m))
      (stays P but own c d alike.names (must_be_static e) o (all_back P (expr_sites c e) (site c (must_be_static e) ∷ []) m).0, tt)

  values-stay : (range : Option Range) (es : List PExpr) → AllByRecursion (IsOldExpr own) es → At (flat_map (value_sites c range) es) → AllMetBut (flat_map (value_sites d range) es)
  values-stay range [] o m = tt
  values-stay range (e ∷ es) o m =
      all_joined IsMetBut (value_sites d range e) _ (value-stays range e o.0 (all_front P (value_sites c range e) _ m)) (values-stay range es o.1 (all_back P (value_sites c range e) (flat_map (value_sites c range) es) m))

  frees-stay : (es : List PExpr) → AllByRecursion (IsOldExpr own) es → At (flat_map (free_value_sites c) es) → AllMetBut (flat_map (free_value_sites d) es)
  frees-stay [] o m = tt
  frees-stay (e ∷ es) o m =
      all_joined IsMetBut (free_value_sites d e) _ (free-stays e o.0 (all_front P (free_value_sites c e) _ m)) (frees-stay es o.1 (all_back P (free_value_sites c e) (flat_map (free_value_sites c) es) m))

  all-stay : (value : PInit) → IsOldInit own value → At (all_init_sites c value) → AllMetBut (all_init_sites d value)
  all-stay (IOne e) o m = free-stays e o m
  all-stay (IList es s) o m = frees-stay es o m
  all-stay (IOthers e s) o m = free-stays e o m

  scalar-stays : (range : Option Range) (value : PInit) → IsOldInit own value → At (scalar_init_sites c range value) → AllMetBut (scalar_init_sites d range value)
  scalar-stays range (IOne e) o m = value-stays range e o m
  scalar-stays range (IList es s) o m = frees-stay es o m
  scalar-stays range (IOthers e s) o m = free-stays e o m

  array-stays : (range : Option Range) (value : PInit) → IsOldInit own value → At (array_init_sites c range value) → AllMetBut (array_init_sites d range value)
  array-stays range (IOne e) o m = free-stays e o m
  array-stays range (IList es s) o m = values-stay range es o m
  array-stays range (IOthers e s) o m = value-stays range e o m

  scalars-stay : (range : Option Range) (value : PInit) → IsOldInit own value → At (scalar_init_sites c range value ++ site c (initializes for_scalar value) ∷ []) → AllMetBut (scalar_init_sites d range value ++ site d (initializes for_scalar value) ∷ [])
  scalars-stay range value o m =
      all_joined IsMetBut (scalar_init_sites d range value) _ (scalar-stays range value o (all_front P (scalar_init_sites c range value) _ m))
      (stays P but own c d alike.names (initializes for_scalar value) tt (all_back P (scalar_init_sites c range value) (site c (initializes for_scalar value) ∷ []) m).0, tt)

  arrays-stay : (index : Range) (range : Option Range) (value : PInit) → IsOldInit own value → At (array_init_sites c range value ++ site c (initializes (for_array index) value) ∷ []) →
      AllMetBut (array_init_sites d range value ++ site d (initializes (for_array index) value) ∷ [])
  arrays-stay index range value o m =
      all_joined IsMetBut (array_init_sites d range value) _ (array-stays range value o (all_front P (array_init_sites c range value) _ m))
      (stays P but own c d alike.names (initializes (for_array index) value) tt (all_back P (array_init_sites c range value) (site c (initializes (for_array index) value) ∷ []) m).0, tt)

  init-stays : (T U : TypeTable) (m n : Marking) → SameInit T U m n → (value : PInit) → IsOldInit own value → At (init_sites c T m value) → AllMetBut (init_sites d U n value)
  init-stays T U m n (both_values i k j l range e f p q) value o h =
      subst (λ y. AllMetBut (init_sites d U y value)) (sym f)
      (subst (λ r. AllMetBut (scalar_init_sites d r value ++ site d (initializes for_scalar value) ∷ [])) (sym q)
      (scalars-stay range value o (subst (λ r. At (scalar_init_sites c r value ++ site c (initializes for_scalar value) ∷ [])) p (subst (λ y. At (init_sites c T y value)) e h))))
  init-stays T U m n (both_arrays i j a b index range e f p q) value o h =
      subst (λ y. AllMetBut (init_sites d U y value)) (sym f)
      (subst (λ r. AllMetBut (array_init_sites d r value ++ site d (initializes (for_array index) value) ∷ [])) (sym q)
      (arrays-stay index range value o (subst (λ r. At (array_init_sites c r value ++ site c (initializes (for_array index) value) ∷ [])) p (subst (λ y. At (init_sites c T y value)) e h))))
  init-stays T U m n (both_free e f) value o h = subst AllMetBut (sym (f d value)) (all-stay value o (subst At (e c value) h))

  inits-stay : (T U : TypeTable) (m n : Marking) → SameInit T U m n → (init : Option PInit) → IfSome init (IsOldInit own) → At (if_there (init_sites c T m) init) → AllMetBut (if_there (init_sites d U n) init)
  inits-stay T U m n s None o h = tt
  inits-stay T U m n s (Some value) o h = init-stays T U m n s value o h

  -- ---- objects

  pub names-met : (fixed : Bool) (ws : List Word) (s : Scope) → AllMetBut (names_sites fixed s ws)
  names-met fixed [] s = tt
  names-met fixed (w ∷ ws) s = (met-declares s fixed w, names-met fixed ws _)

  -- no task type stands as the mark
  abbrev pub IsPlainMark : NameId → Type 0
  IsPlainMark id = (c.in_main ≡ false) ⊎ (is_no_task (marking c id) ≡ true)

  same-task : (constant : Bool) (bounds : Option PBounds) (init : Option PInit) → may_be_task d constant bounds init ≡ may_be_task c constant bounds init
  same-task constant bounds init = ap (λ b. b && not constant && is_none bounds && is_none init) (sym alike.main)

  no-task : (b : Bool) → (b || true) ≡ true
  no-task true = refl
  no-task false = refl

  object-there : (constant : Bool) (x : PSubind) (init : Option PInit) → IsPlainMark x.mark.name → IsNoTaskThere P but own c d alike.names (object_marks (may_be_task c constant x.bounds init) x.bounds) x.mark
  object-there constant x init (inr e) = ap (λ b. not (allows_task (object_marks (may_be_task c constant x.bounds init) x.bounds)) || b) e ∙ no-task (not (allows_task (object_marks (may_be_task c constant x.bounds init) x.bounds)))
  object-there constant x init (inl e) =
      subst (λ b. (not (allows_task (object_marks (b && not constant && is_none x.bounds && is_none init) x.bounds)) || is_no_task (marking c x.mark.name)) ≡ true) (sym e) (by_bounds x.bounds)
    where
      by_bounds : (o : Option PBounds) → (not (allows_task (object_marks false o)) || is_no_task (marking c x.mark.name)) ≡ true
      by_bounds None = refl
      by_bounds (Some b) = refl

  component-there : (constant : Bool) (x : PSubind) (init : Option PInit) → IsPlainMark x.mark.name → IsNoTaskThere P but own c d alike.names (component_marks (may_be_task c constant x.bounds init)) x.mark
  component-there constant x init (inr e) = ap (λ b. not (allows_task (component_marks (may_be_task c constant x.bounds init))) || b) e ∙ no-task (not (allows_task (component_marks (may_be_task c constant x.bounds init))))
  component-there constant x init (inl e) =
      subst (λ b. (not (allows_task (component_marks (b && not constant && is_none x.bounds && is_none init))) || is_no_task (marking c x.mark.name)) ≡ true) (sym e) refl

  shape-stays : (constant : Bool) (shape : PShape) (init : Option PInit) → IsOldShape own shape → IsPlainMark (mark_of shape) → At (shape_sites c constant shape init) → AllMetBut (shape_sites d constant shape init)
  shape-stays constant (OPlain x) init o n m =
      subst (λ b. AllMetBut (subind_sites true (object_marks b x.bounds) d x)) (sym (same-task constant x.bounds init))
      (subind-stays P but own c d alike.names true (object_marks (may_be_task c constant x.bounds init) x.bounds) x o (object-there constant x init n) m)
  shape-stays constant (OArray index x) init o n m =
      all_joined IsMetBut (drange_sites true d index) _ (drange-stays P but own c d alike.names true index o.0 (all_front P (drange_sites true c index) _ m))
      (subst (λ b. AllMetBut (subind_sites true (component_marks b) d x)) (sym (same-task constant x.bounds init))
      (subind-stays P but own c d alike.names true (component_marks (may_be_task c constant x.bounds init)) x o.1 (component-there constant x init n)
      (all_back P (drange_sites true c index) (subind_sites true (component_marks (may_be_task c constant x.bounds init)) c x) m)))

  -- an object, which is the same in both by the tables that its declarations leave
  pub object-stays : (ws : List Word) (constant : Bool) (shape : PShape) (init : Option PInit) (x y : Declared) → SameInit x.types y.types (object_marking x) (object_marking y) → IsOldShape own shape → IfSome init (IsOldInit own) →
      IsPlainMark (mark_of shape) → At (object_sites c ws constant shape init x) → AllMetBut (object_sites d ws constant shape init y)
  object-stays ws constant shape init x y s o i n m =
      let first = names_sites (c.in_main && (constant || is_task_object x.thing)) c ws in
      let second = shape_sites c constant shape init in
      let third = if_there (init_sites c x.types (object_marking x)) init in
      let first' = names_sites (d.in_main && (constant || is_task_object y.thing)) d ws in
      let second' = shape_sites d constant shape init in
      all_joined IsMetBut (first' ++ second') _
      (all_joined IsMetBut first' second' (names-met (d.in_main && (constant || is_task_object y.thing)) ws d) (shape-stays constant shape init o n (all_back P first second (all_front P (first ++ second) third m))))
      (inits-stay x.types y.types (object_marking x) (object_marking y) s init i (all_back P (first ++ second) third m))

  -- ---- other declarations of main

  pub other-stays : (x : PDecl) → IsOther x → EveryDecl (own_rules own) x → At (decl_sites c x) → AllMetBut (decl_sites d x)
  other-stays (DNumber w e s) p h m =
      all_joined IsMetBut (names_sites true d (w ∷ [])) (static_of d (Some integer_kind) e) (names-met true (w ∷ []) d) (static-stays P but own c d alike.names (Some integer_kind) e (old-expr own 2 e h.2) (all_back P (names_sites true c (w ∷ [])) (static_of c (Some integer_kind) e) m))
  other-stays (DEnumeration w ws s) p h m = names-met true (w ∷ ws) d
  other-stays (DArray w r x s) p h m =
      let first = names_sites true c (w ∷ []) in
      let second = drange_sites true c r in
      let third = subind_sites true scalar_only c x in
      all_joined IsMetBut (names_sites true d (w ∷ []) ++ drange_sites true d r) _
      (all_joined IsMetBut (names_sites true d (w ∷ [])) (drange_sites true d r) (names-met true (w ∷ []) d) (drange-stays P but own c d alike.names true r (old-drange own 2 r h.2) (all_back P first second (all_front P (first ++ second) third m))))
      (subind-stays P but own c d alike.names true scalar_only x (old-subind own 2 x h.3) refl (all_back P (first ++ second) third m))
  other-stays (DSubtype w x s) p h m =
      all_joined IsMetBut (names_sites true d (w ∷ [])) (subind_sites true scalar_only d x) (names-met true (w ∷ []) d) (subind-stays P but own c d alike.names true scalar_only x (old-subind own 2 x h.2) refl (all_back P (names_sites true c (w ∷ [])) (subind_sites true scalar_only c x) m))
  other-stays (DException ws s) p h m = names-met true ws d
  other-stays (DIntIo w s) p h m = (stays P but own c d alike.names (makes_instance w) tt m.0, names-met true (w ∷ []) d)
  other-stays (DPragma e s) p h m = static-stays P but own c d alike.names (Some integer_kind) e (old-expr own 2 e h.1) m
  other-stays (DObject names constant shape init s) p h m = absurd p
  other-stays (DTask t s) p h m = absurd p
  other-stays (DTaskBody w objects its s) p h m = absurd p

-- ---- objects of a body

module _ (P : Site → Type 0) (but : (s : Site) → P s → IsMetBut s) (own : ℕ → Bool) where
  pub old-shape : (x : PShape) → EveryShape (own_rules own) x → IsOldShape own x
  old-shape (OPlain x) h = old-subind own 2 x h
  old-shape (OArray r x) h = (old-drange own 2 r h.0, old-subind own 2 x h.1)

  old-exprs : (es : List PExpr) → AllByRecursion (EveryExpr (own_rules own) 2) es → AllByRecursion (IsOldExpr own) es
  old-exprs [] h = tt
  old-exprs (e ∷ es) h = (old-expr own 2 e h.0, old-exprs es h.1)

  pub old-init : (o : Option PInit) → IfSome o (EveryInit (own_rules own)) → IfSome o (IsOldInit own)
  old-init None h = tt
  old-init (Some (IOne e)) h = old-expr own 2 e h
  old-init (Some (IList es s)) h = old-exprs es (recursion_from_All (EveryExpr (own_rules own) 2) es h.1)
  old-init (Some (IOthers e s)) h = old-expr own 2 e h

  -- objects that a body declares
  one-object : (c d : Scope) (a : Alike own c d) → c.in_main ≡ false → (ws : List Word) (constant : Bool) (shape : PShape) (init : Option PInit) → EveryShape (own_rules own) shape → IfSome init (EveryInit (own_rules own)) →
      AllByRecursion P (object_sites c ws constant shape init (declared_object c constant shape)) → AllMetBut (object_sites d ws constant shape init (declared_object d constant shape))
  one-object c d a main ws constant shape init o i m =
      let x = declared_object c constant shape in
      let y = declared_object d constant shape in
      let types : SameTypes own x.types y.types = (tables-kept own c d x.types y.types a.names (keeps-shape {old = own} c constant shape) (keeps-shape {old = own} d constant shape)).types in
      object-stays P but own c d a ws constant shape init x y (thing-init x.types y.types (λ k h. (h.0, types.kinds k h.0 h.1)) x.thing y.thing (declared-same own c d a.names main (sym a.main ∙ main) constant shape (old-shape shape o)))
      (old-shape shape o) (old-init init i) (inl main) m

  object-main : (d : PDecl) (s : Scope) → s.in_main ≡ false → (after_own_object s d).in_main ≡ false
  object-main (DObject ws constant shape init sp) s e = names-main (declared_object s constant shape).thing ws (with_types (with_constants s ws init (declared_object s constant shape)) s) ∙ e
  object-main (DNumber w x sp) s e = e
  object-main (DEnumeration w ws sp) s e = e
  object-main (DArray w r x sp) s e = e
  object-main (DSubtype w x sp) s e = e
  object-main (DException ws sp) s e = e
  object-main (DIntIo w sp) s e = e
  object-main (DPragma x sp) s e = e
  object-main (DTask t sp) s e = e
  object-main (DTaskBody w objects its sp) s e = e

  -- The objects of a body meet the rules in a scope that is alike.
  pub own-stays : (ds : PDecls) (c d : Scope) → Alike own c d → c.in_main ≡ false → EveryDecls (own_rules own) ds → AllByRecursion P (own_sites c ds) → AllMetBut (own_sites d ds)
  own-stays no_decl c d a main h m = tt
  own-stays (decl_then (DObject ws constant shape init sp) rest) c d a main h m =
      let x : PDecl = DObject ws constant shape init sp in
      all_joined IsMetBut (own_object_sites d x) (own_sites (after_own_object d x) rest) (one-object c d a main ws constant shape init h.0.2 h.0.4 (all_front P (own_object_sites c x) (own_sites (after_own_object c x) rest) m))
      (own-stays rest (after_own_object c x) (after_own_object d x) (own-object-alike own x c d a main (old-shape shape h.0.2)) (object-main x c main) h.1 (all_back P (own_object_sites c x) (own_sites (after_own_object c x) rest) m))
  own-stays (decl_then (DNumber w e sp) rest) c d a main h m = own-stays rest c d a main h.1 m
  own-stays (decl_then (DEnumeration w ws sp) rest) c d a main h m = own-stays rest c d a main h.1 m
  own-stays (decl_then (DArray w r x sp) rest) c d a main h m = own-stays rest c d a main h.1 m
  own-stays (decl_then (DSubtype w x sp) rest) c d a main h m = own-stays rest c d a main h.1 m
  own-stays (decl_then (DException ws sp) rest) c d a main h m = own-stays rest c d a main h.1 m
  own-stays (decl_then (DIntIo w sp) rest) c d a main h m = own-stays rest c d a main h.1 m
  own-stays (decl_then (DPragma e sp) rest) c d a main h m = own-stays rest c d a main h.1 m
  own-stays (decl_then (DTask t sp) rest) c d a main h m = own-stays rest c d a main h.1 m
  own-stays (decl_then (DTaskBody w objects its sp) rest) c d a main h m = own-stays rest c d a main h.1 m
