-- Objects of the normal form, and its tasks with a formal more of each entry, meet the rules in the collecting text.
use Rattle.std.proofs.Common.{◌≡◌, ℕ, ◌&&◌, ◌||◌, not, Bool, true, false, List, [], ◌∷◌, ◌++◌, flat_map, Option, Some, None, option_map, is_none, IfSome, ◌⊎◌, inl, inr, refl, sym, ap, subst, ◌∙◌}
use Rattle.std.specs.List.{AllByRecursion}
use Rattle.common_lemmas.proofs.Lists.{all_front, all_back, all_joined}
use Rattle.ada_tree.specs.declared.naming.NameId.{NameId}
use Rattle.ada_tree.specs.declared.naming.Word.{Word}
use Rattle.ada_tree.specs.TypeTable.{TypeTable}
use Rattle.ada_tree.specs.PlainExpr.{PExpr, PSubind, PBounds}
use Rattle.ada_tree.specs.PlainDecl.{PShape, OPlain, OArray, PInit, IOne, IList, IOthers}
use Rattle.ada_static_rules.specs.Scope.{Scope, Range, Marking, marking}
use Rattle.ada_static_rules.specs.Demand.{must_be_static, must_lie_in, initializes, for_scalar, for_array}
use Rattle.ada_static_rules.specs.Declaring.{Declared}
use Rattle.ada_static_rules.specs.Sites.{site, if_there, is_task_object, names_sites, expr_sites, static_of, subind_sites, drange_sites, may_be_task, object_marks, component_marks, shape_sites, value_sites, free_value_sites, all_init_sites, array_init_sites, scalar_init_sites, object_marking, init_sites, object_sites}
use Rattle.task_laws.specs.legal.rewritten_types.Rewriting.{is_no_task, mark_of}
use Rattle.task_laws.specs.legal.alike_scopes.Alike.{SameNames}
use Rattle.task_laws.specs.legal.alike_scopes.Old.{IsOldExpr, IsOldShape, allows_task}
use Rattle.task_laws.specs.legal.alike_scopes.Laws.{IsMetBut}
use Rattle.normal_laws.proofs.structure.typed.Declared.{SameInit, both_values, both_arrays, both_free, IsOldInit}
use Rattle.normal_laws.proofs.structure.typed.Variables.{AllMetBut, words-met}
use Rattle.replay_structure.proofs.typed.Typed.{same}
use Rattle.normal_laws.proofs.structure.typed.Stays.{stays, expr-stays, static-stays, IsNoTaskThere, subind-stays, drange-stays}
use Rattle.common_lemmas.proofs.Truth.{or_true}

module _ (own : ℕ → Bool) (c d : Scope) (names : SameNames own c d) (main : c.in_main ≡ d.in_main) where
  -- ---- initial values

  value-stays : (range : Option Range) (e : PExpr) → IsOldExpr own e → AllMetBut (value_sites c range e) → AllMetBut (value_sites d range e)
  value-stays range e o m =
      all_joined IsMetBut (static_of d (option_map (λ (r : Range). r.kind) range) e) _
      (static-stays IsMetBut same own c d names (option_map (λ (r : Range). r.kind) range) e o (all_front IsMetBut (static_of c (option_map (λ (r : Range). r.kind) range) e) _ m))
      (stays IsMetBut same own c d names (must_lie_in e range) o (all_back IsMetBut (static_of c (option_map (λ (r : Range). r.kind) range) e) (site c (must_lie_in e range) ∷ []) m).0, tt)

  free-stays : (e : PExpr) → IsOldExpr own e → AllMetBut (free_value_sites c e) → AllMetBut (free_value_sites d e)
  free-stays e o m =
      all_joined IsMetBut (expr_sites d e) _ (expr-stays IsMetBut same own c d names e o (all_front IsMetBut (expr_sites c e) _ m))
      (stays IsMetBut same own c d names (must_be_static e) o (all_back IsMetBut (expr_sites c e) (site c (must_be_static e) ∷ []) m).0, tt)

  values-stay : (range : Option Range) (es : List PExpr) → AllByRecursion (IsOldExpr own) es → AllMetBut (flat_map (value_sites c range) es) → AllMetBut (flat_map (value_sites d range) es)
  values-stay range [] o m = tt
  values-stay range (e ∷ es) o m =
      all_joined IsMetBut (value_sites d range e) _ (value-stays range e o.0 (all_front IsMetBut (value_sites c range e) _ m))
      (values-stay range es o.1 (all_back IsMetBut (value_sites c range e) (flat_map (value_sites c range) es) m))

  frees-stay : (es : List PExpr) → AllByRecursion (IsOldExpr own) es → AllMetBut (flat_map (free_value_sites c) es) → AllMetBut (flat_map (free_value_sites d) es)
  frees-stay [] o m = tt
  frees-stay (e ∷ es) o m =
      all_joined IsMetBut (free_value_sites d e) _ (free-stays e o.0 (all_front IsMetBut (free_value_sites c e) _ m))
      (frees-stay es o.1 (all_back IsMetBut (free_value_sites c e) (flat_map (free_value_sites c) es) m))

  all-stay : (value : PInit) → IsOldInit own value → AllMetBut (all_init_sites c value) → AllMetBut (all_init_sites d value)
  all-stay (IOne e) o m = free-stays e o m
  all-stay (IList es s) o m = frees-stay es o m
  all-stay (IOthers e s) o m = free-stays e o m

  scalar-stays : (range : Option Range) (value : PInit) → IsOldInit own value → AllMetBut (scalar_init_sites c range value) → AllMetBut (scalar_init_sites d range value)
  scalar-stays range (IOne e) o m = value-stays range e o m
  scalar-stays range (IList es s) o m = frees-stay es o m
  scalar-stays range (IOthers e s) o m = free-stays e o m

  array-stays : (range : Option Range) (value : PInit) → IsOldInit own value → AllMetBut (array_init_sites c range value) → AllMetBut (array_init_sites d range value)
  array-stays range (IOne e) o m = free-stays e o m
  array-stays range (IList es s) o m = values-stay range es o m
  array-stays range (IOthers e s) o m = value-stays range e o m

  scalars-stay : (range : Option Range) (value : PInit) → IsOldInit own value →
      AllMetBut (scalar_init_sites c range value ++ site c (initializes for_scalar value) ∷ []) → AllMetBut (scalar_init_sites d range value ++ site d (initializes for_scalar value) ∷ [])
  scalars-stay range value o m =
      all_joined IsMetBut (scalar_init_sites d range value) _ (scalar-stays range value o (all_front IsMetBut (scalar_init_sites c range value) _ m))
      (stays IsMetBut same own c d names (initializes for_scalar value) tt (all_back IsMetBut (scalar_init_sites c range value) (site c (initializes for_scalar value) ∷ []) m).0, tt)

  arrays-stay : (index : Range) (range : Option Range) (value : PInit) → IsOldInit own value → AllMetBut (array_init_sites c range value ++ site c (initializes (for_array index) value) ∷ []) →
      AllMetBut (array_init_sites d range value ++ site d (initializes (for_array index) value) ∷ [])
  arrays-stay index range value o m =
      all_joined IsMetBut (array_init_sites d range value) _ (array-stays range value o (all_front IsMetBut (array_init_sites c range value) _ m))
      (stays IsMetBut same own c d names (initializes (for_array index) value) tt (all_back IsMetBut (array_init_sites c range value) (site c (initializes (for_array index) value) ∷ []) m).0, tt)

  init-stays : (T U : TypeTable) (m n : Marking) → SameInit T U m n → (value : PInit) → IsOldInit own value → AllMetBut (init_sites c T m value) → AllMetBut (init_sites d U n value)
  init-stays T U m n (both_values i k j l range e f p q) value o h =
      subst (λ y. AllMetBut (init_sites d U y value)) (sym f)
      (subst (λ r. AllMetBut (scalar_init_sites d r value ++ site d (initializes for_scalar value) ∷ [])) (sym q)
      (scalars-stay range value o (subst (λ r. AllMetBut (scalar_init_sites c r value ++ site c (initializes for_scalar value) ∷ [])) p (subst (λ y. AllMetBut (init_sites c T y value)) e h))))
  init-stays T U m n (both_arrays i j a b index range e f p q) value o h =
      subst (λ y. AllMetBut (init_sites d U y value)) (sym f)
      (subst (λ r. AllMetBut (array_init_sites d r value ++ site d (initializes (for_array index) value) ∷ [])) (sym q)
      (arrays-stay index range value o
      (subst (λ r. AllMetBut (array_init_sites c r value ++ site c (initializes (for_array index) value) ∷ [])) p (subst (λ y. AllMetBut (init_sites c T y value)) e h))))
  init-stays T U m n (both_free e f) value o h = subst AllMetBut (sym (f d value)) (all-stay value o (subst AllMetBut (e c value) h))

  inits-stay : (T U : TypeTable) (m n : Marking) → SameInit T U m n → (init : Option PInit) → IfSome init (IsOldInit own) →
      AllMetBut (if_there (init_sites c T m) init) → AllMetBut (if_there (init_sites d U n) init)
  inits-stay T U m n s None o h = tt
  inits-stay T U m n s (Some value) o h = init-stays T U m n s value o h

  -- ---- objects

  -- no task type stands as the mark
  abbrev pub IsPlainMark : NameId → Type 0
  IsPlainMark id = (c.in_main ≡ false) ⊎ (is_no_task (marking c id) ≡ true)

  same-task : (constant : Bool) (bounds : Option PBounds) (init : Option PInit) → may_be_task d constant bounds init ≡ may_be_task c constant bounds init
  same-task constant bounds init = ap (λ b. b && not constant && is_none bounds && is_none init) (sym main)

  object-there : (constant : Bool) (x : PSubind) (init : Option PInit) → IsPlainMark x.mark.name →
      IsNoTaskThere IsMetBut same own c d names (object_marks (may_be_task c constant x.bounds init) x.bounds) x.mark
  object-there constant x init (inr e) =
      ap (λ b. not (allows_task (object_marks (may_be_task c constant x.bounds init) x.bounds)) || b) e ∙ or_true
      (not (allows_task (object_marks (may_be_task c constant x.bounds init) x.bounds)))
  object-there constant x init (inl e) =
      subst (λ b. (not (allows_task (object_marks (b && not constant && is_none x.bounds && is_none init) x.bounds)) || is_no_task (marking c x.mark.name)) ≡ true) (sym e) (by_bounds x.bounds)
    where
      by_bounds : (o : Option PBounds) → (not (allows_task (object_marks false o)) || is_no_task (marking c x.mark.name)) ≡ true
      by_bounds None = refl
      by_bounds (Some b) = refl

  component-there : (constant : Bool) (x : PSubind) (init : Option PInit) → IsPlainMark x.mark.name →
      IsNoTaskThere IsMetBut same own c d names (component_marks (may_be_task c constant x.bounds init)) x.mark
  component-there constant x init (inr e) =
      ap (λ b. not (allows_task (component_marks (may_be_task c constant x.bounds init))) || b) e ∙ or_true (not (allows_task (component_marks (may_be_task c constant x.bounds init))))
  component-there constant x init (inl e) =
      subst (λ b. (not (allows_task (component_marks (b && not constant && is_none x.bounds && is_none init))) || is_no_task (marking c x.mark.name)) ≡ true) (sym e) refl

  shape-stays : (constant : Bool) (shape : PShape) (init : Option PInit) → IsOldShape own shape → IsPlainMark (mark_of shape) →
      AllMetBut (shape_sites c constant shape init) → AllMetBut (shape_sites d constant shape init)
  shape-stays constant (OPlain x) init o n m =
      subst (λ b. AllMetBut (subind_sites true (object_marks b x.bounds) d x)) (sym (same-task constant x.bounds init))
      (subind-stays IsMetBut same own c d names true (object_marks (may_be_task c constant x.bounds init) x.bounds) x o (object-there constant x init n) m)
  shape-stays constant (OArray index x) init o n m =
      all_joined IsMetBut (drange_sites true d index) _ (drange-stays IsMetBut same own c d names true index o.0 (all_front IsMetBut (drange_sites true c index) _ m))
      (subst (λ b. AllMetBut (subind_sites true (component_marks b) d x)) (sym (same-task constant x.bounds init))
      (subind-stays IsMetBut same own c d names true (component_marks (may_be_task c constant x.bounds init)) x o.1 (component-there constant x init n)
      (all_back IsMetBut (drange_sites true c index) (subind_sites true (component_marks (may_be_task c constant x.bounds init)) c x) m)))

  -- an object, which is the same in both by the tables that its declarations leave
  pub object-stays : (ws : List Word) (constant : Bool) (shape : PShape) (init : Option PInit) (x y : Declared) →
      SameInit x.types y.types (object_marking x) (object_marking y) → IsOldShape own shape → IfSome init (IsOldInit own) →
      IsPlainMark (mark_of shape) → AllMetBut (object_sites c ws constant shape init x) → AllMetBut (object_sites d ws constant shape init y)
  object-stays ws constant shape init x y s o i n m =
      let first = names_sites (c.in_main && (constant || is_task_object x.thing)) c ws in
      let second = shape_sites c constant shape init in
      let third = if_there (init_sites c x.types (object_marking x)) init in
      let first' = names_sites (d.in_main && (constant || is_task_object y.thing)) d ws in
      let second' = shape_sites d constant shape init in
      all_joined IsMetBut (first' ++ second') _
      (all_joined IsMetBut first' second' (words-met (d.in_main && (constant || is_task_object y.thing)) ws d)
      (shape-stays constant shape init o n (all_back IsMetBut first second (all_front IsMetBut (first ++ second) third m))))
      (inits-stay x.types y.types (object_marking x) (object_marking y) s init i (all_back IsMetBut (first ++ second) third m))
