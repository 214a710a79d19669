-- The places of object declarations: those that stay, and the variables of a permit among them.
use Rattle.std.proofs.Common.{◌≡◌, ℕ, Bool, true, not, ◌&&◌, ◌||◌, if◌then◌else◌, List, [], ◌∷◌, ◌++◌, flat_map, Option, Some, None, is_some, is_none, option_map, IfSome, refl, sym, ap, subst, ◌∙◌}
use Rattle.std.specs.List.{AllByRecursion}
use Rattle.common_lemmas.proofs.Lists.{all_back, all_front, all_joined}
use Rattle.ada_tree.specs.declared.naming.NameId.{NameId}
use Rattle.ada_tree.specs.declared.naming.Word.{Word}
use Rattle.ada_tree.specs.TypeTable.{TypeTable}
use Rattle.ada_tree.specs.PlainExpr.{PExpr, PBounds, PSubind}
use Rattle.ada_tree.specs.PlainDecl.{PShape, OPlain, OArray, PInit, IOne, IList, IOthers}
use Rattle.ada_tree.specs.PlainProgram.{PProgram}
use Rattle.ada_static_rules.specs.Scope.{Scope, Range, Marking, ScalarMark, ArrayMark, TaskMark, NoMark, UnknownMark, UnclearMark, marking, scalar_kind, meaning, range_of_mark, entry_named}
use Rattle.ada_static_rules.specs.Declaring.{Declared, declared_object}
use Rattle.ada_static_rules.specs.Demand.{MarkUse, stands_as_mark, must_be_static, must_lie_in, initializes, for_scalar, for_array}
use Rattle.ada_static_rules.specs.Sites.{site, if_there, names_sites, expr_sites, static_of, constraint_sites, subind_sites, drange_sites, object_marks, component_marks, shape_sites, value_sites, free_value_sites, all_init_sites, array_init_sites, scalar_init_sites, is_task_object, object_marking, init_sites, object_sites}
use Rattle.ada_static_rules.specs.RuleMismatch.{is_allowed}
use Rattle.task_laws.specs.legal.alike_scopes.Alike.{SameNames, Alike}
use Rattle.task_laws.specs.legal.alike_scopes.Old.{IsOldExpr, IsOldBounds, IsOldSubind, IsOldShape}
use Rattle.task_laws.specs.legal.alike_scopes.Laws.{IsMetBut}
use Rattle.normal_laws.proofs.structure.typed.Variables.{AllMetBut, words-met}
use Rattle.normal_laws.proofs.structure.typed.Stays.{stays, expr-stays, static-stays, constraint-stays, drange-stays}
use Rattle.replay_structure.specs.scopes.More.{IsGrown, stays as same_thing, doubled, IsMore}
use Rattle.replay_structure.specs.scopes.Form.{IsOldInit}
use Rattle.replay_structure.proofs.scopes.Same.{marking-same, declared-same}
use Rattle.replay_structure.proofs.scopes.More.{more-alike}
use Rattle.replay_structure.proofs.typed.Typed.{same}

module _ (q : PProgram) (old : ℕ → Bool) (c d : Scope) (more : IsMore q old c d) (self : SameNames old c c) (own : (id : NameId) → old id.0 ≡ true → entry_named c.own id ≡ entry_named d.own id) where
  abbrev alike : Alike old c d
  alike = more-alike q old c d more self own

  -- ---- marks

  seen-same : (id : NameId) → old id.0 ≡ true → is_some (meaning c id) ≡ is_some (meaning d id)
  seen-same id o = by_grown (more.things id o)
    where
      by_grown : IsGrown q old (meaning c id) (meaning d id) → is_some (meaning c id) ≡ is_some (meaning d id)
      by_grown (same_thing e n) = ap is_some (sym e)
      by_grown (doubled entries e t) = ap is_some e ∙ sym (ap is_some t.doubles.means)

  mark-more : (allowed : MarkUse) (w : Word) → old w.name.0 ≡ true → IsMetBut (site c (stands_as_mark allowed w)) → IsMetBut (site d (stands_as_mark allowed w))
  mark-more allowed w o m = record {
    known = ap (λ b. if b then [] else w.span ∷ []) (sym (seen-same w.name o)) ∙ m.known;
    matched = ap (λ x. if is_allowed allowed x then [] else w.span ∷ []) (sym (marking-same q old c d more w.name o)) ∙ m.matched;
    static = refl;
    ranged = refl;
    variable = refl;
    readable = refl;
    counted = refl;
    chosen = refl;
    arrays = refl;
    texts = refl;
    exceptions = refl;
  }

  subind-more : (static : Bool) (allowed : MarkUse) (x : PSubind) → IsOldSubind old x → AllMetBut (subind_sites static allowed c x) → AllMetBut (subind_sites static allowed d x)
  subind-more static allowed x o m = (mark-more allowed x.mark o.0 m.0, by_bounds x.bounds o.1 m.1)
    where
      by_bounds : (b : Option PBounds) → IfSome b (IsOldBounds old) → AllMetBut (if_there (constraint_sites static c (scalar_kind (marking c x.mark.name))) b) → AllMetBut (if_there (constraint_sites static d (scalar_kind (marking d x.mark.name))) b)
      by_bounds None i n = tt
      by_bounds (Some b) i n =
          subst (λ z. AllMetBut (constraint_sites static d (scalar_kind z) b)) (marking-same q old c d more x.mark.name o.0)
          (constraint-stays IsMetBut same old c d alike.names static (scalar_kind (marking c x.mark.name)) b i n)

  shape-more : (constant : Bool) (shape : PShape) (init : Option PInit) → IsOldShape old shape → AllMetBut (shape_sites c constant shape init) → AllMetBut (shape_sites d constant shape init)
  shape-more constant (OPlain x) init o m =
      subst (λ b. AllMetBut (subind_sites true (object_marks (b && not constant && is_none x.bounds && is_none init) x.bounds) d x)) (sym more.main)
      (subind-more true (object_marks (c.in_main && not constant && is_none x.bounds && is_none init) x.bounds) x o m)
  shape-more constant (OArray index x) init o m =
      let allowed : Bool → MarkUse = λ b. component_marks (b && not constant && is_none x.bounds && is_none init) in
      all_joined IsMetBut (drange_sites true d index) _ (drange-stays IsMetBut same old c d alike.names true index o.0 (all_front IsMetBut (drange_sites true c index) (subind_sites true (allowed c.in_main) c x) m))
      (subst (λ b. AllMetBut (subind_sites true (allowed b) d x)) (sym more.main)
      (subind-more true (allowed c.in_main) x o.1 (all_back IsMetBut (drange_sites true c index) (subind_sites true (allowed c.in_main) c x) m)))

  -- ---- initial values

  value-more : (range : Option Range) (e : PExpr) → IsOldExpr old e → AllMetBut (value_sites c range e) → AllMetBut (value_sites d range e)
  value-more range e o m =
      let k : Option ℕ = option_map (λ (r : Range). r.kind) range in
      all_joined IsMetBut (static_of d k e) _ (static-stays IsMetBut same old c d alike.names k e o (all_front IsMetBut (static_of c k e) (site c (must_lie_in e range) ∷ []) m))
      (stays IsMetBut same old c d alike.names (must_lie_in e range) o (all_back IsMetBut (static_of c k e) (site c (must_lie_in e range) ∷ []) m).0, tt)

  free-more : (e : PExpr) → IsOldExpr old e → AllMetBut (free_value_sites c e) → AllMetBut (free_value_sites d e)
  free-more e o m =
      all_joined IsMetBut (expr_sites d e) _ (expr-stays IsMetBut same old c d alike.names e o (all_front IsMetBut (expr_sites c e) (site c (must_be_static e) ∷ []) m))
      (stays IsMetBut same old c d alike.names (must_be_static e) o (all_back IsMetBut (expr_sites c e) (site c (must_be_static e) ∷ []) m).0, tt)

  values-more : (range : Option Range) (es : List PExpr) → AllByRecursion (IsOldExpr old) es → AllMetBut (flat_map (value_sites c range) es) → AllMetBut (flat_map (value_sites d range) es)
  values-more range [] o m = tt
  values-more range (e ∷ es) o m =
      all_joined IsMetBut (value_sites d range e) _ (value-more range e o.0 (all_front IsMetBut (value_sites c range e) (flat_map (value_sites c range) es) m))
      (values-more range es o.1 (all_back IsMetBut (value_sites c range e) (flat_map (value_sites c range) es) m))

  frees-more : (es : List PExpr) → AllByRecursion (IsOldExpr old) es → AllMetBut (flat_map (free_value_sites c) es) → AllMetBut (flat_map (free_value_sites d) es)
  frees-more [] o m = tt
  frees-more (e ∷ es) o m =
      all_joined IsMetBut (free_value_sites d e) _ (free-more e o.0 (all_front IsMetBut (free_value_sites c e) (flat_map (free_value_sites c) es) m))
      (frees-more es o.1 (all_back IsMetBut (free_value_sites c e) (flat_map (free_value_sites c) es) m))

  scalar-more : (range : Option Range) (x : PInit) → IsOldInit old x → AllMetBut (scalar_init_sites c range x) → AllMetBut (scalar_init_sites d range x)
  scalar-more range (IOne e) o m = value-more range e o m
  scalar-more range (IList es s) o m = frees-more es o m
  scalar-more range (IOthers e s) o m = free-more e o m

  array-more : (range : Option Range) (x : PInit) → IsOldInit old x → AllMetBut (array_init_sites c range x) → AllMetBut (array_init_sites d range x)
  array-more range (IOne e) o m = free-more e o m
  array-more range (IList es s) o m = values-more range es o m
  array-more range (IOthers e s) o m = value-more range e o m

  any-more : (x : PInit) → IsOldInit old x → AllMetBut (all_init_sites c x) → AllMetBut (all_init_sites d x)
  any-more (IOne e) o m = free-more e o m
  any-more (IList es s) o m = frees-more es o m
  any-more (IOthers e s) o m = free-more e o m

  init-more : (T : TypeTable) (z : Marking) (x : PInit) → IsOldInit old x → AllMetBut (init_sites c T z x) → AllMetBut (init_sites d T z x)
  init-more T (ScalarMark k j) x o m =
      all_joined IsMetBut (scalar_init_sites d (range_of_mark T k) x) _ (scalar-more (range_of_mark T k) x o (all_front IsMetBut (scalar_init_sites c (range_of_mark T k) x) (site c (initializes for_scalar x) ∷ []) m))
      (stays IsMetBut same old c d alike.names (initializes for_scalar x) tt (all_back IsMetBut (scalar_init_sites c (range_of_mark T k) x) (site c (initializes for_scalar x) ∷ []) m).0, tt)
  init-more T (ArrayMark k range part) x o m =
      all_joined IsMetBut (array_init_sites d (range_of_mark T part) x) _ (array-more (range_of_mark T part) x o (all_front IsMetBut (array_init_sites c (range_of_mark T part) x) (site c (initializes (for_array range) x) ∷ []) m))
      (stays IsMetBut same old c d alike.names (initializes (for_array range) x) tt (all_back IsMetBut (array_init_sites c (range_of_mark T part) x) (site c (initializes (for_array range) x) ∷ []) m).0, tt)
  init-more T (TaskMark entries) x o m = any-more x o m
  init-more T NoMark x o m = any-more x o m
  init-more T UnknownMark x o m = any-more x o m
  init-more T UnclearMark x o m = any-more x o m

  -- ---- objects

  -- The places of an object declaration of old types and old values.
  pub object-more : (ws : List Word) (constant : Bool) (shape : PShape) (init : Option PInit) → IsOldShape old shape → IfSome init (IsOldInit old) → AllMetBut (object_sites c ws constant shape init (declared_object c constant shape)) →
      AllMetBut (object_sites d ws constant shape init (declared_object d constant shape))
  object-more ws constant shape init o i m =
      subst (λ (x : Declared). AllMetBut (object_sites d ws constant shape init x)) (declared-same q old c d more constant shape o)
      (all_joined IsMetBut (names_sites (d.in_main && (constant || is_task_object its.thing)) d ws ++ shape_sites d constant shape init) (if_there (init_sites d its.types (object_marking its)) init)
      (all_joined IsMetBut (names_sites (d.in_main && (constant || is_task_object its.thing)) d ws) (shape_sites d constant shape init) (words-met (d.in_main && (constant || is_task_object its.thing)) ws d)
      (shape-more constant shape init o (all_back IsMetBut (names_sites (c.in_main && (constant || is_task_object its.thing)) c ws) (shape_sites c constant shape init) front)))
      (by_init init i (all_back IsMetBut (names_sites (c.in_main && (constant || is_task_object its.thing)) c ws ++ shape_sites c constant shape init) (if_there (init_sites c its.types (object_marking its)) init) m)))
    where
      its : Declared
      its = declared_object c constant shape

      front : AllMetBut (names_sites (c.in_main && (constant || is_task_object its.thing)) c ws ++ shape_sites c constant shape init)
      front = all_front IsMetBut (names_sites (c.in_main && (constant || is_task_object its.thing)) c ws ++ shape_sites c constant shape init) (if_there (init_sites c its.types (object_marking its)) init) m

      by_init : (x : Option PInit) → IfSome x (IsOldInit old) → AllMetBut (if_there (init_sites c its.types (object_marking its)) x) → AllMetBut (if_there (init_sites d its.types (object_marking its)) x)
      by_init None j n = tt
      by_init (Some x) j n = init-more its.types (object_marking its) x j n
