-- The objects of a body, the formals of an accept and the parameter of a loop keep two scopes alike; so do objects of new names on the right side alone.
use Rattle.std.proofs.Common.{◌≡◌, ℕ, Bool, false, ◌==◌, List, [], ◌∷◌, Option, Some, None, option_map, refl, sym, ap, ◌∙◌, subst}
use Rattle.std.specs.List.{AllByRecursion}
use Rattle.common_lemmas.proofs.Numbers.{equal_is}
use Rattle.common_lemmas.proofs.Lists.{found_passes, found_at}
use Rattle.common_lemmas.proofs.Truth.{if_false}
use Rattle.ada_tree.specs.declared.naming.Word.{Word}
use Rattle.ada_tree.specs.declared.statements.ParMode.{ParMode}
use Rattle.ada_tree.specs.declared.static_types.Mark.{Mark}
use Rattle.ada_tree.specs.TypeTable.{TypeTable}
use Rattle.ada_tree.specs.PlainExpr.{PDrange}
use Rattle.ada_tree.specs.PlainStmt.{PFormal}
use Rattle.ada_tree.specs.PlainDecl.{PShape, PInit, PDecl, DNumber, DObject, DEnumeration, DArray, DSubtype, DException, DIntIo, DPragma, DTask, DTaskBody, PDecls, no_decl, decl_then}
use Rattle.ada_static_rules.specs.Scope.{Scope, Range, Unclear, Marking, marking, and_then}
use Rattle.ada_static_rules.specs.Declaring.{with_names, with_types, inner_scope, Declared, declared_object, with_constants, after_object, after_own_object, after_objects, formal_thing, with_formals, first_mark_of, loop_thing, drange_kind, with_loop_parameter}
use Rattle.task_laws.specs.legal.rewritten_types.Agreement.{IsScalar}
use Rattle.task_laws.specs.legal.rewritten_types.Rewriting.{IsNew, AreAdded}
use Rattle.task_laws.proofs.legal.rewritten_types.Adding.{names-main, keeps-shape}
use Rattle.task_laws.specs.legal.alike_scopes.Alike.{SameScalar, of_values, SameThing, same_parameter, same_loop_parameter, same_unclear, SameNames, Alike}
use Rattle.task_laws.specs.legal.alike_scopes.Old.{IsOldDrange, IsOldShape, IsOldObject, AreOldObjects, AreOldFormals}
use Rattle.task_laws.specs.legal.alike_scopes.Laws.{InsideIsAlike, FormalsAreAlike, LoopIsAlike, ObjectsAreAlike}
use Rattle.task_laws.proofs.legal.alike_scopes.Readings.{IsNoMark, is_task_mark, is_no_mark, is_unknown_mark, SameMarking, both_scalars, both_arrays, both_no_marks, both_unclear_marks}
use Rattle.task_laws.proofs.legal.alike_scopes.Exprs.{mark-same, drange-same, drange-scalar}
use Rattle.task_laws.proofs.legal.alike_scopes.Objects.{declared-same}
use Rattle.task_laws.proofs.legal.alike_scopes.Naming.{name-both, names-both, names-new, tables-kept, table-right, alike-on, inside-alike}
use Rattle.ada_static_rules.proofs.found_twice.Declared.{formals_own, names_own}

-- ---- objects

-- an object of a body adds no constants
abbrev behind_object : Scope → List Word → Declared → Scope
behind_object s names d = with_names d.thing (with_types d.types s) names

object-behind : (s : Scope) (names : List Word) (constant : Bool) (shape : PShape) (init : Option PInit) → s.in_main ≡ false →
    after_object s names constant shape init ≡ behind_object s names (declared_object s constant shape)
object-behind s names constant shape init main =
    ap (λ T. with_names (declared_object s constant shape).thing (with_types T s) names)
    (if_false s.in_main _ (declared_object s constant shape).types main)

pub object-own : (s : Scope) (names : List Word) (constant : Bool) (shape : PShape) (init : Option PInit) → (after_object s names constant shape init).own ≡ s.own
object-own s names constant shape init = names_own (declared_object s constant shape).thing names (with_types (with_constants s names init (declared_object s constant shape)) s)

pub object-main : (s : Scope) (names : List Word) (constant : Bool) (shape : PShape) (init : Option PInit) → (after_object s names constant shape init).in_main ≡ s.in_main
object-main s names constant shape init = names-main (declared_object s constant shape).thing names (with_types (with_constants s names init (declared_object s constant shape)) s)

module _ (old : ℕ → Bool) where
  object-names : (s t : Scope) (names : List Word) (constant : Bool) (shape : PShape) (init : Option PInit) → SameNames old s t → s.in_main ≡ false → t.in_main ≡ false → IsOldShape old shape →
      SameNames old (after_object s names constant shape init) (after_object t names constant shape init)
  object-names s t names constant shape init n left right o =
      let d = declared_object s constant shape in
      let e = declared_object t constant shape in
      subst (λ x. SameNames old x (after_object t names constant shape init)) (sym (object-behind s names constant shape init left))
      (subst (λ x. SameNames old (behind_object s names d) x) (sym (object-behind t names constant shape init right))
      (names-both old names (with_types d.types s) (with_types e.types t) d.thing e.thing
      (tables-kept old s t d.types e.types n (keeps-shape s constant shape) (keeps-shape t constant shape))
      (declared-same old s t n left right constant shape o)))

  pub own-object-alike : (d : PDecl) (s t : Scope) → Alike old s t → s.in_main ≡ false → IsOldObject old d → Alike old (after_own_object s d) (after_own_object t d)
  own-object-alike (DObject names constant shape init sp) s t a main o =
      alike-on old s t _ _ a (object-names s t names constant shape init a.names main (sym a.main ∙ main) o)
      (object-own s names constant shape init) (object-own t names constant shape init) (object-main s names constant shape init) (object-main t names constant shape init)
  own-object-alike (DNumber name e sp) s t a main o = a
  own-object-alike (DEnumeration name literals sp) s t a main o = a
  own-object-alike (DArray name index x sp) s t a main o = a
  own-object-alike (DSubtype name x sp) s t a main o = a
  own-object-alike (DException names sp) s t a main o = a
  own-object-alike (DIntIo name sp) s t a main o = a
  own-object-alike (DPragma e sp) s t a main o = a
  own-object-alike (DTask x sp) s t a main o = a
  own-object-alike (DTaskBody name objects its sp) s t a main o = a

  pub own-object-main : (d : PDecl) (s : Scope) → (after_own_object s d).in_main ≡ s.in_main
  own-object-main (DObject names constant shape init sp) s = object-main s names constant shape init
  own-object-main (DNumber name e sp) s = refl
  own-object-main (DEnumeration name literals sp) s = refl
  own-object-main (DArray name index x sp) s = refl
  own-object-main (DSubtype name x sp) s = refl
  own-object-main (DException names sp) s = refl
  own-object-main (DIntIo name sp) s = refl
  own-object-main (DPragma e sp) s = refl
  own-object-main (DTask x sp) s = refl
  own-object-main (DTaskBody name objects its sp) s = refl

  pub objects-alike : (ds : PDecls) (s t : Scope) → Alike old s t → s.in_main ≡ false → AreOldObjects old ds → Alike old (after_objects s ds) (after_objects t ds)
  objects-alike no_decl s t a main o = a
  objects-alike (decl_then d rest) s t a main o =
      objects-alike rest (after_own_object s d) (after_own_object t d) (own-object-alike d s t a main o.0) (own-object-main d s ∙ main) o.1

  -- ---- objects of new names on the right side alone

  new-object : (s t : Scope) (names : List Word) (constant : Bool) (shape : PShape) (init : Option PInit) → SameNames old s t → t.in_main ≡ false → AllByRecursion (IsNew old) names →
      SameNames old s (after_object t names constant shape init)
  new-object s t names constant shape init n main o =
      let d = declared_object t constant shape in
      subst (SameNames old s) (sym (object-behind t names constant shape init main))
      (names-new old names s (with_types d.types t) d.thing (table-right old s t d.types n (keeps-shape t constant shape)) o)

  pub new-own-object : (d : PDecl) (s t : Scope) → Alike old s t → t.in_main ≡ false → AreAdded old (decl_then d no_decl) → Alike old s (after_own_object t d)
  new-own-object (DObject names constant shape init sp) s t a main o =
      alike-on old s t s _ a (new-object s t names constant shape init a.names main o.0) refl (object-own t names constant shape init) refl (object-main t names constant shape init)
  new-own-object (DNumber name e sp) s t a main o = a
  new-own-object (DEnumeration name literals sp) s t a main o = a
  new-own-object (DArray name index x sp) s t a main o = a
  new-own-object (DSubtype name x sp) s t a main o = a
  new-own-object (DException names sp) s t a main o = a
  new-own-object (DIntIo name sp) s t a main o = a
  new-own-object (DPragma e sp) s t a main o = a
  new-own-object (DTask x sp) s t a main o = a
  new-own-object (DTaskBody name objects its sp) s t a main o = a

  pub new-objects : (ds : PDecls) (s t : Scope) → Alike old s t → t.in_main ≡ false → AreAdded old ds → Alike old s (after_objects t ds)
  new-objects no_decl s t a main o = a
  new-objects (decl_then d rest) s t a main o =
      new-objects rest s (after_own_object t d) (new-own-object d s t a main (o.0, tt)) (own-object-main d t ∙ main) o.1

-- ---- formals

no-mark-formal : (mode : ParMode) (p : Marking) (T U : TypeTable) (q : Marking) → IsNoMark p → IsNoMark q → SameThing T U (Some (formal_thing mode p)) (Some (formal_thing mode q))
no-mark-formal mode p T U q x y = same_unclear (unclear p x) (unclear q y)
  where
    unclear : (m : Marking) → IsNoMark m → Some (formal_thing mode m) ≡ Some Unclear
    unclear m (is_task_mark entries e) = ap (λ z. Some (formal_thing mode z)) e
    unclear m (is_no_mark e) = ap (λ z. Some (formal_thing mode z)) e
    unclear m (is_unknown_mark e) = ap (λ z. Some (formal_thing mode z)) e

formal-same : (T U : TypeTable) (mode : ParMode) (p q : Marking) → SameMarking T U p q → SameThing T U (Some (formal_thing mode p)) (Some (formal_thing mode q))
formal-same T U mode p q (both_scalars m n x e f) =
    same_parameter mode m n (ap (λ z. Some (formal_thing mode z)) e) (ap (λ z. Some (formal_thing mode z)) f) (of_values x)
formal-same T U mode p q (both_arrays m n x e f) = same_unclear (ap (λ z. Some (formal_thing mode z)) e) (ap (λ z. Some (formal_thing mode z)) f)
formal-same T U mode p q (both_no_marks x y) = no-mark-formal mode p T U q x y
formal-same T U mode p q (both_unclear_marks e f) = same_unclear (ap (λ z. Some (formal_thing mode z)) e) (ap (λ z. Some (formal_thing mode z)) f)

module _ (old : ℕ → Bool) where
  formals-names : (fs : List PFormal) (s t : Scope) → SameNames old s t → AreOldFormals old fs → SameNames old (with_formals s fs) (with_formals t fs)
  formals-names [] s t n o = n
  formals-names (f ∷ fs) s t n o =
      formals-names fs
      (with_names (formal_thing f.mode (marking s f.mark.name)) s f.names)
      (with_names (formal_thing f.mode (marking t f.mark.name)) t f.names)
      (names-both old f.names s t (formal_thing f.mode (marking s f.mark.name)) (formal_thing f.mode (marking t f.mark.name)) n
      (formal-same s.types t.types f.mode (marking s f.mark.name) (marking t f.mark.name) (mark-same old s t n f.mark.name o.0)))
      o.1

pub formals-main : (fs : List PFormal) (s : Scope) → (with_formals s fs).in_main ≡ s.in_main
formals-main [] s = refl
formals-main (f ∷ fs) s =
    formals-main fs (with_names (formal_thing f.mode (marking s f.mark.name)) s f.names) ∙ names-main (formal_thing f.mode (marking s f.mark.name)) f.names s

-- ---- loops

-- the mark at the first place of a kind
abbrev bounds_of : Mark → Range
bounds_of x = record { kind = x.kind; first = x.first; last = x.last }

module _ (old : ℕ → Bool) (s t : Scope) (n : SameNames old s t) where
  first-same : (k : ℕ) → IsScalar s.types k → (i : ℕ) × (j : ℕ) × (first_mark_of s.types k ≡ Some i) × (first_mark_of t.types k ≡ Some j) × SameScalar s.types t.types i j
  first-same k h =
      let m = n.types.first_marks k h in
      let a = found_at (λ (x : Mark). x.kind == k) s.types.marks m.0 m.1 in
      let b = found_at (λ (x : Mark). x.kind == k) t.types.marks m.0 m.2 in (
        a.0,
        b.0,
        a.1,
        b.1,
        record {
          range = bounds_of m.0;
          left = ap (option_map bounds_of) a.2;
          right = ap (option_map bounds_of) b.2;
          kind = subst (IsScalar s.types) (sym (equal_is m.0.kind k (found_passes (λ (x : Mark). x.kind == k) s.types.marks m.0 m.1))) h;
        },
      )

  loop-of : (o p : Option ℕ) → o ≡ p → ((k : ℕ) → o ≡ Some k → IsScalar s.types k) →
      SameThing s.types t.types (Some (loop_thing (and_then (first_mark_of s.types) o))) (Some (loop_thing (and_then (first_mark_of t.types) p)))
  loop-of o p e h = subst (λ q. SameThing s.types t.types (Some (loop_thing (and_then (first_mark_of s.types) o))) (Some (loop_thing (and_then (first_mark_of t.types) q)))) e (by_kind o h)
    where
      by_kind : (q : Option ℕ) → ((k : ℕ) → q ≡ Some k → IsScalar s.types k) →
          SameThing s.types t.types (Some (loop_thing (and_then (first_mark_of s.types) q))) (Some (loop_thing (and_then (first_mark_of t.types) q)))
      by_kind None g = same_unclear refl refl
      by_kind (Some k) g =
          let m = first-same k (g k refl) in
          same_loop_parameter m.0 m.1 (ap (λ x. Some (loop_thing x)) m.2) (ap (λ x. Some (loop_thing x)) m.3) (of_values m.4)

  loop-names : (w : Word) (x : PDrange) → IsOldDrange old x → SameNames old (with_loop_parameter s w x) (with_loop_parameter t w x)
  loop-names w x o =
      name-both old (inner_scope s) (inner_scope t) _ _ w (record { types = n.types; things = n.things })
      (loop-of (drange_kind s x) (drange_kind t x) (drange-same old s t n x o).kind (drange-scalar old s t n x o))

-- ---- the laws

pub inside_is_alike : InsideIsAlike
inside_is_alike old s t a = inside-alike old s t a

pub formals_are_alike : FormalsAreAlike
formals_are_alike old s t a fs o = alike-on old s t _ _ a (formals-names old fs s t a.names o) (formals_own fs s) (formals_own fs t) (formals-main fs s) (formals-main fs t)

pub loop_is_alike : LoopIsAlike
loop_is_alike old s t a w x o = alike-on old s t _ _ a (loop-names old s t a.names w x o) refl refl refl refl

pub objects_are_alike : ObjectsAreAlike
objects_are_alike old s t a main ds o = objects-alike old ds s t a main o
