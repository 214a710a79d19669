-- No type or subtype of a legal program is empty.
use Rattle.std.proofs.Common.{◌≡◌, ◌≤◌, ℕ, ℤ, pos, ◌-ℤ◌, int_le, int_lt, Bool, true, false, ◌||◌, ◌&&◌, ◌==◌, if◌then◌else◌, List, [], ◌∷◌, ◌++◌, length, Option, Some, None, option_map, refl, sym, ap, subst, ◌∙◌, arith}
use Rattle.std.proofs.lemmas.Int.{ints}
use Rattle.std.specs.List.{AllByRecursion}
use Rattle.std.proofs.lemmas.Bool.{eqb-true}
use Rattle.ada_tree.specs.declared.naming.NameId.{NameId}
use Rattle.ada_tree.specs.declared.naming.Word.{Word}
use Rattle.ada_tree.specs.declared.static_types.Mark.{Mark}
use Rattle.ada_tree.specs.TypeTable.{TypeTable}
use Rattle.ada_tree.specs.PlainExpr.{PExpr, PBounds, PSubind, PDrange, RGiven, RMarked}
use Rattle.ada_tree.specs.PlainDecl.{PShape, OPlain, OArray, PInit, PDecl, DNumber, DObject, DEnumeration, DArray, DSubtype, DException, DIntIo, DPragma, DTask, DTaskBody, PDecls, no_decl, decl_then}
use Rattle.ada_tree.specs.PlainProgram.{PProgram}
use Rattle.ada_tree.specs.Every.{EveryDecl, EveryDecls}
use Rattle.ada_tree.specs.WellPlaced.{well_placed, IsWellPlaced}
use Rattle.ada_static_rules.specs.Refusals.{MeetsTypeRules, types_in}
use Rattle.ada_static_rules.specs.Scope.{Scope, Range, Marking, ScalarMark, ArrayMark, TaskMark, NoMark, UnknownMark, UnclearMark, marking, and_then, mark_at, range_of_mark, scalar_kind}
use Rattle.ada_static_rules.specs.Demand.{MarkUse, scalar_only, must_not_be_empty}
use Rattle.ada_static_rules.specs.Sites.{site, if_there, names_sites, expr_sites, static_if, bounds_sites, constraint_sites, subind_sites, drange_sites, object_marks, component_marks, may_be_task, shape_sites, is_task_object, init_sites, object_marking, object_sites, own_object_sites, own_sites, decl_sites, decls_sites, body_sites}
use Rattle.ada_static_rules.specs.ExprTypes.{expr_place, ok_value, is_kind, kind_of, static_in, range_between, static_range}
use Rattle.ada_static_rules.specs.RuleRangeBad.{is_below, empty_range}
use Rattle.ada_static_rules.specs.StaticValue.{is_static, value_of}
use Rattle.ada_static_rules.specs.Declaring.{first_scope, inner_scope, with_types, with_names, made_range, subind_made, made_subind, given_range, marked_range, drange_range, made_array, renamed, plain_object, array_object, declared_object, add_constants, with_constants, constant_mark, constant_value, in_body, after_own_object, after_objects, after_decl, after_decls}
use Rattle.task_laws.proofs.legal.rewritten_types.Lookups.{place-all}
use Rattle.task_laws.proofs.legal.rewritten_types.Adding.{names-types}
use Rattle.task_laws.specs.legal.sites.Met.{IsMet}
use Rattle.task_laws.proofs.legal.sites.Meeting.{all_met}
use Rattle.task_laws.proofs.legal.sites.Around.{test-fails}
use Rattle.common_lemmas.proofs.Lists.{all_back, all_front, all_joined}

-- a type or subtype has a value
abbrev pub IsFullMark : Mark → Type 0
IsFullMark m = int_le m.first m.last ≡ true

abbrev pub IsFull : TypeTable → Type 0
IsFull T = AllByRecursion IsFullMark T.marks

not-below : (a b : ℤ) → int_lt b a ≡ false → int_le a b ≡ true
not-below a b h = grind (arith, ints)

-- a range that may be none has a value
abbrev RangeFull : Option Range → Type 0
RangeFull (Some r) = int_le r.first r.last ≡ true
RangeFull None = Unit {0}

-- ---- ranges with bounds

between-full : (k : ℕ) (a b : Option ℤ) → is_below b a ≡ false → RangeFull (range_between k a b)
between-full k (Some a) (Some b) h = not-below a b h
between-full k (Some a) None h = tt
between-full k None (Some b) h = tt
between-full k None None h = tt

-- an expression of another kind has no value of this one
kind-value : (s : Scope) (k : ℕ) (e : PExpr) (o : Option ℕ) → kind_of s e ≡ o → is_kind k o ≡ false → static_in s k e ≡ None
kind-value s k e o f g =
    ap (λ (x : Option ℕ). if is_kind k x && is_static s.types e then ok_value (value_of s.types e) else None) f
    ∙ ap (λ (b : Bool). if b && is_static s.types e then ok_value (value_of s.types e) else None) g

none-full : (k : ℕ) (a b : Option ℤ) → a ≡ None → RangeFull (range_between k a b)
none-full k a b e = subst (λ x. RangeFull (range_between k x b)) (sym e) tt

static-full : (s : Scope) (k : ℕ) (b : PBounds) → IsMet (site s (must_not_be_empty b.first b.last)) → RangeFull (static_range s k b)
static-full s k b h = by_kind (kind_of s b.first) refl h.ranged
  where
    below : (j : ℕ) → k ≡ j → is_below (static_in s j b.last) (static_in s j b.first) ≡ false → RangeFull (static_range s k b)
    below j e f = between-full k (static_in s k b.first) (static_in s k b.last) (ap (λ n. is_below (static_in s n b.last) (static_in s n b.first)) e ∙ f)

    by_same : (j : ℕ) (t : Bool) → (k == j) ≡ t → kind_of s b.first ≡ Some j → empty_range s b.first b.last (Some j) ≡ [] → RangeFull (static_range s k b)
    by_same j false e f g = none-full k (static_in s k b.first) (static_in s k b.last) (kind-value s k b.first (Some j) f e)
    by_same j true e f g = below j (eqb-true k j e) (test-fails (is_below (static_in s j b.last) (static_in s j b.first)) (expr_place b.first) g)

    by_kind : (o : Option ℕ) → kind_of s b.first ≡ o → empty_range s b.first b.last o ≡ [] → RangeFull (static_range s k b)
    by_kind None f g = none-full k (static_in s k b.first) (static_in s k b.last) (kind-value s k b.first None f refl)
    by_kind (Some j) f g = by_same j (k == j) refl f g

-- ---- places of ranges

bounds-met : (s : Scope) (b : PBounds) → AllByRecursion IsMet (bounds_sites true s b) → IsMet (site s (must_not_be_empty b.first b.last))
bounds-met s b h = (all_back IsMet (expr_sites s b.first ++ static_if true s b.first ++ expr_sites s b.last ++ static_if true s b.last) (site s (must_not_be_empty b.first b.last) ∷ []) h).0

-- the bounds of a subtype indication
abbrev BoundsMet : Scope → Option PBounds → Type 0
BoundsMet s (Some b) = IsMet (site s (must_not_be_empty b.first b.last))
BoundsMet s None = Unit {0}

subind-met : (allowed : MarkUse) (s : Scope) (x : PSubind) → AllByRecursion IsMet (subind_sites true allowed s x) → BoundsMet s x.bounds
subind-met allowed s x h = by_bounds x.bounds h.1
  where
    by_bounds : (o : Option PBounds) → AllByRecursion IsMet (if_there (constraint_sites true s (scalar_kind (marking s x.mark.name))) o) → BoundsMet s o
    by_bounds None k = tt
    by_bounds (Some b) k = bounds-met s b (all_front IsMet (bounds_sites true s b) _ k)

abbrev DrangeMet : Scope → PDrange → Type 0
DrangeMet s (RGiven b) = IsMet (site s (must_not_be_empty b.first b.last))
DrangeMet s (RMarked x) = BoundsMet s x.bounds

drange-met : (s : Scope) (r : PDrange) → AllByRecursion IsMet (drange_sites true s r) → DrangeMet s r
drange-met s (RGiven b) h = bounds-met s b (all_front IsMet (bounds_sites true s b) _ h)
drange-met s (RMarked x) h = subind-met scalar_only s x h

-- ---- tables that grow

range-added : (T : TypeTable) (o : Option Range) → RangeFull o → IsFull T → IsFull (made_range T o).types
range-added T (Some r) e h = all_joined IsFullMark T.marks _ h (e, tt)
range-added T None e h = h

subind-full : (s : Scope) (m : Marking) (b : Option PBounds) → BoundsMet s b → IsFull s.types → IsFull (subind_made s m b).types
subind-full s (ScalarMark m k) None e h = h
subind-full s (ScalarMark m k) (Some b) e h = range-added s.types (static_range s k b) (static-full s k b e) h
subind-full s (ArrayMark m r p) b e h = h
subind-full s (TaskMark es) b e h = h
subind-full s NoMark b e h = h
subind-full s UnknownMark b e h = h
subind-full s UnclearMark b e h = h

-- the range of a mark
mark-full : (T : TypeTable) (m : ℕ) → IsFull T → RangeFull (range_of_mark T m)
mark-full T m h = by_mark (mark_at T m) refl
  where
    by_mark : (o : Option Mark) → mark_at T m ≡ o → RangeFull (option_map (λ mark. record { kind = mark.kind; first = mark.first; last = mark.last }) o)
    by_mark None e = tt
    by_mark (Some x) e = place-all IsFullMark T.marks m x h e

marked-full : (s : Scope) (m : Marking) (b : Option PBounds) → BoundsMet s b → IsFull s.types → RangeFull (marked_range s m b)
marked-full s (ScalarMark m k) None e h = mark-full s.types m h
marked-full s (ScalarMark m k) (Some b) e h = static-full s k b e
marked-full s (ArrayMark m r p) b e h = tt
marked-full s (TaskMark es) b e h = tt
marked-full s NoMark b e h = tt
marked-full s UnknownMark b e h = tt
marked-full s UnclearMark b e h = tt

given-full : (s : Scope) (o : Option ℕ) (b : PBounds) → IsMet (site s (must_not_be_empty b.first b.last)) → RangeFull (given_range s o b)
given-full s (Some k) b e = static-full s k b e
given-full s None b e = tt

drange-full : (s : Scope) (r : PDrange) → DrangeMet s r → IsFull s.types → RangeFull (drange_range s r)
drange-full s (RGiven b) e h = given-full s (kind_of s b.first) b e
drange-full s (RMarked x) e h = marked-full s (marking s x.mark.name) x.bounds e h

array-full : (name : Option NameId) (T : TypeTable) (o : Option Range) (part : Option ℕ) → RangeFull o → IsFull T → IsFull (made_array name T o part).types
array-full name T (Some r) (Some part) e h = all_joined IsFullMark T.marks _ h (e, tt)
array-full name T (Some r) None e h = h
array-full name T None (Some part) e h = h
array-full name T None None e h = h

renamed-full : (w : Word) (T : TypeTable) (o : Option Range) → RangeFull o → IsFull T → IsFull (renamed w T o).types
renamed-full w T (Some r) e h = all_joined IsFullMark T.marks _ h (e, tt)
renamed-full w T None e h = h

then-full : (T : TypeTable) (o : Option ℕ) → IsFull T → RangeFull (and_then (range_of_mark T) o)
then-full T (Some m) h = mark-full T m h
then-full T None h = tt

constants-full : (ws : List Word) (m : Option ℕ) (z : Option ℤ) (T : TypeTable) → IsFull T → IsFull (add_constants ws m z T)
constants-full ws (Some m) (Some z) T h = h
constants-full ws (Some m) None T h = h
constants-full ws None (Some z) T h = h
constants-full ws None None T h = h

-- ---- objects

plain-full : (s : Scope) (constant : Bool) (m : Marking) (x : PSubind) → BoundsMet s x.bounds → IsFull s.types → IsFull (plain_object s constant m x).types
plain-full s constant (TaskMark es) x e h = h
plain-full s constant (ArrayMark m r p) x e h = h
plain-full s constant (ScalarMark m k) x e h = subind-full s (marking s x.mark.name) x.bounds e h
plain-full s constant NoMark x e h = subind-full s (marking s x.mark.name) x.bounds e h
plain-full s constant UnknownMark x e h = subind-full s (marking s x.mark.name) x.bounds e h
plain-full s constant UnclearMark x e h = subind-full s (marking s x.mark.name) x.bounds e h

row-full : (s : Scope) (constant : Bool) (m : Marking) (index : PDrange) (x : PSubind) → DrangeMet s index → BoundsMet s x.bounds → IsFull s.types → IsFull (array_object s constant m index x).types
row-full s constant (TaskMark es) index x r e h = h
row-full s constant (ArrayMark m q p) index x r e h = array-full None _ (drange_range s index) (made_subind s x).mark (drange-full s index r h) (subind-full s (marking s x.mark.name) x.bounds e h)
row-full s constant (ScalarMark m k) index x r e h = array-full None _ (drange_range s index) (made_subind s x).mark (drange-full s index r h) (subind-full s (marking s x.mark.name) x.bounds e h)
row-full s constant NoMark index x r e h = array-full None _ (drange_range s index) (made_subind s x).mark (drange-full s index r h) (subind-full s (marking s x.mark.name) x.bounds e h)
row-full s constant UnknownMark index x r e h = array-full None _ (drange_range s index) (made_subind s x).mark (drange-full s index r h) (subind-full s (marking s x.mark.name) x.bounds e h)
row-full s constant UnclearMark index x r e h = array-full None _ (drange_range s index) (made_subind s x).mark (drange-full s index r h) (subind-full s (marking s x.mark.name) x.bounds e h)

declared-full : (s : Scope) (constant : Bool) (x : PShape) (init : Option PInit) → AllByRecursion IsMet (shape_sites s constant x init) → IsFull s.types → IsFull (declared_object s constant x).types
declared-full s constant (OPlain x) init k h = plain-full s constant (marking s x.mark.name) x (subind-met (object_marks (may_be_task s constant x.bounds init) x.bounds) s x k) h
declared-full s constant (OArray index x) init k h =
    let marks = subind_sites true (component_marks (may_be_task s constant x.bounds init)) s x in
    row-full s constant (marking s x.mark.name) index x (drange-met s index (all_front IsMet (drange_sites true s index) marks k)) (subind-met (component_marks (may_be_task s constant x.bounds init)) s x (all_back IsMet (drange_sites true s index) marks k)) h

object-full : (ws : List Word) (constant : Bool) (x : PShape) (i : Option PInit) (s : Scope) → AllByRecursion IsMet (object_sites s ws constant x i (declared_object s constant x)) → IsFull s.types →
    IsFull (with_names (declared_object s constant x).thing (with_types (with_constants s ws i (declared_object s constant x)) s) ws).types
object-full ws constant x i s k h =
    let d = declared_object s constant x in
    let one = names_sites (s.in_main && (constant || is_task_object d.thing)) s ws in
    let three = if_there (init_sites s d.types (object_marking d)) i in
    let full = declared-full s constant x i (all_back IsMet one (shape_sites s constant x i) (all_front IsMet (one ++ shape_sites s constant x i) three k)) h in
    subst IsFull (sym (names-types d.thing ws (with_types (with_constants s ws i d) s))) (by_main s.in_main full)
  where
    by_main : (b : Bool) → IsFull (declared_object s constant x).types →
        IsFull (if b then add_constants ws (constant_mark (declared_object s constant x).thing) (constant_value s (declared_object s constant x).types (constant_mark (declared_object s constant x).thing) i) (declared_object s constant x).types else (declared_object s constant x).types)
    by_main false f = f
    by_main true f = constants-full ws (constant_mark (declared_object s constant x).thing) (constant_value s (declared_object s constant x).types (constant_mark (declared_object s constant x).thing) i) _ f

own-full : (d : PDecl) (s : Scope) → AllByRecursion IsMet (own_object_sites s d) → IsFull s.types → IsFull (after_own_object s d).types
own-full (DObject ws k x i sp) s m h = object-full ws k x i s m h
own-full (DNumber w e sp) s m h = h
own-full (DEnumeration w ws sp) s m h = h
own-full (DArray w i x sp) s m h = h
own-full (DSubtype w x sp) s m h = h
own-full (DException ws sp) s m h = h
own-full (DIntIo w sp) s m h = h
own-full (DPragma e sp) s m h = h
own-full (DTask t sp) s m h = h
own-full (DTaskBody w ds b sp) s m h = h

owns-full : (ds : PDecls) (s : Scope) → AllByRecursion IsMet (own_sites s ds) → IsFull s.types → IsFull (after_objects s ds).types
owns-full no_decl s m h = h
owns-full (decl_then d rest) s m h =
    owns-full rest (after_own_object s d) (all_back IsMet (own_object_sites s d) (own_sites (after_own_object s d) rest) m) (own-full d s (all_front IsMet (own_object_sites s d) (own_sites (after_own_object s d) rest) m) h)

-- ---- declarations

literals-full : (ws : List Word) → 1 ≤ length ws → int_le (pos 0) (pos (length ws) -ℤ pos 1) ≡ true
literals-full [] h = absurd (omega (arith, h))
literals-full (w ∷ ws) h = grind (arith, ints)

decl-full : (names : List (List ℕ)) (d : PDecl) (s : Scope) → EveryDecl (well_placed names) d → AllByRecursion IsMet (decl_sites s d) → IsFull s.types → IsFull (after_decl s d).types
decl-full names (DNumber w e sp) s p m h = constants-full (w ∷ []) (Some 0) (static_in s 0 e) s.types h
decl-full names (DObject ws k x i sp) s p m h = object-full ws k x i s m h
decl-full names (DEnumeration w ws sp) s p m h = subst IsFull (sym (names-types _ ws _)) (all_joined IsFullMark s.types.marks _ h (literals-full ws p.2.0, tt))
decl-full names (DArray w i x sp) s p m h =
    let k = m.1 in
    array-full (Some w.name) _ (drange_range s i) (made_subind s x).mark (drange-full s i (drange-met s i (all_front IsMet (drange_sites true s i) (subind_sites true scalar_only s x) k)) h)
    (subind-full s (marking s x.mark.name) x.bounds (subind-met scalar_only s x (all_back IsMet (drange_sites true s i) (subind_sites true scalar_only s x) k)) h)
decl-full names (DSubtype w x sp) s p m h =
    let full = subind-full s (marking s x.mark.name) x.bounds (subind-met scalar_only s x m.1) h in
    renamed-full w _ (and_then (range_of_mark (made_subind s x).types) (made_subind s x).mark) (then-full (made_subind s x).types (made_subind s x).mark full) full
decl-full names (DException ws sp) s p m h = subst IsFull (sym (names-types _ ws s)) h
decl-full names (DIntIo w sp) s p m h = h
decl-full names (DPragma e sp) s p m h = h
decl-full names (DTask t sp) s p m h = h
decl-full names (DTaskBody w ds b sp) s p m h =
    owns-full ds (in_body s w) (all_front IsMet (own_sites (in_body s w) ds) (body_sites (inner_scope (after_objects (in_body s w) ds)) b) m.1) h

decls-full : (names : List (List ℕ)) (ds : PDecls) (s : Scope) → EveryDecls (well_placed names) ds → AllByRecursion IsMet (decls_sites s ds) → IsFull s.types → IsFull (after_decls s ds).types
decls-full names no_decl s p m h = h
decls-full names (decl_then d rest) s p m h =
    decls-full names rest (after_decl s d) p.1 (all_back IsMet (decl_sites s d) (decls_sites (after_decl s d) rest) m)
    (decl-full names d s p.0 (all_front IsMet (decl_sites s d) (decls_sites (after_decl s d) rest) m) h)

-- No type and no subtype of a legal program is empty.
pub types-full : (p : PProgram) → MeetsTypeRules p → IsWellPlaced p → IsFull (types_in p)
types-full p types placed =
    decls-full p.names p.decls (first_scope p.name) placed.2
    (all_front IsMet (decls_sites (first_scope p.name) p.decls) (body_sites (inner_scope (after_decls (first_scope p.name) p.decls)) p.body) (all_met p types).1) (refl, (refl, (refl, (refl, tt))))
