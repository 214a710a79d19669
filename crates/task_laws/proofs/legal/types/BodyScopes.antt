-- The scopes of bodies behind their objects stand over the same table; and what a scope that stands so tells of marks and expressions.
use Rattle.std.proofs.Common.{◌≡◌, ℕ, ℤ, Bool, true, false, not, ◌&&◌, ◌||◌, if◌then◌else◌, List, ◌++◌, length, is_some, is_none, IfSome, option_map, Option, Some, None, inl, refl, sym, ap, ap₂, ◌∙◌, subst, true≢false}
use Rattle.std.specs.List.{AllByRecursion}
use Rattle.ada_tree.specs.declared.naming.NameId.{NameId}
use Rattle.ada_tree.specs.declared.naming.Span.{Span}
use Rattle.ada_tree.specs.declared.naming.Word.{Word}
use Rattle.ada_tree.specs.declared.static_types.Kind.TheVariants.{Array}
use Rattle.ada_tree.specs.declared.static_types.Mark.{Mark}
use Rattle.ada_tree.specs.TypeTable.{TypeTable}
use Rattle.ada_tree.specs.PlainExpr.{PExpr, PBounds, PSubind, PDrange, RGiven, RMarked}
use Rattle.ada_tree.specs.PlainStmt.{PBody}
use Rattle.ada_tree.specs.PlainDecl.{PShape, OPlain, OArray, PInit, DNumber, DObject, DEnumeration, DArray, DSubtype, DException, DIntIo, DPragma, DTask, DTaskBody, PDecls, no_decl, decl_then}
use Rattle.ada_static_rules.specs.Scope.{Scope, Range, Unclear, meaning, EntryPart, Marking, ScalarMark, ArrayMark, TaskMark, NoMark, UnknownMark, UnclearMark, marking, scalar_kind}
use Rattle.ada_static_rules.specs.StaticValue.{is_static}
use Rattle.ada_static_rules.specs.ExprTypes.{kind_of, static_in, static_range, range_between}
use Rattle.ada_static_rules.specs.Demand.{scalar_only, stands_as_mark, Site}
use Rattle.ada_static_rules.specs.RuleMismatch.{is_allowed}
use Rattle.ada_static_rules.specs.Sites.{site, if_there, names_sites, expr_sites, constraint_sites, subind_sites, drange_sites, may_be_task, object_marks, component_marks, shape_sites, init_sites, object_marking, is_task_object, object_sites, own_object_sites, own_sites, body_sites, decl_sites, decls_sites}
use Rattle.ada_static_rules.specs.Declaring.{inner_scope, in_body, with_types, Made, made_range, subind_made, made_subind, given_range, marked_range, drange_range, made_array, object_meaning, Declared, add_constants, constant_mark, constant_value, plain_object, array_object, declared_object, with_constants, after_object, after_objects, after_decl}
use Rattle.ada_value.specs.Values.{limits_or, limits_named}
use Rattle.ada_value.specs.StaticLaw.{HasSmallLiterals}
use Rattle.task_laws.specs.legal.rewritten_types.Agreement.{Keeps, Sound}
use Rattle.task_laws.proofs.legal.rewritten_types.Keeping.{keeps-on}
use Rattle.task_laws.proofs.legal.rewritten_types.Adding.{names-types, names-main, keeps-shape}
use Rattle.task_laws.proofs.legal.rewritten_types.Soundness.{sound-decl}
use Rattle.task_laws.specs.legal.rewritten_values.Values.{is_known}
use Rattle.task_laws.specs.legal.sites.Met.{IsMet}
use Rattle.task_laws.proofs.legal.types.ExprKinds.{LeadsOn, IsClearThing, scalar-mark}
use Rattle.task_laws.proofs.legal.types.StaticParts.{IsStaticIn, static-told, AreBounds, HasSubtype, HasRange, met-kind, raise-free, mark-bounds, drange-met}
use Rattle.task_laws.proofs.legal.types.TypedValues.{anybody}
use Rattle.task_laws.proofs.legal.types.StaticWorth.{IsWorth, keeps-agrees, static-same, worth}
use Rattle.task_laws.proofs.legal.types.GoodScopes.{News}
use Rattle.task_laws.proofs.legal.types.GoodObjects.{IsMarked, IsObject, object-clear, name-marked}
use Rattle.task_laws.proofs.legal.types.LaterTables.{worth-later}
use Rattle.task_laws.proofs.legal.types.LaterScopes.{over-more}
use Rattle.task_laws.proofs.legal.types.MainScopes.{StandsWhole, AllBodies}
use Rattle.task_laws.proofs.legal.types.InnerScopes.{AreApart, names-apart, names-stand, same-stands, inside-stands}
use Rattle.task_laws.proofs.legal.types.TaskTypes.{name-here}
use Rattle.common_lemmas.proofs.Lists.{all_back, all_front, last_at}
use Rattle.task_laws.proofs.legal.sites.Around.{test-holds}

-- ---- marks that are made

-- a mark is made, and is there
record HasLight (d : Made) : Type 0 where
  place : ℕ
  made : d.mark ≡ Some place
  leads : LeadsOn d.types place

bounds-range : (s : Scope) (k : ℕ) (b : PBounds) (h : AreBounds s k b) → static_range s k b ≡ Some record { kind = k; first = h.0.value; last = h.1.value }
bounds-range s k b h = ap₂ (range_between k) (static-told s k b.first h.0) (static-told s k b.last h.1)

subind-light : (s : Scope) (x : PSubind) → HasSubtype s x → HasLight (made_subind s x)
subind-light s x h = subst (λ m. HasLight (subind_made s m x.bounds)) (sym h.mark.marks) (by_bounds x.bounds h.bounds)
  where
    k : ℕ
    k = h.mark.leads.mark.kind

    by_bounds : (o : Option PBounds) → IfSome o (AreBounds s k) → HasLight (subind_made s (ScalarMark h.mark.place k) o)
    by_bounds None b = record { place = h.mark.place; made = refl; leads = h.mark.leads }
    by_bounds (Some b) q =
        subst (λ o. HasLight (made_range s.types o)) (sym (bounds-range s k b q))
        (record {
          place = length s.types.marks;
          made = refl;
          leads = record { mark = record { name = None; kind = k; first = q.0.value; last = q.1.value }; there = last_at s.types.marks _; kind = h.mark.leads.kind; known = h.mark.leads.known };
        })

drange-light : (s : Scope) (r : PDrange) → HasRange s r → (range : Range) × (drange_range s r ≡ Some range)
drange-light s (RGiven b) h = (record { kind = h.kind; first = h.first.value; last = h.last.value }, ap (λ o. given_range s o b) h.first.kind ∙ bounds-range s h.kind b (h.first, h.last, h.order))
drange-light s (RMarked x) h = by_bounds x.bounds refl h.bounds
  where
    by_bounds : (o : Option PBounds) → x.bounds ≡ o → IfSome o (AreBounds s h.mark.leads.mark.kind) → (range : Range) × (drange_range s (RMarked x) ≡ Some range)
    by_bounds None e q =
        let m = h.mark.leads.mark in
        (record { kind = m.kind; first = m.first; last = m.last }, ap₂ (marked_range s) h.mark.marks e ∙ ap (option_map (λ (z : Mark). record { kind = z.kind; first = z.first; last = z.last })) h.mark.leads.there)
    by_bounds (Some b) e q = (record { kind = h.mark.leads.mark.kind; first = q.0.value; last = q.1.value }, ap₂ (marked_range s) h.mark.marks e ∙ bounds-range s h.mark.leads.mark.kind b q)

array-light : (d : Made) (o : Option Range) (range : Range) → o ≡ Some range → HasLight d → HasLight (made_array None d.types o d.mark)
array-light d o range e h =
    subst (λ q. HasLight (made_array None d.types q d.mark)) (sym e)
    (subst (λ q. HasLight (made_array None d.types (Some range) q)) (sym h.made) (record {
      place = length d.types.marks;
      made = refl;
      leads = record {
        mark = record { name = None; kind = length d.types.kinds; first = range.first; last = range.last };
        there = last_at d.types.marks _;
        kind = Array range.kind range.first range.last h.place;
        known = last_at d.types.kinds _;
      };
    }))

light-object : (constant : Bool) (d : Made) → HasLight d → IsObject d.types (object_meaning constant d.mark)
light-object constant d h = subst (λ o. IsObject d.types (object_meaning constant o)) (sym h.made) (by_test constant)
  where
    by_test : (b : Bool) → IsObject d.types (object_meaning b (Some h.place))
    by_test true = h.leads
    by_test false = h.leads

-- ---- objects of a body

module _ (T : TypeTable) (s : Scope) (main : s.in_main ≡ false) (h : StandsWhole T s) where
  scalar-subtype : (x : PSubind) → is_some (meaning s x.mark.name) ≡ true → is_allowed scalar_only (marking s x.mark.name) ≡ true → AllByRecursion IsMet (if_there (constraint_sites true s (scalar_kind (marking s x.mark.name))) x.bounds) → HasSubtype s x
  scalar-subtype x known allowed met =
      let mark = scalar-mark s h.stands.over.clear x.mark.name known allowed in
      record { mark = mark; bounds = mark-bounds s h.stands.over.clear (scalar_kind (marking s x.mark.name)) mark.leads.mark.kind x.bounds (ap scalar_kind mark.marks) met }

  no-tasks : (o : Option PBounds) (es : List EntryPart) → is_allowed (object_marks false o) (TaskMark es) ≡ true → ⊥
  no-tasks None es e = true≢false (sym e)
  no-tasks (Some b) es e = true≢false (sym e)

  plain-inner : (constant : Bool) (x : PSubind) → AllByRecursion IsMet (subind_sites true (object_marks false x.bounds) s x) → IsObject (plain_object s constant (marking s x.mark.name) x).types (plain_object s constant (marking s x.mark.name) x).thing
  plain-inner constant x met =
      let m = met.0 in
      let known = test-holds (is_some (meaning s x.mark.name)) x.mark.span m.known in
      by_marking (marking s x.mark.name) refl known (test-holds (is_allowed (object_marks false x.bounds) (marking s x.mark.name)) x.mark.span m.matched) (name-marked s h.stands.over.clear x.mark.name known)
    where
      array-object : (b : Bool) (m : ℕ) → LeadsOn s.types m → IsObject s.types (object_meaning b (Some m))
      array-object true m l = l
      array-object false m l = l

      by_marking : (m : Marking) → marking s x.mark.name ≡ m → is_some (meaning s x.mark.name) ≡ true → is_allowed (object_marks false x.bounds) m ≡ true → IsMarked s.types m → IsObject (plain_object s constant m x).types (plain_object s constant m x).thing
      by_marking (ScalarMark m k) e known a marked = light-object constant (made_subind s x) (subind-light s x (scalar-subtype x known (ap (is_allowed scalar_only) e) met.1))
      by_marking (ArrayMark m range part) e known a marked = array-object constant m marked
      by_marking (TaskMark es) e known a marked = absurd (no-tasks x.bounds es a)
      by_marking NoMark e known a marked = absurd (true≢false (sym a))
      by_marking UnknownMark e known a marked = absurd marked
      by_marking UnclearMark e known a marked = absurd marked

  row-inner : (constant : Bool) (index : PDrange) (x : PSubind) → AllByRecursion IsMet (drange_sites true s index) → AllByRecursion IsMet (subind_sites true scalar_only s x) →
      IsObject (array_object s constant (marking s x.mark.name) index x).types (array_object s constant (marking s x.mark.name) index x).thing
  row-inner constant index x mets met =
      let m = met.0 in
      let known = test-holds (is_some (meaning s x.mark.name)) x.mark.span m.known in
      by_marking (marking s x.mark.name) refl known (test-holds (is_allowed scalar_only (marking s x.mark.name)) x.mark.span m.matched) (name-marked s h.stands.over.clear x.mark.name known)
    where
      range : (r : Range) × (drange_range s index ≡ Some r)
      range = drange-light s index (drange-met s h.stands.over.clear index mets)

      by_marking : (m : Marking) → marking s x.mark.name ≡ m → is_some (meaning s x.mark.name) ≡ true → is_allowed scalar_only m ≡ true → IsMarked s.types m → IsObject (array_object s constant m index x).types (array_object s constant m index x).thing
      by_marking (ScalarMark m k) e known a marked =
          light-object constant _ (array-light (made_subind s x) (drange_range s index) range.0 range.1 (subind-light s x (scalar-subtype x known (ap (is_allowed scalar_only) e) met.1)))
      by_marking (ArrayMark m r part) e known a marked = absurd (true≢false (sym a))
      by_marking (TaskMark es) e known a marked = absurd (true≢false (sym a))
      by_marking NoMark e known a marked = absurd (true≢false (sym a))
      by_marking UnknownMark e known a marked = absurd marked
      by_marking UnclearMark e known a marked = absurd marked

  no-task : (constant : Bool) (bounds : Option PBounds) (init : Option PInit) → may_be_task s constant bounds init ≡ false
  no-task constant bounds init = ap (λ b. b && not constant && is_none bounds && is_none init) main

  shape-inner : (constant : Bool) (shape : PShape) (init : Option PInit) → AllByRecursion IsMet (shape_sites s constant shape init) → IsObject (declared_object s constant shape).types (declared_object s constant shape).thing
  shape-inner constant (OPlain x) init met =
      plain-inner constant x (subst (λ b. AllByRecursion IsMet (subind_sites true (object_marks b x.bounds) s x)) (no-task constant x.bounds init) met)
  shape-inner constant (OArray index x) init met =
      let sub = subind_sites true (component_marks (may_be_task s constant x.bounds init)) s x in
      row-inner constant index x (all_front IsMet (drange_sites true s index) sub met)
      (subst (λ b. AllByRecursion IsMet (subind_sites true (component_marks b) s x)) (no-task constant x.bounds init) (all_back IsMet (drange_sites true s index) sub met))

  -- behind the objects of one declaration
  pub object-stands : (ws : List Word) (constant : Bool) (shape : PShape) (init : Option PInit) → AllByRecursion IsMet (object_sites s ws constant shape init (declared_object s constant shape)) → AreApart T (object_sites s ws constant shape init (declared_object s constant shape)) → StandsWhole T (after_object s ws constant shape init)
  object-stands ws constant shape init met apart =
      let fixed : Bool = constant || is_task_object d.thing in
      let first : List Site = names_sites (s.in_main && fixed) s ws in
      let second : List Site = shape_sites s constant shape init in
      let third : List Site = if_there (init_sites s d.types (object_marking d)) init in
      let object : IsObject d.types d.thing = shape-inner constant shape init (all_back IsMet first second (all_front IsMet (first ++ second) third met)) in
      let names : AreApart T (names_sites false s ws) = subst (λ b. AreApart T (names_sites (b && fixed) s ws)) main (all_front _ first second (all_front _ (first ++ second) third apart)) in
      names-stand T d.thing ws (with_types U s) (names-apart T ws s names) (subst (λ V. IsClearThing V d.thing) (sym same) (object-clear d.types d.thing object)) (λ j e. subst (IsObject d.types) e object) typed
    where
      d : Declared
      d = declared_object s constant shape

      U : TypeTable
      U = with_constants s ws init d

      same : U ≡ d.types
      same = ap (λ b. if b then add_constants ws (constant_mark d.thing) (constant_value s d.types (constant_mark d.thing) init) d.types else d.types) main

      kept : Keeps anybody s.types U
      kept = subst (Keeps anybody s.types) (sym same) (keeps-shape {old = anybody} s constant shape)

      sound : Sound U
      sound = subst (λ V. Sound V) (names-types d.thing ws (with_types U s)) (sound-decl (DObject ws constant shape init (record { start = 0; end = 0 })) s h.stands.over.clear.sound)

      New : News
      New id x = ⊥

      typed : StandsWhole T (with_types U s)
      typed = record {
        stands = record {
          root = h.stands.root;
          typed = h.stands.typed;
          over = over-more New h.stands.root s (with_types U s) (keeps-on h.stands.over.keeps kept) kept.grows sound (λ id v. refl) (λ id x e. inl e) (λ id x q. absurd q) (λ id m q. absurd q) h.stands.over;
          later = h.stands.later;
        };
        whole = h.whole;
      }

-- behind the objects of a body
own-stands : (T : TypeTable) (ds : PDecls) (s : Scope) → s.in_main ≡ false → StandsWhole T s → AllByRecursion IsMet (own_sites s ds) → AreApart T (own_sites s ds) → StandsWhole T (after_objects s ds)
own-stands T no_decl s main h met apart = h
own-stands T (decl_then (DObject ws constant shape init sp) rest) s main h met apart =
    let one = own_object_sites s (DObject ws constant shape init sp) in
    let more = own_sites (after_object s ws constant shape init) rest in
    own-stands T rest (after_object s ws constant shape init) (names-main _ ws (with_types _ s) ∙ main)
    (object-stands T s main h ws constant shape init (all_front IsMet one more met) (all_front _ one more apart))
    (all_back IsMet one more met) (all_back _ one more apart)
own-stands T (decl_then (DNumber w e sp) rest) s main h met apart = own-stands T rest s main h met apart
own-stands T (decl_then (DEnumeration w ws sp) rest) s main h met apart = own-stands T rest s main h met apart
own-stands T (decl_then (DArray w i x sp) rest) s main h met apart = own-stands T rest s main h met apart
own-stands T (decl_then (DSubtype w x sp) rest) s main h met apart = own-stands T rest s main h met apart
own-stands T (decl_then (DException ws sp) rest) s main h met apart = own-stands T rest s main h met apart
own-stands T (decl_then (DIntIo w sp) rest) s main h met apart = own-stands T rest s main h met apart
own-stands T (decl_then (DPragma e sp) rest) s main h met apart = own-stands T rest s main h met apart
own-stands T (decl_then (DTask t sp) rest) s main h met apart = own-stands T rest s main h met apart
own-stands T (decl_then (DTaskBody w ds b sp) rest) s main h met apart = own-stands T rest s main h met apart

-- where the statements of a body begin
pub body-stands : (T : TypeTable) (s : Scope) (w : Word) (objects : PDecls) (its : PBody) (sp : Span) → StandsWhole T s → AllByRecursion IsMet (decl_sites s (DTaskBody w objects its sp)) → AreApart T (decl_sites s (DTaskBody w objects its sp)) →
    StandsWhole T (inner_scope (after_objects (in_body s w) objects))
body-stands T s w objects its sp h met apart =
    let own = own_sites (in_body s w) objects in
    let body = body_sites (inner_scope (after_objects (in_body s w) objects)) its in
    let met1 : AllByRecursion IsMet (own ++ body) = met.1 in
    let apart1 : AreApart T (own ++ body) = apart.1 in
    inside-stands T (after_objects (in_body s w) objects)
    (own-stands T objects (in_body s w) refl (same-stands T s (in_body s w) refl (λ id. refl) h) (all_front IsMet own body met1) (all_front _ own body apart1))

-- So it is with each body among declarations.
abbrev pub BodiesStand : TypeTable → Scope → PDecls → Type 0
BodiesStand T s no_decl = Unit {0}
BodiesStand T s (decl_then (DTaskBody w objects its sp) rest) = StandsWhole T (inner_scope (after_objects (in_body s w) objects)) × BodiesStand T (after_decl s (DTaskBody w objects its sp)) rest
BodiesStand T s (decl_then d rest) = BodiesStand T (after_decl s d) rest

pub bodies-all : (T : TypeTable) (ds : PDecls) (s : Scope) → AllBodies T s ds → AllByRecursion IsMet (decls_sites s ds) → AreApart T (decls_sites s ds) → BodiesStand T s ds
bodies-all T no_decl s h met apart = tt
bodies-all T (decl_then (DTaskBody w objects its sp) rest) s h met apart =
    let one = decl_sites s (DTaskBody w objects its sp) in
    let more = decls_sites (after_decl s (DTaskBody w objects its sp)) rest in (
      body-stands T s w objects its sp h.0 (all_front IsMet one more met) (all_front _ one more apart),
      bodies-all T rest (after_decl s (DTaskBody w objects its sp)) h.1 (all_back IsMet one more met) (all_back _ one more apart),
    )
bodies-all T (decl_then (DNumber w e sp) rest) s h met apart = bodies-all T rest _ h (all_back IsMet (decl_sites s (DNumber w e sp)) _ met) (all_back _ (decl_sites s (DNumber w e sp)) _ apart)
bodies-all T (decl_then (DObject ws k x i sp) rest) s h met apart = bodies-all T rest _ h (all_back IsMet (decl_sites s (DObject ws k x i sp)) _ met) (all_back _ (decl_sites s (DObject ws k x i sp)) _ apart)
bodies-all T (decl_then (DEnumeration w ws sp) rest) s h met apart = bodies-all T rest _ h (all_back IsMet (decl_sites s (DEnumeration w ws sp)) _ met) (all_back _ (decl_sites s (DEnumeration w ws sp)) _ apart)
bodies-all T (decl_then (DArray w i x sp) rest) s h met apart = bodies-all T rest _ h (all_back IsMet (decl_sites s (DArray w i x sp)) _ met) (all_back _ (decl_sites s (DArray w i x sp)) _ apart)
bodies-all T (decl_then (DSubtype w x sp) rest) s h met apart = bodies-all T rest _ h (all_back IsMet (decl_sites s (DSubtype w x sp)) _ met) (all_back _ (decl_sites s (DSubtype w x sp)) _ apart)
bodies-all T (decl_then (DException ws sp) rest) s h met apart = bodies-all T rest _ h (all_back IsMet (decl_sites s (DException ws sp)) _ met) (all_back _ (decl_sites s (DException ws sp)) _ apart)
bodies-all T (decl_then (DIntIo w sp) rest) s h met apart = bodies-all T rest _ h (all_back IsMet (decl_sites s (DIntIo w sp)) _ met) (all_back _ (decl_sites s (DIntIo w sp)) _ apart)
bodies-all T (decl_then (DPragma e sp) rest) s h met apart = bodies-all T rest _ h (all_back IsMet (decl_sites s (DPragma e sp)) _ met) (all_back _ (decl_sites s (DPragma e sp)) _ apart)
bodies-all T (decl_then (DTask t sp) rest) s h met apart = bodies-all T rest _ h (all_back IsMet (decl_sites s (DTask t sp)) _ met) (all_back _ (decl_sites s (DTask t sp)) _ apart)

-- ---- what such a scope tells

-- no name is unclear
pub no-unclear : (T : TypeTable) (s : Scope) (id : NameId) → StandsWhole T s → meaning s id ≡ Some Unclear → ⊥
no-unclear T s id h e = h.stands.over.clear.things id Unclear e

-- a scalar mark has a known kind in the program's table
pub mark-known : (T : TypeTable) (s : Scope) (w : Word) → StandsWhole T s → IsMet (site s (stands_as_mark scalar_only w)) → is_known T (limits_named T w.name).kind ≡ true
mark-known T s w h m =
    let mark = scalar-mark s h.stands.over.clear w.name (test-holds (is_some (meaning s w.name)) w.span m.known) (test-holds (is_allowed scalar_only (marking s w.name)) w.span m.matched) in
    let n = name-here T s h.stands w.name mark in
    ap (λ o. is_known T (limits_or o).kind) n.named ∙ ap is_some n.scalar.1

-- what an expression of a scope is by the program's table
pub record HasStaticWorth (T : TypeTable) (s : Scope) (e : PExpr) : Type 0 where
  pub kind : ℕ
  pub is : kind_of s e ≡ Some kind
  pub static : is_static T e ≡ true → (z : ℤ) × (static_in s kind e ≡ Some z) × IsWorth T kind e z

-- An expression at which nothing is refused has a kind, and if it is static, a value of that kind.
pub expr-worth : (T : TypeTable) (s : Scope) (e : PExpr) → StandsWhole T s → HasSmallLiterals e → AllByRecursion IsMet (expr_sites s e) → HasStaticWorth T s e
expr-worth T s e h small met = record { kind = k.0; is = k.1; static = static }
  where
    k : (n : ℕ) × (kind_of s e ≡ Some n)
    k = met-kind s h.stands.over.clear e met

    static : is_static T e ≡ true → (z : ℤ) × (static_in s k.0 e ≡ Some z) × IsWorth T k.0 e z
    static st =
        let R = h.stands.root in
        let here : is_static s.types e ≡ true =
        sym (static-same R s.types (keeps-agrees R s.types h.stands.typed h.stands.over.keeps) e) ∙ static-same R T (keeps-agrees R T h.stands.typed h.whole) e ∙ st in
        let z = raise-free s e (ap is_some k.1) here met.0.ranged in
        let i : IsStaticIn s k.0 e = record { kind = k.1; static = here; value = z.0; worth = z.1 } in
        (z.0, static-told s k.0 e i, worth-later R T h.stands.typed.root h.stands.later k.0 e z.0 (worth R s h.stands.typed h.stands.over k.0 e small i))
