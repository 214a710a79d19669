-- The marks of formals, the ranges of families and those of arrays of tasks, by the table of a legal program.
use Rattle.std.proofs.Common.{int_le, ◌≡◌, ℕ, ℤ, Bool, true, false, ◌||◌, ◌&&◌, ◌==◌, if◌then◌else◌, List, [], ◌∷◌, ◌++◌, is_some, IfSome, find, flat_map, option_map, Option, Some, None, Ok, refl, sym, ap, ap₂, ◌∙◌, subst, true≢false, eqb-true}
use Rattle.std.specs.List.{AllByRecursion}
use Rattle.std.proofs.lemmas.Bool.{eq-eqb}
use Rattle.std.proofs.lemmas.List.Elements.{recursion_from_All}
use Rattle.ada_tree.specs.declared.naming.NameId.{NameId}
use Rattle.ada_tree.specs.declared.naming.Span.{Span}
use Rattle.ada_tree.specs.declared.naming.Word.{Word}
use Rattle.ada_tree.specs.declared.static_types.Mark.{Mark}
use Rattle.ada_tree.specs.TypeTable.{TypeTable}
use Rattle.ada_tree.specs.PlainExpr.{PExpr, PBounds, PDrange, RGiven, RMarked}
use Rattle.ada_tree.specs.PlainStmt.{PFormal}
use Rattle.ada_tree.specs.PlainDecl.{PDecl, PShape, OPlain, OArray, PInit, PEntry, PTask, DNumber, DObject, DEnumeration, DArray, DSubtype, DException, DIntIo, DPragma, DTask, DTaskBody, PDecls, no_decl, decl_then}
use Rattle.ada_tree.specs.PlainProgram.{PProgram}
use Rattle.ada_tree.specs.Every.{EveryExpr, EveryBounds, EveryDrange, EveryShape, EveryEntry, EveryTask, EveryDecl, EveryDecls}
use Rattle.ada_tree.specs.WellPlaced.{well_placed, IsWellPlaced}
use Rattle.ada_static_rules.specs.Scope.{Scope, Thing, meaning, marking, scalar_kind}
use Rattle.ada_static_rules.specs.StaticValue.{is_static, value_of, is_named, mark_named}
use Rattle.ada_static_rules.specs.Demand.{scalar_only, Site}
use Rattle.ada_static_rules.specs.Sites.{decl_sites, if_there, names_sites, subind_sites, drange_sites, mark_sites, component_marks, may_be_task, shape_sites, init_sites, object_marking, is_task_object, formal_mark_sites, all_names, formals_sites, entry_sites, entries_sites, static_of, task_sites, object_sites}
use Rattle.ada_static_rules.specs.ExprTypes.{static_range}
use Rattle.ada_static_rules.specs.ExprTypes.{range_between as range_between_in}
use Rattle.ada_static_rules.specs.Declaring.{given_range, marked_range, drange_range, inner_scope, with_name, with_names, declared_object, first_scope, after_decl}
use Rattle.ada_static_rules.specs.RuleDuplicate.{is_among}
use Rattle.ada_static_rules.specs.RuleMismatch.{is_allowed}
use Rattle.ada_static_rules.specs.Refusals.{MeetsTypeRules, types_in}
use Rattle.syn_event.specs.DeclaredTasks.{decl_list, tasks_in}
use Rattle.syn_event.specs.Extents.{between, unraised_value, bounds_extent, marked_extent}
use Rattle.syn_event.specs.NamedTasks.{NamedTasks, task_names_of_type, object_task_names, type_named, with_type, single_task_name, task_names_in}
use Rattle.ada_value.specs.Values as values
use Rattle.ada_value.specs.Values.{limits_of, limits_or}
use Rattle.ada_value.specs.Evaluating.{bounds_of, narrowed, range_between}
use Rattle.task_laws.specs.legal.rewritten_types.Agreement.{IsScalar}
use Rattle.task_laws.specs.legal.rewritten_types.Rewriting.{DeclareOnce}
use Rattle.task_laws.proofs.legal.rewritten_types.Lookups.{find-all}
use Rattle.task_laws.proofs.legal.rewritten_types.Refused.{declared_once}
use Rattle.task_laws.specs.legal.sites.Met.{IsMet}
use Rattle.task_laws.specs.legal.types.Typed.{HasLimits, HasPosition, HasTypedTasks, IsFirstEntry, IsFirstTask, IsScalarName, IsSmall, IsTypedEntry, IsTypedPart, IsTypedTask}
use Rattle.task_laws.proofs.legal.types.ExprKinds.{IsScalarMark, scalar-mark}
use Rattle.task_laws.proofs.legal.types.StaticParts.{IsStaticIn, AreBounds, static-told, HasRange, drange-met}
use Rattle.task_laws.proofs.legal.types.TypedValues.{mark-of}
use Rattle.task_laws.proofs.legal.types.StaticWorth.{IsWorth, worth, worth-value, small-literals}
use Rattle.task_laws.proofs.legal.types.FirmTables.{scalar-grown, scalar-has, value-grown}
use Rattle.task_laws.proofs.legal.types.LaterTables.{mark-later, worth-later}
use Rattle.task_laws.proofs.legal.types.MainScopes.{Stands, AllStand, main-stands}
use Rattle.common_lemmas.proofs.Lists.{all_back, all_unflat, all_front, all_joined, all_weaker, append_last}
use Rattle.task_laws.proofs.legal.sites.Around.{test-holds}

-- ---- marks and ranges

-- a range with its limits by the table, which are those that the scope tells
pub record IsRangeHere (T : TypeTable) (s : Scope) (r : PDrange) : Type 0 where
  pub limits : HasLimits T r
  pub known : drange_range s r ≡ Some record { kind = limits.limits.kind; first = limits.limits.first; last = limits.limits.last }

module _ (T : TypeTable) (s : Scope) (stands : Stands T s) where
  -- the mark that a name has in the scope is the one that it has in the table
  root-mark : (id : NameId) (h : IsScalarMark s id) → mark_named stands.root id ≡ Some h.leads.mark
  root-mark id h = sym (stands.over.keeps.marks id refl) ∙ stands.over.marks id h.place h.means ∙ h.leads.there

  mark-here : (id : NameId) (h : IsScalarMark s id) → (mark_named T id ≡ Some h.leads.mark) × IsScalar T h.leads.mark.kind × (int_le h.leads.mark.first h.leads.mark.last ≡ true)
  mark-here id h =
      let m = mark-of stands.root s stands.typed stands.over id h.leads.mark.kind (ap scalar_kind h.marks) in (
        mark-later stands.root T stands.typed.root stands.later id h.leads.mark (root-mark id h),
        scalar-grown stands.root T stands.later.grows h.leads.mark.kind m.scalar,
        find-all (λ (y : Mark). int_le y.first y.last ≡ true) (λ y. is_named id y.name) stands.root.marks h.leads.mark stands.typed.orders (root-mark id h),
      )

  -- its first and its last value are there
  bound-here : (id : NameId) (h : IsScalarMark s id) (z : ℤ) → HasPosition stands.root h.leads.mark.kind z → HasPosition T h.leads.mark.kind z
  bound-here id h z f =
      let k = mark-of stands.root s stands.typed stands.over id h.leads.mark.kind (ap scalar_kind h.marks) in
      value-grown stands.root T stands.later.grows h.leads.mark.kind z (scalar-has stands.root h.leads.mark.kind k.scalar) f

  first-here : (id : NameId) (h : IsScalarMark s id) → HasPosition T h.leads.mark.kind h.leads.mark.first
  first-here id h =
      bound-here id h h.leads.mark.first
      (find-all (λ (y : Mark). HasPosition stands.root y.kind y.first) (λ y. is_named id y.name) stands.root.marks h.leads.mark stands.typed.firsts (root-mark id h))

  last-here : (id : NameId) (h : IsScalarMark s id) → HasPosition T h.leads.mark.kind h.leads.mark.last
  last-here id h =
      bound-here id h h.leads.mark.last
      (find-all (λ (y : Mark). HasPosition stands.root y.kind y.last) (λ y. is_named id y.name) stands.root.marks h.leads.mark stands.typed.lasts (root-mark id h))

  -- a scalar mark of the scope has that name in the table
  pub name-here : (id : NameId) (h : IsScalarMark s id) → IsScalarName T id
  name-here id h = let m = mark-here id h in record { mark = h.leads.mark; named = m.0; scalar = m.1; first = first-here id h }

  -- a static expression of the scope is worth its value by the table
  pub worth-here : (names : List (List ℕ)) (j k : ℕ) (e : PExpr) → EveryExpr (well_placed names) j e → (h : IsStaticIn s k e) → IsWorth T k e h.value
  worth-here names j k e every h = worth-later stands.root T stands.typed.root stands.later k e h.value (worth stands.root s stands.typed stands.over k e (small-literals names j e every) h)

  fixed-here : (k : ℕ) (e : PExpr) (z : ℤ) → IsWorth T k e z → (if is_static T e then unraised_value (value_of T e) else None) ≡ Some z
  fixed-here k e z h = ap (λ b. if b then unraised_value (value_of T e) else None) h.static ∙ ap unraised_value h.told

  bounds-worth : (k : ℕ) (b : PBounds) (f l : ℤ) → IsWorth T k b.first f → IsWorth T k b.last l → bounds_of T [] b ≡ Ok record { kind = k; first = f; last = l }
  bounds-worth k b f l x y =
      ap₂ (λ r q. values.and_then r (λ v. values.and_then q (λ w. Ok (range_between v w)))) x.worth y.worth
      ∙ ap (λ n. Ok record { kind = n; first = values.position_of x.value; last = values.position_of y.value }) x.kind.kind
      ∙ ap₂ (λ a c. Ok record { kind = k; first = a; last = c }) x.position y.position

  bounds-told : (k : ℕ) (b : PBounds) (f l : ℤ) → IsWorth T k b.first f → IsWorth T k b.last l → bounds_extent T b ≡ Some record { first = f; last = l }
  bounds-told k b f l x y = ap₂ between (fixed-here k b.first f x) (fixed-here k b.last l y)

  bounds-known : (k : ℕ) (b : PBounds) (f : IsStaticIn s k b.first) (l : IsStaticIn s k b.last) → static_range s k b ≡ Some record { kind = k; first = f.value; last = l.value }
  bounds-known k b f l = ap₂ (range_between_in k) (static-told s k b.first f) (static-told s k b.last l)

  -- a static range of the scope has its limits by the table
  pub limits-here : (names : List (List ℕ)) (r : PDrange) → EveryDrange (well_placed names) 2 r → HasRange s r → IsRangeHere T s r
  limits-here names (RGiven b) every h =
      let x = worth-here names 2 h.kind b.first every.1 h.first in
      let y = worth-here names 2 h.kind b.last every.2 h.last in
      record {
        limits = record {
          limits = record { kind = h.kind; first = h.first.value; last = h.last.value };
          range = bounds-worth h.kind b h.first.value h.last.value x y;
          scalar = x.kind.scalar;
          first = worth-value T h.kind b.first h.first.value x;
          last = worth-value T h.kind b.last h.last.value y;
          name = tt;
          told = bounds-told h.kind b h.first.value h.last.value x y;
          order = h.order;
        };
        known = ap (λ o. given_range s o b) h.first.kind ∙ bounds-known h.kind b h.first h.last;
      }
  limits-here names (RMarked x) every h = by_bounds x.bounds refl every.1 h.bounds
    where
      id : NameId
      id = x.mark.name

      y : Mark
      y = h.mark.leads.mark

      m : (mark_named T id ≡ Some y) × IsScalar T y.kind × (int_le y.first y.last ≡ true)
      m = mark-here id h.mark

      by_bounds : (o : Option PBounds) → x.bounds ≡ o → IfSome o (EveryBounds (well_placed names) 2) → IfSome o (AreBounds s y.kind) → IsRangeHere T s (RMarked x)
      by_bounds None e q w = record {
        limits = record {
          limits = limits_of y;
          range = ap₂ (λ n o. narrowed T [] (limits_or n) o) m.0 e;
          scalar = m.1;
          first = first-here id h.mark;
          last = last-here id h.mark;
          name = name-here id h.mark;
          told = ap (marked_extent T id) e ∙ ap (option_map (λ (z : Mark). record { first = z.first; last = z.last })) m.0;
          order = m.2;
        };
        known = ap₂ (marked_range s) h.mark.marks e ∙ ap (option_map (λ (z : Mark). record { kind = z.kind; first = z.first; last = z.last })) h.mark.leads.there;
      }
      by_bounds (Some b) e q w =
          let f = worth-here names 2 y.kind b.first q.1 w.0 in
          let l = worth-here names 2 y.kind b.last q.2 w.1 in
          record {
            limits = record {
              limits = record { kind = y.kind; first = w.0.value; last = w.1.value };
              range = ap₂ (λ n o. narrowed T [] (limits_or n) o) m.0 e ∙ ap (λ r. values.and_then r (λ z. Ok record { kind = y.kind; first = z.first; last = z.last })) (bounds-worth y.kind b w.0.value w.1.value f l);
              scalar = m.1;
              first = worth-value T y.kind b.first w.0.value f;
              last = worth-value T y.kind b.last w.1.value l;
              name = name-here id h.mark;
              told = ap (marked_extent T id) e ∙ bounds-told y.kind b w.0.value w.1.value f l;
              order = w.2;
            };
            known = ap₂ (marked_range s) h.mark.marks e ∙ bounds-known y.kind b w.0 w.1;
          }

  pub range-here : (names : List (List ℕ)) (r : PDrange) → EveryDrange (well_placed names) 2 r → HasRange s r → HasLimits T r
  range-here names r every h = (limits-here names r every h).limits

find-behind : {A : Type 0} (p : A → Bool) (before : List A) (x : A) (behind : List A) → AllByRecursion (λ y. p y ≡ false) before → p x ≡ true → find p (before ++ x ∷ behind) ≡ Some x
find-behind p [] x behind h e = ap (λ b. if b then Some x else find p behind) e
find-behind p (y ∷ before) x behind h e = ap (λ b. if b then Some y else find p (before ++ x ∷ behind)) h.0 ∙ find-behind p before x behind h.1 e

all-last : {A : Type 0} (P : A → Type 0) (xs : List A) (y : A) → AllByRecursion P xs → P y → AllByRecursion P (xs ++ y ∷ [])
all-last P [] y h k = (k, tt)
all-last P (x ∷ xs) y h k = (h.0, all-last P xs y h.1 k)

pub no-word : (b : Bool) (w : Word) → (if b then w.span ∷ [] else []) ≡ [] → b ≡ false
no-word true w e = cc
no-word false w e = refl

pub among-apart : (names : List ℕ) (a b : ℕ) → is_among names a ≡ true → is_among names b ≡ false → (a == b) ≡ false
among-apart names a b e f = by_test (a == b) refl
  where
    by_test : (t : Bool) → (a == b) ≡ t → t ≡ false
    by_test false p = refl
    by_test true p = absurd (true≢false (sym e ∙ ap (is_among names) (eqb-true a b p) ∙ f))

pub among-first : (names : List ℕ) (a : ℕ) → is_among (a ∷ names) a ≡ true
among-first names a = ap (λ b. b || is_among names a) (eq-eqb a a refl)

pub among-more : (names : List ℕ) (n a : ℕ) → is_among names a ≡ true → is_among (n ∷ names) a ≡ true
among-more names n a h = by_test (n == a)
  where
    by_test : (b : Bool) → (b || is_among names a) ≡ true
    by_test true = refl
    by_test false = h

module _ (T : TypeTable) (s : Scope) (stands : Stands T s) (names : List (List ℕ)) where
  formals-typed : (fs : List PFormal) → AllByRecursion (λ f. AllByRecursion IsMet (mark_sites scalar_only s f.mark)) fs → AllByRecursion (λ f. IsScalarName T f.mark.name) fs
  formals-typed [] h = tt
  formals-typed (f ∷ fs) h =
      let m = h.0.0 in (
        name-here T s stands f.mark.name
            (scalar-mark s stands.over.clear f.mark.name (test-holds (is_some (meaning s f.mark.name)) f.mark.span m.known) (test-holds (is_allowed scalar_only (marking s f.mark.name)) f.mark.span m.matched)),
        formals-typed fs h.1,
      )

  family-typed : (o : Option PDrange) → IfSome o (EveryDrange (well_placed names) 2) → AllByRecursion IsMet (if_there (drange_sites true s) o) → IfSome o (HasLimits T)
  family-typed None e h = tt
  family-typed (Some r) e h = range-here T s stands names r e (drange-met s stands.over.clear r h)

  entry-typed : (before : List ℕ) (e : PEntry) → EveryEntry (well_placed names) e → AllByRecursion IsMet (entry_sites s before e) → IsTypedEntry T e × (is_among before e.name.name.0 ≡ false)
  entry-typed before e every h =
      let family = if_there (drange_sites true s) e.family in
      let rest : AllByRecursion IsMet (family ++ formals_sites s e.formals) = h.1 in
      let formals : AllByRecursion IsMet (formals_sites s e.formals) = all_back IsMet family (formals_sites s e.formals) rest in (
        record {
          family = family-typed e.family every.2 (all_front IsMet family (formals_sites s e.formals) rest);
          formals = formals-typed e.formals (all_unflat IsMet (λ f. mark_sites scalar_only s f.mark) e.formals (all_back IsMet (names_sites false (inner_scope s) (all_names e.formals)) (formal_mark_sites s e.formals) formals));
        },
        no-word (is_among before e.name.name.0) e.name h.0.once,
      )

  entries-typed : (before : List ℕ) (seen es : List PEntry) → AllByRecursion (λ (x : PEntry). is_among before x.name.name.0 ≡ true) seen → AllByRecursion (EveryEntry (well_placed names)) es → AllByRecursion IsMet (entries_sites s before es) →
      AllByRecursion (IsTypedEntry T) es × AllByRecursion (IsFirstEntry (seen ++ es)) es
  entries-typed before seen [] used every h = (tt, tt)
  entries-typed before seen (e ∷ es) used every h =
      let q = entry-typed before e every.0 (all_front IsMet (entry_sites s before e) (entries_sites s (e.name.name.0 ∷ before) es) h) in
      let n = e.name.name.0 in
      let r = entries-typed (n ∷ before) (seen ++ e ∷ []) es
      (all-last _ seen e (all_weaker _ _ seen (λ x u. among-more before n x.name.name.0 u) used) (among-first before n)) every.1
      (all_back IsMet (entry_sites s before e) (entries_sites s (n ∷ before) es) h) in (
        (q.0, r.0),
        (
          find-behind (λ x. x.name.name.0 == n) seen e es (all_weaker _ _ seen (λ x u. among-apart before x.name.name.0 n u q.1) used) (eq-eqb n n refl),
          subst (λ l. AllByRecursion (IsFirstEntry l) es) (append_last seen e es) r.1,
        ),
      )

  pub task-typed : (t : PTask) → EveryTask (well_placed names) t → AllByRecursion IsMet (task_sites s t) → IsTypedTask T t
  task-typed t every h =
      let es = entries_sites s [] t.entries in
      let rest : AllByRecursion IsMet (es ++ flat_map (λ q. static_of s (Some 0) q.value) t.priorities) = h.1 in
      let r = entries-typed [] [] t.entries tt (recursion_from_All _ t.entries every.1) (all_front IsMet es (flat_map (λ q. static_of s (Some 0) q.value) t.priorities) rest) in
      record { entries = r.0; found = r.1 }

-- ---- tasks

among-names : (thing : Thing) (ws : List Word) (s : Scope) (a : ℕ) → is_among s.here a ≡ true → is_among (with_names thing s ws).here a ≡ true
among-names thing [] s a h = h
among-names thing (w ∷ ws) s a h = among-names thing ws (with_name thing s w) a (among-more s.here w.name.0 a h)

-- the tasks that are declared have names of their own
tasks-found : (ds : PDecls) (s : Scope) (seen : List PTask) → AllByRecursion (λ (t : PTask). is_among s.here t.name.name.0 ≡ true) seen → DeclareOnce s ds → AllByRecursion (IsFirstTask (seen ++ tasks_in (decl_list ds))) (tasks_in (decl_list ds))
tasks-found no_decl s seen used once = tt
tasks-found (decl_then (DTask t sp) rest) s seen used once =
    let n = t.name.name.0 in (
      find-behind (λ x. x.name.name.0 == n) seen t (tasks_in (decl_list rest)) (all_weaker _ _ seen (λ x u. among-apart s.here x.name.name.0 n u once.0.0.1) used) (eq-eqb n n refl),
      subst (λ l. AllByRecursion (IsFirstTask l) (tasks_in (decl_list rest))) (append_last seen t (tasks_in (decl_list rest)))
          (tasks-found rest (after_decl s (DTask t sp)) (seen ++ t ∷ []) (all-last _ seen t (all_weaker _ _ seen (λ x u. among-more s.here n x.name.name.0 u) used) (among-first s.here n)) once.1),
    )
tasks-found (decl_then (DNumber name e sp) rest) s seen used once = tasks-found rest _ seen (all_weaker _ _ seen (λ x u. among-more s.here name.name.0 x.name.name.0 u) used) once.1
tasks-found (decl_then (DObject ws constant shape init sp) rest) s seen used once = tasks-found rest _ seen (all_weaker _ _ seen (λ x u. among-names _ ws _ x.name.name.0 u) used) once.1
tasks-found (decl_then (DEnumeration name ws sp) rest) s seen used once = tasks-found rest _ seen (all_weaker _ _ seen (λ x u. among-names _ ws _ x.name.name.0 (among-more s.here name.name.0 x.name.name.0 u)) used) once.1
tasks-found (decl_then (DArray name index x sp) rest) s seen used once = tasks-found rest _ seen (all_weaker _ _ seen (λ x u. among-more s.here name.name.0 x.name.name.0 u) used) once.1
tasks-found (decl_then (DSubtype name x sp) rest) s seen used once = tasks-found rest _ seen (all_weaker _ _ seen (λ x u. among-more s.here name.name.0 x.name.name.0 u) used) once.1
tasks-found (decl_then (DException ws sp) rest) s seen used once = tasks-found rest _ seen (all_weaker _ _ seen (λ x u. among-names _ ws _ x.name.name.0 u) used) once.1
tasks-found (decl_then (DIntIo name sp) rest) s seen used once = tasks-found rest _ seen (all_weaker _ _ seen (λ x u. among-more s.here name.name.0 x.name.name.0 u) used) once.1
tasks-found (decl_then (DPragma e sp) rest) s seen used once = tasks-found rest _ seen used once.1
tasks-found (decl_then (DTaskBody w objects its sp) rest) s seen used once = tasks-found rest _ seen used once.1

tasks-typed : (T : TypeTable) (names : List (List ℕ)) (ds : PDecls) (s : Scope) → AllStand T s ds → EveryDecls (well_placed names) ds → AllByRecursion (IsTypedTask T) (tasks_in (decl_list ds))
tasks-typed T names no_decl s h every = tt
tasks-typed T names (decl_then (DTask t sp) rest) s h every = (task-typed T s h.0 names t every.0.1 h.1, tasks-typed T names rest (after_decl s (DTask t sp)) h.2 every.1)
tasks-typed T names (decl_then (DNumber name e sp) rest) s h every = tasks-typed T names rest _ h.2 every.1
tasks-typed T names (decl_then (DObject ws constant shape init sp) rest) s h every = tasks-typed T names rest _ h.2 every.1
tasks-typed T names (decl_then (DEnumeration name ws sp) rest) s h every = tasks-typed T names rest _ h.2 every.1
tasks-typed T names (decl_then (DArray name index x sp) rest) s h every = tasks-typed T names rest _ h.2 every.1
tasks-typed T names (decl_then (DSubtype name x sp) rest) s h every = tasks-typed T names rest _ h.2 every.1
tasks-typed T names (decl_then (DException ws sp) rest) s h every = tasks-typed T names rest _ h.2 every.1
tasks-typed T names (decl_then (DIntIo name sp) rest) s h every = tasks-typed T names rest _ h.2 every.1
tasks-typed T names (decl_then (DPragma e sp) rest) s h every = tasks-typed T names rest _ h.2 every.1
tasks-typed T names (decl_then (DTaskBody w objects its sp) rest) s h every = tasks-typed T names rest _ h.2 every.1

-- ---- arrays of tasks

parts-of-type : (T : TypeTable) (o : Option PTask) (ws : List Word) (row : Option PDrange) → IfSome row (HasLimits T) → AllByRecursion (IsTypedPart T) (task_names_of_type o ws row)
parts-of-type T None ws row h = tt
parts-of-type T (Some t) [] row h = tt
parts-of-type T (Some t) (w ∷ ws) row h = (h, parts-of-type T (Some t) ws row h)

object-parts : (T : TypeTable) (names : List (List ℕ)) (kinds : List PTask) (s : Scope) → Stands T s → (ws : List Word) (constant : Bool) (shape : PShape) (init : Option PInit) → EveryShape (well_placed names) shape →
    AllByRecursion IsMet (object_sites s ws constant shape init (declared_object s constant shape)) → AllByRecursion (IsTypedPart T) (object_task_names kinds ws shape)
object-parts T names kinds s stands ws constant (OPlain x) init every h = parts-of-type T (type_named kinds x.mark.name) ws None tt
object-parts T names kinds s stands ws constant (OArray index x) init every h =
    let d = declared_object s constant (OArray index x) in
    let first : List Site = names_sites (s.in_main && (constant || is_task_object d.thing)) s ws in
    let second : List Site = shape_sites s constant (OArray index x) init in
    let third : List Site = if_there (init_sites s d.types (object_marking d)) init in
    let met : AllByRecursion IsMet second = all_back IsMet first second (all_front IsMet (first ++ second) third h) in
    let sub : List Site = subind_sites true (component_marks (may_be_task s constant x.bounds init)) s x in
    parts-of-type T (type_named kinds x.mark.name) ws (Some index) (range-here T s stands names index every.0 (drange-met s stands.over.clear index (all_front IsMet (drange_sites true s index) sub met)))

single-typed : (T : TypeTable) (b : Bool) (t : PTask) (sp : Span) → AllByRecursion (IsTypedPart T) (single_task_name b t sp)
single-typed T true t sp = tt
single-typed T false t sp = (tt, tt)

parts-typed : (T : TypeTable) (names : List (List ℕ)) (ds : PDecls) (kinds : List PTask) (s : Scope) → AllStand T s ds → EveryDecls (well_placed names) ds → AllByRecursion (IsTypedPart T) (task_names_in kinds ds)
parts-typed T names no_decl kinds s h every = tt
parts-typed T names (decl_then (DTask t sp) rest) kinds s h every =
    all_joined (IsTypedPart T) (single_task_name t.of_kind t sp) _ (single-typed T t.of_kind t sp) (parts-typed T names rest (with_type kinds t.of_kind t) (after_decl s (DTask t sp)) h.2 every.1)
parts-typed T names (decl_then (DObject ws constant shape init sp) rest) kinds s h every =
    all_joined (IsTypedPart T) (object_task_names kinds ws shape) _ (object-parts T names kinds s h.0 ws constant shape init every.0.2 h.1) (parts-typed T names rest kinds _ h.2 every.1)
parts-typed T names (decl_then (DNumber name e sp) rest) kinds s h every = parts-typed T names rest kinds _ h.2 every.1
parts-typed T names (decl_then (DEnumeration name ws sp) rest) kinds s h every = parts-typed T names rest kinds _ h.2 every.1
parts-typed T names (decl_then (DArray name index x sp) rest) kinds s h every = parts-typed T names rest kinds _ h.2 every.1
parts-typed T names (decl_then (DSubtype name x sp) rest) kinds s h every = parts-typed T names rest kinds _ h.2 every.1
parts-typed T names (decl_then (DException ws sp) rest) kinds s h every = parts-typed T names rest kinds _ h.2 every.1
parts-typed T names (decl_then (DIntIo name sp) rest) kinds s h every = parts-typed T names rest kinds _ h.2 every.1
parts-typed T names (decl_then (DPragma e sp) rest) kinds s h every = parts-typed T names rest kinds _ h.2 every.1
parts-typed T names (decl_then (DTaskBody w objects its sp) rest) kinds s h every = parts-typed T names rest kinds _ h.2 every.1

-- the units of parts are tasks that are declared
units-of-type : (P : PTask → Type 0) (kinds : List PTask) (id : NameId) (ws : List Word) (row : Option PDrange) → AllByRecursion P kinds → AllByRecursion (λ (x : NamedTasks). P x.unit) (task_names_of_type (type_named kinds id) ws row)
units-of-type P kinds id ws row h = by_type (type_named kinds id) refl
  where
    all-of : (t : PTask) → P t → (vs : List Word) → AllByRecursion (λ (x : NamedTasks). P x.unit) (task_names_of_type (Some t) vs row)
    all-of t k [] = tt
    all-of t k (v ∷ vs) = (k, all-of t k vs)

    by_type : (o : Option PTask) → type_named kinds id ≡ o → AllByRecursion (λ (x : NamedTasks). P x.unit) (task_names_of_type o ws row)
    by_type (Some t) e = all-of t (find-all P (λ u. u.name.name.0 == id.0) kinds t h e) ws
    by_type None e = tt

object-units : (P : PTask → Type 0) (kinds : List PTask) (ws : List Word) (shape : PShape) → AllByRecursion P kinds → AllByRecursion (λ (x : NamedTasks). P x.unit) (object_task_names kinds ws shape)
object-units P kinds ws (OPlain x) h = units-of-type P kinds x.mark.name ws None h
object-units P kinds ws (OArray index x) h = units-of-type P kinds x.mark.name ws (Some index) h

single-unit : (P : PTask → Type 0) (b : Bool) (t : PTask) (sp : Span) → P t → AllByRecursion (λ (x : NamedTasks). P x.unit) (single_task_name b t sp)
single-unit P true t sp h = tt
single-unit P false t sp h = (h, tt)

more-types : (P : PTask → Type 0) (kinds : List PTask) (b : Bool) (t : PTask) → P t → AllByRecursion P kinds → AllByRecursion P (with_type kinds b t)
more-types P kinds true t h k = (h, k)
more-types P kinds false t h k = k

pub part-units : (P : PTask → Type 0) (ds : PDecls) (kinds : List PTask) → AllByRecursion P kinds → AllByRecursion P (tasks_in (decl_list ds)) → AllByRecursion (λ (x : NamedTasks). P x.unit) (task_names_in kinds ds)
part-units P no_decl kinds k h = tt
part-units P (decl_then (DTask t sp) rest) kinds k h =
    all_joined (λ (x : NamedTasks). P x.unit) (single_task_name t.of_kind t sp) _ (single-unit P t.of_kind t sp h.0) (part-units P rest (with_type kinds t.of_kind t) (more-types P kinds t.of_kind t h.0 k) h.1)
part-units P (decl_then (DObject ws constant shape init sp) rest) kinds k h = all_joined (λ (x : NamedTasks). P x.unit) (object_task_names kinds ws shape) _ (object-units P kinds ws shape k) (part-units P rest kinds k h)
part-units P (decl_then (DNumber name e sp) rest) kinds k h = part-units P rest kinds k h
part-units P (decl_then (DEnumeration name ws sp) rest) kinds k h = part-units P rest kinds k h
part-units P (decl_then (DArray name index x sp) rest) kinds k h = part-units P rest kinds k h
part-units P (decl_then (DSubtype name x sp) rest) kinds k h = part-units P rest kinds k h
part-units P (decl_then (DException ws sp) rest) kinds k h = part-units P rest kinds k h
part-units P (decl_then (DIntIo name sp) rest) kinds k h = part-units P rest kinds k h
part-units P (decl_then (DPragma e sp) rest) kinds k h = part-units P rest kinds k h
part-units P (decl_then (DTaskBody w objects its sp) rest) kinds k h = part-units P rest kinds k h

-- ---- whole programs

pub tasks-have-types : (p : PProgram) → MeetsTypeRules p → IsWellPlaced p → IsSmall (types_in p) → HasTypedTasks p
tasks-have-types p rules placed small =
    let stand = main-stands p rules placed small in
    record {
      found = tasks-found p.decls (first_scope p.name) [] tt (declared_once p rules).1;
      tasks = tasks-typed (types_in p) p.names p.decls (first_scope p.name) stand placed.2;
      parts = parts-typed (types_in p) p.names p.decls [] (first_scope p.name) stand placed.2;
    }

-- ---- ranges at their declarations

-- the ranges of a declaration are static and not empty, at its scope
abbrev pub DeclRanges : TypeTable → Scope → PDecl → Type 0
DeclRanges T s (DTask t sp) = AllByRecursion (λ (e : PEntry). IfSome e.family (IsRangeHere T s)) t.entries
DeclRanges T s (DObject ws constant (OArray r x) init sp) = IsRangeHere T s r
DeclRanges T s _ = Unit {0}

abbrev pub AllRanges : TypeTable → Scope → PDecls → Type 0
AllRanges T s no_decl = Unit {0}
AllRanges T s (decl_then d rest) = DeclRanges T s d × AllRanges T (after_decl s d) rest

module _ (T : TypeTable) (s : Scope) (stands : Stands T s) (names : List (List ℕ)) where
  family-range : (o : Option PDrange) → IfSome o (EveryDrange (well_placed names) 2) → AllByRecursion IsMet (if_there (drange_sites true s) o) → IfSome o (IsRangeHere T s)
  family-range None e h = tt
  family-range (Some r) e h = limits-here T s stands names r e (drange-met s stands.over.clear r h)

  entries-ranges : (before : List ℕ) (es : List PEntry) → AllByRecursion (EveryEntry (well_placed names)) es → AllByRecursion IsMet (entries_sites s before es) → AllByRecursion (λ (e : PEntry). IfSome e.family (IsRangeHere T s)) es
  entries-ranges before [] every h = tt
  entries-ranges before (e ∷ es) every h =
      let first : AllByRecursion IsMet (entry_sites s before e) = all_front IsMet (entry_sites s before e) (entries_sites s (e.name.name.0 ∷ before) es) h in
      let rest : AllByRecursion IsMet (if_there (drange_sites true s) e.family ++ formals_sites s e.formals) = first.1 in (
        family-range e.family every.0.2 (all_front IsMet (if_there (drange_sites true s) e.family) (formals_sites s e.formals) rest),
        entries-ranges (e.name.name.0 ∷ before) es every.1 (all_back IsMet (entry_sites s before e) (entries_sites s (e.name.name.0 ∷ before) es) h),
      )

  decl-ranges : (d : PDecl) → EveryDecl (well_placed names) d → AllByRecursion IsMet (decl_sites s d) → DeclRanges T s d
  decl-ranges (DTask t sp) every h =
      let rest : AllByRecursion IsMet (entries_sites s [] t.entries ++ flat_map (λ q. static_of s (Some 0) q.value) t.priorities) = h.1 in
      entries-ranges [] t.entries (recursion_from_All _ t.entries every.1.1) (all_front IsMet (entries_sites s [] t.entries) (flat_map (λ q. static_of s (Some 0) q.value) t.priorities) rest)
  decl-ranges (DObject ws constant (OArray index x) init sp) every h =
      let d = declared_object s constant (OArray index x) in
      let first : List Site = names_sites (s.in_main && (constant || is_task_object d.thing)) s ws in
      let second : List Site = shape_sites s constant (OArray index x) init in
      let third : List Site = if_there (init_sites s d.types (object_marking d)) init in
      let met : AllByRecursion IsMet second = all_back IsMet first second (all_front IsMet (first ++ second) third h) in
      let sub : List Site = subind_sites true (component_marks (may_be_task s constant x.bounds init)) s x in
      limits-here T s stands names index every.2.0 (drange-met s stands.over.clear index (all_front IsMet (drange_sites true s index) sub met))
  decl-ranges (DObject ws constant (OPlain x) init sp) every h = tt
  decl-ranges (DNumber name e sp) every h = tt
  decl-ranges (DEnumeration name ws sp) every h = tt
  decl-ranges (DArray name index x sp) every h = tt
  decl-ranges (DSubtype name x sp) every h = tt
  decl-ranges (DException ws sp) every h = tt
  decl-ranges (DIntIo name sp) every h = tt
  decl-ranges (DPragma e sp) every h = tt
  decl-ranges (DTaskBody w objects its sp) every h = tt

-- The ranges of families, and of objects that are arrays, are static and not empty.
pub all-ranges : (T : TypeTable) (names : List (List ℕ)) (ds : PDecls) (s : Scope) → AllStand T s ds → EveryDecls (well_placed names) ds → AllRanges T s ds
all-ranges T names no_decl s h every = tt
all-ranges T names (decl_then d rest) s h every = (decl-ranges T s h.0 names d every.0 h.1, all-ranges T names rest (after_decl s d) h.2 every.1)
