-- The entries of a task are what they are at its declaration, seen from behind all declarations of main too.
use Rattle.std.proofs.Common.{◌≡◌, ℕ, ℤ, true, false, ◌&&◌, List, [], ◌∷◌, ◌++◌, map, flat_map, is_some, IfSome, option_map, Option, Some, None, refl, sym, ap, ap₂, ◌∙◌, true≢false}
use Rattle.std.specs.List.{AllByRecursion}
use Rattle.std.proofs.lemmas.List.Elements.{recursion_from_All}
use Rattle.ada_tree.specs.declared.naming.NameId.{NameId}
use Rattle.ada_tree.specs.declared.naming.Word.{Word}
use Rattle.ada_tree.specs.declared.static_types.Mark.{Mark}
use Rattle.ada_tree.specs.TypeTable.{TypeTable}
use Rattle.ada_tree.specs.Attributes.{attribute_of}
use Rattle.ada_tree.specs.PlainExpr.{PExpr, EInteger, EName, EIndex, EAttribute, EAttributeOf, EParen, EUnary, EBinary, PBounds, PDrange, RGiven, RMarked}
use Rattle.ada_tree.specs.PlainStmt.{PFormal}
use Rattle.ada_tree.specs.PlainDecl.{PEntry, PTask, PDecl, DNumber, DObject, DEnumeration, DArray, DSubtype, DException, DIntIo, DPragma, DTask, DTaskBody, PDecls, no_decl, decl_then}
use Rattle.ada_tree.specs.Every.{EveryExpr, EveryBounds, EveryDrange, EveryEntry, EveryTask, EveryDecls}
use Rattle.ada_tree.specs.WellPlaced.{well_placed}
use Rattle.ada_static_rules.specs.Scope.{Scope, Thing, TypeMark, TaskType, SingleTask, TaskObject, TaskArray, Variable, ConstantObject, Parameter, LoopParameter, Literal, AnException, MainProcedure, AnotherUnit, Unclear, FormalPart, ScalarMark, reading_of_mark, reading_of_kind, reading_of, reading, marking_of_mark, marking_of_kind, marking_of, marking, scalar_kind, meaning, mark_at, and_then}
use Rattle.ada_static_rules.specs.StaticValue.{is_static, value_of, mark_named, keeps_static}
use Rattle.ada_static_rules.specs.ExprTypes.{name_kind, bound_kind, attribute_kind, unary_kind, binary_kind, takes, takes_one, kind_of, range_between, static_range}
use Rattle.ada_static_rules.specs.Sites.{if_there, names_sites, drange_sites, mark_sites, formal_mark_sites, all_names, formals_sites, entry_sites, entries_sites, static_of, task_sites}
use Rattle.ada_static_rules.specs.Demand.{scalar_only}
use Rattle.ada_static_rules.specs.RuleMismatch.{is_allowed}
use Rattle.ada_static_rules.specs.Declaring.{inner_scope, given_range, marked_range, drange_range, family_of, entry_family, formal_parts, entry_part, with_name, with_types, after_decl, after_decls}
use Rattle.task_laws.specs.legal.rewritten_types.Agreement.{Grows}
use Rattle.task_laws.specs.legal.rewritten_types.Rewriting.{IsUnused, DeclareOnce, names_declared}
use Rattle.task_laws.proofs.legal.rewritten_types.Fresh.{InHere, here-decl}
use Rattle.task_laws.specs.legal.sites.Met.{IsMet}
use Rattle.common_lemmas.proofs.Lists.{all_front, all_back, all_unflat}
use Rattle.common_lemmas.proofs.Truth.{and_left, and_right}
use Rattle.common_lemmas.proofs.Options.{not_missing}
use Rattle.task_laws.proofs.legal.types.ExprKinds.{LeadsOn, IsClearThing, scalar-mark}
use Rattle.task_laws.proofs.legal.sites.Around.{test-holds}
use Rattle.task_laws.proofs.legal.types.StaticParts.{IsStaticIn, AreBounds, HasRange, drange-met, static-told}
use Rattle.task_laws.proofs.legal.types.TypedValues.{are-taken}
use Rattle.task_laws.proofs.legal.types.GoodScopes.{names-kept, unused-apart}
use Rattle.task_laws.proofs.legal.types.MainScopes.{Stands, AllStand, grows-decls}
use Rattle.task_laws.proofs.legal.types.TaskTypes.{worth-here}

-- ---- names stay

-- what a name means it means behind a declaration of unused names too
pub decl-kept : (d : PDecl) (s : Scope) → InHere s → AllByRecursion (IsUnused s) (names_declared d) → (id : NameId) (x : Thing) → meaning s id ≡ Some x → meaning (after_decl s d) id ≡ Some x
decl-kept (DNumber w e sp) s here u id x q = names-kept _ (w ∷ []) s id (unused-apart s here (w ∷ []) u id x q) ∙ q
decl-kept (DObject ws c y i sp) s here u id x q = names-kept _ ws (with_types _ s) id (unused-apart s here ws u id x q) ∙ q
decl-kept (DEnumeration w ws sp) s here u id x q =
    let a = unused-apart s here (w ∷ ws) u id x q in
    names-kept _ ws (with_name _ (with_types _ s) w) id a.1 ∙ names-kept _ (w ∷ []) s id (a.0, tt) ∙ q
decl-kept (DArray w r y sp) s here u id x q = names-kept _ (w ∷ []) s id (unused-apart s here (w ∷ []) u id x q) ∙ q
decl-kept (DSubtype w y sp) s here u id x q = names-kept _ (w ∷ []) s id (unused-apart s here (w ∷ []) u id x q) ∙ q
decl-kept (DException ws sp) s here u id x q = names-kept _ ws s id (unused-apart s here ws u id x q) ∙ q
decl-kept (DIntIo w sp) s here u id x q = names-kept AnotherUnit (w ∷ []) s id (unused-apart s here (w ∷ []) u id x q) ∙ q
decl-kept (DPragma e sp) s here u id x q = q
decl-kept (DTask t sp) s here u id x q = names-kept _ (t.name ∷ []) s id (unused-apart s here (t.name ∷ []) u id x q) ∙ q
decl-kept (DTaskBody w objects its sp) s here u id x q = q

pub decls-kept : (ds : PDecls) (s : Scope) → InHere s → DeclareOnce s ds → (id : NameId) (x : Thing) → meaning s id ≡ Some x → meaning (after_decls s ds) id ≡ Some x
decls-kept no_decl s here once id x q = q
decls-kept (decl_then d rest) s here once id x q = decls-kept rest (after_decl s d) (here-decl d s here) once.1 id x (decl-kept d s here once.0 id x q)

-- ---- a later scope

-- What is known of a scope of main and of a later one, whose table is T: what a name means it means there too.
pub record IsBefore (T : TypeTable) (s S : Scope) : Type 0 where
  pub stands : Stands T s
  pub types : S.types ≡ T
  pub grows : Grows s.types S.types
  pub kept : (id : NameId) (x : Thing) → meaning s id ≡ Some x → meaning S id ≡ Some x

module _ (T : TypeTable) (s S : Scope) (b : IsBefore T s S) where
  reading-mark : (m : ℕ) → LeadsOn s.types m → reading_of_mark s.types (mark_at s.types m) ≡ reading_of_mark S.types (mark_at S.types m)
  reading-mark m h =
      ap (reading_of_mark s.types) h.there
      ∙ ap (reading_of_kind h.mark.kind) (h.known ∙ sym (b.grows.kind h.mark.kind h.kind h.known))
      ∙ sym (ap (reading_of_mark S.types) (b.grows.mark m h.mark h.there))

  marking-mark : (m : ℕ) → LeadsOn s.types m → marking_of_mark s.types m (mark_at s.types m) ≡ marking_of_mark S.types m (mark_at S.types m)
  marking-mark m h =
      ap (marking_of_mark s.types m) h.there
      ∙ ap (marking_of_kind m h.mark.kind) (h.known ∙ sym (b.grows.kind h.mark.kind h.kind h.known))
      ∙ sym (ap (marking_of_mark S.types m) (b.grows.mark m h.mark h.there))

  thing-reads : (x : Thing) → IsClearThing s.types x → reading_of s.types (Some x) ≡ reading_of S.types (Some x)
  thing-reads (Variable m) h = reading-mark m h
  thing-reads (ConstantObject m) h = reading-mark m h
  thing-reads (Parameter mode m) h = reading-mark m h
  thing-reads (LoopParameter m) h = reading-mark m h
  thing-reads (TypeMark m) h = refl
  thing-reads (TaskType es) h = refl
  thing-reads (SingleTask es) h = refl
  thing-reads (TaskObject es) h = refl
  thing-reads (TaskArray r es) h = refl
  thing-reads (Literal k) h = refl
  thing-reads AnException h = refl
  thing-reads MainProcedure h = refl
  thing-reads AnotherUnit h = refl
  thing-reads Unclear h = refl

  thing-marks : (x : Thing) → IsClearThing s.types x → marking_of s.types (Some x) ≡ marking_of S.types (Some x)
  thing-marks (TypeMark m) h = marking-mark m h
  thing-marks (Variable m) h = refl
  thing-marks (ConstantObject m) h = refl
  thing-marks (Parameter mode m) h = refl
  thing-marks (LoopParameter m) h = refl
  thing-marks (TaskType es) h = refl
  thing-marks (SingleTask es) h = refl
  thing-marks (TaskObject es) h = refl
  thing-marks (TaskArray r es) h = refl
  thing-marks (Literal k) h = refl
  thing-marks AnException h = refl
  thing-marks MainProcedure h = refl
  thing-marks AnotherUnit h = refl
  thing-marks Unclear h = refl

  name-reads : (id : NameId) (x : Thing) → meaning s id ≡ Some x → reading s id ≡ reading S id
  name-reads id x e = ap (reading_of s.types) e ∙ thing-reads x (b.stands.over.clear.things id x e) ∙ sym (ap (reading_of S.types) (b.kept id x e))

  pub name-marks : (id : NameId) (x : Thing) → meaning s id ≡ Some x → marking s id ≡ marking S id
  name-marks id x e = ap (marking_of s.types) e ∙ thing-marks x (b.stands.over.clear.things id x e) ∙ sym (ap (marking_of S.types) (b.kept id x e))

  -- where a name has a kind, or a mark one, it is the same there
  reading-grown : (id : NameId) (k : ℕ) → name_kind (reading s id) ≡ Some k → reading s id ≡ reading S id
  reading-grown id k h = by_meaning (meaning s id) refl h
    where
      by_meaning : (o : Option Thing) → meaning s id ≡ o → name_kind (reading_of s.types o) ≡ Some k → reading s id ≡ reading S id
      by_meaning (Some x) e g = name-reads id x e
      by_meaning None e g = absurd (not_missing k g)

  marking-grown : (id : NameId) (k : ℕ) → scalar_kind (marking s id) ≡ Some k → scalar_kind (marking S id) ≡ Some k
  marking-grown id k h = by_meaning (meaning s id) refl h
    where
      by_meaning : (o : Option Thing) → meaning s id ≡ o → scalar_kind (marking_of s.types o) ≡ Some k → scalar_kind (marking S id) ≡ Some k
      by_meaning (Some x) e g = sym (ap scalar_kind (name-marks id x e)) ∙ h
      by_meaning None e g = absurd (not_missing k g)

  and-then : (f : ℕ → Option ℕ) (o : Option ℕ) (k : ℕ) → and_then f o ≡ Some k → (j : ℕ) × (o ≡ Some j)
  and-then f (Some j) k h = (j, refl)
  and-then f None k h = absurd (not_missing k h)

  some-unary : (op : _) (o : Option ℕ) (k : ℕ) → unary_kind op o ≡ Some k → (j : ℕ) × (o ≡ Some j)
  some-unary op (Some j) k h = (j, refl)
  some-unary op None k h = absurd (not_missing k h)

  some-mark : (a : _) (o q : Option ℕ) (k : ℕ) → attribute_kind a o q ≡ Some k → (j : ℕ) × (o ≡ Some j)
  some-mark a (Some j) q k h = (j, refl)
  some-mark a None q k h = absurd (not_missing k h)

  some-argument : (a : _) (o q : Option ℕ) (k : ℕ) → attribute_kind a o q ≡ Some k → (j : ℕ) × (q ≡ Some j)
  some-argument a (Some i) (Some j) k h = (j, refl)
  some-argument a (Some i) None k h = absurd (not_missing k h)
  some-argument a None q k h = absurd (not_missing k h)

  -- a static expression has its kind there too
  kind-grown : (e : PExpr) (k : ℕ) → is_static s.types e ≡ true → kind_of s e ≡ Some k → kind_of S e ≡ Some k
  kind-grown (EInteger n sp) k t h = h
  kind-grown (EName id sp) k t h = sym (ap name_kind (reading-grown id k h)) ∙ h
  kind-grown (EIndex w e sp) k t h = absurd (true≢false (sym t))
  kind-grown (EAttribute m w sp) k t h =
      let j = and-then (bound_kind (attribute_of w.name)) (scalar_kind (marking s m.name)) k h in
      ap (and_then (bound_kind (attribute_of w.name))) (marking-grown m.name j.0 j.1 ∙ sym j.1) ∙ h
  kind-grown (EAttributeOf m w e sp) k t h =
      let a = attribute_of w.name in
      let i = some-mark a (scalar_kind (marking s m.name)) (kind_of s e) k h in
      let j = some-argument a (scalar_kind (marking s m.name)) (kind_of s e) k h in
      let static : is_static s.types e ≡ true = and_right (keeps_static a && is_some (mark_named s.types m.name)) (is_static s.types e) t in
      ap₂ (attribute_kind a) (marking-grown m.name i.0 i.1 ∙ sym i.1) (kind-grown e j.0 static j.1 ∙ sym j.1) ∙ h
  kind-grown (EParen e sp) k t h = kind-grown e k t h
  kind-grown (EUnary op e sp) k t h =
      let j = some-unary (takes_one op) (kind_of s e) k h in
      ap (unary_kind (takes_one op)) (kind-grown e j.0 t j.1 ∙ sym j.1) ∙ h
  kind-grown (EBinary op l r sp) k t h =
      let q = are-taken (takes op) (kind_of s l) (kind_of s r) k h in
      ap₂ (binary_kind (takes op)) (kind-grown l q.left (and_left (is_static s.types l) (is_static s.types r) t) q.first ∙ sym q.first)
      (kind-grown r q.right (and_right (is_static s.types l) (is_static s.types r) t) q.second ∙ sym q.second)
      ∙ h

  module _ (names : List (List ℕ)) where
    pub static-grown : (j k : ℕ) (e : PExpr) → EveryExpr (well_placed names) j e → (h : IsStaticIn s k e) → (g : IsStaticIn S k e) × (g.value ≡ h.value)
    static-grown j k e every h =
        let w = worth-here T s b.stands names j k e every h in (
          record {
            kind = kind-grown e k h.static h.kind;
            static = ap (λ U. is_static U e) b.types ∙ w.static;
            value = h.value;
            worth = ap (λ U. value_of U e) b.types ∙ w.told;
          },
          refl,
        )

    bounds-grown : (j k : ℕ) (x : PBounds) → EveryBounds (well_placed names) j x → IsStaticIn s k x.first → IsStaticIn s k x.last → static_range s k x ≡ static_range S k x
    bounds-grown j k x every f l =
        let g = static-grown j k x.first every.1 f in
        let m = static-grown j k x.last every.2 l in
        ap₂ (range_between k) (static-told s k x.first f) (static-told s k x.last l)
        ∙ ap₂ (λ (a c : ℤ). range_between k (Some a) (Some c)) (sym g.1) (sym m.1)
        ∙ sym (ap₂ (range_between k) (static-told S k x.first g.0) (static-told S k x.last m.0))

    -- a static range is the same there
    range-grown : (r : PDrange) → EveryDrange (well_placed names) 2 r → HasRange s r → drange_range s r ≡ drange_range S r
    range-grown (RGiven x) every h =
        ap (λ o. given_range s o x) h.first.kind
        ∙ bounds-grown 2 h.kind x every h.first h.last
        ∙ sym (ap (λ o. given_range S o x) (kind-grown x.first h.kind h.first.static h.first.kind))
    range-grown (RMarked x) every h =
        ap (λ m. marked_range s m x.bounds) h.mark.marks
        ∙ by_bounds x.bounds every.1 h.bounds
        ∙ sym (ap (λ m. marked_range S m x.bounds) (sym (name-marks x.mark.name (TypeMark h.mark.place) h.mark.means) ∙ h.mark.marks))
      where
        by_bounds : (o : Option PBounds) → IfSome o (EveryBounds (well_placed names) 2) → IfSome o (AreBounds s h.mark.leads.mark.kind) →
            marked_range s (ScalarMark h.mark.place h.mark.leads.mark.kind) o ≡ marked_range S (ScalarMark h.mark.place h.mark.leads.mark.kind) o
        by_bounds None q w = ap (option_map (λ (y : Mark). record { kind = y.kind; first = y.first; last = y.last })) (h.mark.leads.there ∙ sym (b.grows.mark h.mark.place h.mark.leads.mark h.mark.leads.there))
        by_bounds (Some x) q w = bounds-grown 2 h.mark.leads.mark.kind x q w.0 w.1

    -- ---- entries

    family-grown : (o : Option PDrange) → IfSome o (EveryDrange (well_placed names) 2) → AllByRecursion IsMet (if_there (drange_sites true s) o) → entry_family s o ≡ entry_family S o
    family-grown None every h = refl
    family-grown (Some r) every h = ap family_of (range-grown r every (drange-met s b.stands.over.clear r h))

    formals-grown : (fs : List PFormal) → AllByRecursion (λ f. AllByRecursion IsMet (mark_sites scalar_only s f.mark)) fs → formal_parts s fs ≡ formal_parts S fs
    formals-grown [] h = refl
    formals-grown (f ∷ fs) h =
        let m = h.0.0 in
        let mark = scalar-mark s b.stands.over.clear f.mark.name (test-holds (is_some (meaning s f.mark.name)) f.mark.span m.known) (test-holds (is_allowed scalar_only (marking s f.mark.name)) f.mark.span m.matched) in
        ap₂ (λ (k : Option ℕ) (rest : List FormalPart). map (λ (w : Word). record { name = w.name; mode = f.mode; mark = f.mark.name; kind = k }) f.names ++ rest)
        (ap scalar_kind (name-marks f.mark.name (TypeMark mark.place) mark.means)) (formals-grown fs h.1)

    entries-grown : (before : List ℕ) (es : List PEntry) → AllByRecursion (EveryEntry (well_placed names)) es → AllByRecursion IsMet (entries_sites s before es) → map (entry_part s) es ≡ map (entry_part S) es
    entries-grown before [] every h = refl
    entries-grown before (e ∷ es) every h =
        let first : AllByRecursion IsMet (entry_sites s before e) = all_front IsMet (entry_sites s before e) (entries_sites s (e.name.name.0 ∷ before) es) h in
        let rest : AllByRecursion IsMet (if_there (drange_sites true s) e.family ++ formals_sites s e.formals) = first.1 in
        let formals : AllByRecursion IsMet (formals_sites s e.formals) = all_back IsMet (if_there (drange_sites true s) e.family) (formals_sites s e.formals) rest in
        ap₂ (λ x l. x ∷ l)
        (ap₂ (λ a c. record { name = e.name.name; family = a; formals = c })
        (family-grown e.family every.0.2 (all_front IsMet (if_there (drange_sites true s) e.family) (formals_sites s e.formals) rest))
        (formals-grown e.formals (all_unflat IsMet (λ f. mark_sites scalar_only s f.mark) e.formals (all_back IsMet (names_sites false (inner_scope s) (all_names e.formals)) (formal_mark_sites s e.formals) formals))))
        (entries-grown (e.name.name.0 ∷ before) es every.1 (all_back IsMet (entry_sites s before e) (entries_sites s (e.name.name.0 ∷ before) es) h))

    task-grown : (t : PTask) → EveryTask (well_placed names) t → AllByRecursion IsMet (task_sites s t) → map (entry_part s) t.entries ≡ map (entry_part S) t.entries
    task-grown t every h =
        let rest : AllByRecursion IsMet (entries_sites s [] t.entries ++ flat_map (λ q. static_of s (Some 0) q.value) t.priorities) = h.1 in
        entries-grown [] t.entries (recursion_from_All _ t.entries every.1) (all_front IsMet (entries_sites s [] t.entries) (flat_map (λ q. static_of s (Some 0) q.value) t.priorities) rest)

-- ---- all tasks

-- the entries that a declaration declares, if it is one of a task, are what they are there
abbrev pub DeclEntries : Scope → Scope → PDecl → Type 0
DeclEntries S s (DTask t sp) = map (entry_part s) t.entries ≡ map (entry_part S) t.entries
DeclEntries S s _ = Unit {0}

abbrev pub AllEntries : Scope → Scope → PDecls → Type 0
AllEntries S s no_decl = Unit {0}
AllEntries S s (decl_then d rest) = DeclEntries S s d × AllEntries S (after_decl s d) rest

-- So it is with each task, seen from behind all declarations.
pub all-entries : (names : List (List ℕ)) (ds : PDecls) (s : Scope) → AllStand (after_decls s ds).types s ds → EveryDecls (well_placed names) ds → InHere s → DeclareOnce s ds → AllEntries (after_decls s ds) s ds
all-entries names no_decl s stand every here once = tt
all-entries names (decl_then d rest) s stand every here once = (one d stand every here once, all-entries names rest (after_decl s d) stand.2 every.1 (here-decl d s here) once.1)
  where
    before : (d : PDecl) → AllStand (after_decls s (decl_then d rest)).types s (decl_then d rest) → InHere s → DeclareOnce s (decl_then d rest) → IsBefore (after_decls s (decl_then d rest)).types s (after_decls s (decl_then d rest))
    before d stand here once = record { stands = stand.0; types = refl; grows = grows-decls (decl_then d rest) s; kept = decls-kept (decl_then d rest) s here once }

    one : (d : PDecl) → AllStand (after_decls s (decl_then d rest)).types s (decl_then d rest) → EveryDecls (well_placed names) (decl_then d rest) → InHere s → DeclareOnce s (decl_then d rest) → DeclEntries (after_decls s (decl_then d rest)) s d
    one (DTask t sp) stand every here once =
        task-grown (after_decls s (decl_then (DTask t sp) rest)).types s (after_decls s (decl_then (DTask t sp) rest)) (before (DTask t sp) stand here once) names t every.0.1 stand.1
    one (DNumber w e sp) stand every here once = tt
    one (DObject ws c x i sp) stand every here once = tt
    one (DEnumeration w ws sp) stand every here once = tt
    one (DArray w r x sp) stand every here once = tt
    one (DSubtype w x sp) stand every here once = tt
    one (DException ws sp) stand every here once = tt
    one (DIntIo w sp) stand every here once = tt
    one (DPragma e sp) stand every here once = tt
    one (DTaskBody w objects its sp) stand every here once = tt
