-- The entries of each task, as the scopes of main say them, have the ranges of families and the kinds of formals that the table of types tells.
use Rattle.std.proofs.Common.{◌≡◌, ℕ, Bool, true, false, ◌==◌, if◌then◌else◌, List, [], ◌∷◌, ◌++◌, map, flat_map, find, IfSome, is_some, option_map, Option, Some, None, Result, Ok, refl, sym, ap, ◌∙◌, subst}
use Rattle.std.specs.List.{AllByRecursion}
use Rattle.std.proofs.lemmas.List.Elements.{recursion_from_All}
use Rattle.common_lemmas.proofs.Lists.{all_front, all_back, all_unflat}
use Rattle.common_lemmas.proofs.Options.{some_same}
use Rattle.std.proofs.lemmas.Option.{none-some}
use Rattle.ada_tree.specs.declared.naming.NameId.{NameId}
use Rattle.ada_tree.specs.declared.naming.Word.{Word}
use Rattle.ada_tree.specs.declared.static_types.Mark.{Mark}
use Rattle.ada_tree.specs.TypeTable.{TypeTable}
use Rattle.ada_tree.specs.PlainExpr.{PDrange, RMarked}
use Rattle.ada_tree.specs.PlainStmt.{PFormal}
use Rattle.ada_tree.specs.PlainDecl.{PEntry, PTask, DNumber, DObject, DEnumeration, DArray, DSubtype, DException, DIntIo, DPragma, DTask, DTaskBody, PDecls, no_decl, decl_then}
use Rattle.ada_tree.specs.Every.{EveryWord, EveryDrange, EveryFormal, EveryEntry, EveryTask, EveryDecls}
use Rattle.ada_tree.specs.WellPlaced.{well_placed}
use Rattle.ada_static_rules.specs.Scope.{Scope, Range, range_of_mark, Family, single, family, FormalPart, EntryPart, meaning, marking, scalar_kind, entry_named}
use Rattle.ada_static_rules.specs.Demand.{scalar_only, Site}
use Rattle.ada_static_rules.specs.Sites.{if_there, drange_sites, mark_sites, formals_sites, formal_mark_sites, names_sites, all_names, entry_sites, entries_sites, static_of, task_sites}
use Rattle.ada_static_rules.specs.Declaring.{inner_scope, marked_range, family_of, entry_family, formal_parts, entry_part, after_decl}
use Rattle.ada_static_rules.specs.RuleMismatch.{is_allowed}
use Rattle.ada_value.specs.declared.values.Limits.{Limits}
use Rattle.ada_value.specs.declared.values.Raised.{Raised}
use Rattle.ada_value.specs.Values.{limits_named}
use Rattle.syn_event.specs.DeclaredTasks.{decl_list, tasks_in}
use Rattle.normal_model.specs.Calls.{Slot, slots_of}
use Rattle.task_laws.specs.legal.sites.Met.{IsMet}
use Rattle.task_laws.proofs.legal.sites.Around.{test-holds}
use Rattle.task_laws.proofs.legal.types.ExprKinds.{IsScalarMark, scalar-mark}
use Rattle.task_laws.proofs.legal.types.StaticParts.{drange-met}
use Rattle.task_laws.proofs.legal.types.MainScopes.{Stands, AllStand}
use Rattle.task_laws.proofs.legal.types.TaskTypes.{IsRangeHere, limits-here}
use Rattle.normal_laws.specs.structure.typed.ScopeOf.{IsRange, AreSlots}
use Rattle.normal_laws.proofs.legality.scopes.Later.{AllEntries}
use Rattle.normal_laws.proofs.legality.scopes.Seeing.{entries_in}

-- a family of that range, or none
abbrev pub IsFamilyIn : TypeTable → Option PDrange → Family → Type 0
IsFamilyIn T None single = Unit {0}
IsFamilyIn T (Some r) (family range) = IsRange T (Some r) range
IsFamilyIn T _ _ = ⊥

-- what a scope says of an entry is what the table tells
pub record IsMatched (T : TypeTable) (e : PEntry) (part : EntryPart) : Type 0 where
  pub formals : AreSlots T part.formals (slots_of e.formals)
  pub family : IsFamilyIn T e.family part.family

abbrev pub AreMatched : TypeTable → List PEntry → List EntryPart → Type 0
AreMatched T [] [] = Unit {0}
AreMatched T (e ∷ es) (x ∷ xs) = IsMatched T e x × AreMatched T es xs
AreMatched T _ _ = ⊥

slots-joined : (T : TypeTable) (fs gs : List FormalPart) (xs ys : List Slot) → AreSlots T fs xs → AreSlots T gs ys → AreSlots T (fs ++ gs) (xs ++ ys)
slots-joined T [] gs [] ys h k = k
slots-joined T [] gs (x ∷ xs) ys h k = absurd h
slots-joined T (f ∷ fs) gs [] ys h k = absurd h
slots-joined T (f ∷ fs) gs (x ∷ xs) ys h k = (h.0, h.1, slots-joined T fs gs xs ys h.2 k)

-- two results are one
abbrev are_ok : Limits → Limits → Type 0
are_ok a b = ◌≡◌ {A = Result Limits Raised} (Ok a) (Ok b)

module _ (T : TypeTable) (s : Scope) (stands : Stands T s) (names : List (List ℕ)) where
  names-matched : (f : PFormal) → scalar_kind (marking s f.mark.name) ≡ Some (limits_named T f.mark.name).kind → (ws : List Word) →
      AreSlots T (map (λ (w : Word). record { name = w.name; mode = f.mode; mark = f.mark.name; kind = scalar_kind (marking s f.mark.name) }) ws) (map (λ (w : Word). record { mode = f.mode; mark = f.mark }) ws)
  names-matched f e [] = tt
  names-matched f e (w ∷ ws) = (refl, e, names-matched f e ws)

  -- a scalar mark has the kind of its name in the table
  mark-matched : (w : Word) → EveryWord (well_placed names) w → IsScalarMark s w.name → scalar_kind (marking s w.name) ≡ Some (limits_named T w.name).kind
  mark-matched w every mark =
      let here : IsRangeHere T s (RMarked record { mark = w; bounds = None }) = limits-here T s stands names (RMarked record { mark = w; bounds = None }) (every, tt) (record { mark = mark; bounds = tt }) in
      let known : range_of_mark s.types mark.place ≡ Some record { kind = here.limits.limits.kind; first = here.limits.limits.first; last = here.limits.limits.last } =
      (sym (ap (λ m. marked_range s m None) mark.marks) ∙ here.known) in
      ap scalar_kind mark.marks
      ∙ ap (option_map (λ (r : Range). r.kind)) (sym (ap (option_map (λ (z : Mark). record { kind = z.kind; first = z.first; last = z.last })) mark.leads.there) ∙ known)
      ∙ ap (λ (l : Limits). Some l.kind) (sym (same (limits_named T w.name) here.limits.limits here.limits.range))
    where
      same : (a b : Limits) → are_ok a b → a ≡ b
      same a b e = cc

  formals-matched : (fs : List PFormal) → AllByRecursion (EveryFormal (well_placed names)) fs → AllByRecursion (λ f. AllByRecursion IsMet (mark_sites scalar_only s f.mark)) fs → AreSlots T (formal_parts s fs) (slots_of fs)
  formals-matched [] every h = tt
  formals-matched (f ∷ fs) every h =
      let m = h.0.0 in
      let mark = scalar-mark s stands.over.clear f.mark.name (test-holds (is_some (meaning s f.mark.name)) f.mark.span m.known) (test-holds (is_allowed scalar_only (marking s f.mark.name)) f.mark.span m.matched) in
      slots-joined T (map (λ (w : Word). record { name = w.name; mode = f.mode; mark = f.mark.name; kind = scalar_kind (marking s f.mark.name) }) f.names) (formal_parts s fs)
      (map (λ (w : Word). record { mode = f.mode; mark = f.mark }) f.names) (slots_of fs)
      (names-matched f (mark-matched f.mark every.0.1 mark) f.names) (formals-matched fs every.1 h.1)

  family-matched : (o : Option PDrange) → IfSome o (EveryDrange (well_placed names) 2) → AllByRecursion IsMet (if_there (drange_sites true s) o) → IsFamilyIn T o (entry_family s o)
  family-matched None e h = tt
  family-matched (Some r) e h =
      let here : IsRangeHere T s r = limits-here T s stands names r e (drange-met s stands.over.clear r h) in
      subst (λ o. IsFamilyIn T (Some r) (family_of o)) (sym here.known) (record { written = r; is = refl; has = here.limits; kind = refl; first = refl; last = refl })

  entries-matched : (before : List ℕ) (es : List PEntry) → AllByRecursion (EveryEntry (well_placed names)) es → AllByRecursion IsMet (entries_sites s before es) → AreMatched T es (map (entry_part s) es)
  entries-matched before [] every h = tt
  entries-matched before (e ∷ es) every h =
      let first : AllByRecursion IsMet (entry_sites s before e) = all_front IsMet (entry_sites s before e) (entries_sites s (e.name.name.0 ∷ before) es) h in
      let own : List Site = if_there (drange_sites true s) e.family in
      let rest : AllByRecursion IsMet (own ++ formals_sites s e.formals) = first.1 in
      let formals : AllByRecursion IsMet (formals_sites s e.formals) = all_back IsMet own (formals_sites s e.formals) rest in (
        record {
          formals = formals-matched e.formals (recursion_from_All _ e.formals every.0.3) (all_unflat IsMet (λ f. mark_sites scalar_only s f.mark) e.formals (all_back IsMet (names_sites false (inner_scope s) (all_names e.formals)) (formal_mark_sites s e.formals) formals));
          family = family-matched e.family every.0.2 (all_front IsMet own (formals_sites s e.formals) rest);
        },
        entries-matched (e.name.name.0 ∷ before) es every.1 (all_back IsMet (entry_sites s before e) (entries_sites s (e.name.name.0 ∷ before) es) h),
      )

  task-matched : (t : PTask) → EveryTask (well_placed names) t → AllByRecursion IsMet (task_sites s t) → AreMatched T t.entries (map (entry_part s) t.entries)
  task-matched t every h =
      let rest : AllByRecursion IsMet (entries_sites s [] t.entries ++ flat_map (λ q. static_of s (Some 0) q.value) t.priorities) = h.1 in
      entries-matched [] t.entries (recursion_from_All _ t.entries every.1) (all_front IsMet (entries_sites s [] t.entries) (flat_map (λ q. static_of s (Some 0) q.value) t.priorities) rest)

-- a task whose entries are so, seen from there
abbrev pub IsTaskMatched : TypeTable → Scope → PTask → Type 0
IsTaskMatched T S t = AreMatched T t.entries (entries_in S t)

-- So it is with each task, seen from behind all declarations.
pub tasks-matched : (T : TypeTable) (S : Scope) (names : List (List ℕ)) (ds : PDecls) (s : Scope) → AllStand T s ds → EveryDecls (well_placed names) ds → AllEntries S s ds → AllByRecursion (IsTaskMatched T S) (tasks_in (decl_list ds))
tasks-matched T S names no_decl s stand every es = tt
tasks-matched T S names (decl_then (DTask t sp) rest) s stand every es =
    (subst (AreMatched T t.entries) es.0 (task-matched T s stand.0 names t every.0.1 stand.1), tasks-matched T S names rest (after_decl s (DTask t sp)) stand.2 every.1 es.1)
tasks-matched T S names (decl_then (DNumber w e sp) rest) s stand every es = tasks-matched T S names rest _ stand.2 every.1 es.1
tasks-matched T S names (decl_then (DObject ws c x i sp) rest) s stand every es = tasks-matched T S names rest _ stand.2 every.1 es.1
tasks-matched T S names (decl_then (DEnumeration w ws sp) rest) s stand every es = tasks-matched T S names rest _ stand.2 every.1 es.1
tasks-matched T S names (decl_then (DArray w q x sp) rest) s stand every es = tasks-matched T S names rest _ stand.2 every.1 es.1
tasks-matched T S names (decl_then (DSubtype w x sp) rest) s stand every es = tasks-matched T S names rest _ stand.2 every.1 es.1
tasks-matched T S names (decl_then (DException ws sp) rest) s stand every es = tasks-matched T S names rest _ stand.2 every.1 es.1
tasks-matched T S names (decl_then (DIntIo w sp) rest) s stand every es = tasks-matched T S names rest _ stand.2 every.1 es.1
tasks-matched T S names (decl_then (DPragma e sp) rest) s stand every es = tasks-matched T S names rest _ stand.2 every.1 es.1
tasks-matched T S names (decl_then (DTaskBody w objects its sp) rest) s stand every es = tasks-matched T S names rest _ stand.2 every.1 es.1

-- ---- one entry

-- an entry that is named among them, with its declaration
pub record IsFoundEntry (T : TypeTable) (es : List PEntry) (name : NameId) (part : EntryPart) : Type 0 where
  pub entry : PEntry
  pub declared : find (λ (y : PEntry). y.name.name.0 == name.0) es ≡ Some entry
  pub matched : IsMatched T entry part

pub entry-found : (T : TypeTable) (S : Scope) (es : List PEntry) (name : NameId) (part : EntryPart) → AreMatched T es (map (entry_part S) es) → entry_named (map (entry_part S) es) name ≡ Some part → IsFoundEntry T es name part
entry-found T S [] name part h e = absurd (none-some part e)
entry-found T S (x ∷ es) name part h e = by_test (x.name.name.0 == name.0) refl e (entry-found T S es name part h.1)
  where
    by_test : (b : Bool) → (x.name.name.0 == name.0) ≡ b → (if b then Some (entry_part S x) else entry_named (map (entry_part S) es) name) ≡ Some part → (entry_named (map (entry_part S) es) name ≡ Some part → IsFoundEntry T es name part) → IsFoundEntry T (x ∷ es) name part
    by_test true f q later = record {
      entry = x;
      declared = ap (λ (b : Bool). if b then Some x else find (λ (y : PEntry). y.name.name.0 == name.0) es) f;
      matched = subst (IsMatched T x) (some_same q) h.0;
    }
    by_test false f q later =
        let r = later q in
        record { entry = r.entry; declared = ap (λ (b : Bool). if b then Some x else find (λ (y : PEntry). y.name.name.0 == name.0) es) f ∙ r.declared; matched = r.matched }
