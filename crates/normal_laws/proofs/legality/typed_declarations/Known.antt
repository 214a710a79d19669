-- What the static rules leave of the entries and priorities of a task is so behind all declarations of main: ranges are static, and marks of formals
-- are scalar.
use Rattle.std.proofs.Common.{ℕ, true, false, List, [], ◌∷◌, ◌++◌, flat_map, is_some, int_le, IfSome, Option, Some, None, refl, sym, ap₂, ◌∙◌}
use Rattle.std.specs.List.{AllByRecursion}
use Rattle.std.proofs.lemmas.List.Elements.{recursion_from_All}
use Rattle.common_lemmas.proofs.Lists.{all_front, all_back, all_unflat}
use Rattle.ada_tree.specs.declared.naming.NameId.{NameId}
use Rattle.ada_tree.specs.TypeTable.{TypeTable}
use Rattle.ada_tree.specs.PlainExpr.{PExpr, PBounds, PSubind, PDrange, RGiven, RMarked}
use Rattle.ada_tree.specs.PlainStmt.{PFormal}
use Rattle.ada_tree.specs.PlainDecl.{PPriority, PEntry, PTask, PDecl, DNumber, DObject, DEnumeration, DArray, DSubtype, DException, DIntIo, DPragma, DTask, DTaskBody, PDecls, no_decl, decl_then}
use Rattle.ada_tree.specs.Every.{EveryExpr, EveryBounds, EverySubind, EveryDrange, EveryEntry, EveryPriority, EveryTask, EveryDecls}
use Rattle.ada_tree.specs.WellPlaced.{well_placed}
use Rattle.ada_static_rules.specs.Scope.{Scope, TypeMark, integer_kind, marking, meaning}
use Rattle.ada_static_rules.specs.Demand.{scalar_only, must_be_static}
use Rattle.ada_static_rules.specs.RuleMismatch.{is_allowed}
use Rattle.ada_static_rules.specs.Sites.{site, if_there, names_sites, expr_sites, expr_of, static_of, drange_sites, mark_sites, formal_mark_sites, all_names, formals_sites, entry_sites, entries_sites, task_sites}
use Rattle.ada_static_rules.specs.Declaring.{inner_scope, after_decl, after_decls}
use Rattle.syn_event.specs.DeclaredTasks.{decl_list, tasks_in}
use Rattle.task_laws.specs.legal.rewritten_types.Rewriting.{DeclareOnce}
use Rattle.task_laws.proofs.legal.rewritten_types.Fresh.{InHere, here-decl}
use Rattle.task_laws.specs.legal.sites.Met.{IsMet}
use Rattle.task_laws.proofs.legal.sites.Around.{test-holds}
use Rattle.task_laws.proofs.legal.types.ExprKinds.{IsScalarMark, scalar-mark}
use Rattle.task_laws.proofs.legal.types.StaticParts.{IsStaticIn, AreBounds, HasSubtype, HasRange, met-static, of-kind, drange-met}
use Rattle.task_laws.proofs.legal.types.MainScopes.{AllStand, grows-decls}
use Rattle.normal_laws.proofs.legality.scopes.Later.{IsBefore, name-marks, static-grown, decls-kept}

-- What is known of an entry and of a task at a scope.
pub record IsEntryKnown (S : Scope) (e : PEntry) : Type 0 where
  pub family : IfSome e.family (HasRange S)
  pub formals : AllByRecursion (λ (f : PFormal). IsScalarMark S f.mark.name) e.formals

pub record IsTaskKnown (S : Scope) (t : PTask) : Type 0 where
  pub entries : AllByRecursion (IsEntryKnown S) t.entries
  pub priorities : AllByRecursion (λ (q : PPriority). IsStaticIn S integer_kind q.value) t.priorities

module _ (T : TypeTable) (s S : Scope) (b : IsBefore T s S) (names : List (List ℕ)) where
  mark-grown : (id : NameId) → IsScalarMark s id → IsScalarMark S id
  mark-grown id m = record {
    place = m.place;
    leads = record { mark = m.leads.mark; there = b.grows.mark m.place m.leads.mark m.leads.there; kind = m.leads.kind; known = b.grows.kind m.leads.mark.kind m.leads.kind m.leads.known };
    means = b.kept id (TypeMark m.place) m.means;
    marks = sym (name-marks T s S b id (TypeMark m.place) m.means) ∙ m.marks;
  }

  bounds-grown : (j k : ℕ) (x : PBounds) → EveryBounds (well_placed names) j x → AreBounds s k x → AreBounds S k x
  bounds-grown j k x every h =
      let f = static-grown T s S b names j k x.first every.1 h.0 in
      let l = static-grown T s S b names j k x.last every.2 h.1 in
      (f.0, l.0, ap₂ int_le f.1 l.1 ∙ h.2)

  subtype-grown : (j : ℕ) (x : PSubind) → EverySubind (well_placed names) j x → HasSubtype s x → HasSubtype S x
  unfolding mark-grown
  subtype-grown j x every h = record { mark = mark-grown x.mark.name h.mark; bounds = by_bounds x.bounds every.1 h.bounds }
    where
      by_bounds : (o : Option PBounds) → IfSome o (EveryBounds (well_placed names) j) → IfSome o (AreBounds s h.mark.leads.mark.kind) → IfSome o (AreBounds S h.mark.leads.mark.kind)
      by_bounds None q w = tt
      by_bounds (Some y) q w = bounds-grown j h.mark.leads.mark.kind y q w

  pub range-grown : (j : ℕ) (r : PDrange) → EveryDrange (well_placed names) j r → HasRange s r → HasRange S r
  range-grown j (RMarked x) every h = subtype-grown j x every h
  range-grown j (RGiven y) every h =
      let w = bounds-grown j h.kind y every (h.first, h.last, h.order) in
      record { kind = h.kind; first = w.0; last = w.1; order = w.2 }

  family-known : (o : Option PDrange) → IfSome o (EveryDrange (well_placed names) 2) → AllByRecursion IsMet (if_there (drange_sites true s) o) → IfSome o (HasRange S)
  family-known None every h = tt
  family-known (Some r) every h = range-grown 2 r every (drange-met s b.stands.over.clear r h)

  formals-known : (fs : List PFormal) → AllByRecursion (λ (f : PFormal). AllByRecursion IsMet (mark_sites scalar_only s f.mark)) fs → AllByRecursion (λ (f : PFormal). IsScalarMark S f.mark.name) fs
  formals-known [] h = tt
  formals-known (f ∷ fs) h =
      let m = h.0.0 in (
        mark-grown f.mark.name (scalar-mark s b.stands.over.clear f.mark.name (test-holds (is_some (meaning s f.mark.name)) f.mark.span m.known) (test-holds (is_allowed scalar_only (marking s f.mark.name)) f.mark.span m.matched)),
        formals-known fs h.1,
      )

  entries-known : (before : List ℕ) (es : List PEntry) → AllByRecursion (EveryEntry (well_placed names)) es → AllByRecursion IsMet (entries_sites s before es) → AllByRecursion (IsEntryKnown S) es
  entries-known before [] every h = tt
  entries-known before (e ∷ es) every h =
      let first : AllByRecursion IsMet (entry_sites s before e) = all_front IsMet (entry_sites s before e) (entries_sites s (e.name.name.0 ∷ before) es) h in
      let rest : AllByRecursion IsMet (if_there (drange_sites true s) e.family ++ formals_sites s e.formals) = first.1 in
      let formals : AllByRecursion IsMet (formals_sites s e.formals) = all_back IsMet (if_there (drange_sites true s) e.family) (formals_sites s e.formals) rest in (
        record {
          family = family-known e.family every.0.2 (all_front IsMet (if_there (drange_sites true s) e.family) (formals_sites s e.formals) rest);
          formals = formals-known e.formals (all_unflat IsMet (λ f. mark_sites scalar_only s f.mark) e.formals (all_back IsMet (names_sites false (inner_scope s) (all_names e.formals)) (formal_mark_sites s e.formals) formals));
        },
        entries-known (e.name.name.0 ∷ before) es every.1 (all_back IsMet (entry_sites s before e) (entries_sites s (e.name.name.0 ∷ before) es) h),
      )

  priority-known : (e : PExpr) → EveryExpr (well_placed names) 2 e → AllByRecursion IsMet (static_of s (Some integer_kind) e) → IsStaticIn S integer_kind e
  priority-known e every h =
      let typed = all_front IsMet (expr_of s (Some integer_kind) e) (site s (must_be_static e) ∷ []) h in
      let static = all_back IsMet (expr_of s (Some integer_kind) e) (site s (must_be_static e) ∷ []) h in
      let x = met-static s b.stands.over.clear e (all_front IsMet (expr_sites s e) _ typed) static.0 in
      (static-grown T s S b names 2 integer_kind e every (of-kind s b.stands.over.clear integer_kind x.0 e x.1 (all_back IsMet (expr_sites s e) _ typed).0)).0

  priorities-known : (qs : List PPriority) → AllByRecursion (EveryPriority (well_placed names)) qs → AllByRecursion IsMet (flat_map (λ (q : PPriority). static_of s (Some integer_kind) q.value) qs) →
      AllByRecursion (λ (q : PPriority). IsStaticIn S integer_kind q.value) qs
  priorities-known [] every h = tt
  priorities-known (q ∷ qs) every h = (
    priority-known q.value every.0.1 (all_front IsMet (static_of s (Some integer_kind) q.value) (flat_map (λ (z : PPriority). static_of s (Some integer_kind) z.value) qs) h),
    priorities-known qs every.1 (all_back IsMet (static_of s (Some integer_kind) q.value) (flat_map (λ (z : PPriority). static_of s (Some integer_kind) z.value) qs) h),
  )

  task-known : (t : PTask) → EveryTask (well_placed names) t → AllByRecursion IsMet (task_sites s t) → IsTaskKnown S t
  task-known t every h =
      let es = entries_sites s [] t.entries in
      let qs = flat_map (λ (q : PPriority). static_of s (Some integer_kind) q.value) t.priorities in
      let rest : AllByRecursion IsMet (es ++ qs) = h.1 in
      record { entries = entries-known [] t.entries (recursion_from_All _ t.entries every.1) (all_front IsMet es qs rest); priorities = priorities-known t.priorities (recursion_from_All _ t.priorities every.2) (all_back IsMet es qs rest) }

-- So it is with each task of a program, behind all declarations.
pub tasks-known : (names : List (List ℕ)) (ds : PDecls) (s : Scope) → AllStand (after_decls s ds).types s ds → EveryDecls (well_placed names) ds → InHere s → DeclareOnce s ds → AllByRecursion (IsTaskKnown (after_decls s ds)) (tasks_in (decl_list ds))
tasks-known names no_decl s stand every here once = tt
tasks-known names (decl_then d rest) s stand every here once = one d stand every once (tasks-known names rest (after_decl s d) stand.2 every.1 (here-decl d s here) once.1)
  where
    one : (d : PDecl) → AllStand (after_decls s (decl_then d rest)).types s (decl_then d rest) → EveryDecls (well_placed names) (decl_then d rest) → DeclareOnce s (decl_then d rest) →
        AllByRecursion (IsTaskKnown (after_decls s (decl_then d rest))) (tasks_in (decl_list rest)) → AllByRecursion (IsTaskKnown (after_decls s (decl_then d rest))) (tasks_in (decl_list (decl_then d rest)))
    one (DTask t sp) stand every once h =
        let ds : PDecls = decl_then (DTask t sp) rest in (
          task-known (after_decls s ds).types s (after_decls s ds) record { stands = stand.0; types = refl; grows = grows-decls ds s; kept = decls-kept ds s here once } names t every.0.1 stand.1,
          h,
        )
    one (DNumber w e sp) stand every once h = h
    one (DObject ws c x i sp) stand every once h = h
    one (DEnumeration w ws sp) stand every once h = h
    one (DArray w r x sp) stand every once h = h
    one (DSubtype w x sp) stand every once h = h
    one (DException ws sp) stand every once h = h
    one (DIntIo w sp) stand every once h = h
    one (DPragma e sp) stand every once h = h
    one (DTaskBody w objects its sp) stand every once h = h
