-- The tasks of the normal form of a legal program meet the static rules 1 and 3 to 12, as their units do in the program.
use Rattle.std.proofs.Common.{ℕ, Bool, true, false, List, [], ◌∷◌, ◌++◌, flat_map, IfSome, Option, Some, None, refl, sym, ap, ◌∙◌, subst}
use Rattle.std.specs.List.{AllByRecursion}
use Rattle.std.proofs.lemmas.List.Elements.{recursion_from_All}
use Rattle.common_lemmas.proofs.Lists.{all_joined, all_kept}
use Rattle.ada_tree.specs.declared.naming.NameId.{NameId}
use Rattle.ada_tree.specs.declared.naming.Span.{Span}
use Rattle.ada_tree.specs.PlainExpr.{PDrange}
use Rattle.ada_tree.specs.PlainStmt.{PFormal}
use Rattle.ada_tree.specs.PlainDecl.{PPriority, PEntry, PTask, PDecl, DTask, PDecls, decls_of}
use Rattle.ada_tree.specs.PlainProgram.{PProgram}
use Rattle.ada_tree.specs.Every.{EveryDrange, EveryFormal, EveryEntry, EveryPriority, EveryTask, EveryDecls}
use Rattle.ada_static_rules.specs.Scope.{Scope, integer_kind, entry_named}
use Rattle.ada_static_rules.specs.Demand.{scalar_only, declares_entry, Site}
use Rattle.ada_static_rules.specs.Sites.{site, if_there, names_sites, static_of, drange_sites, mark_sites, formal_mark_sites, all_names, formals_sites, entry_sites, entries_sites, task_sites, decl_sites, decls_sites}
use Rattle.ada_static_rules.specs.Declaring.{inner_scope, first_scope, after_decl}
use Rattle.syn_event.specs.declared.numbering.TaskInfo.{TaskInfo}
use Rattle.syn_event.specs.NamedTasks.{task_names_of}
use Rattle.syn_event.specs.DeclaredTasks.{decl_list, tasks_of}
use Rattle.task_model.specs.Setting.{Setting}
use Rattle.normal_model.specs.Names.{task_name}
use Rattle.normal_model.specs.Ranges.{word_at}
use Rattle.normal_model.specs.NormalTree.{tasks_beside, task_under, task_declared}
use Rattle.task_laws.proofs.legal.rewritten_types.Fresh.{first-here}
use Rattle.task_laws.proofs.legal.types.ExprKinds.{IsScalarMark}
use Rattle.task_laws.proofs.legal.types.StaticParts.{IsStaticIn, HasRange}
use Rattle.normal_laws.proofs.existence.variable_types.Subtypes.{tasks-every}
use Rattle.normal_laws.specs.structure.checked.Around.{own_rules}
use Rattle.normal_laws.specs.existence.Laws.{IsLegalOriginal}
use Rattle.task_laws.specs.legal.alike_scopes.Alike.{Alike}
use Rattle.task_laws.specs.legal.alike_scopes.Laws.{IsMetBut}
use Rattle.normal_laws.proofs.structure.typed.Variables.{AllMetBut, words-met}
use Rattle.normal_laws.proofs.structure.typed.Places.{met-declares}
use Rattle.normal_laws.proofs.structure.typed.Stays.{old-expr, old-drange, old-formals, static-stays, drange-stays, formals-stay}
use Rattle.normal_laws.proofs.structure.typed.StaticMet.{NoneIsOut, static-of-met, mark-met, drange-is-met}
use Rattle.normal_laws.specs.legality.scopes.Plain.{plain_name}
use Rattle.normal_laws.proofs.legality.scopes.Tasks.{has_name, one-under}
use Rattle.normal_laws.proofs.legality.scopes.Formed.{HasUnit, IsFormed, task-formed}
use Rattle.normal_laws.proofs.legality.scopes.Main.{IsFrame, decls-frame, g, last, first, once, stand, units, last-placed, varied, varied-formed}
use Rattle.normal_laws.proofs.legality.typed_declarations.Outs.{none-out}
use Rattle.normal_laws.proofs.legality.typed_declarations.Known.{IsEntryKnown, IsTaskKnown, tasks-known}

-- the name of an entry asks nothing
entry-name-met : (s : Scope) (before : List ℕ) (e : PEntry) → IsMetBut (site s (declares_entry before e.name))
entry-name-met s before e = record { known = refl; matched = refl; static = refl; ranged = refl; variable = refl; readable = refl; counted = refl; chosen = refl; arrays = refl; texts = refl; exceptions = refl }

-- the declared entries and priorities of a task at a scope that is alike one where they are known
module _ (old : ℕ → Bool) (S t : Scope) (alike : Alike old S t) (free : NoneIsOut S) where
  but : (s : Site) → IsMetBut s → IsMetBut s
  but s m = m

  family-met : (o : Option PDrange) → IfSome o (EveryDrange (own_rules old) 2) → IfSome o (HasRange S) → AllMetBut (if_there (drange_sites true t) o)
  family-met None every h = tt
  family-met (Some r) every h = drange-stays IsMetBut but old S t alike.names true r (old-drange old 2 r every) (drange-is-met S free r h)

  marks-there : (fs : List PFormal) → AllByRecursion (λ (f : PFormal). IsScalarMark S f.mark.name) fs → AllMetBut (formal_mark_sites S fs)
  marks-there [] h = tt
  marks-there (f ∷ fs) h = all_joined IsMetBut (mark_sites scalar_only S f.mark) (formal_mark_sites S fs) (mark-met S free f.mark h.0) (marks-there fs h.1)

  formals-met : (fs : List PFormal) → AllByRecursion (EveryFormal (own_rules old)) fs → AllByRecursion (λ (f : PFormal). IsScalarMark S f.mark.name) fs → AllMetBut (formals_sites t fs)
  formals-met fs every h =
      formals-stay IsMetBut but old S t alike.names fs (old-formals old fs every)
      (all_joined IsMetBut (names_sites false (inner_scope S) (all_names fs)) (formal_mark_sites S fs) (words-met false (all_names fs) (inner_scope S)) (marks-there fs h))

  entries-met : (before : List ℕ) (es : List PEntry) → AllByRecursion (EveryEntry (own_rules old)) es → AllByRecursion (IsEntryKnown S) es → AllMetBut (entries_sites t before es)
  entries-met before [] every h = tt
  entries-met before (e ∷ es) every h =
      all_joined IsMetBut (entry_sites t before e) (entries_sites t (e.name.name.0 ∷ before) es) (
        entry-name-met t before e,
        all_joined IsMetBut (if_there (drange_sites true t) e.family) (formals_sites t e.formals) (family-met e.family every.0.2 h.0.family)
            (formals-met e.formals (recursion_from_All (EveryFormal (own_rules old)) e.formals every.0.3) h.0.formals),
      )
      (entries-met (e.name.name.0 ∷ before) es every.1 h.1)

  priorities-met : (qs : List PPriority) → AllByRecursion (EveryPriority (own_rules old)) qs → AllByRecursion (λ (q : PPriority). IsStaticIn S integer_kind q.value) qs →
      AllMetBut (flat_map (λ (q : PPriority). static_of t (Some integer_kind) q.value) qs)
  priorities-met [] every h = tt
  priorities-met (q ∷ qs) every h =
      all_joined IsMetBut (static_of t (Some integer_kind) q.value) (flat_map (λ (z : PPriority). static_of t (Some integer_kind) z.value) qs)
      (static-stays IsMetBut but old S t alike.names (Some integer_kind) q.value (old-expr old 2 q.value every.0.1) (static-of-met S free integer_kind q.value h.0)) (priorities-met qs every.1 h.1)

  -- A task under any name meets the rules there.
  pub task-met : (name : NameId) (u : PTask) → EveryTask (own_rules old) u → IsTaskKnown S u → AllMetBut (task_sites t (task_under name u))
  task-met name u every h = (
    met-declares t true (word_at u.name.span name),
    all_joined IsMetBut (entries_sites t [] u.entries) (flat_map (λ (q : PPriority). static_of t (Some integer_kind) q.value) u.priorities) (entries-met [] u.entries (recursion_from_All (EveryEntry (own_rules old)) u.entries every.1) h.entries)
        (priorities-met u.priorities (recursion_from_All (EveryPriority (own_rules old)) u.priorities every.2) h.priorities),
  )

-- ---- a legal program

pub all-both : {A : Type 0} (P Q : A → Type 0) (xs : List A) → AllByRecursion P xs → AllByRecursion Q xs → AllByRecursion (λ (x : A). P x × Q x) xs
all-both P Q [] h k = tt
all-both P Q (x ∷ xs) h k = ((h.0, k.0), all-both P Q xs h.1 k.1)

module _ (p : PProgram) (legal : IsLegalOriginal p) (olds : EveryDecls (own_rules (plain_name p)) p.decls) where
  abbrev G : Setting
  G = g p legal

  abbrev L : Scope
  L = last p legal

  abbrev Formed : Scope → Type 0
  Formed = IsFormed (plain_name p) G L (first p legal) (task_names_of p)

  abbrev Has : TaskInfo → Type 0
  Has = HasUnit (plain_name p) G L (first p legal) (task_names_of p)

  abbrev IsGood : PTask → Type 0
  IsGood u = IsTaskKnown L u × EveryTask (own_rules (plain_name p)) u

  all-good : AllByRecursion IsGood (tasks_of p)
  all-good =
      all-both (IsTaskKnown L) (EveryTask (own_rules (plain_name p))) (tasks_of p) (tasks-known p.names p.decls (first_scope p.name) (stand p legal) legal.placed.2 (first-here p.name) (once p legal).1)
      (tasks-every (own_rules (plain_name p)) p.decls olds)

  unit-good : (info : TaskInfo) (h : Has info) → IsGood h.unit
  unit-good info h = (subst (AllByRecursion IsGood) h.declared (all_kept IsGood (has_name info.unit) (tasks_of p) all-good)).0

  -- a scope of main in the normal form is alike that behind all declarations of the program
  pub main-like : (t : Scope) → Formed t → Alike (plain_name p) L t
  main-like t f =
      let l : IsFrame (first_scope p.name) L = decls-frame p.decls (first_scope p.name) in
      record {
        names = f.same L (last-placed p legal);
        own = λ id o. ap (λ es. entry_named es id) (l.own ∙ sym f.own);
        main = l.main ∙ sym f.main;
      }

  one-met : (info : TaskInfo) (h : Has info) (sp : Span) (t : Scope) → Formed t → AllMetBut (decl_sites t (DTask (task_under (task_name G info) h.unit) sp))
  one-met info h sp t f = let u = unit-good info h in task-met (plain_name p) L t (main-like t f) (none-out p.name p.decls) (task_name G info) h.unit u.1 u.0

  tasks-from : (infos : List TaskInfo) → AllByRecursion Has infos → (t : Scope) → Formed t → AllMetBut (decls_sites t (decls_of (flat_map (task_declared G) infos)))
  tasks-from [] hs t f = tt
  tasks-from (info ∷ infos) hs t f =
      let d = one-under info.unit (task_name G info) (decl_list p.decls) hs.0.unit hs.0.declared in
      let x : PDecl = DTask (task_under (task_name G info) hs.0.unit) d.place in
      let rest : PDecls = decls_of (flat_map (task_declared G) infos) in
      subst (λ (xs : List PDecl). AllMetBut (decls_sites t (decls_of (xs ++ flat_map (task_declared G) infos)))) (sym d.is)
      (all_joined IsMetBut (decl_sites t x) (decls_sites (after_decl t x) rest) (one-met info hs.0 d.place t f)
      (tasks-from infos hs.1 (after_decl t x) (task-formed (plain_name p) G L (first p legal) (task_names_of p) (last-placed p legal) info hs.0 d.place t f)))

  -- The tasks of the normal form meet the rules behind its variables.
  pub tasks-met : AllMetBut (decls_sites (varied p legal) (decls_of (flat_map (task_declared G) (tasks_beside G))))
  tasks-met = tasks-from (tasks_beside G) (units p legal) (varied p legal) (varied-formed p legal)
