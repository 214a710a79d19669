-- What is named in the entries and bodies of a program's tasks is fit beside its fixed names.
use Rattle.std.proofs.Common.{◌≡◌, ℕ, true, Some, List, [], ◌∷◌, ◌++◌, flat_map, refl, sym, ap, ap₂, ◌∙◌, subst}
use Rattle.std.specs.List.{AllByRecursion}
use Rattle.ada_tree.specs.declared.naming.Span.{Span}
use Rattle.ada_tree.specs.declared.naming.Word.{Word}
use Rattle.ada_tree.specs.PlainStmt.{PBody}
use Rattle.ada_tree.specs.PlainDecl.{PTask, PDecl, DNumber, DObject, DEnumeration, DArray, DSubtype, DException, DIntIo, DPragma, DTask, DTaskBody, PDecls, no_decl, decl_then}
use Rattle.ada_static_rules.specs.Scope.{Scope, integer_kind}
use Rattle.ada_static_rules.specs.Demand.{gives_body, Site}
use Rattle.ada_static_rules.specs.Declaring.{inner_scope, in_body, after_decl, after_objects}
use Rattle.ada_static_rules.specs.RuleDuplicate.{is_among}
use Rattle.ada_static_rules.specs.Sites.{site, static_of, names_sites, entries_sites, task_sites, own_sites, body_sites, decl_sites, decls_sites}
use Rattle.syn_event.specs.DeclaredTasks.{decl_list}
use Rattle.ada_decl_rules.proofs.duplicates.Behind.{quiet_priorities, names_are, own_are, then_quiet}
use Rattle.ada_decl_rules.specs.duplicates.NamingsInOrder.{namings_of}
use Rattle.ada_decl_rules.specs.declared.duplicates.namings_in_order.Naming.{Naming}
use Rattle.ada_decl_rules.specs.declared.duplicates.namings_in_order.Naming.TheVariants.{Declares, Once}
use Rattle.normal_laws.specs.structure.once.Apart.{IsFreeOf, AreApart, IsAlone, loose_name, loose_names, IsFitIn}
use Rattle.normal_laws.specs.structure.once.Names.{entries_names, inner_names, IsFitDecl}
use Rattle.normal_laws.proofs.structure.once.Places.{entries-are, body-is}
use Rattle.ada_decl_rules.proofs.duplicates.Noting.{namings_append}
use Rattle.common_lemmas.proofs.Lists.{all_back, all_front, all_joined}
use Rattle.syn_event.proofs.DeclLists.{list_again}

-- ---- one naming beside fixed names

pub all-fit-in : (fixed : List ℕ) (ns : List Naming) → AllByRecursion IsAlone ns → AreApart fixed (loose_names ns) → AllByRecursion (IsFitIn fixed) ns
all-fit-in fixed [] h k = tt
all-fit-in fixed (n ∷ ns) h k = ((h.0, all_front (IsFreeOf fixed) (loose_name n) (loose_names ns) k), all-fit-in fixed ns h.1 (all_back (IsFreeOf fixed) (loose_name n) (loose_names ns) k))

pub fit-in-alone : (fixed : List ℕ) (ns : List Naming) → AllByRecursion (IsFitIn fixed) ns → AllByRecursion IsAlone ns
fit-in-alone fixed [] h = tt
fit-in-alone fixed (n ∷ ns) h = (h.0.0, fit-in-alone fixed ns h.1)

pub fit-in-apart : (fixed : List ℕ) (ns : List Naming) → AllByRecursion (IsFitIn fixed) ns → AreApart fixed (loose_names ns)
fit-in-apart fixed [] h = tt
fit-in-apart fixed (n ∷ ns) h = all_joined (IsFreeOf fixed) (loose_name n) (loose_names ns) h.0.1 (fit-in-apart fixed ns h.1)

-- ---- bodies

body-named : (s : Scope) (w : Word) (rest : List Site) (l : List Naming) → namings_of rest ≡ l → namings_of (site s (gives_body w) ∷ rest) ≡ Once (is_among s.bodies w.name.0) w ∷ l
unfolding namings_of
body-named s w rest l e = ap (λ m. Once (is_among s.bodies w.name.0) w ∷ m) e

-- what a task body declares and names
pub task-body-is : (s : Scope) (w : Word) (objects : PDecls) (its : PBody) (sp : Span) →
    namings_of (decl_sites s (DTaskBody w objects its sp)) ≡ Once (is_among s.bodies w.name.0) w ∷ inner_names objects its
task-body-is s w objects its sp =
    body-named s w (own_sites (in_body s w) objects ++ body_sites (inner_scope (after_objects (in_body s w) objects)) its) _
    (namings_append (own_sites (in_body s w) objects) (body_sites (inner_scope (after_objects (in_body s w) objects)) its)
    ∙ ap₂ (λ (a b : List Naming). a ++ b)
    (ap (λ (ds : PDecls). namings_of (own_sites (in_body s w) ds)) (sym (list_again objects)) ∙ own_are (in_body s w) (decl_list objects) refl)
    (body-is (inner_scope (after_objects (in_body s w) objects)) its))

-- ---- declarations

-- what a task declares: its name, and its entries with their formals
pub task-is : (s : Scope) (t : PTask) → namings_of (task_sites s t) ≡ Declares true (is_among s.here t.name.name.0) t.name ∷ entries_names [] t.entries
task-is s t =
    then_quiet (names_sites true s (t.name ∷ []) ++ entries_sites s [] t.entries) (flat_map (λ p. static_of s (Some integer_kind) p.value) t.priorities) _
    (namings_append (names_sites true s (t.name ∷ [])) (entries_sites s [] t.entries) ∙ ap₂ (λ (a b : List Naming). a ++ b) (names_are true s (t.name ∷ [])) (entries-are s [] t.entries))
    ((quiet_priorities s t.priorities))

decl-fits : (fixed : List ℕ) (s : Scope) (d : PDecl) → AllByRecursion (IsFitIn fixed) (namings_of (decl_sites s d)) → IsFitDecl fixed d
decl-fits fixed s (DTask t sp) h = (subst (AllByRecursion (IsFitIn fixed)) (task-is s t) h).1
decl-fits fixed s (DTaskBody w objects its sp) h = (subst (AllByRecursion (IsFitIn fixed)) (task-body-is s w objects its sp) h).1
decl-fits fixed s (DNumber w e sp) h = tt
decl-fits fixed s (DObject ws c x i sp) h = tt
decl-fits fixed s (DEnumeration w ws sp) h = tt
decl-fits fixed s (DArray w r x sp) h = tt
decl-fits fixed s (DSubtype w x sp) h = tt
decl-fits fixed s (DException ws sp) h = tt
decl-fits fixed s (DIntIo w sp) h = tt
decl-fits fixed s (DPragma e sp) h = tt

-- So it is with all tasks and bodies of declarations whose namings are fit beside these names.
pub decls-fit-in : (fixed : List ℕ) (ds : PDecls) (s : Scope) → AllByRecursion (IsFitIn fixed) (namings_of (decls_sites s ds)) → AllByRecursion (IsFitDecl fixed) (decl_list ds)
decls-fit-in fixed no_decl s h = tt
decls-fit-in fixed (decl_then d rest) s h =
    let k = subst (AllByRecursion (IsFitIn fixed)) (namings_append (decl_sites s d) (decls_sites (after_decl s d) rest)) h in
    (decl-fits fixed s d (all_front (IsFitIn fixed) (namings_of (decl_sites s d)) _ k), decls-fit-in fixed rest (after_decl s d) (all_back (IsFitIn fixed) (namings_of (decl_sites s d)) _ k))
