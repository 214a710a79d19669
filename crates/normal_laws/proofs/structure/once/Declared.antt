-- What the variables, tasks and bodies of a normal form declare and name is told by their text and by the names before them.
use Rattle.std.proofs.Common.{◌≡◌, ℕ, true, false, ◌||◌, ◌&&◌, List, [], ◌∷◌, ◌++◌, flat_map, None, refl, sym, ap, ap₂, ◌∙◌}
use Rattle.std.proofs.lemmas.List.{append_assoc}
use Rattle.std.specs.List.{AllByRecursion}
use Rattle.ada_tree.specs.PlainDecl.{OPlain, PDecl, DNumber, DObject, DEnumeration, DArray, DSubtype, DException, DIntIo, DPragma, DTask, DTaskBody, PDecls, no_decl, decl_then, decls_of}
use Rattle.ada_static_rules.specs.Scope.{Scope}
use Rattle.ada_static_rules.specs.Demand.{Site}
use Rattle.ada_static_rules.specs.Declaring.{declared_object, after_decl, after_decls}
use Rattle.ada_static_rules.specs.Sites.{with_words, decl_sites, decls_sites}
use Rattle.syn_event.specs.DeclaredTasks.{tasks_in}
use Rattle.normal_model.specs.NormalTree.{decls_front}
use Rattle.ada_decl_rules.specs.duplicates.NamedSoFar.{object_words}
use Rattle.ada_decl_rules.proofs.duplicates.Behind.{with_names_is, still_in_main, object_is}
use Rattle.normal_laws.proofs.structure.numbers.Listed.{IsOneTask, IsOneBody}
use Rattle.ada_decl_rules.specs.duplicates.NamingsInOrder.{namings_of, declared}
use Rattle.ada_decl_rules.specs.declared.duplicates.namings_in_order.Naming.{Naming}
use Rattle.ada_decl_rules.specs.declared.duplicates.namings_in_order.Naming.TheVariants.{Once}
use Rattle.normal_laws.specs.structure.once.Names.{inner_names, tasks_names, bodies_names}
use Rattle.normal_laws.proofs.structure.once.TaskTypes.{HasTypes, types-after, no-task}
use Rattle.normal_laws.proofs.structure.once.Parts.{task-is, task-body-is}
use Rattle.ada_decl_rules.proofs.duplicates.Noting.{declared_append, namings_append, quiet_none}

-- ---- lists of declarations

-- the places of some declarations and then of others
pub front-sites : (s : Scope) (a b : PDecls) → decls_sites s (decls_front a b) ≡ decls_sites s a ++ decls_sites (after_decls s a) b
front-sites s no_decl b = refl
front-sites s (decl_then d ds) b = ap (λ (l : List Site). decl_sites s d ++ l) (front-sites (after_decl s d) ds b) ∙ sym (append_assoc (decl_sites s d) (decls_sites (after_decl s d) ds) (decls_sites (after_decls (after_decl s d) ds) b))

pub list-front : (xs ys : List PDecl) → decls_of (xs ++ ys) ≡ decls_front (decls_of xs) (decls_of ys)
list-front [] ys = refl
list-front (x ∷ xs) ys = ap (decl_then x) (list-front xs ys)

then-named : (s : Scope) (d : PDecl) (ds : PDecls) (a b : List Naming) → namings_of (decl_sites s d) ≡ a → namings_of (decls_sites (after_decl s d) ds) ≡ b → namings_of (decls_sites s (decl_then d ds)) ≡ a ++ b
then-named s d ds a b p q = namings_append (decl_sites s d) (decls_sites (after_decl s d) ds) ∙ ap₂ (λ (l m : List Naming). l ++ m) p q

-- ---- variables

-- a declaration of variables that are no tasks, wherever no task type can be used
abbrev pub IsVariable : PDecl → Type 0
IsVariable (DObject ws false (OPlain x) None s) = Unit {0}
IsVariable _ = ⊥

variable-is : (s : Scope) (d : PDecl) → IsVariable d → s.in_main ≡ true → HasTypes [] s → namings_of (decl_sites s d) ≡ declared false s.here (object_words d)
variable-is s (DObject ws false (OPlain x) None sp) h main types =
    object_is s ws false (OPlain x) None (declared_object s false (OPlain x)) ∙ ap₂ (λ a b. declared (a && (false || b)) s.here ws) main (no-task [] s false (OPlain x) types refl)
variable-is s _ h main types = absurd h

variable-types : (s : Scope) (d : PDecl) → IsVariable d → HasTypes [] s → HasTypes [] (after_decl s d)
variable-types s (DObject ws false (OPlain x) None sp) h types = types-after [] (DObject ws false (OPlain x) None sp) s types
variable-types s _ h types = absurd h

variable-here : (s : Scope) (d : PDecl) → IsVariable d → (after_decl s d).here ≡ with_words s.here (object_words d)
variable-here s (DObject ws false (OPlain x) None sp) h = ap (λ (t : Scope). t.here) (with_names_is _ _ ws)
variable-here s _ h = absurd h

pub variables-are : (ds : List PDecl) (s : Scope) → AllByRecursion IsVariable ds → s.in_main ≡ true → HasTypes [] s → namings_of (decls_sites s (decls_of ds)) ≡ declared false s.here (flat_map object_words ds)
variables-are [] s h main types = quiet_none
variables-are (d ∷ ds) s h main types =
    then-named s d (decls_of ds) _ _ (variable-is s d h.0 main types) (variables-are ds (after_decl s d) h.1 (still_in_main s d ∙ main) (variable-types s d h.0 types))
    ∙ ap (λ (l : List ℕ). declared false s.here (object_words d) ++ declared false l (flat_map object_words ds)) (variable-here s d h.0)
    ∙ sym (declared_append false s.here (object_words d) (flat_map object_words ds))

-- ---- tasks

pub tasks-are : (ds : List PDecl) (s : Scope) → AllByRecursion IsOneTask ds → namings_of (decls_sites s (decls_of ds)) ≡ tasks_names s.here (tasks_in ds)
tasks-are [] s h = quiet_none
tasks-are (DTask t sp ∷ ds) s h = then-named s (DTask t sp) (decls_of ds) _ _ (task-is s t) (tasks-are ds (after_decl s (DTask t sp)) h.1)
tasks-are (DTaskBody w objects its sp ∷ ds) s h = absurd h.0
tasks-are (DNumber w e sp ∷ ds) s h = absurd h.0
tasks-are (DObject ws c x i sp ∷ ds) s h = absurd h.0
tasks-are (DEnumeration w ws sp ∷ ds) s h = absurd h.0
tasks-are (DArray w r x sp ∷ ds) s h = absurd h.0
tasks-are (DSubtype w x sp ∷ ds) s h = absurd h.0
tasks-are (DException ws sp ∷ ds) s h = absurd h.0
tasks-are (DIntIo w sp ∷ ds) s h = absurd h.0
tasks-are (DPragma e sp ∷ ds) s h = absurd h.0

-- ---- bodies

pub bodies-are : (ds : List PDecl) (s : Scope) → AllByRecursion IsOneBody ds → namings_of (decls_sites s (decls_of ds)) ≡ bodies_names s.bodies ds
bodies-are [] s h = quiet_none
bodies-are (DTaskBody w objects its sp ∷ ds) s h =
    then-named s (DTaskBody w objects its sp) (decls_of ds) (Once _ w ∷ inner_names objects its) (bodies_names (w.name.0 ∷ s.bodies) ds) (task-body-is s w objects its sp) (bodies-are ds (after_decl s (DTaskBody w objects its sp)) h.1)
bodies-are (DTask t sp ∷ ds) s h = absurd h.0
bodies-are (DNumber w e sp ∷ ds) s h = absurd h.0
bodies-are (DObject ws c x i sp ∷ ds) s h = absurd h.0
bodies-are (DEnumeration w ws sp ∷ ds) s h = absurd h.0
bodies-are (DArray w r x sp ∷ ds) s h = absurd h.0
bodies-are (DSubtype w x sp ∷ ds) s h = absurd h.0
bodies-are (DException ws sp ∷ ds) s h = absurd h.0
bodies-are (DIntIo w sp ∷ ds) s h = absurd h.0
bodies-are (DPragma e sp ∷ ds) s h = absurd h.0
