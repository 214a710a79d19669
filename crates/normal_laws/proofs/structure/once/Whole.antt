-- What the declarations of a normal form declare and name: the first ones, the variables of main, the tasks and the bodies.
use Rattle.std.proofs.Common.{◌≡◌, ℕ, true, List, [], ◌∷◌, ◌++◌, refl, ap, ap₂, ◌∙◌, subst}
use Rattle.std.specs.List.{AllByRecursion}
use Rattle.ada_tree.specs.declared.naming.Word.{Word}
use Rattle.ada_tree.specs.PlainDecl.{PTask, PDecl, DNumber, DObject, DEnumeration, DArray, DSubtype, DException, DIntIo, DPragma, DTask, DTaskBody, PDecls, no_decl, decl_then, decls_of}
use Rattle.ada_static_rules.specs.Scope.{Scope}
use Rattle.ada_static_rules.specs.Declaring.{first_scope, after_decl, after_decls}
use Rattle.ada_static_rules.specs.Sites.{decls_sites}
use Rattle.syn_event.specs.DeclaredTasks.{decl_list}
use Rattle.normal_model.specs.NormalTree.{decls_front, first_decls, main_unit}
use Rattle.normal_laws.specs.structure.types.Laws.{setting_of}
use Rattle.normal_laws.proofs.structure.types.Normal.{front-after}
use Rattle.normal_laws.proofs.structure.types.Variables.{unit-all}
use Rattle.ada_decl_rules.proofs.duplicates.Behind.{with_names_is, still_in_main}
use Rattle.normal_laws.proofs.structure.numbers.Listed.{IsPlain, IsOneTask, tasks-all, bodies-all, first-plain, vars, tasks, bodies}
use Rattle.ada_decl_rules.specs.duplicates.NamingsInOrder.{namings_of}
use Rattle.ada_decl_rules.specs.declared.duplicates.namings_in_order.Naming.{Naming}
use Rattle.normal_laws.specs.structure.once.Names.{bodies_names}
use Rattle.normal_laws.specs.structure.once.Laws.{behind_first, behind_variables, NormalDeclares}
use Rattle.normal_laws.proofs.structure.once.TaskTypes.{HasTypes, first-types, types-after, kinds_after}
use Rattle.normal_laws.proofs.structure.once.Declared.{IsVariable, front-sites, list-front, variables-are, tasks-are, bodies-are}
use Rattle.ada_decl_rules.proofs.duplicates.Noting.{namings_append}

-- ---- scopes in front of tasks and bodies

-- a place of main, behind no task type and no body
record IsOpen (s : Scope) : Type 0 where
  main : s.in_main ≡ true
  types : HasTypes [] s
  bodies : s.bodies ≡ []

pub plain-kinds : (d : PDecl) → IsPlain d → kinds_after [] d ≡ []
plain-kinds (DTask t sp) h = absurd h
plain-kinds (DTaskBody w objects its sp) h = absurd h
plain-kinds (DNumber w e sp) h = refl
plain-kinds (DObject ws c x i sp) h = refl
plain-kinds (DEnumeration w ws sp) h = refl
plain-kinds (DArray w r x sp) h = refl
plain-kinds (DSubtype w x sp) h = refl
plain-kinds (DException ws sp) h = refl
plain-kinds (DIntIo w sp) h = refl
plain-kinds (DPragma e sp) h = refl

plain-bodies : (s : Scope) (d : PDecl) → IsPlain d → (after_decl s d).bodies ≡ s.bodies
plain-bodies s (DTask t sp) h = absurd h
plain-bodies s (DTaskBody w objects its sp) h = absurd h
plain-bodies s (DNumber w e sp) h = refl
plain-bodies s (DObject ws c x i sp) h = ap (λ (t : Scope). t.bodies) (with_names_is _ _ ws)
plain-bodies s (DEnumeration w ws sp) h = ap (λ (t : Scope). t.bodies) (with_names_is _ _ ws)
plain-bodies s (DArray w r x sp) h = refl
plain-bodies s (DSubtype w x sp) h = refl
plain-bodies s (DException ws sp) h = ap (λ (t : Scope). t.bodies) (with_names_is _ _ ws)
plain-bodies s (DIntIo w sp) h = refl
plain-bodies s (DPragma e sp) h = refl

plain-place : (ds : PDecls) (s : Scope) → AllByRecursion IsPlain (decl_list ds) → IsOpen s → IsOpen (after_decls s ds)
plain-place no_decl s h place = place
plain-place (decl_then d ds) s h place = plain-place ds (after_decl s d) h.1 record {
  main = still_in_main s d ∙ place.main;
  types = subst (λ (l : List PTask). HasTypes l (after_decl s d)) (plain-kinds d h.0) (types-after [] d s place.types);
  bodies = plain-bodies s d h.0 ∙ place.bodies;
}

first-place : (w : Word) → IsOpen (first_scope w)
first-place w = record { main = refl; types = first-types w; bodies = refl }

-- variables and tasks leave the bodies as they are
variable-bodies : (s : Scope) (d : PDecl) → IsVariable d → (after_decl s d).bodies ≡ s.bodies
variable-bodies s (DObject ws c x i sp) h = ap (λ (t : Scope). t.bodies) (with_names_is _ _ ws)
variable-bodies s _ h = absurd h

variables-bodies : (ds : List PDecl) (s : Scope) → AllByRecursion IsVariable ds → (after_decls s (decls_of ds)).bodies ≡ s.bodies
variables-bodies [] s h = refl
variables-bodies (d ∷ ds) s h = variables-bodies ds (after_decl s d) h.1 ∙ variable-bodies s d h.0

task-bodies : (s : Scope) (d : PDecl) → IsOneTask d → (after_decl s d).bodies ≡ s.bodies
task-bodies s (DTask t sp) h = refl
task-bodies s _ h = absurd h

tasks-bodies : (ds : List PDecl) (s : Scope) → AllByRecursion IsOneTask ds → (after_decls s (decls_of ds)).bodies ≡ s.bodies
tasks-bodies [] s h = refl
tasks-bodies (d ∷ ds) s h = tasks-bodies ds (after_decl s d) h.1 ∙ task-bodies s d h.0

-- ---- lists

front-named : (s : Scope) (a b : PDecls) (l m : List Naming) → namings_of (decls_sites s a) ≡ l → namings_of (decls_sites (after_decls s a) b) ≡ m → namings_of (decls_sites s (decls_front a b)) ≡ l ++ m
front-named s a b l m p q = ap namings_of (front-sites s a b) ∙ namings_append (decls_sites s a) (decls_sites (after_decls s a) b) ∙ ap₂ (λ (x y : List Naming). x ++ y) p q

pub list-named : (s : Scope) (xs ys : List PDecl) (l m : List Naming) → namings_of (decls_sites s (decls_of xs)) ≡ l → namings_of (decls_sites (after_decls s (decls_of xs)) (decls_of ys)) ≡ m → namings_of (decls_sites s (decls_of (xs ++ ys))) ≡ l ++ m
list-named s xs ys l m p q = ap (λ (ds : PDecls). namings_of (decls_sites s ds)) (list-front xs ys) ∙ front-named s (decls_of xs) (decls_of ys) l m p q

-- ---- the whole

pub normal_declares : NormalDeclares
normal_declares p types numbers =
    front-named s0 (first_decls [] p.decls) (decls_of (vs ++ ts ++ bs)) (namings_of (decls_sites s0 (first_decls [] p.decls))) _ refl
    (list-named s1 (vs ++ ts) bs _ _
    (list-named s1 vs ts _ _ (variables-are vs s1 all-variables place.main place.types) (tasks-are ts s2 (tasks-all (setting_of p types numbers))))
    (bodies-are bs (after_decls s1 (decls_of (vs ++ ts))) (bodies-all (setting_of p types numbers)) ∙ ap (λ (l : List ℕ). bodies_names l bs) no-bodies))
  where
    vs : List PDecl
    vs = vars p types numbers

    ts : List PDecl
    ts = tasks p types numbers

    bs : List PDecl
    bs = bodies p types numbers

    s0 : Scope
    s0 = first_scope p.name

    s1 : Scope
    s1 = behind_first p

    s2 : Scope
    s2 = behind_variables p types numbers

    place : IsOpen s1
    place = plain-place (first_decls [] p.decls) s0 (first-plain p.decls []) (first-place p.name)

    all-variables : AllByRecursion IsVariable vs
    all-variables = unit-all IsVariable (main_unit (setting_of p types numbers)) (λ sp x k. tt) p.body

    no-bodies : (after_decls s1 (decls_of (vs ++ ts))).bodies ≡ []
    no-bodies =
        ap (λ (ds : PDecls). (after_decls s1 ds).bodies) (list-front vs ts)
        ∙ ap (λ (s : Scope). s.bodies) (front-after (decls_of vs) (decls_of ts) s1)
        ∙ tasks-bodies ts s2 (tasks-all (setting_of p types numbers))
        ∙ variables-bodies vs s1 all-variables
        ∙ place.bodies
