-- What a program names whose declarations are plain ones, then tasks, then bodies.
use Rattle.std.proofs.Common.{◌≡◌, ℕ, true, false, List, [], ◌∷◌, ◌++◌, flat_map, refl, ap, ap₂, ◌∙◌, true≢false}
use Rattle.std.specs.List.{AllByRecursion}
use Rattle.ada_tree.specs.PlainDecl.{PDecl, DNumber, DObject, DEnumeration, DArray, DSubtype, DException, DIntIo, DPragma, DTask, DTaskBody, PDecls, decls_of}
use Rattle.ada_tree.specs.PlainProgram.{PProgram}
use Rattle.ada_static_rules.specs.Scope.{Scope}
use Rattle.ada_static_rules.specs.Demand.{Site}
use Rattle.ada_static_rules.specs.Declaring.{before_all, first_scope, inner_scope, after_decl, after_decls}
use Rattle.ada_static_rules.specs.Sites.{with_words, names_sites, decls_sites, body_sites, sites}
use Rattle.syn_event.specs.DeclaredTasks.{tasks_in}
use Rattle.task_laws.specs.legal.rewritten_types.Rewriting.{names_declared}
use Rattle.common_lemmas.proofs.Lists.{all_joined, all_weaker}
use Rattle.replay_model.specs.ReplayTree.{is_body}
use Rattle.replay_structure.proofs.texts.Listed.{plain-tests}
use Rattle.normal_laws.proofs.structure.numbers.Listed.{IsPlain, IsOneTask, IsOneBody}
use Rattle.ada_decl_rules.specs.duplicates.NamingsInOrder.{namings_of}
use Rattle.ada_decl_rules.specs.declared.duplicates.namings_in_order.Naming.{Naming}
use Rattle.ada_decl_rules.specs.declared.duplicates.namings_in_order.Naming.TheVariants.{Declares}
use Rattle.ada_decl_rules.proofs.duplicates.Noting.{namings_append}
use Rattle.ada_decl_rules.proofs.duplicates.Behind.{with_names_is, names_are}
use Rattle.normal_laws.specs.structure.once.Names.{body_names, tasks_names, bodies_names}
use Rattle.normal_laws.proofs.structure.once.Places.{body-is}
use Rattle.normal_laws.proofs.structure.once.TaskTypes.{first-types}
use Rattle.normal_laws.proofs.structure.once.Declared.{tasks-are, bodies-are}
use Rattle.replay_structure.proofs.declares_once.Plain.{plains_names, plains-are, here-behind}
use Rattle.normal_laws.proofs.structure.once.Whole.{list-named}

-- ---- no bodies stand before

body-kept : (s : Scope) (d : PDecl) → is_body d ≡ false → (after_decl s d).bodies ≡ s.bodies
body-kept s (DNumber w e sp) h = refl
body-kept s (DObject ws c x i sp) h = ap (λ (t : Scope). t.bodies) (with_names_is _ _ ws)
body-kept s (DEnumeration w ws sp) h = ap (λ (t : Scope). t.bodies) (with_names_is _ _ ws)
body-kept s (DArray w r x sp) h = refl
body-kept s (DSubtype w x sp) h = refl
body-kept s (DException ws sp) h = ap (λ (t : Scope). t.bodies) (with_names_is _ _ ws)
body-kept s (DIntIo w sp) h = refl
body-kept s (DPragma e sp) h = refl
body-kept s (DTask t sp) h = refl
body-kept s (DTaskBody w objects its sp) h = absurd (true≢false h)

bodies-kept : (ds : List PDecl) (s : Scope) → AllByRecursion (λ d. is_body d ≡ false) ds → (after_decls s (decls_of ds)).bodies ≡ s.bodies
bodies-kept [] s h = refl
bodies-kept (d ∷ ds) s h = bodies-kept ds (after_decl s d) h.1 ∙ body-kept s d h.0

no-body : (d : PDecl) → IsOneTask d → is_body d ≡ false
no-body (DTask t sp) h = refl
no-body (DTaskBody w objects its sp) h = absurd h
no-body (DNumber w e sp) h = absurd h
no-body (DObject ws c x i sp) h = absurd h
no-body (DEnumeration w ws sp) h = absurd h
no-body (DArray w r x sp) h = absurd h
no-body (DSubtype w x sp) h = absurd h
no-body (DException ws sp) h = absurd h
no-body (DIntIo w sp) h = absurd h
no-body (DPragma e sp) h = absurd h

-- ---- the whole

module _ (q : PProgram) (plain tasks bodies : List PDecl) where
  abbrev pub start : List ℕ
  start = q.name.name.0 ∷ []

  -- what the plain ones name, the tasks, and the bodies
  abbrev pub first_names : List Naming
  first_names = plains_names start false plain

  abbrev pub tasks_here : List ℕ
  tasks_here = with_words start (flat_map names_declared plain)

  abbrev pub unit_names : List Naming
  unit_names = tasks_names tasks_here (tasks_in tasks)

  abbrev pub copy_names : List Naming
  copy_names = bodies_names [] bodies

  abbrev pub main_name : List Naming
  main_name = Declares true false q.name ∷ []

  pub program-named : q.decls ≡ decls_of (plain ++ tasks ++ bodies) → AllByRecursion IsPlain plain → AllByRecursion IsOneTask tasks → AllByRecursion IsOneBody bodies →
      namings_of (sites q) ≡ (main_name ++ (first_names ++ unit_names ++ copy_names)) ++ body_names q.body
  program-named e are_plain are_tasks are_bodies =
      namings_append (names_sites true before_all (q.name ∷ []) ++ decls_sites s0 q.decls) last
      ∙ ap₂ (λ (a b : List Naming). a ++ b)
      (namings_append (names_sites true before_all (q.name ∷ [])) (decls_sites s0 q.decls)
      ∙ ap₂ (λ (a b : List Naming). a ++ b) (names_are true before_all (q.name ∷ []))
      (ap (λ (ds : PDecls). namings_of (decls_sites s0 ds)) e
      ∙ list-named s0 (plain ++ tasks) bodies (first_names ++ unit_names) copy_names
      (list-named s0 plain tasks first_names unit_names (plains-are plain s0 are_plain record { main = refl; types = first-types q.name })
      (tasks-are tasks s1 are_tasks ∙ ap (λ (l : List ℕ). tasks_names l (tasks_in tasks)) (here-behind plain s0)))
      (bodies-are bodies s2 are_bodies ∙ ap (λ (l : List ℕ). bodies_names l bodies) none)))
      (body-is (inner_scope (after_decls s0 q.decls)) q.body)
    where
      s0 : Scope
      s0 = first_scope q.name

      s1 : Scope
      s1 = after_decls s0 (decls_of plain)

      s2 : Scope
      s2 = after_decls s0 (decls_of (plain ++ tasks))

      last : List Site
      last = body_sites (inner_scope (after_decls s0 q.decls)) q.body

      none : s2.bodies ≡ []
      none =
          bodies-kept (plain ++ tasks) s0
          (all_joined (λ d. is_body d ≡ false) plain tasks (all_weaker IsPlain (λ d. is_body d ≡ false) plain (λ d h. (plain-tests d h).1) are_plain) (all_weaker IsOneTask (λ d. is_body d ≡ false) tasks no-body are_tasks))
