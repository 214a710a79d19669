-- All places of the normal form of a legal program meet the static rules 1 and 3 to 12, where main's scope and the places of its bodies are as they should be.
use Rattle.std.proofs.Common.{true, List, [], ◌∷◌, ◌++◌, flat_map, sym, subst}
use Rattle.common_lemmas.proofs.Lists.{all_joined, all_front, all_back}
use Rattle.ada_tree.specs.PlainDecl.{PDecl, PDecls, no_decl, decl_then, decls_of}
use Rattle.ada_tree.specs.PlainProgram.{PProgram}
use Rattle.ada_tree.specs.Every.{EveryProgram}
use Rattle.ada_static_rules.specs.Scope.{Scope}
use Rattle.ada_static_rules.specs.Sites.{names_sites, decl_sites, decls_sites, body_sites, sites}
use Rattle.ada_static_rules.specs.Declaring.{before_all, first_scope, inner_scope, after_decl, after_decls}
use Rattle.ada_static_rules.specs.Refusals.{types_in}
use Rattle.syn_event.specs.DeclaredTasks.{decl_list}
use Rattle.task_model.specs.Setting.{Setting}
use Rattle.normal_model.specs.NormalStmts.{normal_body}
use Rattle.normal_model.specs.NormalTree.{decls_front, first_decls, tasks_beside, task_declared, bodies_of, main_unit, main_variables, normal_decls}
use Rattle.normal_model.proofs.VariablesLemmas.{begins-refl}
use Rattle.task_laws.specs.legal.rewritten_values.Values.{old_names}
use Rattle.normal_laws.specs.runs.forms.Normalisable.{numbers_of, made_for}
use Rattle.normal_laws.specs.structure.checked.Around.{own_rules}
use Rattle.normal_laws.proofs.structure.checked.Owned.{own-together}
use Rattle.normal_laws.specs.existence.Laws.{IsLegalOriginal}
use Rattle.task_laws.specs.legal.alike_scopes.Laws.{IsMetBut}
use Rattle.normal_laws.specs.structure.typed.ScopeOf.{IsScopeOf}
use Rattle.normal_laws.proofs.structure.typed.Places.{met-declares}
use Rattle.normal_laws.proofs.structure.typed.Variables.{AllMetBut}
use Rattle.normal_laws.proofs.structure.typed.Typed.{body-met}
use Rattle.normal_laws.proofs.legality.asked.KnownKinds.{known-kinds}
use Rattle.normal_laws.proofs.legality.asked.Bodies.{main-asked}
use Rattle.normal_laws.specs.legality.scopes.Plain.{plain_name}
use Rattle.normal_laws.proofs.legality.scopes.Main.{decls-frame, g, last, first, every, rules, tasked, made}
use Rattle.normal_laws.proofs.legality.typed_declarations.Fronts.{firsts-met}
use Rattle.normal_laws.proofs.legality.typed_declarations.Tasks.{tasks-met}
use Rattle.normal_laws.proofs.legality.typed_declarations.Variables.{variables-met}
use Rattle.ada_static_rules.proofs.found_twice.Declared.{decls_joined}

-- ---- declarations one behind the other

front-met : (a b : PDecls) (s : Scope) → AllMetBut (decls_sites s a) → AllMetBut (decls_sites (after_decls s a) b) → AllMetBut (decls_sites s (decls_front a b))
front-met no_decl b s h k = k
front-met (decl_then d rest) b s h k =
    all_joined IsMetBut (decl_sites s d) (decls_sites (after_decl s d) (decls_front rest b)) (all_front IsMetBut (decl_sites s d) (decls_sites (after_decl s d) rest) h)
    (front-met rest b (after_decl s d) (all_back IsMetBut (decl_sites s d) (decls_sites (after_decl s d) rest) h) k)

lists-met : (xs ys : List PDecl) (s : Scope) → AllMetBut (decls_sites s (decls_of xs)) → AllMetBut (decls_sites (after_decls s (decls_of xs)) (decls_of ys)) → AllMetBut (decls_sites s (decls_of (xs ++ ys)))
lists-met [] ys s h k = k
lists-met (d ∷ xs) ys s h k =
    all_joined IsMetBut (decl_sites s d) (decls_sites (after_decl s d) (decls_of (xs ++ ys))) (all_front IsMetBut (decl_sites s d) (decls_sites (after_decl s d) (decls_of xs)) h)
    (lists-met xs ys (after_decl s d) (all_back IsMetBut (decl_sites s d) (decls_sites (after_decl s d) (decls_of xs)) h) k)

-- ---- a legal program

module _ (p : PProgram) (legal : IsLegalOriginal p) where
  abbrev G : Setting
  G = g p legal

  -- each name of the program is plain, and each list is as long as the grammar asks
  pub program-rules : EveryProgram (own_rules (plain_name p)) p
  program-rules = own-together (plain_name p) (old_names (plain_name p)) (λ id a. a) p.names p (every p legal) legal.placed

  -- ---- declarations

  abbrev pub bodies : List PDecl
  bodies = flat_map (bodies_of G) (decl_list p.decls)

  abbrev tasks : List PDecl
  tasks = flat_map (task_declared G) (tasks_beside G)

  -- The declarations of the normal form meet the rules, where its bodies do.
  pub decls-met : AllMetBut (decls_sites (tasked p legal) (decls_of bodies)) → AllMetBut (decls_sites (first_scope p.name) (normal_decls G))
  decls-met h =
      front-met (first_decls [] p.decls) (decls_of (main_variables G ++ tasks ++ bodies)) (first_scope p.name) (firsts-met p legal program-rules.2)
      (lists-met (main_variables G ++ tasks) bodies (first p legal) (lists-met (main_variables G) tasks (first p legal) (variables-met p legal program-rules.2) (tasks-met p legal program-rules.2))
      (subst (λ s. AllMetBut (decls_sites s (decls_of bodies))) (sym (decls_joined (main_variables G) tasks (first p legal))) h))

  -- ---- main

  -- The statements of main meet the rules, where its scope in the normal form is as it should be.
  pub main-met : IsScopeOf (main_unit G) (plain_name p) (main_variables G) (inner_scope (last p legal)) (inner_scope (made p legal)) → AllMetBut (body_sites (inner_scope (made p legal)) (normal_body (main_unit G) p.body))
  main-met h =
      body-met (main_unit G) (plain_name p) (main_variables G) [] (known-kinds p (rules p legal) legal.placed legal.small) (tt, (inner_scope (last p legal), tt)) (inner_scope (made p legal)) 1 p.body
      (h, (decls-frame p.decls (first_scope p.name)).own) (main-asked p (types_in p) (numbers_of p) legal.legal legal.placed legal.names legal.small (plain_name p) program-rules) (begins-refl (main_variables G))

  -- ---- all places

  -- So each place of the normal form meets them.
  pub sites-met : IsScopeOf (main_unit G) (plain_name p) (main_variables G) (inner_scope (last p legal)) (inner_scope (made p legal)) → AllMetBut (decls_sites (tasked p legal) (decls_of bodies)) → AllMetBut (sites (made_for p))
  sites-met at-main at-bodies =
      let ds = decls_sites (first_scope p.name) (normal_decls G) in
      let first = names_sites true before_all (p.name ∷ []) in
      all_joined IsMetBut (first ++ ds) (body_sites (inner_scope (made p legal)) (normal_body (main_unit G) p.body)) (all_joined IsMetBut first ds (met-declares before_all true p.name, tt) (decls-met at-bodies)) (main-met at-main)
