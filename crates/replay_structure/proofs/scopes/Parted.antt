-- What is known of all places of a normal form, list by list.
use Rattle.std.proofs.Common.{◌≡◌, true, List, [], ◌∷◌, ◌++◌, sym, ap, subst, ◌∙◌}
use Rattle.std.specs.List.{filter}
use Rattle.common_lemmas.proofs.Lists.{all_back, all_front}
use Rattle.ada_tree.specs.PlainDecl.{PDecl, decls_of}
use Rattle.ada_tree.specs.PlainProgram.{PProgram}
use Rattle.ada_static_rules.specs.Scope.{Scope}
use Rattle.ada_static_rules.specs.Declaring.{before_all, first_scope, inner_scope, after_decl, after_decls}
use Rattle.ada_static_rules.specs.Sites.{names_sites, decl_sites, decls_sites, body_sites, sites}
use Rattle.syn_event.specs.DeclaredTasks.{decl_list}
use Rattle.task_laws.specs.legal.asked.Asked.{AskedBody}
use Rattle.task_laws.specs.legal.asked.Kinds.{type_asks}
use Rattle.task_laws.proofs.legal.asked.Typed.{typed_asked}
use Rattle.task_laws.specs.legal.alike_scopes.Laws.{IsMetBut}
use Rattle.normal_laws.proofs.structure.typed.Variables.{AllMetBut}
use Rattle.replay_model.specs.ReplayTree.{is_task, is_body}
use Rattle.replay_structure.specs.scopes.Form.{AllAlong, first, varied, tasked, last}
use Rattle.ada_static_rules.proofs.found_twice.Declared.{decls_joined}
use Rattle.syn_event.proofs.DeclLists.{list_again}

along-told : (xs : List PDecl) (d : Scope) → AllMetBut (decls_sites d (decls_of xs)) → AllAlong d xs
along-told [] d h = tt
along-told (x ∷ xs) d h = (all_front IsMetBut (decl_sites d x) (decls_sites (after_decl d x) (decls_of xs)) h, along-told xs (after_decl d x) (all_back IsMetBut (decl_sites d x) (decls_sites (after_decl d x) (decls_of xs)) h))

along-front : (xs ys : List PDecl) (d : Scope) → AllAlong d (xs ++ ys) → AllAlong d xs
along-front [] ys d h = tt
along-front (x ∷ xs) ys d h = (h.0, along-front xs ys (after_decl d x) h.1)

along-back : (xs ys : List PDecl) (d : Scope) → AllAlong d (xs ++ ys) → AllAlong (after_decls d (decls_of xs)) ys
along-back [] ys d h = h
along-back (x ∷ xs) ys d h = along-back xs ys (after_decl d x) h.1

module _ (q : PProgram) (before vars : List PDecl) where
  abbrev tasks : List PDecl
  tasks = filter is_task (decl_list q.decls)

  abbrev bodies : List PDecl
  bodies = filter is_body (decl_list q.decls)

  -- nothing is refused at the places of each list, nor at those of main's body
  pub record IsParted : Type 0 where
    pub firsts : AllAlong (first_scope q.name) before
    pub variables : AllAlong (first q before vars) vars
    pub tasks_met : AllAlong (varied q before vars) tasks
    pub bodies_met : AllAlong (tasked q before vars) bodies
    pub main : AllMetBut (body_sites (inner_scope (last q before vars)) q.body)
    pub asked : AskedBody (type_asks IsMetBut) (inner_scope (last q before vars)) 1 q.body

  -- the scope behind all declarations, where these are sorted
  sorted-last : decl_list q.decls ≡ before ++ vars ++ tasks ++ bodies → after_decls (first_scope q.name) q.decls ≡ last q before vars
  sorted-last e =
      ap (λ ds. after_decls (first_scope q.name) ds) (sym (list_again q.decls) ∙ ap decls_of e)
      ∙ decls_joined (before ++ vars ++ tasks) bodies (first_scope q.name)
      ∙ ap (λ s. after_decls s (decls_of bodies)) (decls_joined (before ++ vars) tasks (first_scope q.name) ∙ ap (λ s. after_decls s (decls_of tasks)) (decls_joined before vars (first_scope q.name)))

  -- Of a normal form whose declarations are sorted, nothing is refused at the places of each list, where nothing is refused at all places.
  pub parted : decl_list q.decls ≡ before ++ vars ++ tasks ++ bodies → AllMetBut (sites q) → IsParted
  parted e h =
      let c : Scope = first_scope q.name in
      let front : AllMetBut (names_sites true before_all (q.name ∷ []) ++ decls_sites c q.decls) =
      all_front IsMetBut (names_sites true before_all (q.name ∷ []) ++ decls_sites c q.decls) (body_sites (inner_scope (after_decls c q.decls)) q.body) h in
      let decls : AllMetBut (decls_sites c q.decls) = all_back IsMetBut (names_sites true before_all (q.name ∷ [])) (decls_sites c q.decls) front in
      let all : AllAlong c (before ++ vars ++ tasks ++ bodies) =
      along-told (before ++ vars ++ tasks ++ bodies) c (subst (λ ds. AllMetBut (decls_sites c ds)) (sym (list_again q.decls) ∙ ap decls_of e) decls) in
      let three : AllAlong c (before ++ vars ++ tasks) = along-front (before ++ vars ++ tasks) bodies c all in
      let two : AllAlong c (before ++ vars) = along-front (before ++ vars) tasks c three in
      let varied-is : after_decls c (decls_of (before ++ vars)) ≡ varied q before vars = decls_joined before vars c in
      let tasked-is : after_decls c (decls_of (before ++ vars ++ tasks)) ≡ tasked q before vars = decls_joined (before ++ vars) tasks c ∙ ap (λ s. after_decls s (decls_of tasks)) varied-is in
      let body : AllMetBut (body_sites (inner_scope (last q before vars)) q.body) =
      subst (λ s. AllMetBut (body_sites (inner_scope s) q.body)) (sorted-last e) (all_back IsMetBut (names_sites true before_all (q.name ∷ []) ++ decls_sites c q.decls) (body_sites (inner_scope (after_decls c q.decls)) q.body) h) in
      record {
        firsts = along-front before vars c two;
        variables = along-back before vars c two;
        tasks_met = subst (λ s. AllAlong s tasks) varied-is (along-back (before ++ vars) tasks c three);
        bodies_met = subst (λ s. AllAlong s bodies) tasked-is (along-back (before ++ vars ++ tasks) bodies c all);
        main = body;
        asked = typed_asked IsMetBut (inner_scope (last q before vars)) 1 q.body body;
      }
