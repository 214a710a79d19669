-- The declarations of a collecting text of a program with abort statements, one list behind the other: the first declarations, what main declares more, the variables of the normal form, the tasks, the recorder, the bodies, and the recorder's body.
use Rattle.std.proofs.Common.{List, [], ap, append_assoc, false, sym, true, ◌++◌, ◌∙◌, ◌∷◌, ◌≡◌}
use Rattle.std.specs.List.{AllByRecursion}
use Rattle.ada_tree.specs.PlainDecl.{PDecl, decls_of}
use Rattle.ada_tree.specs.PlainProgram.{PProgram}
use Rattle.ada_static_rules.proofs.found_twice.Declared.{decls_joined}
use Rattle.ada_static_rules.specs.Declaring.{after_decls, first_scope}
use Rattle.syn_event.specs.DeclaredTasks.{decl_list}
use Rattle.task_model.specs.Setting.{Setting}
use Rattle.replay_model.specs.ReplayTree.{is_added_object}
use Rattle.replay_structure.specs.scopes.Form.{plain_decls}
use Rattle.collect_model.specs.CollectTree.{recorder_told}
use Rattle.collect_structure.proofs.texts.Listed.{behind-front}
use Rattle.collect_model.specs.aborts.AbortTeller.{AbortTeller}
use Rattle.collect_model.specs.aborts.AbortTree.{abort_decls, objects_told, recorder_body_told}
use Rattle.collect_structure.specs.aborts.scopes.Text.{at_bodies, at_last, at_more, at_recorder, at_tasks, at_vars, main_told, more, told_bodies, told_tasks}
use Rattle.collect_structure.proofs.legal.Listed.{behind-added}

module _ (g : Setting) (before vars : List PDecl) where
  abbrev q : PProgram
  q = g.program

  abbrev x : AbortTeller
  x = main_told g

  -- the declarations, up to each list
  abbrev pub x1 : List PDecl
  x1 = before ++ more g before vars

  abbrev pub x2 : List PDecl
  x2 = x1 ++ vars

  abbrev pub x3 : List PDecl
  x3 = x2 ++ told_tasks g before vars

  abbrev pub x4 : List PDecl
  x4 = x3 ++ (recorder_told x.teller q ∷ [])

  abbrev pub x5 : List PDecl
  x5 = x4 ++ told_bodies g before vars

  abbrev pub text_decls : List PDecl
  text_decls = x5 ++ (recorder_body_told x q ∷ [])

  module _ (plain : plain_decls q ≡ before ++ vars) (front : AllByRecursion (λ y. is_added_object q.names y ≡ false) before)
      (added : AllByRecursion (λ y. is_added_object q.names y ≡ true) vars) where
    objects-are : objects_told x q (before ++ vars) ≡ before ++ more g before vars ++ vars
    objects-are =
        behind-front q.names (more g before vars) before vars front
        ∙ ap (λ l. before ++ l) (behind-added q.names (more g before vars) vars added)
        ∙ sym (append_assoc before (more g before vars) vars)

    pub text-list : abort_decls x q (decl_list q.decls) ≡ text_decls
    text-list =
        ap (λ l. objects_told x q l ++ told_tasks g before vars ++ (recorder_told x.teller q ∷ []) ++ told_bodies g before vars ++
        (recorder_body_told x q ∷ [])) plain
        ∙ ap (λ l. l ++ told_tasks g before vars ++ (recorder_told x.teller q ∷ []) ++ told_bodies g before vars ++ (recorder_body_told x q ∷ [])) objects-are

  -- ---- the scope behind them

  pub after1 : after_decls (first_scope q.name) (decls_of x1) ≡ at_more g before vars
  after1 = decls_joined before (more g before vars) (first_scope q.name)

  pub after2 : after_decls (first_scope q.name) (decls_of x2) ≡ at_vars g before vars
  after2 = decls_joined x1 vars (first_scope q.name) ∙ ap (λ c. after_decls c (decls_of vars)) after1

  pub after3 : after_decls (first_scope q.name) (decls_of x3) ≡ at_tasks g before vars
  after3 = decls_joined x2 (told_tasks g before vars) (first_scope q.name) ∙ ap (λ c. after_decls c (decls_of (told_tasks g before vars))) after2

  pub after4 : after_decls (first_scope q.name) (decls_of x4) ≡ at_recorder g before vars
  after4 = decls_joined x3 (recorder_told x.teller q ∷ []) (first_scope q.name) ∙ ap (λ c. after_decls c (decls_of (recorder_told x.teller q ∷ []))) after3

  pub after5 : after_decls (first_scope q.name) (decls_of x5) ≡ at_bodies g before vars
  after5 = decls_joined x4 (told_bodies g before vars) (first_scope q.name) ∙ ap (λ c. after_decls c (decls_of (told_bodies g before vars))) after4

  pub text-scope : after_decls (first_scope q.name) (decls_of text_decls) ≡ at_last g before vars
  text-scope = decls_joined x5 (recorder_body_told x q ∷ []) (first_scope q.name) ∙ ap (λ c. after_decls c (decls_of (recorder_body_told x q ∷ []))) after5
