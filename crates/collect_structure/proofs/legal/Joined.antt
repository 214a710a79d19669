-- All places of a collecting text meet the static rules 1 and 3 to 12, where what is known of its scopes is so.
use Rattle.std.proofs.Common.{Bool, List, [], ap, length, subst, sym, take, true, ◌++◌, ◌∙◌, ◌∷◌, ◌≡◌}
use Rattle.std.specs.List.{list_any}
use Rattle.common_lemmas.proofs.Lists.{all_joined}
use Rattle.ada_tree.specs.NameList.{predefined}
use Rattle.ada_tree.specs.PlainDecl.{PDecl, decls_of}
use Rattle.ada_tree.specs.PlainProgram.{PProgram}
use Rattle.ada_tree.specs.declared.naming.Span.{Span}
use Rattle.ada_static_rules.proofs.found_twice.Declared.{decls_joined}
use Rattle.ada_static_rules.specs.Declaring.{after_decls, before_all, first_scope, inner_scope}
use Rattle.ada_static_rules.specs.Scope.{Scope}
use Rattle.ada_static_rules.specs.Sites.{body_sites, decls_sites, names_sites, sites}
use Rattle.syn_event.specs.DeclaredTasks.{decl_list}
use Rattle.task_model.specs.Setting.{Setting}
use Rattle.task_laws.specs.legal.alike_scopes.Laws.{IsMetBut}
use Rattle.normal_laws.proofs.structure.typed.Variables.{AllMetBut, words-met}
use Rattle.replay_structure.proofs.scopes.Main.{along-join, along-of}
use Rattle.replay_structure.specs.scopes.Form.{AllAlong}
use Rattle.collect_model.specs.CollectStmts.{main_body}
use Rattle.collect_model.specs.CollectTree.{collect_decls, collect_of, is_int_io, recorder_body_told, recorder_told}
use Rattle.collect_model.specs.Lines.{header_text}
use Rattle.collect_model.specs.Teller.{Teller}
use Rattle.collect_structure.proofs.typed.Language.{more-along, more-flags, recorder-body-there, recorder-declared-met, unit-is-met}
use Rattle.collect_structure.specs.scopes.Language.{SeesAdded}
use Rattle.collect_structure.specs.scopes.Text.{HasToldScopes, at_bodies, at_first, at_last, at_more, at_recorder, at_tasks, at_vars, last_number, more, told, told_bodies, told_tasks}

module _ (g : Setting) (before vars : List PDecl) (begins : take (length predefined) g.program.names ≡ predefined) (h : HasToldScopes g before vars) where
  abbrev p : PProgram
  p = g.program

  abbrev s : Span
  s = g.program.name.span

  abbrev teller : Teller
  teller = told g before vars

  abbrev instance : Bool
  instance = list_any is_int_io (before ++ vars)

  abbrev declared : List PDecl
  declared = more g before vars

  abbrev tasks : List PDecl
  tasks = told_tasks g before vars

  abbrev bodies : List PDecl
  bodies = told_bodies g before vars

  -- ---- what is added

  more-met : AllAlong (at_first g before vars) declared
  more-met = more-along p begins s (last_number g before vars) (at_first g before vars) h.in_first instance

  seen : SeesAdded p (last_number g before vars) (at_bodies g before vars)
  seen = h.in_bodies (more-flags p begins s (last_number g before vars) (at_first g before vars) h.in_first instance)

  -- ---- one behind the other

  abbrev d0 : Scope
  d0 = first_scope p.name

  abbrev x1 : List PDecl
  x1 = before ++ declared

  abbrev x2 : List PDecl
  x2 = x1 ++ vars

  abbrev x3 : List PDecl
  x3 = x2 ++ tasks

  abbrev x4 : List PDecl
  x4 = x3 ++ (recorder_told teller p ∷ [])

  abbrev x5 : List PDecl
  x5 = x4 ++ bodies

  abbrev x6 : List PDecl
  x6 = x5 ++ (recorder_body_told teller p ∷ [])

  after1 : after_decls d0 (decls_of x1) ≡ at_more g before vars
  after1 = decls_joined before declared d0

  after2 : after_decls d0 (decls_of x2) ≡ at_vars g before vars
  after2 = decls_joined x1 vars d0 ∙ ap (λ x. after_decls x (decls_of vars)) after1

  after3 : after_decls d0 (decls_of x3) ≡ at_tasks g before vars
  after3 = decls_joined x2 tasks d0 ∙ ap (λ x. after_decls x (decls_of tasks)) after2

  after4 : after_decls d0 (decls_of x4) ≡ at_recorder g before vars
  after4 = decls_joined x3 (recorder_told teller p ∷ []) d0 ∙ ap (λ x. after_decls x (decls_of (recorder_told teller p ∷ []))) after3

  after5 : after_decls d0 (decls_of x5) ≡ at_bodies g before vars
  after5 = decls_joined x4 bodies d0 ∙ ap (λ x. after_decls x (decls_of bodies)) after4

  after6 : after_decls d0 (decls_of x6) ≡ at_last g before vars
  after6 = decls_joined x5 (recorder_body_told teller p ∷ []) d0 ∙ ap (λ x. after_decls x (decls_of (recorder_body_told teller p ∷ []))) after5

  all1 : AllAlong d0 x1
  all1 = along-join before declared d0 h.firsts_met more-met

  all2 : AllAlong d0 x2
  all2 = along-join x1 vars d0 all1 (subst (λ x. AllAlong x vars) (sym after1) h.vars_met)

  all3 : AllAlong d0 x3
  all3 = along-join x2 tasks d0 all2 (subst (λ x. AllAlong x tasks) (sym after2) h.tasks_met)

  all4 : AllAlong d0 x4
  all4 =
      along-join x3 (recorder_told teller p ∷ []) d0 all3
      (subst (λ x. AllAlong x (recorder_told teller p ∷ [])) (sym after3) (recorder-declared-met p begins s (last_number g before vars) (at_tasks g before vars) h.in_tasks, tt))

  all5 : AllAlong d0 x5
  all5 = along-join x4 bodies d0 all4 (subst (λ x. AllAlong x bodies) (sym after4) (h.bodies_met (unit-is-met teller.added)))

  all6 : AllAlong d0 x6
  all6 =
      along-join x5 (recorder_body_told teller p ∷ []) d0 all5
      (subst (λ x. AllAlong x (recorder_body_told teller p ∷ [])) (sym after5)
      (recorder-body-there p begins s (last_number g before vars) (at_bodies g before vars) seen (header_text p.names teller.numbers), tt))

  -- Nothing is refused at the places of the text by the rules 1 and 3 to 12.
  pub text-places-met : collect_decls teller p (decl_list p.decls) ≡ x6 → AllMetBut (sites (collect_of teller p))
  text-places-met list =
      let all : List PDecl = collect_decls teller p (decl_list p.decls) in
      all_joined IsMetBut (names_sites true before_all (p.name ∷ []) ++ decls_sites d0 (decls_of all)) (body_sites (inner_scope (after_decls d0 (decls_of all))) (main_body teller p.body))
      (all_joined IsMetBut (names_sites true before_all (p.name ∷ [])) (decls_sites d0 (decls_of all)) (words-met true (p.name ∷ []) before_all)
      (subst (λ l. AllMetBut (decls_sites d0 (decls_of l))) (sym list) (along-of x6 d0 all6)))
      (subst (λ x. AllMetBut (body_sites (inner_scope x) (main_body teller p.body))) (sym (ap (λ l. after_decls d0 (decls_of l)) list ∙ after6)) h.main_met)
