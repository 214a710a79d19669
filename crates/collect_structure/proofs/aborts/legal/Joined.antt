-- All places of a collecting text with abort statements meet the static rules 1 and 3 to 12, where what is known of its scopes is so.
use Rattle.std.proofs.Common.{Bool, List, [], ap, drop, length, subst, sym, take, true, ◌++◌, ◌∙◌, ◌∷◌, ◌≡◌}
use Rattle.std.specs.List.{AllByRecursion, list_any}
use Rattle.common_lemmas.proofs.Lists.{all_joined}
use Rattle.ada_tree.specs.Lexical.{IsInteger as IsLiteral}
use Rattle.ada_tree.specs.NameList.{predefined}
use Rattle.ada_tree.specs.PlainDecl.{PDecl, decls_of}
use Rattle.ada_tree.specs.PlainProgram.{PProgram}
use Rattle.ada_tree.specs.declared.naming.Span.{Span}
use Rattle.ada_static_rules.specs.Declaring.{after_decls, before_all, first_scope, inner_scope}
use Rattle.ada_static_rules.specs.Scope.{Scope}
use Rattle.ada_static_rules.specs.Sites.{body_sites, decl_sites, decls_sites, names_sites, sites}
use Rattle.syn_event.specs.DeclaredTasks.{decl_list}
use Rattle.task_model.specs.Setting.{Setting}
use Rattle.task_laws.specs.legal.alike_scopes.Laws.{IsMetBut}
use Rattle.normal_laws.proofs.structure.typed.Variables.{AllMetBut, words-met}
use Rattle.replay_structure.proofs.scopes.Main.{along-join, along-of}
use Rattle.replay_structure.specs.scopes.Form.{AllAlong}
use Rattle.collect_model.specs.CollectTree.{is_int_io, main_declared, recorder_told}
use Rattle.collect_model.specs.Lines.{header_text}
use Rattle.collect_structure.proofs.typed.Language.{more-flags, recorder-declared-met}
use Rattle.collect_structure.specs.scopes.Language.{SeesAdded}
use Rattle.collect_model.specs.aborts.AbortStmts.{main_body}
use Rattle.collect_model.specs.aborts.AbortTeller.{AbortTeller}
use Rattle.collect_model.specs.aborts.AbortTree.{abort_decls, abort_of, places_declared, recorder_body_told}
use Rattle.collect_model.specs.aborts.Places.{most_places, places_in}
use Rattle.collect_model.specs.aborts.Recording.{recorder_body}
use Rattle.collect_structure.proofs.aborts.legal.Listed.{after1, after2, after3, after4, after5, text-scope, text_decls, x1, x2, x3, x4, x5}
use Rattle.collect_structure.proofs.aborts.scopes.Inner.{main-told-is}
use Rattle.collect_structure.proofs.aborts.texts.Named.{main-few}
use Rattle.collect_structure.proofs.aborts.typed.Apart.{IsFreeTask}
use Rattle.collect_structure.proofs.aborts.typed.Language.{main-along, recorder-body-there}
use Rattle.collect_structure.specs.aborts.scopes.Text.{HasToldScopes, at_bodies, at_first, at_tasks, last_number, main_told, more, told_bodies, told_tasks}
use Rattle.collect_structure.specs.aborts.typed.Told.{AreNewPlaces}

module _ (g : Setting) (before vars : List PDecl) where
  abbrev p : PProgram
  p = g.program

  abbrev s : Span
  s = g.program.name.span

  abbrev x : AbortTeller
  x = main_told g

  abbrev instance : Bool
  instance = list_any is_int_io (before ++ vars)

  abbrev declared : List PDecl
  declared = more g before vars

  abbrev tasks : List PDecl
  tasks = told_tasks g before vars

  abbrev bodies : List PDecl
  bodies = told_bodies g before vars

  abbrev d0 : Scope
  d0 = first_scope p.name

  module _ (begins : take (length predefined) p.names ≡ predefined) (h : HasToldScopes g before vars) where
    -- ---- what is added

    more-met : AllAlong (at_first g before vars) declared
    more-met =
        subst
        (λ (y : AbortTeller).
        AreNewPlaces y (most_places p)
        (after_decls (at_first g before vars) (decls_of (main_declared y.teller.added s instance (last_number g before vars)))).types →
        AllAlong (at_first g before vars) (main_declared y.teller.added s instance (last_number g before vars) ++ places_declared y s (places_in p.body)))
        (main-told-is g) (main-along g 0 begins s (at_first g before vars) h.in_first (most_places p) (places_in p.body) (main-few p) instance
        (last_number g before vars)) h.in_added

    seen : SeesAdded p (last_number g before vars) (at_bodies g before vars)
    seen = h.in_bodies (more-flags p begins s (last_number g before vars) (at_first g before vars) h.in_first instance)

    -- ---- the places

    all1 : AllAlong d0 (x1 g before vars)
    all1 = along-join before declared d0 h.firsts_met more-met

    all2 : AllAlong d0 (x2 g before vars)
    all2 = along-join (x1 g before vars) vars d0 all1 (subst (λ d. AllAlong d vars) (sym (after1 g before vars)) h.vars_met)

    all3 : AllAlong d0 (x3 g before vars)
    all3 = along-join (x2 g before vars) tasks d0 all2 (subst (λ d. AllAlong d tasks) (sym (after2 g before vars)) h.tasks_met)

    all4 : AllAlong d0 (x4 g before vars)
    all4 =
        along-join (x3 g before vars) (recorder_told x.teller p ∷ []) d0 all3
        (subst (λ d. AllAlong d (recorder_told x.teller p ∷ [])) (sym (after3 g before vars))
        (recorder-declared-met p begins s (last_number g before vars) (at_tasks g before vars) h.in_tasks, tt))

    all5 : AllAlong d0 (x5 g before vars)
    all5 = along-join (x4 g before vars) bodies d0 all4 (subst (λ d. AllAlong d bodies) (sym (after4 g before vars)) h.bodies_met)

    -- where no task has a name that the recorder's body declares, and there are few tasks
    module _ (free : AllByRecursion (IsFreeTask g 0 begins) (drop 1 g.numbers.tasks)) (few : IsLiteral (length g.numbers.tasks)) where
      recorder-met : AllMetBut (decl_sites (at_bodies g before vars) (recorder_body_told x p))
      recorder-met =
          subst (λ (y : AbortTeller). AllMetBut (decl_sites (at_bodies g before vars) (recorder_body y s (header_text p.names g.numbers)))) (main-told-is g)
          (recorder-body-there g 0 begins s free few (last_number g before vars) (at_bodies g before vars) seen h.tasks_seen (header_text p.names g.numbers))

      all6 : AllAlong d0 (text_decls g before vars)
      all6 =
          along-join (x5 g before vars) (recorder_body_told x p ∷ []) d0 all5
          (subst (λ d. AllAlong d (recorder_body_told x p ∷ [])) (sym (after5 g before vars)) (recorder-met, tt))

      -- Nothing is refused at the places of the text by the rules 1 and 3 to 12.
      pub text-places-met : abort_decls x p (decl_list p.decls) ≡ text_decls g before vars → AllMetBut (sites (abort_of x p))
      text-places-met list =
          let all : List PDecl = abort_decls x p (decl_list p.decls) in
          all_joined IsMetBut (names_sites true before_all (p.name ∷ []) ++ decls_sites d0 (decls_of all))
          (body_sites (inner_scope (after_decls d0 (decls_of all))) (main_body x p.body))
          (all_joined IsMetBut (names_sites true before_all (p.name ∷ [])) (decls_sites d0 (decls_of all)) (words-met true (p.name ∷ []) before_all)
          (subst (λ l. AllMetBut (decls_sites d0 (decls_of l))) (sym list) (along-of (text_decls g before vars) d0 all6)))
          (subst (λ d. AllMetBut (body_sites (inner_scope d) (main_body x p.body)))
          (sym (ap (λ l. after_decls d0 (decls_of l)) list ∙ text-scope g before vars)) h.main_met)
