-- Where a normal form is as asked, the scopes along its collecting text are as told, and nothing is refused at the places of all but what is added.
use Rattle.std.proofs.Common.{◌≡◌, ℕ, Bool, List, [], ◌∷◌, ◌++◌, map, refl, sym, ap, ◌∙◌, arith}
use Rattle.std.specs.List.{AllByRecursion, filter, list_any}
use Rattle.ada_tree.specs.declared.naming.NameId.{NameId}
use Rattle.ada_tree.specs.PlainDecl.{PDecl, DTaskBody}
use Rattle.ada_tree.specs.PlainProgram.{PProgram}
use Rattle.ada_static_rules.specs.Scope.{Scope}
use Rattle.ada_static_rules.specs.Declaring.{first_scope, inner_scope, after_decl}
use Rattle.syn_event.specs.DeclaredTasks.{decl_list}
use Rattle.task_model.specs.Setting.{Setting}
use Rattle.task_laws.specs.legal.rewritten_types.Agreement.{Keeps}
use Rattle.task_laws.proofs.legal.rewritten_types.Adding.{keeps-decl}
use Rattle.replay_model.specs.ReplayTree.{is_task, is_body}
use Rattle.replay_structure.specs.scopes.Form.{varied, tasked, last}
use Rattle.replay_structure.proofs.scopes.Main.{decls-own}
use Rattle.collect_model.specs.Names.{flags_text, recorder_text}
use Rattle.collect_model.specs.CollectTree.{is_int_io, collect_decl, recorder_told, recorder_body_told}
use Rattle.collect_structure.specs.Names.{added_id}
use Rattle.collect_structure.specs.typed.Told.{told_entry, IsToldScope}
use Rattle.collect_structure.specs.scopes.Language.{SeesFlags}
use Rattle.collect_structure.specs.scopes.Text as text
use Rattle.collect_structure.specs.scopes.Text.{HasToldScopes}
use Rattle.collect_structure.specs.scopes.Grown.{IsGrown}
use Rattle.collect_structure.specs.scopes.Form.{BodiesTold, IsTellable}
use Rattle.collect_structure.proofs.declares_once.Ids.{texts-apart}
use Rattle.collect_structure.proofs.typed.Typed.{main-met}
use Rattle.collect_structure.proofs.scopes.Language.{IsApart, language-on}
use Rattle.collect_structure.proofs.scopes.Grown.{grown-self, grown-right, grown-inside}
use Rattle.collect_structure.proofs.scopes.Unit.{unit-step}
use Rattle.collect_structure.proofs.scopes.Bodies.{caller-apart, told-scope, IsBefore, bodies-met, bodies-before}
use Rattle.collect_structure.proofs.typed.Language.{flags-on}
use Rattle.collect_structure.proofs.scopes.Main.{IsFront, IsMain, front-more, variables-behind, variables-met, tasks-behind, tasks-met, recorder-behind, variables-apart, tasks-apart}

-- rewritten bodies give main no names
bodies-apart : (g : Setting) (old inner : ℕ → Bool) (before vars : List PDecl) (id : NameId) (xs : List PDecl) (c : Scope) → BodiesTold g old inner c xs →
    AllByRecursion (IsApart id) (map (collect_decl (text.told g before vars) g.program.names) xs)
bodies-apart g old inner before vars id [] c h = tt
bodies-apart g old inner before vars id (DTaskBody w objects its s ∷ xs) c h = (tt, bodies-apart g old inner before vars id xs (after_decl c (DTaskBody w objects its s)) h.1)
bodies-apart g old inner before vars id (_ ∷ xs) c h = absurd h

module _ (g : Setting) (old inner : ℕ → Bool) (before vars : List PDecl) (h : IsTellable g old inner before vars) where
  abbrev q : PProgram
  q = g.program

  abbrev tasks : List PDecl
  tasks = filter is_task (decl_list q.decls)

  abbrev bodies : List PDecl
  bodies = filter is_body (decl_list q.decls)

  -- ---- the scopes of the normal form and of the text

  abbrev c1 : Scope
  c1 = text.at_first g before vars

  abbrev c2 : Scope
  c2 = varied q before vars

  abbrev c3 : Scope
  c3 = tasked q before vars

  abbrev c4 : Scope
  c4 = last q before vars

  abbrev d1 : Scope
  d1 = text.at_more g before vars

  abbrev d2 : Scope
  d2 = text.at_vars g before vars

  abbrev d3 : Scope
  d3 = text.at_tasks g before vars

  abbrev dr : Scope
  dr = text.at_recorder g before vars

  abbrev d4 : Scope
  d4 = text.at_bodies g before vars

  abbrev d5 : Scope
  d5 = text.at_last g before vars

  front : IsFront g old inner h.names h.outer c1 c1
  front = record { grown = grown-self q old c1 h.self h.unseen; language = h.language; no_types = h.no_types; answer = h.answer; part = h.part }

  main1 : IsMain g old inner h.names h.outer c1 d1
  main1 = front-more g old inner h.names h.outer q.name.span (text.last_number g before vars) (list_any is_int_io (before ++ vars)) c1 c1 h.no_types front

  main2 : IsMain g old inner h.names h.outer c2 d2
  main2 = variables-behind g old inner h.names h.outer vars c1 d1 h.variables main1

  main3 : IsMain g old inner h.names h.outer c3 d3
  main3 = tasks-behind g old inner h.names h.outer tasks c2 d2 h.tasks main2

  before-r : IsBefore g old inner h.names h.outer c3 dr
  before-r = recorder-behind g old inner h.names h.outer q.name.span c3 d3 main3

  before4 : IsBefore g old inner h.names h.outer c4 d4
  before4 = bodies-before g old inner h.names h.outer bodies c3 dr h.bodies before-r

  -- ---- DED_FLAGS

  flags-there : SeesFlags q (text.last_number g before vars) d1 → SeesFlags q (text.last_number g before vars) d4
  flags-there f =
      let id : NameId = added_id q flags_text in
      let k : ℕ = text.last_number g before vars in
      let new = h.names.added flags_text refl refl in
      let in2 : SeesFlags q k d2 = flags-on q k vars d1 (variables-apart g old inner h.names h.outer id new vars h.variables) f in
      let in3 : SeesFlags q k d3 = flags-on q k (text.told_tasks g before vars) d2 (tasks-apart g old inner h.names h.outer id new tasks h.tasks) in2 in
      let inr : SeesFlags q k dr = flags-on q k (recorder_told (text.told g before vars) q ∷ []) d3 ((texts-apart q recorder_text flags_text refl refl refl refl, tt), tt) in3 in
      flags-on q k (text.told_bodies g before vars) dr (bodies-apart g old inner before vars id bodies c3 h.bodies) inr

  -- ---- main

  -- the recorder's body keeps the table
  kept5 : (some : ℕ → Bool) → Keeps some d4.types d5.types
  kept5 some = keeps-decl (recorder_body_told (text.told g before vars) q) d4 tt

  -- behind it
  grown5 : IsGrown q old c4 d5
  grown5 = grown-right q old c4 d4 d5 (kept5 _) (λ id o. refl) refl before4.grown

  last-own : c4.own ≡ []
  last-own = decls-own bodies c3 ∙ decls-own tasks c2 ∙ decls-own vars c1 ∙ decls-own before (first_scope q.name)

  text-own : d5.own ≡ []
  text-own =
      decls-own (text.told_bodies g before vars) dr ∙ decls-own (text.told_tasks g before vars) d2 ∙ decls-own vars d1 ∙ decls-own (text.more g before vars) c1 ∙ decls-own before (first_scope q.name)

  scope : IsToldScope (record { setting = g; task = 0 }) old inner (inner_scope c4) (inner_scope d5)
  scope =
      told-scope g old inner h.names h.outer 0 (inner_scope c4) (inner_scope d5) (grown-inside q old c4 d5 grown5)
      (language-on d4 (inner_scope d5) (kept5 old).grows (λ k l. refl) before4.language)
      (unit-step q d4 (inner_scope d5) refl refl (kept5 _) (kept5 _) before4.variables)
      before4.recorder (text-own ∙ sym (ap (map (told_entry q)) last-own)) h.has

  -- The scopes are as told.
  pub tellable-told : HasToldScopes g before vars
  tellable-told = record {
    in_first = h.language;
    in_tasks = main3.language;
    in_bodies = λ f. record { language = before4.language; recorder = before4.recorder; flags = flags-there f };
    firsts_met = h.firsts_met;
    vars_met = variables-met g old inner h.names h.outer vars c1 d1 h.variables main1 h.variables_met;
    tasks_met = tasks-met g old inner h.names h.outer tasks c2 d2 h.tasks main2 h.tasks_met;
    bodies_met = λ unit_met. bodies-met g old inner h.names h.outer unit_met bodies c3 dr h.bodies before-r;
    main_met = main-met g 0 old inner h.outer (caller-apart g old inner h.names h.outer) (tt, inner_scope c4) (inner_scope d5) 1 q.body scope (omega arith) h.asked;
  }
