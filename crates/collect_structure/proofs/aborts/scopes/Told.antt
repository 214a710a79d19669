-- Where a normal form is as asked, the scopes along its collecting text with abort statements are as told, and nothing is refused at the places of all but what is added.
use Rattle.std.proofs.Common.{Bool, List, [], ap, arith, drop, false, filter, length, map, refl, subst, sym, take, ℕ, ◌++◌, ◌∙◌, ◌∷◌, ◌≡◌, ◌≤◌}
use Rattle.std.specs.List.{AllByRecursion, list_any}
use Rattle.common_lemmas.proofs.Lists.{all_kept, all_weaker}
use Rattle.ada_tree.specs.NameList.{predefined}
use Rattle.ada_tree.specs.PlainDecl.{DTaskBody, PDecl, decls_of}
use Rattle.ada_tree.specs.PlainProgram.{PProgram}
use Rattle.ada_tree.specs.TypeTable.{TypeTable}
use Rattle.ada_tree.specs.declared.naming.NameId.{NameId}
use Rattle.ada_static_rules.proofs.found_twice.Declared.{decls_joined}
use Rattle.ada_static_rules.specs.Declaring.{after_decl, after_decls, first_scope, inner_scope}
use Rattle.ada_static_rules.specs.Scope.{Scope, meaning}
use Rattle.syn_event.specs.DeclaredTasks.{decl_list}
use Rattle.syn_event.specs.declared.numbering.TaskInfo.{TaskInfo}
use Rattle.task_model.specs.Setting.{Setting}
use Rattle.task_laws.proofs.legal.rewritten_types.Adding.{keeps-decl}
use Rattle.task_laws.specs.legal.rewritten_types.Agreement.{Keeps}
use Rattle.replay_model.specs.ReplayTree.{is_body, is_task}
use Rattle.replay_structure.proofs.scopes.Main.{decls-own}
use Rattle.replay_structure.specs.scopes.Form.{AllAlong, IsSingleTask, last, tasked, varied}
use Rattle.replay_structure.specs.typed.ScopeOf.{IsSingle}
use Rattle.collect_model.specs.CollectTree.{collect_decl, is_int_io, recorder_told}
use Rattle.collect_model.specs.Teller.{teller_in}
use Rattle.normal_model.specs.NormalTree.{main_unit}
use Rattle.collect_model.specs.Names.{flags_text, recorder_text}
use Rattle.collect_structure.proofs.declares_once.Ids.{texts-apart}
use Rattle.collect_structure.proofs.scopes.Bodies.{caller-apart, told-scope}
use Rattle.collect_structure.proofs.scopes.Grown.{grown-inside, grown-right, grown-self}
use Rattle.collect_structure.proofs.scopes.Language.{IsApart, language-on}
use Rattle.collect_structure.proofs.scopes.Main as plain
use Rattle.collect_structure.proofs.scopes.Main.{IsFront, IsMain}
use Rattle.collect_structure.proofs.scopes.Unit.{unit-step}
use Rattle.collect_structure.proofs.typed.Language.{flags-on}
use Rattle.collect_structure.specs.Names as collect
use Rattle.collect_structure.specs.scopes.Form.{BodiesTold, IsTellable}
use Rattle.collect_structure.specs.scopes.Grown.{IsGrown}
use Rattle.collect_structure.specs.scopes.Language.{SeesFlags}
use Rattle.collect_structure.specs.typed.Told.{IsToldScope, told_entry}
use Rattle.collect_model.specs.aborts.AbortTeller.{AbortTeller}
use Rattle.collect_model.specs.aborts.AbortTree.{abort_decl, places_declared, recorder_body_told}
use Rattle.collect_model.specs.aborts.Places.{most_places, places_in, places_of}
use Rattle.collect_structure.proofs.aborts.scopes.Bodies.{AreTold, IsBehind, bodies-behind, bodies-met, shown-few}
use Rattle.collect_structure.proofs.aborts.scopes.Main.{added-beside, behind-has, flags-apart, main-places, recorder-declared-beside, tasks-beside, tasks-same, variables-beside}
use Rattle.collect_structure.proofs.aborts.scopes.Places.{AreValueless, EachPlace, HasPlaces, decl-stays, places-decls, places-on, valueless-decls}
use Rattle.collect_structure.proofs.aborts.texts.Listed.{all-places}
use Rattle.collect_structure.proofs.aborts.texts.Named.{bodies-few, main-few}
use Rattle.collect_structure.proofs.aborts.typed.Places.{places-step}
use Rattle.collect_structure.proofs.aborts.typed.Typed.{main-met}
use Rattle.collect_structure.specs.aborts.scopes.Text as text
use Rattle.collect_structure.specs.aborts.scopes.Text.{HasToldScopes, main_told}
use Rattle.collect_structure.specs.aborts.typed.Told.{AreNewPlaces, ArePlacesOuter, SeesPlaces}

-- rewritten bodies give main no names
bodies-apart : (g : Setting) (old inner : ℕ → Bool) (before vars : List PDecl) (id : NameId) (xs : List PDecl) (c : Scope) → BodiesTold g old inner c xs →
    AllByRecursion (IsApart id) (map (abort_decl (main_told g) g.program.names) xs)
bodies-apart g old inner before vars id [] c h = tt
bodies-apart g old inner before vars id (DTaskBody w objects its s ∷ xs) c h = (tt, bodies-apart g old inner before vars id xs (after_decl c (DTaskBody w objects its s)) h.1)
bodies-apart g old inner before vars id (_ ∷ xs) c h = absurd h

-- What is asked of a normal form beside what a text without aborts asks of it.
pub record IsPlaceable (g : Setting) (old inner : ℕ → Bool) (before vars : List PDecl) : Type 0 where
  pub begins : take (length predefined) g.program.names ≡ predefined
  -- the names of places are none of the old ones, have no value, differ where none has a value, and are hidden nowhere
  pub fresh : EachPlace g (λ id. old id.0 ≡ false)
  pub valueless : AreValueless g (text.at_first g before vars).types
  pub distinct : (types : TypeTable) → AreValueless g types → AreNewPlaces (main_told g) (most_places g.program) types
  pub shown : ArePlacesOuter g.program inner (main_told g) (most_places g.program)
  -- the tasks are seen
  pub tasks : AllByRecursion (IsSingleTask old (last g.program before vars)) (drop 1 g.numbers.tasks)

module _ (g : Setting) (old inner : ℕ → Bool) (before vars : List PDecl) (h : IsTellable g old inner before vars) (e : IsPlaceable g old inner before vars) where
  abbrev q : PProgram
  q = g.program

  abbrev x : AbortTeller
  x = main_told g

  abbrev tasks : List PDecl
  tasks = filter is_task (decl_list q.decls)

  abbrev bodies : List PDecl
  bodies = filter is_body (decl_list q.decls)

  -- how many places main has
  abbrev k : ℕ
  k = places_in q.body

  few : k ≤ most_places q
  few = main-few q

  abbrev told : AreTold g old inner
  told = record { new = h.names; outer = h.outer; begins = e.begins; fresh = e.fresh; distinct = e.distinct; shown = e.shown }

  abbrev instance : Bool
  instance = list_any is_int_io (before ++ vars)

  abbrev last_number : ℕ
  last_number = text.last_number g before vars

  -- ---- the scopes of the normal form and of the text

  abbrev c1 : Scope
  c1 = text.at_first g before vars

  abbrev c2 : Scope
  c2 = varied q before vars

  abbrev c3 : Scope
  c3 = tasked q before vars

  abbrev c4 : Scope
  c4 = last q before vars

  abbrev d0 : Scope
  d0 = text.at_added g before vars

  abbrev d1 : Scope
  d1 = text.at_more g before vars

  abbrev d2 : Scope
  d2 = text.at_vars g before vars

  abbrev d3 : Scope
  d3 = text.at_tasks g before vars

  abbrev dr : Scope
  dr = text.at_recorder g before vars

  abbrev d4 : Scope
  d4 = text.at_bodies g before vars

  abbrev d5 : Scope
  d5 = text.at_last g before vars

  abbrev Main : Scope → Scope → Type 0
  Main c d = IsMain g old inner h.names h.outer c d

  front : IsFront g old inner h.names h.outer c1 c1
  front = record { grown = grown-self q old c1 h.self h.unseen; language = h.language; no_types = h.no_types; answer = h.answer; part = h.part }

  main0 : Main c1 d0
  main0 = plain.front-more g old inner h.names h.outer q.name.span last_number instance c1 c1 h.no_types front

  valueless0 : AreValueless g d0.types
  valueless0 = valueless-decls g (text.added g before vars) (added-beside g q.name.span instance last_number) c1 e.valueless

  new0 : AreNewPlaces x (most_places q) d0.types
  new0 = e.distinct d0.types valueless0

  abbrev places : List PDecl
  places = places_declared x q.name.span k

  joined : d1 ≡ after_decls d0 (decls_of places)
  joined = decls_joined (text.added g before vars) places c1

  main1 : Main c1 d1
  main1 = subst (Main c1) (sym joined) (main-places g old inner h.names h.outer e.fresh q.name.span k few c1 d0 main0 new0)

  places1 : HasPlaces g k d1
  places1 = subst (HasPlaces g k) (sym joined) (behind-has g q.name.span k few d0 main0.language new0 valueless0)

  main2 : Main c2 d2
  main2 = plain.variables-behind g old inner h.names h.outer vars c1 d1 h.variables main1

  places2 : HasPlaces g k d2
  places2 = places-decls g k few vars (variables-beside g old inner h.names h.outer e.fresh vars h.variables) d1 places1

  same : text.told_tasks g before vars ≡ map (collect_decl (teller_in (main_unit g)) q.names) tasks
  same = tasks-same g old inner h.names h.outer e.fresh tasks h.tasks

  main3 : Main c3 d3
  main3 = subst (λ l. Main c3 (after_decls d2 (decls_of l))) (sym same) (plain.tasks-behind g old inner h.names h.outer tasks c2 d2 h.tasks main2)

  places3 : HasPlaces g k d3
  places3 = places-decls g k few (text.told_tasks g before vars) (tasks-beside g old inner h.names h.outer e.fresh tasks h.tasks) d2 places2

  behind-r : IsBehind g old inner told k c3 dr
  behind-r = record {
    plain = plain.recorder-behind g old inner h.names h.outer q.name.span c3 d3 main3;
    places = places-on g k few d3 dr (decl-stays g (recorder_told x.teller q) d3 (recorder-declared-beside g)) places3;
  }

  behind4 : IsBehind g old inner told k c4 d4
  behind4 = bodies-behind g old inner told k few bodies c3 dr h.bodies behind-r

  -- ---- DED_FLAGS

  flags-there : SeesFlags q last_number d0 → SeesFlags q last_number d4
  flags-there f =
      let id : NameId = collect.added_id q flags_text in
      let new = h.names.added flags_text refl refl in
      let apart = flags-apart g in
      let in1 : SeesFlags q last_number d1 = subst (SeesFlags q last_number) (sym joined)
      (flags-on q last_number places d0 (all-places (IsApart id) x q.name.span (most_places q) k few (λ p i j. (((apart p (i, j)).0, tt), ((apart p (i, j)).1, tt)))) f) in
      let in2 : SeesFlags q last_number d2 = flags-on q last_number vars d1 (plain.variables-apart g old inner h.names h.outer id new vars h.variables) in1 in
      let in3 : SeesFlags q last_number d3 = flags-on q last_number (text.told_tasks g before vars) d2
      (subst (AllByRecursion (IsApart id)) (sym same) (plain.tasks-apart g old inner h.names h.outer id new tasks h.tasks)) in2 in
      let inr : SeesFlags q last_number dr = flags-on q last_number (recorder_told x.teller q ∷ []) d3 ((texts-apart q recorder_text flags_text refl refl refl refl, tt), tt) in3 in
      flags-on q last_number (text.told_bodies g before vars) dr (bodies-apart g old inner before vars id bodies c3 h.bodies) inr

  -- ---- main

  -- the recorder's body keeps the table
  kept5 : (some : ℕ → Bool) → Keeps some d4.types d5.types
  kept5 some = keeps-decl (recorder_body_told x q) d4 tt

  -- behind it
  pub grown5 : IsGrown q old c4 d5
  grown5 = grown-right q old c4 d4 d5 (kept5 _) (λ id o. refl) refl behind4.plain.grown

  places5 : HasPlaces g k d5
  places5 = places-on g k few d4 d5 (λ p i. ((refl, kept5 _), (refl, kept5 _))) behind4.places

  last-own : c4.own ≡ []
  last-own = decls-own bodies c3 ∙ decls-own tasks c2 ∙ decls-own vars c1 ∙ decls-own before (first_scope q.name)

  text-own : d5.own ≡ []
  text-own =
      decls-own (text.told_bodies g before vars) dr ∙ decls-own (text.told_tasks g before vars) d2
      ∙ decls-own vars d1 ∙ decls-own (text.more g before vars) c1 ∙ decls-own before (first_scope q.name)

  scope : IsToldScope (record { setting = g; task = 0 }) old inner (inner_scope c4) (inner_scope d5)
  scope =
      told-scope g old inner h.names h.outer 0 (inner_scope c4) (inner_scope d5) (grown-inside q old c4 d5 grown5)
      (language-on d4 (inner_scope d5) (kept5 old).grows (λ j l. refl) behind4.plain.language)
      (unit-step q d4 (inner_scope d5) refl refl (kept5 _) (kept5 _) behind4.plain.variables)
      behind4.plain.recorder (text-own ∙ sym (ap (map (told_entry q)) last-own)) h.has

  seen : SeesPlaces x k (inner_scope d5)
  seen = places-step x k d5 (inner_scope d5) (λ p i. refl) (λ p i. refl) refl places5.seen

  -- The scopes are as told.
  pub tellable-told : HasToldScopes g before vars
  tellable-told = record {
    in_first = h.language;
    in_added = new0;
    in_tasks = main3.language;
    in_bodies = λ f. record { language = behind4.plain.language; recorder = behind4.plain.recorder; flags = flags-there f };
    tasks_seen =
        all_weaker (IsSingleTask old c4) (λ (info : TaskInfo). IsSingle (meaning d4 info.name)) (drop 1 g.numbers.tasks)
        (λ info t. (map (told_entry q) t.1.0, behind4.plain.grown.tasks info.name t.1.0 t.0 t.1.1)) e.tasks;
    firsts_met = h.firsts_met;
    vars_met = plain.variables-met g old inner h.names h.outer vars c1 d1 h.variables main1 h.variables_met;
    tasks_met = subst (AllAlong d2) (sym same) (plain.tasks-met g old inner h.names h.outer tasks c2 d2 h.tasks main2 h.tasks_met);
    bodies_met = bodies-met g old inner told k few bodies c3 dr (all_kept (λ y. places_of y ≤ most_places q) is_body (decl_list q.decls) (bodies-few q)) h.bodies behind-r;
    main_met =
        main-met g 0 old inner h.outer (caller-apart g old inner h.names h.outer) x k (shown-few g old inner told 0 k few) refl
        (tt, inner_scope c4) (inner_scope d5) 1 q.body (scope, seen) (omega arith)
        (omega arith) h.asked;
  }
