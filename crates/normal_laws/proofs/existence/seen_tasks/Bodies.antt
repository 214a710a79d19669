-- What can be seen of tasks in bodies: that of main behind all declarations, and those of tasks.
use Rattle.std.proofs.Common.{◌≡◌, ℕ, true, false, ◌==◌, if◌then◌else◌, List, [], ◌∷◌, ◌++◌, option_map, find, unwrap_or, Option, Some, None, refl, sym, ap, ◌∙◌, subst, true≢false, ⊎_elim}
use Rattle.std.proofs.lemmas.Bool.{or_cases}
use Rattle.ada_tree.specs.declared.naming.NameId.{NameId}
use Rattle.ada_tree.specs.declared.naming.Span.{Span}
use Rattle.ada_tree.specs.declared.naming.Word.{Word}
use Rattle.ada_tree.specs.TypeTable.{TypeTable}
use Rattle.ada_tree.specs.PlainStmt.{PFormal, PScheme, LWhile, LFor, PHead, PBody}
use Rattle.ada_tree.specs.PlainDecl.{PTask, DNumber, DObject, DEnumeration, DArray, DSubtype, DException, DIntIo, DPragma, DTask, DTaskBody, PDecls, no_decl, decl_then}
use Rattle.ada_tree.specs.PlainProgram.{PProgram}
use Rattle.ada_static_rules.specs.Scope.{Scope, NameMeaning, Thing, TypeMark, TaskType, SingleTask, TaskObject, TaskArray, Variable, ConstantObject, Parameter, LoopParameter, Literal, AnException, MainProcedure, AnotherUnit, Unclear, meaning, marking}
use Rattle.ada_static_rules.specs.Sites.{loop_scope}
use Rattle.ada_static_rules.specs.RuleUnknown.{no_body_of}
use Rattle.ada_static_rules.specs.Declaring.{before_all, predefined_names, first_scope, with_name, with_names, with_types, with_constants, declared_object, inner_scope, in_body, own_entries, after_own_object, after_objects, after_decl, after_decls, with_formals, formal_thing, loop_thing}
use Rattle.syn_event.specs.declared.meanings.Meant.{Meant}
use Rattle.syn_event.specs.declared.meanings.Meant.TheVariants as meant
use Rattle.syn_event.specs.CheckScope.{CheckScope}
use Rattle.syn_event.specs.CheckScope as check
use Rattle.syn_event.specs.CheckSites as sites
use Rattle.syn_event.specs.NamedTasks.{NamedTasks, task_names_in, task_names_of}
use Rattle.task_laws.specs.legal.rewritten_types.Rewriting.{IsUnused, DeclareOnce}
use Rattle.task_laws.proofs.legal.rewritten_types.Lookups.{find-all}
use Rattle.task_laws.proofs.legal.rewritten_types.Fresh.{first-here}
use Rattle.normal_laws.proofs.existence.seen_tasks.Scopes.{is_one_of, names-all, meant-out, meant-own, IsNoTask, inner-object, formal-no-task, loop-no-task}
use Rattle.normal_laws.proofs.existence.seen_tasks.Parts.{ObjectsApart, AreRanged, unit_is, IsUnitOf, Stands, IsTaskArray, Means, IsPair, MainSeen, types_after, decl-step, extended, no-task-means, no-task-pair, name-used}
use Rattle.common_lemmas.proofs.Lists.{find_front, not_empty}
use Rattle.ada_static_rules.proofs.found_twice.Declared.{names_own, thing_found}

-- ---- predefined names

-- no predefined name is that of a task
first-no-task : (id : NameId) (th : Thing) → meaning before_all id ≡ Some th → IsNoTask th
first-no-task id th e =
    let x = thing_found (find (λ (x : NameMeaning). x.name == id.0) predefined_names) th e in
    subst IsNoTask x.2 (find-all (λ (y : NameMeaning). IsNoTask y.thing) (λ (y : NameMeaning). y.name == id.0) predefined_names x.0
    (tt, (tt, (tt, (tt, (tt, (tt, (tt, (tt, (tt, (tt, (tt, (tt, (tt, (tt, (tt, (tt, (tt, (tt, tt)))))))))))))))))) x.1)

module _ (p : PProgram) (T : TypeTable) where
  -- ---- main

  -- before all declarations
  pub first-seen : IsUnused before_all p.name → MainSeen p T [] p.decls (first_scope p.name) (sites.first_around T p.name)
  first-seen u = record {
    done = [];
    parts = refl;
    parts_used = tt;
    parts_units = tt;
    types_units = tt;
    before = [];
    tasks = refl;
    tasks_used = tt;
    here = first-here p.name;
    main = refl;
    means = names-all (Means p T [] [] []) MainProcedure (p.name ∷ []) before_all (λ id th out e. no-task-means p T [] [] [] id th (first-no-task id th e)) (λ id one. tt);
    pairs = names-all (λ id th. IsPair p T (check.meaning (sites.first_around T p.name) id) th) MainProcedure (p.name ∷ []) before_all
        (λ id th out e. no-task-pair p T _ th (first-no-task id th e))
        (λ id one. ap (λ b. option_map (λ (k : ℕ × Meant). k.1) (if b then Some (p.name.name.0, meant.MainProcedure) else None)) (only id one));
    own = refl;
    main_used = name-used p T MainProcedure p.name before_all;
    apart = tt;
    tasks_apart = tt;
    once = λ id. tt;
  }
    where
      only : (id : NameId) → is_one_of (p.name ∷ []) id ≡ true → (p.name.name.0 == id.0) ≡ true
      only id one = ⊎_elim (λ h. h) (λ h. absurd (true≢false (sym h))) (or_cases (p.name.name.0 == id.0) false one)

  abbrev types_behind : List PTask → PDecls → List PTask
  types_behind kinds no_decl = kinds
  types_behind kinds (decl_then d rest) = types_behind (types_after p T kinds d) rest

  pub decls-step : (ds : PDecls) (kinds : List PTask) (s : Scope) (c : CheckScope) → ObjectsApart ds → AreRanged T s ds → DeclareOnce s ds → MainSeen p T kinds ds s c →
      MainSeen p T (types_behind kinds ds) no_decl (after_decls s ds) (sites.after_decls c ds)
  decls-step no_decl kinds s c apart ranged once m = m
  decls-step (decl_then d rest) kinds s c apart ranged once m = decls-step rest (types_after p T kinds d) (after_decl s d) (sites.after_decl c d) apart.1 ranged.1 once.1 (decl-step p T d kinds rest s c apart.0 ranged.0 once.0 m)

  -- ---- places in bodies

  -- a name that means a task stands for a part of the program
  abbrev pub SeenAs : NameId → Thing → Type 0
  SeenAs id (SingleTask es) = Stands p T (task_names_of p) id None es
  SeenAs id (TaskObject es) = Stands p T (task_names_of p) id None es
  SeenAs id (TaskArray range es) = IsTaskArray p T (task_names_of p) id range es
  SeenAs id _ = Unit {0}

  -- in whose body a place is
  abbrev pub IsIn : Option PTask → Scope → CheckScope → Type 0
  IsIn None s c = c.own ≡ None
  IsIn (Some t) s c = IsUnitOf p T t s.own × (c.own ≡ Some (sites.enclosing_unit t))

  pub record PlaceSeen (who : Option PTask) (s : Scope) (c : CheckScope) : Type 0 where
    pub seen : (id : NameId) (th : Thing) → meaning s id ≡ Some th → SeenAs id th
    pub pairs : (id : NameId) (th : Thing) → meaning s id ≡ Some th → IsPair p T (check.meaning c id) th
    pub own : IsIn who s c

  as-seen : (done : List NamedTasks) (rest : List NamedTasks) (kinds : List PTask) (units : List check.EnclosingUnit) (id : NameId) (th : Thing) → task_names_of p ≡ done ++ rest → Means p T done kinds units id th → SeenAs id th
  as-seen done rest kinds units id th e m = by_form th (extended p T done (task_names_of p) kinds kinds units units id (λ x f. ap (find _) e ∙ find_front _ done rest x f) (λ t f. f) (λ u f. f) th m)
    where
      by_form : (th : Thing) → Means p T (task_names_of p) kinds units id th → SeenAs id th
      by_form (SingleTask es) h = h.0
      by_form (TaskObject es) h = h
      by_form (TaskArray range es) h = h
      by_form (TaskType es) h = tt
      by_form (TypeMark m) h = tt
      by_form (Variable m) h = tt
      by_form (ConstantObject m) h = tt
      by_form (Parameter mode m) h = tt
      by_form (LoopParameter m) h = tt
      by_form (Literal k) h = tt
      by_form AnException h = tt
      by_form MainProcedure h = tt
      by_form AnotherUnit h = tt
      by_form Unclear h = tt

  no-task-seen : (id : NameId) (th : Thing) → IsNoTask th → SeenAs id th
  no-task-seen id (TypeMark m) h = tt
  no-task-seen id (Variable m) h = tt
  no-task-seen id (ConstantObject m) h = tt
  no-task-seen id (Parameter mode m) h = tt
  no-task-seen id (LoopParameter m) h = tt
  no-task-seen id (Literal k) h = tt
  no-task-seen id AnException h = tt
  no-task-seen id AnotherUnit h = tt
  no-task-seen id Unclear h = tt
  no-task-seen id (TaskType es) h = absurd h
  no-task-seen id (SingleTask es) h = absurd h
  no-task-seen id (TaskObject es) h = absurd h
  no-task-seen id (TaskArray range es) h = absurd h
  no-task-seen id MainProcedure h = absurd h

  -- the body of main
  pub main-seen : (kinds : List PTask) (s : Scope) (c : CheckScope) → MainSeen p T kinds no_decl s c → PlaceSeen None (inner_scope s) c
  main-seen kinds s c m = record { seen = λ id th e. as-seen m.done (task_names_in kinds no_decl) kinds c.units id th m.parts (m.means id th e); pairs = m.pairs; own = m.own }

  -- names of one thing that is no task, which the other rules list or not
  names-seen : (who : Option PTask) (thing : Thing) (ws : List Word) (s t : Scope) (c c' : CheckScope) → IsNoTask thing → ((id : NameId) → meaning t id ≡ meaning s id) → t.own ≡ s.own →
      ((id : NameId) → is_one_of ws id ≡ false → check.meaning c' id ≡ check.meaning c id) → c'.own ≡ c.own → PlaceSeen who s c → PlaceSeen who (with_names thing t ws) c'
  names-seen who thing ws s t c c' h same owned out own m = record {
    seen = names-all SeenAs thing ws t (λ id th o e. m.seen id th (sym (same id) ∙ e)) (λ id one. no-task-seen id thing h);
    pairs = names-all (λ id th. IsPair p T (check.meaning c' id) th) thing ws t (λ id th o e. subst (λ q. IsPair p T q th) (sym (out id o)) (m.pairs id th (sym (same id) ∙ e))) (λ id one. no-task-pair p T _ thing h);
    own = in-it who (names_own thing ws t ∙ owned) own m.own;
  }
    where
      in-it : (who : Option PTask) → (with_names thing t ws).own ≡ s.own → c'.own ≡ c.own → IsIn who s c → IsIn who (with_names thing t ws) c'
      in-it None e f h = f ∙ h
      in-it (Some x) e f h = (subst (IsUnitOf p T x) (sym e) h.0, f ∙ h.1)

  -- the same place, with another list of innermost names or another way round
  same-seen : (who : Option PTask) (s t : Scope) (c c' : CheckScope) → ((id : NameId) → meaning t id ≡ meaning s id) → t.own ≡ s.own → ((id : NameId) → check.meaning c' id ≡ check.meaning c id) → c'.own ≡ c.own →
      PlaceSeen who s c → PlaceSeen who t c'
  same-seen who s t c c' same owned out own m = record {
    seen = λ id th e. m.seen id th (sym (same id) ∙ e);
    pairs = λ id th e. subst (λ q. IsPair p T q th) (sym (out id)) (m.pairs id th (sym (same id) ∙ e));
    own = in-it who m.own;
  }
    where
      in-it : (who : Option PTask) → IsIn who s c → IsIn who t c'
      in-it None h = own ∙ h
      in-it (Some x) h = (subst (IsUnitOf p T x) (sym owned) h.0, own ∙ h.1)

  -- ---- inner scopes

  formals-seen : (who : Option PTask) (fs : List PFormal) (s : Scope) (c : CheckScope) → PlaceSeen who s c → PlaceSeen who (with_formals s fs) (sites.with_meant meant.Inner c (sites.formal_names fs))
  formals-seen who [] s c m = m
  formals-seen who (f ∷ fs) s c m =
      subst (PlaceSeen who (with_formals s (f ∷ fs))) (sym (meant-joined f.names (sites.formal_names fs) c))
      (formals-seen who fs _ (sites.with_meant meant.Inner c f.names)
      (names-seen who (formal_thing f.mode (marking s f.mark.name)) f.names s s c (sites.with_meant meant.Inner c f.names) (formal-no-task f.mode (marking s f.mark.name)) (λ id. refl) refl
      (λ id o. meant-out meant.Inner f.names c id o) (meant-own meant.Inner f.names c) m))
    where
      meant-joined : (vs ws : List Word) (c : CheckScope) → sites.with_meant meant.Inner c (vs ++ ws) ≡ sites.with_meant meant.Inner (sites.with_meant meant.Inner c vs) ws
      meant-joined [] ws c = refl
      meant-joined (v ∷ vs) ws c = meant-joined vs ws (record c { names = (v.name.0, meant.Inner) ∷ c.names })

  pub accept-seen : (who : Option PTask) (s : Scope) (c : CheckScope) (h : PHead) → PlaceSeen who s c → PlaceSeen who (with_formals (inner_scope s) h.formals) (sites.in_accept c h)
  accept-seen who s c h m =
      formals-seen who h.formals (inner_scope s) (record c { accepting = h.entry.name ∷ c.accepting; loops = [] }) (same-seen who s (inner_scope s) c _ (λ id. refl) refl (λ id. refl) refl m)

  pub handling-seen : (who : Option PTask) (s : Scope) (c : CheckScope) → PlaceSeen who s c → PlaceSeen who s (sites.handling c)
  handling-seen who s c m = same-seen who s s c (sites.handling c) (λ id. refl) refl (λ id. refl) refl m

  pub loop-seen : (who : Option PTask) (s : Scope) (c : CheckScope) (w : Option Word) (x : Option PScheme) → PlaceSeen who s c → PlaceSeen who (loop_scope s x) (sites.in_loop c w x)
  loop-seen who s c w None m = same-seen who s s c (sites.in_loop c w None) (λ id. refl) refl (λ id. refl) refl m
  loop-seen who s c w (Some (LWhile e)) m = same-seen who s s c (sites.in_loop c w (Some (LWhile e))) (λ id. refl) refl (λ id. refl) refl m
  loop-seen who s c w (Some (LFor v b r)) m =
      names-seen who (loop_thing _) (v ∷ []) s (inner_scope s) c (sites.in_loop c w (Some (LFor v b r))) (loop-no-task _) (λ id. refl) refl
      (λ id o. meant-out meant.Inner (v ∷ []) (record c { loops = option_map (λ y. y.name) w ∷ c.loops }) id o) refl m

  -- ---- bodies of tasks

  objects-seen : (who : Option PTask) (ds : PDecls) (s : Scope) (c : CheckScope) → s.in_main ≡ false → PlaceSeen who s c → PlaceSeen who (after_objects s ds) (sites.after_own c ds)
  objects-seen who no_decl s c e m = m
  objects-seen who (decl_then (DObject names constant shape init sp) rest) s c e m =
      objects-seen who rest (after_own_object s (DObject names constant shape init sp)) _ (main-names (declared_object s constant shape).thing names (with_types (with_constants s names init (declared_object s constant shape)) s) ∙ e)
      (names-seen who (declared_object s constant shape).thing names s (with_types (with_constants s names init (declared_object s constant shape)) s) c (sites.with_meant meant.Inner c names) (inner-object s constant shape e)
      (λ id. refl) refl (λ id o. meant-out meant.Inner names c id o) (meant-own meant.Inner names c) m)
    where
      main-names : (thing : Thing) (ws : List Word) (s : Scope) → (with_names thing s ws).in_main ≡ s.in_main
      main-names thing [] s = refl
      main-names thing (w ∷ ws) s = main-names thing ws (with_name thing s w)
  objects-seen who (decl_then (DNumber w e sp) rest) s c q m = objects-seen who rest s c q m
  objects-seen who (decl_then (DEnumeration w ws sp) rest) s c q m = objects-seen who rest s c q m
  objects-seen who (decl_then (DArray w r x sp) rest) s c q m = objects-seen who rest s c q m
  objects-seen who (decl_then (DSubtype w x sp) rest) s c q m = objects-seen who rest s c q m
  objects-seen who (decl_then (DException ws sp) rest) s c q m = objects-seen who rest s c q m
  objects-seen who (decl_then (DIntIo w sp) rest) s c q m = objects-seen who rest s c q m
  objects-seen who (decl_then (DPragma e sp) rest) s c q m = objects-seen who rest s c q m
  objects-seen who (decl_then (DTask t sp) rest) s c q m = objects-seen who rest s c q m
  objects-seen who (decl_then (DTaskBody w objects its sp) rest) s c q m = objects-seen who rest s c q m

  -- the task or task type whose body is given
  pub record IsBodyOf (units : List check.EnclosingUnit) (o : Option Thing) (w : Word) : Type 0 where
    pub task : PTask
    pub named : task.name.name.0 ≡ w.name.0
    pub own : IsUnitOf p T task (own_entries o)
    pub unit : find (unit_is w.name) units ≡ Some (sites.enclosing_unit task)

  body-of : (kinds : List PTask) (ds : PDecls) (s : Scope) (c : CheckScope) (w : Word) (m : MainSeen p T kinds ds s c) → (o : Option Thing) → meaning s w.name ≡ o → no_body_of o w ≡ [] → IsBodyOf c.units o w
  body-of kinds ds s c w m (Some (SingleTask es)) e h = let d = (m.means w.name (SingleTask es) e).1 in record { task = d.task; named = d.named; own = d.own; unit = d.unit }
  body-of kinds ds s c w m (Some (TaskType es)) e h = let d = (m.means w.name (TaskType es) e).0 in record { task = d.task; named = d.named; own = d.own; unit = d.unit }
  body-of kinds ds s c w m (Some (TypeMark k)) e h = absurd (not_empty _ _ h)
  body-of kinds ds s c w m (Some (TaskObject es)) e h = absurd (not_empty _ _ h)
  body-of kinds ds s c w m (Some (TaskArray range es)) e h = absurd (not_empty _ _ h)
  body-of kinds ds s c w m (Some (Variable k)) e h = absurd (not_empty _ _ h)
  body-of kinds ds s c w m (Some (ConstantObject k)) e h = absurd (not_empty _ _ h)
  body-of kinds ds s c w m (Some (Parameter mode k)) e h = absurd (not_empty _ _ h)
  body-of kinds ds s c w m (Some (LoopParameter k)) e h = absurd (not_empty _ _ h)
  body-of kinds ds s c w m (Some (Literal k)) e h = absurd (not_empty _ _ h)
  body-of kinds ds s c w m (Some AnException) e h = absurd (not_empty _ _ h)
  body-of kinds ds s c w m (Some MainProcedure) e h = absurd (not_empty _ _ h)
  body-of kinds ds s c w m (Some AnotherUnit) e h = absurd (not_empty _ _ h)
  body-of kinds ds s c w m (Some Unclear) e h = absurd (not_empty _ _ h)
  body-of kinds ds s c w m None e h = absurd (not_empty _ _ h)

  -- the body of a task: who it is, and what is seen there
  pub record TaskSeen (w : Word) (s : Scope) (c : CheckScope) : Type 0 where
    pub task : PTask
    pub named : task.name.name.0 ≡ w.name.0
    pub seen : PlaceSeen (Some task) s c

  pub task-seen : (kinds : List PTask) (w : Word) (objects : PDecls) (its : PBody) (sp : Span) (rest : PDecls) (s : Scope) (c : CheckScope) →
      MainSeen p T kinds (decl_then (DTaskBody w objects its sp) rest) s c → no_body_of (meaning s w.name) w ≡ [] →
      TaskSeen w (inner_scope (after_objects (in_body s w) objects)) (sites.after_own (sites.in_body c w) objects)
  task-seen kinds w objects its sp rest s c m h =
      let d = body-of kinds _ s c w m (meaning s w.name) refl h in
      let start : PlaceSeen (Some d.task) (in_body s w) (sites.in_body c w) = record {
        seen = λ id th e. as-seen m.done (task_names_in kinds rest) kinds c.units id th m.parts (m.means id th e);
        pairs = m.pairs;
        own = (d.own, ap (λ o. Some (unwrap_or o record { name = w.name; entries = [] })) d.unit);
      } in
      record {
        task = d.task;
        named = d.named;
        seen = same-seen (Some d.task) (after_objects (in_body s w) objects) _ (sites.after_own (sites.in_body c w) objects) _ (λ id. refl) refl (λ id. refl) refl
            (objects-seen (Some d.task) objects (in_body s w) (sites.in_body c w) refl start);
      }
