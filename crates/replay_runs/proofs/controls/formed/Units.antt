-- The bodies of main and of each task of a legal program are as asked, task by task.
use Rattle.std.proofs.Common.{◌≡◌, ℕ, zero, suc, ◌<◌, ◌==◌, ◌||◌, not, Bool, true, false, if◌then◌else◌, List, [], ◌∷◌, ◌++◌, length, slice_get, unwrap_or, Option, Some, None, ◌⊎◌, inl, inr, refl, sym, ap, subst, ◌∙◌, true≢false, arith}
use Rattle.std.specs.List.{AllByRecursion}
use Rattle.std.proofs.lemmas.Bool.{ne_eqb, eq-eqb, eqb-true}
use Rattle.std.proofs.lemmas.List.{append-nil}
use Rattle.common_lemmas.proofs.Lists.{all_front, all_back, all_paired, element_at, found_some, found_passes}
use Rattle.common_lemmas.proofs.Options.{some_same}
use Rattle.ada_tree.specs.declared.naming.NameId.{NameId}
use Rattle.ada_tree.specs.TypeTable.{TypeTable}
use Rattle.ada_tree.specs.Every.{Rules, EveryBody, EveryDecls}
use Rattle.ada_tree.specs.WellPlaced.{well_placed}
use Rattle.ada_tree.specs.PlainStmt.{PHead, PBody, body, no_stmt, no_handler}
use Rattle.ada_tree.specs.PlainDecl.{PTask, DTaskBody, PDecls, no_decl, decl_then}
use Rattle.ada_tree.specs.PlainProgram.{PProgram}
use Rattle.ada_static_rules.specs.Refusals.{types_in}
use Rattle.ada_static_rules.specs.Demand.{Site}
use Rattle.ada_static_rules.specs.Scope.{Scope}
use Rattle.ada_static_rules.specs.Sites.{sites, names_sites, decls_sites, body_sites}
use Rattle.ada_static_rules.specs.Declaring.{before_all, first_scope, inner_scope, after_decls}
use Rattle.syn_event.specs.declared.numbering.Mode.TheVariants.{Original}
use Rattle.syn_event.specs.declared.numbering.TaskInfo.{TaskInfo}
use Rattle.syn_event.specs.CheckScope.{CheckScope, CheckSite, accepts}
use Rattle.syn_event.specs.CheckSites as check
use Rattle.syn_event.specs.NamedTasks.{NumberedTask, numbered_tasks}
use Rattle.syn_event.specs.Numbering.{task_at}
use Rattle.syn_event.specs.RuleAcceptPlace.{is_own_entry, is_among, accept_place}
use Rattle.syn_event.specs.DeclaredTasks.{tasks_of}
use Rattle.task_model.specs.Setting.{Setting}
use Rattle.task_model.specs.Starting.{Unit as OneUnit, unit_among, unit_of_info}
use Rattle.task_laws.specs.legal.sites.Met.{IsMet, IsCheckMet}
use Rattle.task_laws.proofs.legal.sites.Meeting.{all_met, all_check_met}
use Rattle.task_laws.proofs.legal.types.MainScopes.{StandsWhole}
use Rattle.normal_laws.proofs.structure.entries.Lists.{found-place}
use Rattle.normal_laws.proofs.structure.entries.Entries.{IsTaskOf}
use Rattle.task_laws.proofs.legal.rewritten_types.Lookups.{find-all, place-all}
use Rattle.task_laws.proofs.legal.rewritten_types.Refused.{declared_once}
use Rattle.task_laws.specs.legal.asked.Asked.{AskedBody}
use Rattle.task_laws.specs.legal.asked.Kinds.{place_asks, type_asks, check_asks, both}
use Rattle.task_laws.proofs.legal.asked.Placed.{placed_asked}
use Rattle.task_laws.proofs.legal.asked.Typed.{typed_asked}
use Rattle.task_laws.proofs.legal.asked.Checked.{checked_asked}
use Rattle.task_laws.proofs.legal.asked.Together.{both_asked}
use Rattle.task_laws.specs.translation.Translations.{Programs}
use Rattle.normal_laws.specs.runs.runs.Premises.{programs_of, unit_before}
use Rattle.normal_laws.specs.runs.forms.Normalisable.{numbers_of, setting_for, first_for, first_task, normal_rewrite}
use Rattle.normal_laws.specs.existence.Laws.{IsLegalOriginal}
use Rattle.normal_laws.proofs.existence.seen_tasks.Parts.{ObjectsApart, IsUnit, MainSeen}
use Rattle.normal_laws.proofs.existence.seen_tasks.Bodies.{PlaceSeen, first-seen, decls-step, main-seen}
use Rattle.normal_laws.proofs.existence.seen_tasks.Units.{objects-apart, BodyFound, nothing_found, body_found, bodies-found}
use Rattle.normal_laws.proofs.existence.seen_tasks.Tasks.{mapped-place, numbered-tasks-units, one-unit}
use Rattle.normal_laws.proofs.existence.statement_forms.Callees.{some-not}
use Rattle.normal_laws.proofs.existence.statement_forms.Text.{text_rules, IsLocal, IsKnownPlace}
use Rattle.replay_runs.proofs.controls.formed.Asked.{text, parts, AreHeadsKnown, head-known, unit_asks, unit-asked}

-- what rules ask of declarations they ask of the body of a name, if there is one
every-among : (r : Rules) (ds : PDecls) (name : NameId) → EveryDecls r ds → EveryBody r 1 (unit_among ds name).body ⊎ ((unit_among ds name).body ≡ body no_stmt no_handler)
every-among r no_decl name h = inr refl
every-among r (decl_then (DTaskBody w objects its s) rest) name h = by_test (w.name.0 == name.0) (every-among r rest name h.1)
  where
    by_test : (c : Bool) → EveryBody r 1 (unit_among rest name).body ⊎ ((unit_among rest name).body ≡ body no_stmt no_handler) →
        EveryBody r 1 (unwrap_or (if c then Some record { in_main = false; decls = objects; body = its } else None) (unit_among rest name)).body
        ⊎ ((unwrap_or (if c then Some record { in_main = false; decls = objects; body = its } else None) (unit_among rest name)).body ≡ body no_stmt no_handler)
    by_test true later = inl h.0.4
    by_test false later = later
every-among r (decl_then d rest) name h = every-among r rest name h.1

module _ (p : PProgram) (h : IsLegalOriginal p) where
  abbrev T : TypeTable
  T = types_in p

  abbrev G : Setting
  G = setting_for p

  abbrev b : Programs
  b = programs_of (normal_rewrite p [])

  abbrev Place : Site → Type 0
  Place = IsKnownPlace T b.is_fixed

  abbrev Checked : CheckSite → Type 0
  Checked = IsCheckMet Original p.names

  met : (xs : List Site) → AllByRecursion Place xs → AllByRecursion IsMet xs
  met [] m = tt
  met (x ∷ xs) m = (m.0.0, met xs m.1)

  -- ---- the places of the program

  abbrev first : Scope
  first = first_scope p.name

  abbrev around : CheckScope
  around = check.around_program p

  abbrev main_scope : Scope
  main_scope = inner_scope (after_decls first p.decls)

  abbrev main_around : CheckScope
  main_around = check.after_decls around p.decls

  places : AllByRecursion Place (sites p)
  places = all_paired IsMet (IsLocal T b.is_fixed) (sites p) (all_met p h.legal.type_rules) (text p h).local

  decls-known : AllByRecursion Place (decls_sites first p.decls)
  decls-known =
      all_back Place (names_sites true before_all (p.name ∷ [])) (decls_sites first p.decls)
      (all_front Place (names_sites true before_all (p.name ∷ []) ++ decls_sites first p.decls) (body_sites main_scope p.body) places)

  body-known : AllByRecursion Place (body_sites main_scope p.body)
  body-known = all_back Place (names_sites true before_all (p.name ∷ []) ++ decls_sites first p.decls) (body_sites main_scope p.body) places

  abbrev decls_checks : List CheckSite
  decls_checks = check.decls_sites around (check.body_names p.decls) p.decls

  abbrev body_checks : List CheckSite
  body_checks = check.body_sites main_around 1 p.body

  checks : AllByRecursion Checked (decls_checks ++ body_checks)
  checks = all_front Checked (decls_checks ++ body_checks) (check.counted_sites around p) (all_check_met p Original h.legal.check_rules).1

  apart : ObjectsApart p.decls
  apart = objects-apart p T p.decls first (met _ decls-known)

  at-first : MainSeen p T [] p.decls first around
  at-first = first-seen p T (declared_once p h.legal.type_rules).0

  at-last : (kinds : List PTask) × MainSeen p T kinds no_decl (after_decls first p.decls) main_around
  at-last = (_, decls-step p T p.decls [] first around apart (text p h).ranged (declared_once p h.legal.type_rules).1 at-first)

  -- ---- a body at its place

  -- a body is as asked where its places are known
  at-place : (who : Option PTask) (from number : ℕ) → AreHeadsKnown p h who from number → (s : Scope) (c : CheckScope) (x : PBody) → PlaceSeen p T who s c → StandsWhole T s → EveryBody (well_placed p.names) 1 x → EveryBody (text_rules b.is_old) 1 x →
      AllByRecursion Place (body_sites s x) → AllByRecursion Checked (check.body_sites c 1 x) → AskedBody (unit_asks p h from number) tt 1 x
  at-place who from number heads s c x seen typed placed own at checked =
      unit-asked p h who from number heads (((tt, tt), s), c) x (seen, typed)
      (both_asked (both (both (place_asks (well_placed p.names)) (place_asks (text_rules b.is_old))) (type_asks Place)) (check_asks Checked) ((tt, tt), s) c 1 x
      (both_asked (both (place_asks (well_placed p.names)) (place_asks (text_rules b.is_old))) (type_asks Place) (tt, tt) s 1 x
      (both_asked (place_asks (well_placed p.names)) (place_asks (text_rules b.is_old)) tt tt 1 x (placed_asked (well_placed p.names) 1 x placed) (placed_asked (text_rules b.is_old) 1 x own))
      (typed_asked Place s 1 x at)) (checked_asked Checked c 1 x checked))

  -- an accept stands in no body of main
  no-accept : (c : CheckScope) (i : PHead) → c.own ≡ None → accept_place c (accepts i) ≡ [] → ⊥
  no-accept c i e q = some-not i.span [] (ap (λ o. if not (is_own_entry o i.entry.name) || is_among c.accepting i.entry.name then i.span ∷ [] else []) (sym e) ∙ q)

  of-main : AskedBody (unit_asks p h 0 0) tt 1 p.body
  of-main =
      at-place None 0 0 (λ s c n i seen typed placed every at checked. absurd (no-accept c i seen.own checked.1.0.accepts)) main_scope main_around p.body (main-seen p T at-last.0 _ main_around at-last.1) (text p h).typed.main
      h.placed.3 (text p h).body_old body-known (all_back Checked decls_checks body_checks checks)

  -- ---- tasks

  -- a body without statements
  of-none : (from number : ℕ) (x : PBody) → x ≡ body no_stmt no_handler → AskedBody (unit_asks p h from number) tt 1 x
  of-none from number x e = subst (AskedBody (unit_asks p h from number) tt 1) (sym e) (tt, tt, tt)

  of-task : (from number : ℕ) (x y : NumberedTask) → IsTaskOf p T from x → IsTaskOf p T number y → x.unit ≡ y.unit → AskedBody (unit_asks p h from number) tt 1 (unit_among p.decls y.unit.name.name).body
  of-task from number x y is runs same =
      by_rules (every-among (well_placed p.names) p.decls y.unit.name.name h.placed.2) (every-among (text_rules b.is_old) p.decls y.unit.name.name (text p h).decls_old)
    where
      its : PBody
      its = (unit_among p.decls y.unit.name.name).body

      by_body : (z : PBody) → BodyFound p T Place Checked (text_rules b.is_old) (StandsWhole T) y.unit.name.name z → EveryBody (well_placed p.names) 1 z → AskedBody (unit_asks p h from number) tt 1 z
      by_body z nothing_found placed = of-none from number z refl
      by_body z (body_found _ at) placed =
          let own : IsUnit p T at.seen.task = at.seen.seen.own.0.unit in
          let it : y.unit ≡ at.seen.task = one-unit p T (parts p h) y.unit at.seen.task runs.unit own (sym (at.seen.named ∙ at.called)) in
          at-place (Some at.seen.task) from number (head-known p h at.seen.task from number x y is (same ∙ it) runs it) at.scope at.around z at.seen.seen at.typed placed at.every at.places at.check_places

      by_rules : EveryBody (well_placed p.names) 1 its ⊎ (its ≡ body no_stmt no_handler) → EveryBody (text_rules b.is_old) 1 its ⊎ (its ≡ body no_stmt no_handler) → AskedBody (unit_asks p h from number) tt 1 its
      by_rules (inr e) own = of-none from number its e
      by_rules (inl placed) own =
          by_body its
          (bodies-found p T Place Checked (text_rules b.is_old) (StandsWhole T) p.decls [] first around (check.body_names p.decls) y.unit.name.name (λ z m. m.0) apart (text p h).ranged (declared_once p h.legal.type_rules).1 at-first
          (text p h).typed.bodies (text p h).decls_old decls-known (all_front Checked decls_checks body_checks checks)) placed

  -- ---- the first task that runs a body

  tasks-apart : AllByRecursion (λ (t : PTask). (p.name.name.0 == t.name.name.0) ≡ false) (tasks_of p)
  tasks-apart = subst (AllByRecursion (λ (t : PTask). (p.name.name.0 == t.name.name.0) ≡ false)) (sym (at-last.1.tasks ∙ append-nil at-last.1.before)) at-last.1.tasks_apart

  -- it is one of the same unit
  from-there : (m : ℕ) (info : TaskInfo) (t : PTask) → IsUnit p T t → slice_get (numbers_of p).tasks m ≡ Some info → (info.unit.0 == t.name.name.0) ≡ true → (x : NumberedTask) × IsTaskOf p T m x × (x.unit ≡ t)
  from-there zero info t unit e f =
      absurd (true≢false (sym (ap (λ (i : TaskInfo). i.unit.0 == t.name.name.0) (some_same e) ∙ f) ∙ find-all (λ (u : PTask). (p.name.name.0 == u.name.name.0) ≡ false) (λ (u : PTask). u.name.name.0 == t.name.name.0) (tasks_of p) t tasks-apart unit))
  from-there (suc k) info t unit e f =
      let x = mapped-place p T (parts p h) (numbered_tasks T p) k info e in
      let own : IsUnit p T x.0.unit = place-all (λ (y : NumberedTask). IsUnit p T y.unit) (numbered_tasks T p) k x.0 (numbered-tasks-units p T (parts p h)) x.1 in
      let named : x.0.unit.name.name.0 ≡ t.name.name.0 = ap (λ (i : TaskInfo). i.unit.0) (sym x.2) ∙ eqb-true info.unit.0 t.name.name.0 f in
      (x.0, record { place = k; number = refl; numbered_task = x.1; unit = own }, one-unit p T (parts p h) x.0.unit t own unit named)

  -- ---- all units

  -- The body of each task of the program is as asked, by the number of the first task that runs it.
  pub units-asked : (t : ℕ) → t < length (numbers_of p).tasks → AskedBody (unit_asks p h (first_task p t) t) tt 1 (unit_before (normal_rewrite p []) t).body
  units-asked zero l = of-main
  units-asked (suc k) l =
      let info = element_at (numbers_of p).tasks (suc k) l in
      let x = mapped-place p T (parts p h) (numbered_tasks T p) k info.0 info.1 in
      let own : IsUnit p T x.0.unit = place-all (λ (y : NumberedTask). IsUnit p T y.unit) (numbered_tasks T p) k x.0 (numbered-tasks-units p T (parts p h)) x.1 in
      let runs : IsTaskOf p T (suc k) x.0 = record { place = k; number = refl; numbered_task = x.1; unit = own } in
      let runs_it : TaskInfo → Bool = λ i. i.unit.0 == info.0.unit.0 in
      let some = found_some runs_it (numbers_of p).tasks (suc k) info.0 info.1 (eq-eqb info.0.unit.0 info.0.unit.0 refl) in
      let place = found-place runs_it (numbers_of p).tasks some.0 some.1 in
      let unit : info.0.unit ≡ x.0.unit.name.name = ap (λ (i : TaskInfo). i.unit) x.2 in
      let passes : (some.0.unit.0 == x.0.unit.name.name.0) ≡ true = subst (λ (n : NameId). (some.0.unit.0 == n.0) ≡ true) unit (found_passes runs_it (numbers_of p).tasks some.0 some.1) in
      let from = from-there place.0 some.0 x.0.unit own place.1 passes in
      let number : first_task p (suc k) ≡ place.0 = ap (first_for G) info.1 ∙ ap (λ o. unwrap_or o 0) place.2 in
      let its : unit_before (normal_rewrite p []) (suc k) ≡ unit_among p.decls x.0.unit.name.name =
      ap (λ c. if c then record { in_main = true; decls = p.decls; body = p.body } else unit_of_info p (task_at (numbers_of p) (suc k))) (ne_eqb (suc k) 0 (λ e. omega (arith, e)))
      ∙ ap (unit_of_info p) info.1 ∙ ap (unit_among p.decls) unit in
      subst (λ (y : OneUnit). AskedBody (unit_asks p h (first_task p (suc k)) (suc k)) tt 1 y.body) (sym its)
      (subst (λ m. AskedBody (unit_asks p h m (suc k)) tt 1 (unit_among p.decls x.0.unit.name.name).body) (sym number) (of-task place.0 (suc k) from.0 x.0 from.1 runs from.2))
