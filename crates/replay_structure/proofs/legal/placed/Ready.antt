-- A legal program is ready.
use Rattle.std.proofs.Common.{◌≡◌, ℕ, suc, ◌+◌, ◌≤◌, ◌==◌, Bool, true, false, cond, not, ◌||◌, if◌then◌else◌, List, [], ◌∷◌, ◌++◌, length, drop, slice_get, Option, Some, None, option_map, IfSome, refl, sym, ap, subst, ◌∙◌, eqb-true, arith}
use Rattle.std.specs.List.{AllByRecursion, filter}
use Rattle.common_lemmas.proofs.Lists.{all_front, all_back, all_by_place, all_kept, all_weaker, holds_at}
use Rattle.ada_tree.specs.declared.naming.NameId.{NameId}
use Rattle.ada_tree.specs.declared.naming.Span.{Span}
use Rattle.ada_tree.specs.declared.naming.Word.{Word}
use Rattle.ada_tree.specs.TypeTable.{TypeTable}
use Rattle.ada_tree.specs.PlainExpr.{PExpr}
use Rattle.ada_tree.specs.PlainStmt.{PBody, PHead}
use Rattle.ada_tree.specs.PlainDecl.{PTask, PDecl, DNumber, DObject, DEnumeration, DArray, DSubtype, DException, DIntIo, DPragma, DTask, DTaskBody, PDecls, no_decl, decl_then}
use Rattle.ada_tree.specs.PlainProgram.{PProgram}
use Rattle.ada_static_rules.specs.Refusals.{types_in}
use Rattle.ada_static_rules.specs.Demand.{Site}
use Rattle.ada_static_rules.specs.Scope.{Scope}
use Rattle.ada_static_rules.specs.Declaring.{before_all, first_scope, inner_scope, in_body, after_objects, after_decl, after_decls}
use Rattle.ada_static_rules.specs.Sites.{names_sites, own_sites, head_sites, decl_sites, decls_sites, body_sites, sites}
use Rattle.syn_event.specs.declared.numbering.Mode.TheVariants.{Original}
use Rattle.syn_event.specs.CheckScope.{CheckScope, CheckSite, accepts}
use Rattle.syn_event.specs.CheckSites as check
use Rattle.syn_event.specs.RuleAcceptPlace.{is_own_entry, is_among, accept_place}
use Rattle.syn_event.specs.AddedNames.{task_info}
use Rattle.syn_event.specs.DeclaredTasks.{tasks_of, decl_list}
use Rattle.task_model.specs.Setting.{Setting}
use Rattle.task_laws.specs.legal.sites.Met.{IsMet}
use Rattle.normal_laws.specs.structure.asked.Pieces.{IsAmong}
use Rattle.syn_event.specs.declared.numbering.TaskInfo.{TaskInfo}
use Rattle.task_laws.proofs.legal.sites.Meeting.{all_met, all_check_met}
use Rattle.task_laws.proofs.legal.types.MainScopes.{StandsWhole}
use Rattle.task_laws.proofs.legal.rewritten_types.Refused.{declared_once}
use Rattle.task_laws.specs.legal.asked.Asked.{AskedBody}
use Rattle.ada_tree.specs.Every.{EveryExpr, EveryDecls}
use Rattle.ada_tree.specs.WellPlaced.{well_placed}
use Rattle.task_laws.specs.translation.Translations.{Programs}
use Rattle.normal_laws.specs.structure.types.Own.{own_name}
use Rattle.normal_laws.proofs.structure.types.Names.{names-begin}
use Rattle.normal_model.specs.Names.{task_name}
use Rattle.normal_model.specs.NormalTree.{unit_for, main_unit, running, tasks_beside, variables_needed}
use Rattle.normal_laws.specs.structure.units.Laws.{TellUnits}
use Rattle.normal_laws.proofs.structure.units.Declared.{units_are_declared}
use Rattle.normal_laws.proofs.structure.units.Tasks.{tasks_keep_numbers}
use Rattle.normal_laws.specs.runs.runs.Premises.{programs_of}
use Rattle.normal_laws.specs.runs.forms.Normalisable.{numbers_of, setting_for, normal_rewrite}
use Rattle.normal_laws.specs.existence.Laws.{IsLegalOriginal}
use Rattle.normal_laws.proofs.existence.units.Fields.{legal_is_ordered, legal_names_tell}
use Rattle.normal_laws.proofs.existence.seen_tasks.Parts.{IsUnit, MainSeen, ObjectsApart, AreRanged, types_after, decl-step}
use Rattle.normal_laws.proofs.existence.seen_tasks.Bodies.{first-seen, decls-step, main-seen, TaskSeen, task-seen}
use Rattle.normal_laws.proofs.existence.seen_tasks.Units.{objects-apart, BodiesTyped}
use Rattle.normal_laws.proofs.existence.statement_forms.Text.{IsLocal, text_rules, TextPremises}
use Rattle.normal_laws.proofs.legality.asked.Tasks.{text, known}
use Rattle.normal_laws.proofs.existence.seen_tasks.Tasks.{PartsKnown, numbered-tasks-units, mapped-place, one-unit}
use Rattle.normal_laws.proofs.structure.entries.Entries.{IsTaskOf}
use Rattle.task_laws.proofs.legal.types.StaticWorth.{small-literals}
use Rattle.ada_value.specs.StaticLaw.{HasSmallLiterals}
use Rattle.task_laws.specs.legal.rewritten_types.Rewriting.{DeclareOnce}
use Rattle.task_laws.proofs.legal.rewritten_types.Lookups.{find-all}
use Rattle.normal_laws.proofs.legality.scopes.Seeing.{entries_in}
use Rattle.normal_laws.proofs.legality.scopes.Places.{AtBodies}
use Rattle.normal_laws.proofs.legality.scopes.Units.{IsUnitOrNot}
use Rattle.normal_laws.proofs.legality.scopes.Bodies.{body-own}
use Rattle.normal_laws.proofs.legality.scopes.Main.{units-seen}
use Rattle.normal_laws.proofs.existence.body_forms.Joined as joined
use Rattle.normal_laws.proofs.existence.body_forms.Fields as fields
use Rattle.syn_event.specs.NamedTasks.{NumberedTask, numbered_tasks}
use Rattle.syn_event.specs.Numbering.{task_named}
use Rattle.task_model.specs.Setting.{entry_of}
use Rattle.normal_model.specs.Names.{name_of_task}
use Rattle.normal_model.specs.Ranges.{family_range}
use Rattle.replay_model.specs.Asking.{number_in, member_number}
use Rattle.replay_structure.specs.placed.Fitting.{IsOperand}
use Rattle.replay_structure.proofs.legal.placed.Families.{family-kept, unit-number}
use Rattle.normal_laws.proofs.legality.asked.Asked.{Place, Checked}
use Rattle.replay_structure.specs.legal.fits.Ready.{normal_of, ready_asks, ReadyBody, IsReady}
use Rattle.replay_structure.proofs.legal.fits.Counted.{tasks-within, entries-within}
use Rattle.replay_structure.proofs.legal.fits.Doubles.{decls-doubled}
use Rattle.replay_structure.proofs.legal.placed.Tight.{S, head-operand}
use Rattle.replay_structure.proofs.legal.placed.Calls.{EntriesDoubled, tasks-doubled, ready-asked}
use Rattle.normal_laws.proofs.structure.placed.Made.{among}
use Rattle.ada_static_rules.proofs.found_twice.Declared.{objects_own}

-- ---- lists

-- a list that has an element only where another one has is no longer
no-longer : {A B : Type 0} (f : B → A) (xs : List A) (ys : List B) → ((t : ℕ) → slice_get xs t ≡ option_map f (slice_get ys t)) → length xs ≤ length ys
no-longer f [] ys h = omega arith
no-longer {A = A} f (x ∷ xs) [] h = absurd (never (h 0))
  where
    never : {y : A} → Some y ≡ None → ⊥
    never e = cc
no-longer f (x ∷ xs) (y ∷ ys) h = let l : length xs ≤ length ys = no-longer f xs ys (λ t. h (suc t)) in omega (arith, l)

drop-length : {A : Type 0} (xs : List A) → length (drop 1 xs) ≤ length xs
drop-length [] = omega arith
drop-length (x ∷ xs) = omega arith

-- what a filter leaves passes its test
all-pass : {A : Type 0} (q : A → Bool) (xs : List A) → AllByRecursion (λ x. q x ≡ true) (filter q xs)
all-pass q [] = tt
all-pass q (x ∷ xs) = by_test (q x) refl (all-pass q xs)
  where
    by_test : (b : Bool) → q x ≡ b → AllByRecursion (λ y. q y ≡ true) (filter q xs) → AllByRecursion (λ y. q y ≡ true) (cond b (x ∷ filter q xs) (filter q xs))
    by_test true e rest = (e, rest)
    by_test false e rest = rest

module _ (p : PProgram) (h : IsLegalOriginal p) where
  abbrev T : TypeTable
  T = types_in p

  abbrev g : Setting
  g = setting_for p

  abbrev n : Setting
  n = normal_of g

  abbrev Known : Site → Type 0
  Known = Place p T (numbers_of p) h.legal h.placed h.names h.small

  abbrev Check : CheckSite → Type 0
  Check = Checked p T (numbers_of p) h.legal h.placed h.names h.small

  abbrev programs : Programs
  programs = programs_of (normal_rewrite p [])

  abbrev premises : TextPremises p programs.made programs.is_old programs.is_fixed (StandsWhole T)
  premises = text p T (numbers_of p) h.legal h.placed h.names h.small

  -- ---- the places of the program

  both-known : (xs : List Site) → AllByRecursion IsMet xs → AllByRecursion (IsLocal T programs.is_fixed) xs → AllByRecursion Known xs
  both-known [] m l = tt
  both-known (x ∷ xs) m l = ((m.0, l.0), both-known xs m.1 l.1)

  all-known : AllByRecursion Known (sites p)
  all-known = both-known (sites p) (all_met p h.legal.type_rules) premises.local

  abbrev main_scope : Scope
  main_scope = inner_scope (after_decls (first_scope p.name) p.decls)

  abbrev main_around : CheckScope
  main_around = check.after_decls (check.around_program p) p.decls

  abbrev decl_places : List Site
  decl_places = decls_sites (first_scope p.name) p.decls

  abbrev body_places : List Site
  body_places = body_sites main_scope p.body

  abbrev first_places : List Site
  first_places = names_sites true before_all (p.name ∷ [])

  decls-part : (Q : Site → Type 0) → AllByRecursion Q (sites p) → AllByRecursion Q decl_places
  decls-part Q i = all_back Q first_places decl_places (all_front Q (first_places ++ decl_places) body_places i)

  body-part : (Q : Site → Type 0) → AllByRecursion Q (sites p) → AllByRecursion Q body_places
  body-part Q i = all_back Q (first_places ++ decl_places) body_places i

  abbrev decl_checks : List CheckSite
  decl_checks = check.decls_sites (check.around_program p) (check.body_names p.decls) p.decls

  abbrev body_checks : List CheckSite
  body_checks = check.body_sites main_around 1 p.body

  all-checked : AllByRecursion Check (decl_checks ++ body_checks)
  all-checked = all_front Check (decl_checks ++ body_checks) (check.counted_sites (check.around_program p) p) (all_check_met p Original h.legal.check_rules).1

  at-first : MainSeen p T [] p.decls (first_scope p.name) (check.around_program p)
  at-first = first-seen p T (declared_once p h.legal.type_rules).0

  apart : ObjectsApart p.decls
  apart = objects-apart p T p.decls (first_scope p.name) (decls-part IsMet (all_met p h.legal.type_rules))

  at-last : (kinds : List PTask) × MainSeen p T kinds no_decl (after_decls (first_scope p.name) p.decls) main_around
  at-last = (_, decls-step p T p.decls [] (first_scope p.name) (check.around_program p) apart premises.ranged (declared_once p h.legal.type_rules).1 at-first)

  -- ---- doubles

  doubled : AllByRecursion (EntriesDoubled n.program.names) (tasks_of p)
  doubled =
      tasks-doubled n.program.names (decl_list p.decls)
      (decls-doubled p.names n.program.names (names-begin g (variables_needed g)) p.decls (check.around_program p) (check.body_names p.decls) h.placed.2 (all_front Check decl_checks body_checks all-checked))

  -- ---- main

  -- an accept stands in no body of main
  no-accept : (c : CheckScope) (x : PHead) → c.own ≡ None → accept_place c (accepts x) ≡ [] → ⊥
  no-accept c x own e = filled (ap (λ o. if not (is_own_entry o x.entry.name) || is_among c.accepting x.entry.name then x.span ∷ [] else []) (sym own) ∙ e)
    where
      filled : x.span ∷ [] ≡ [] → ⊥
      filled q = cc

  main-ready : AskedBody (ready_asks (main_unit n)) tt 1 p.body
  main-ready =
      ready-asked p T (numbers_of p) h.legal h.placed h.names h.small (main_unit n) doubled None main_scope.own
      (λ c k x rel i. absurd (no-accept c.0.1 x rel.0.own i.0.1.1.0.accepts)) main_scope main_around p.body
      (main-seen p T at-last.0 (after_decls (first_scope p.name) p.decls) main_around at-last.1) premises.typed.main refl
      (body-part Known all-known) (all_back Check decl_checks body_checks all-checked) h.placed.3

  -- ---- tasks

  tell : TellUnits g
  tell = record { declared = units_are_declared p T (legal_is_ordered p T (numbers_of p) h.legal h.placed); named = legal_names_tell p T (numbers_of p) h.legal h.placed h.names }

  -- a task beside main, in the order of the numbers
  record NumberedOf (place : ℕ) (info : TaskInfo) : Type 0 where
    numbered : NumberedTask
    is : IsTaskOf p T (suc place) numbered
    unit : numbered.unit.name.name.0 ≡ info.unit.0

  abbrev parts : PartsKnown p T
  parts = known p T (numbers_of p) h.legal h.placed h.names h.small

  numbered-of : (place : ℕ) (info : TaskInfo) → slice_get (tasks_beside g) place ≡ Some info → NumberedOf place info
  numbered-of place info at =
      let x = mapped-place p T parts (numbered_tasks T p) place info at in
      record {
        numbered = x.0;
        is = record { place = place; number = refl; numbered_task = x.1; unit = holds_at (λ (y : NumberedTask). IsUnit p T y.unit) (numbered_tasks T p) place x.0 x.1 (numbered-tasks-units p T parts) };
        unit = ap (λ (i : TaskInfo). i.unit.0) (sym x.2);
      }

  -- each task is found by its own name in the normal form
  task-by-name : (t : ℕ) (info : TaskInfo) → slice_get (tasks_beside g) t ≡ Some info → task_named n.numbers (task_name g info) ≡ Some (suc t)
  task-by-name t info at =
      let x : NumberedOf t info = numbered-of t info at in
      let facts = joined.facts p T (numbers_of p) h.legal h.placed h.names [] (StandsWhole T) (fields.premises p T (numbers_of p) h.legal h.placed h.names h.small []) in
      ap (λ o. task_named n.numbers (name_of_task g o)) (sym at) ∙ facts.named (suc t) x.numbered x.is

  -- what is so of the member of an entry in the program is so in the normal form
  head-tight : (t : ℕ) (info : TaskInfo) (x : PHead) → slice_get (tasks_beside g) t ≡ Some info → ((s : Span) → IsOperand (member_number g s (entry_of (numbers_of p) (suc t) x.entry.name) x.index)) →
      (s : Span) → IsOperand (member_number n s (entry_of (numbers_of p) (unit_for n (task_name g info)).task x.entry.name) x.index)
  head-tight t info x at tight s = go x.index (tight s)
    where
      number : (unit_for n (task_name g info)).task ≡ suc t
      number = unit-number p T (numbers_of p) tell (task_name g info) (suc t) (task-by-name t info at)

      same : family_range n (entry_of (numbers_of p) (unit_for n (task_name g info)).task x.entry.name) ≡ family_range g (entry_of (numbers_of p) (suc t) x.entry.name)
      same = ap (λ k. family_range n (entry_of (numbers_of p) k x.entry.name)) number ∙ family-kept p T (numbers_of p) tell t info x.entry.name at at

      go : (o : Option PExpr) → IsOperand (member_number g s (entry_of (numbers_of p) (suc t) x.entry.name) o) → IsOperand (member_number n s (entry_of (numbers_of p) (unit_for n (task_name g info)).task x.entry.name) o)
      go None i = i
      go (Some e) i = subst (λ r. IsOperand (number_in T s r e)) (sym same) i

  -- a task that runs the body of a name
  record Runs (w : NameId) (info : TaskInfo) : Type 0 where
    place : ℕ
    at : slice_get (tasks_beside g) place ≡ Some info
    unit : info.unit.0 ≡ w.0

  runs : (w : NameId) (info : TaskInfo) → IsAmong info (running g w) → Runs w info
  runs w info i =
      let there : AllByRecursion (λ (x : TaskInfo). (k : ℕ) × (slice_get (tasks_beside g) k ≡ Some x)) (tasks_beside g) = all_by_place (λ (x : TaskInfo). (k : ℕ) × (slice_get (tasks_beside g) k ≡ Some x)) (tasks_beside g) (λ k x e. (k, e)) in
      let one = among (λ (x : TaskInfo). (k : ℕ) × (slice_get (tasks_beside g) k ≡ Some x)) info (running g w) i (all_kept (λ (x : TaskInfo). (k : ℕ) × (slice_get (tasks_beside g) k ≡ Some x)) (λ (x : TaskInfo). x.unit.0 == w.0) (tasks_beside g) there) in
      let passes : (info.unit.0 == w.0) ≡ true = among (λ (x : TaskInfo). (x.unit.0 == w.0) ≡ true) info (running g w) i (all-pass (λ (x : TaskInfo). x.unit.0 == w.0) (tasks_beside g)) in
      record { place = one.0; at = one.1; unit = eqb-true info.unit.0 w.0 passes }

  met : (xs : List Site) → AllByRecursion Known xs → AllByRecursion IsMet xs
  met xs m = all_weaker Known IsMet xs (λ x i. i.0) m

  small-index : (k : ℕ) (x : PHead) → IfSome x.index (EveryExpr (well_placed p.names) (k + 1)) → (e : PExpr) → x.index ≡ Some e → HasSmallLiterals e
  small-index k x every e q = small-literals p.names (k + 1) e (subst (λ o. IfSome o (EveryExpr (well_placed p.names) (k + 1))) q every)

  -- ---- declarations

  abbrev Here : Scope → PDecls → Type 0
  Here s ds = BodiesTyped p T Known Check (text_rules (own_name p)) (StandsWhole T) s ds × AtBodies (λ q. AllByRecursion (IsUnitOrNot (S p h) q) (tasks_of p)) s ds

  -- what is known before some declarations of main
  record IsBefore (kinds : List PTask) (ds : PDecls) (s : Scope) (c : CheckScope) : Type 0 where
    apart : ObjectsApart ds
    ranged : AreRanged T s ds
    once : DeclareOnce s ds
    seen : MainSeen p T kinds ds s c
    here : Here s ds
    every : EveryDecls (well_placed p.names) ds
    known : AllByRecursion Known (decls_sites s ds)
    checks : AllByRecursion Check (check.decls_sites c (check.body_names p.decls) ds)

  next : (d : PDecl) (rest : PDecls) (kinds : List PTask) (s : Scope) (c : CheckScope) → IsBefore kinds (decl_then d rest) s c → Here (after_decl s d) rest → IsBefore (types_after p T kinds d) rest (after_decl s d) (check.after_decl c d)
  next d rest kinds s c b here = record {
    apart = b.apart.1;
    ranged = b.ranged.1;
    once = b.once.1;
    seen = decl-step p T d kinds rest s c b.apart.0 b.ranged.0 b.once.0 b.seen;
    here = here;
    every = b.every.1;
    known = all_back Known (decl_sites s d) (decls_sites (after_decl s d) rest) b.known;
    checks = all_back Check (check.decl_sites c (check.body_names p.decls) d) (check.decls_sites (check.after_decl c d) (check.body_names p.decls) rest) b.checks;
  }

  one-ready : (w : Word) (objects : PDecls) (its : PBody) (sp : Span) (rest : PDecls) (kinds : List PTask) (s : Scope) (c : CheckScope) → IsBefore kinds (decl_then (DTaskBody w objects its sp) rest) s c → ReadyBody g (DTaskBody w objects its sp)
  one-ready w objects its sp rest kinds s c b = λ info i.
      let d : PDecl = DTaskBody w objects its sp in
      let scope : Scope = inner_scope (after_objects (in_body s w) objects) in
      let around : CheckScope = check.after_own (check.in_body c w) objects in
      let places = all_front Known (decl_sites s d) (decls_sites (after_decl s d) rest) b.known in
      let checks = all_front Check (check.decl_sites c (check.body_names p.decls) d) (check.decls_sites (check.after_decl c d) (check.body_names p.decls) rest) b.checks in
      let seen : TaskSeen p T w scope around = task-seen p T kinds w objects its sp rest s c b.seen places.0.0.known in
      let unit : IsUnitOrNot (S p h) s seen.task = find-all (IsUnitOrNot (S p h) s) (λ (z : PTask). z.name.name.0 == seen.task.name.name.0) (tasks_of p) seen.task b.here.1.0 seen.seen.own.0.unit in
      let r : Runs w.name info = runs w.name info i in
      let x : NumberedOf r.place info = numbered-of r.place info r.at in
      ready-asked p T (numbers_of p) h.legal h.placed h.names h.small (unit_for n (task_name g info)) doubled (Some seen.task) (entries_in (S p h) seen.task)
      (λ e k y rel j m. head-tight r.place info y r.at
      (head-operand p h seen.task e.0.0 e.0.1 y rel.0 rel.1 rel.2 j.0.1.1.0.accepts (met (head_sites e.0.0 y) j.0.0) (suc r.place) x.numbered x.is
      (one-unit p T parts x.numbered.unit seen.task x.is.unit seen.seen.own.0.unit (x.unit ∙ r.unit ∙ sym seen.named)) y.index refl (small-index k y j.1.1.1)))
      scope around its seen.seen b.here.0.0
      (objects_own objects (in_body s w) ∙ body-own (S p h) s w seen.task seen.named unit places.0.0.known)
      (all_back Known (own_sites (in_body s w) objects) (body_sites scope its) places.1)
      (all_back Check (check.own_sites (check.in_body c w) objects) (check.body_sites around 1 its) checks) b.every.0.4

  all-ready : (ds : PDecls) (kinds : List PTask) (s : Scope) (c : CheckScope) → IsBefore kinds ds s c → AllByRecursion (ReadyBody g) (decl_list ds)
  all-ready no_decl kinds s c b = tt
  all-ready (decl_then (DTaskBody w objects its sp) rest) kinds s c b = (one-ready w objects its sp rest kinds s c b, all-ready rest _ _ _ (next (DTaskBody w objects its sp) rest kinds s c b (b.here.0.1, b.here.1.1)))
  all-ready (decl_then (DNumber w e sp) rest) kinds s c b = (tt, all-ready rest _ _ _ (next (DNumber w e sp) rest kinds s c b b.here))
  all-ready (decl_then (DObject ws k x i sp) rest) kinds s c b = (tt, all-ready rest _ _ _ (next (DObject ws k x i sp) rest kinds s c b b.here))
  all-ready (decl_then (DEnumeration w ws sp) rest) kinds s c b = (tt, all-ready rest _ _ _ (next (DEnumeration w ws sp) rest kinds s c b b.here))
  all-ready (decl_then (DArray w i x sp) rest) kinds s c b = (tt, all-ready rest _ _ _ (next (DArray w i x sp) rest kinds s c b b.here))
  all-ready (decl_then (DSubtype w x sp) rest) kinds s c b = (tt, all-ready rest _ _ _ (next (DSubtype w x sp) rest kinds s c b b.here))
  all-ready (decl_then (DException ws sp) rest) kinds s c b = (tt, all-ready rest _ _ _ (next (DException ws sp) rest kinds s c b b.here))
  all-ready (decl_then (DIntIo w sp) rest) kinds s c b = (tt, all-ready rest _ _ _ (next (DIntIo w sp) rest kinds s c b b.here))
  all-ready (decl_then (DPragma e sp) rest) kinds s c b = (tt, all-ready rest _ _ _ (next (DPragma e sp) rest kinds s c b b.here))
  all-ready (decl_then (DTask t sp) rest) kinds s c b = (tt, all-ready rest _ _ _ (next (DTask t sp) rest kinds s c b b.here))

  bodies-ready : AllByRecursion (ReadyBody g) (decl_list p.decls)
  bodies-ready = all-ready p.decls [] (first_scope p.name) (check.around_program p) record {
    apart = apart;
    ranged = premises.ranged;
    once = (declared_once p h.legal.type_rules).1;
    seen = at-first;
    here = (premises.typed.bodies, units-seen p h);
    every = h.placed.2;
    known = decls-part Known all-known;
    checks = all_front Check decl_checks body_checks all-checked;
  }

  -- ---- numbers

  tasks-few : length n.numbers.tasks ≤ 202
  tasks-few =
      let few : length (numbers_of p).tasks ≤ 201 = tasks-within p h.legal.check_rules in
      let beside : length (tasks_beside g) ≤ length (numbers_of p).tasks = drop-length (numbers_of p).tasks in
      let more : length (drop 1 n.numbers.tasks) ≤ length (tasks_beside g) =
      no-longer (λ info. task_info n.program.names (task_name g info)) (drop 1 n.numbers.tasks) (tasks_beside g) (tasks_keep_numbers p T (numbers_of p) tell) in
      omega (arith, few, beside, more)

  -- The program is ready.
  pub is-ready : IsReady g
  is-ready = record {
    main = main-ready;
    bodies = bodies-ready;
    few_numbers = omega (arith, tasks-within p h.legal.check_rules);
    few_tasks = omega (arith, tasks-few);
    few_entries = omega (arith, entries-within p h.legal.check_rules);
  }
