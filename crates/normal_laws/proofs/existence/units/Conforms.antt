-- Accepts conform to their entries: in the body of a task each accept is of an entry of the task, and has the modes and marks of its formals.
use Rattle.std.proofs.Common.{◌≡◌, ℕ, zero, suc, Bool, true, false, not, ◌||◌, ◌&&◌, ◌==◌, if◌then◌else◌, List, [], ◌∷◌, ◌++◌, map, find, unwrap_or, slice_get, Option, Some, None, refl, sym, ap, subst, ◌∙◌, true≢false, arith}
use Rattle.std.specs.List.{AllByRecursion}
use Rattle.std.proofs.lemmas.Bool.{eqb-true, eq-eqb, ne_eqb, or_parts}
use Rattle.std.proofs.lemmas.Option.{none-some}
use Rattle.std.proofs.lemmas.List.{append_assoc}
use Rattle.ada_tree.specs.declared.naming.NameId.{NameId}
use Rattle.ada_tree.specs.declared.naming.Word.{Word}
use Rattle.ada_tree.specs.TypeTable.{TypeTable}
use Rattle.ada_tree.specs.PlainStmt.{PHead, PScheme, LWhile, LFor, PBody}
use Rattle.ada_tree.specs.PlainDecl.{OPlain, OArray, PEntry, PTask, PDecl, DNumber, DObject, DEnumeration, DArray, DSubtype, DException, DIntIo, DPragma, DTask, DTaskBody, PDecls, no_decl, decl_then}
use Rattle.ada_tree.specs.PlainProgram.{PProgram}
use Rattle.ada_tree.specs.Every.{EveryBody, EveryDecl, EveryDecls}
use Rattle.ada_tree.specs.WellPlaced.{tokens, HasTokens}
use Rattle.ada_static_rules.specs.Refusals.{MeetsTypeRules, types_in}
use Rattle.ada_static_rules.specs.Scope.{Scope, Thing, TypeMark, TaskType, SingleTask, TaskObject, TaskArray, Variable, ConstantObject, Parameter, LoopParameter, Literal, AnException, MainProcedure, AnotherUnit, Unclear, EntryPart, meaning, entry_named}
use Rattle.ada_static_rules.specs.Sites.{head_sites, body_sites, decl_sites, decls_sites, own_sites, loop_scope}
use Rattle.ada_static_rules.specs.Declaring.{first_scope, inner_scope, formal_parts, entry_part, own_entries, in_body, after_objects, after_decl, after_decls}
use Rattle.ada_static_rules.specs.RuleUnknown.{no_body_of}
use Rattle.ada_static_rules.specs.RuleArgCount.{written_formals, are_same, fits_accept, wrong_accept}
use Rattle.syn_event.specs.declared.numbering.Mode.{Mode}
use Rattle.syn_event.specs.declared.numbering.TaskInfo.{TaskInfo}
use Rattle.syn_event.specs.declared.meanings.Meant.{Meant}
use Rattle.syn_event.specs.declared.meanings.Meant.TheVariants as meant
use Rattle.syn_event.specs.CheckScope.{EnclosingUnit as CheckUnit, CheckScope, CheckSite, declares, meaning as check_meaning}
use Rattle.syn_event.specs.CheckSites as check
use Rattle.syn_event.specs.CheckRefusals.{MeetsCheckRules}
use Rattle.syn_event.specs.RuleAcceptPlace.{is_among, is_own_entry}
use Rattle.syn_event.specs.DeclaredTasks.{tasks_of, tasks_in, decl_list}
use Rattle.syn_event.specs.Numbering.{task_at, Numbering}
use Rattle.syn_event.specs.AllNumbers.{all_numbers, info_of_task}
use Rattle.syn_event.specs.NamedTasks.{NumberedTask, numbered_tasks, task_names_of}
use Rattle.task_model.specs.Setting.{Setting, unit_named, parameters_of}
use Rattle.task_model.specs.Starting.{unit_among, unit_of_info, unit_of}
use Rattle.task_laws.specs.invariants.AcceptHeads.{InBody}
use Rattle.task_laws.specs.invariants.Worlds.{Conforms}
use Rattle.task_laws.specs.translation.OldTexts.{Asked, OldBody}
use Rattle.task_laws.specs.legal.rewritten_types.Rewriting.{IsUsed, IsUnused, names_declared, DeclareOnce}
use Rattle.task_laws.proofs.legal.rewritten_types.Lookups.{find-only, place-all}
use Rattle.task_laws.proofs.legal.rewritten_types.Refused.{declared_once}
use Rattle.normal_laws.proofs.structure.units.Declared.{parts-all, numbered-tasks-all}
use Rattle.normal_laws.specs.existence.accepting.Laws.{HasFormals}
use Rattle.normal_laws.specs.existence.inner.Gives.{Known, Gives}
use Rattle.normal_laws.proofs.existence.walked_statements.Walk.{body-as-asked}
use Rattle.normal_laws.proofs.structure.entries.Entries.{IsTaskOf, mapped-at, entry-there}
use Rattle.task_laws.specs.legal.sites.Met.{IsMet, IsCheckMet}
use Rattle.task_laws.proofs.legal.sites.Meeting.{all_met, all_check_met}
use Rattle.task_laws.proofs.legal.sites.Around.{test-fails}
use Rattle.normal_laws.proofs.existence.units.AcceptHeads.{in-body}
use Rattle.normal_laws.proofs.existence.units.Alike.{formals-same, alike-same}
use Rattle.normal_laws.proofs.existence.units.Seen.{is_task, IsSeen, AreSeen, tasks_of_decl, decl-seen, first-seen, others-before}
use Rattle.common_lemmas.proofs.Lists.{all_back, all_front, find_front, found_none, not_empty}
use Rattle.common_lemmas.proofs.Options.{some_same}
use Rattle.common_lemmas.proofs.Truth.{and_both}
use Rattle.ada_static_rules.proofs.found_twice.Declared.{objects_own, formals_own}

-- ---- what stays in a body

meant-own : (m : Meant) (ws : List Word) (c : CheckScope) → (check.with_meant m c ws).own ≡ c.own
meant-own m [] c = refl
meant-own m (w ∷ ws) c = meant-own m ws (record c { names = (w.name.0, m) ∷ c.names })

loop-own : (x : Option PScheme) (s : Scope) → (loop_scope s x).own ≡ s.own
loop-own None s = refl
loop-own (Some (LWhile e)) s = refl
loop-own (Some (LFor w r y)) s = refl

loop-check-own : (w : Option Word) (x : Option PScheme) (c : CheckScope) → (check.in_loop c w x).own ≡ c.own
loop-check-own w None c = refl
loop-check-own w (Some (LWhile e)) c = refl
loop-check-own w (Some (LFor v r y)) c = refl

object-check-own : (d : PDecl) (c : CheckScope) → (check.after_own_object c d).own ≡ c.own
object-check-own (DObject ws k x i sp) c = meant-own meant.Inner ws c
object-check-own (DNumber w e sp) c = refl
object-check-own (DEnumeration w ws sp) c = refl
object-check-own (DArray w i x sp) c = refl
object-check-own (DSubtype w x sp) c = refl
object-check-own (DException ws sp) c = refl
object-check-own (DIntIo w sp) c = refl
object-check-own (DPragma e sp) c = refl
object-check-own (DTask t sp) c = refl
object-check-own (DTaskBody w ds b sp) c = refl

pub objects-check-own : (ds : PDecls) (c : CheckScope) → (check.after_own c ds).own ≡ c.own
objects-check-own no_decl c = refl
objects-check-own (decl_then d rest) c = objects-check-own rest (check.after_own_object c d) ∙ object-check-own d c

-- ---- heads

-- an accept of an entry of the task, with the formals of that entry
pub record HeadFits (t : PTask) (h : PHead) : Type 0 where
  pub entry : PEntry
  pub named : find (λ e. e.name.name.0 == h.entry.name.0) t.entries ≡ Some entry
  pub around : Scope
  pub same : are_same (written_formals h.formals) (formal_parts around entry.formals) ≡ true

among-found : (es : List PEntry) (id : NameId) → is_among (map (λ e. e.name.name) es) id ≡ true → (e : PEntry) × (find (λ x. x.name.name.0 == id.0) es ≡ Some e)
among-found [] id h = absurd (true≢false (sym h))
among-found (e ∷ es) id h = by_test (e.name.name.0 == id.0) h (among-found es id)
  where
    by_test : (b : Bool) → (b || is_among (map (λ (x : PEntry). x.name.name) es) id) ≡ true → (is_among (map (λ (x : PEntry). x.name.name) es) id ≡ true → (x : PEntry) × (find (λ y. y.name.name.0 == id.0) es ≡ Some x)) →
        (x : PEntry) × ((if b then Some e else find (λ y. y.name.name.0 == id.0) es) ≡ Some x)
    by_test true f rest = (e, refl)
    by_test false f rest = rest f

named-found : (around : Scope) (es : List PEntry) (id : NameId) (e : PEntry) → find (λ x. x.name.name.0 == id.0) es ≡ Some e → entry_named (map (entry_part around) es) id ≡ Some (entry_part around e)
named-found around [] id e h = absurd (none-some e h)
named-found around (x ∷ es) id e h = by_test (x.name.name.0 == id.0) h (named-found around es id e)
  where
    by_test : (b : Bool) → (if b then Some x else find (λ y. y.name.name.0 == id.0) es) ≡ Some e → (find (λ y. y.name.name.0 == id.0) es ≡ Some e → entry_named (map (entry_part around) es) id ≡ Some (entry_part around e)) →
        (if b then Some (entry_part around x) else entry_named (map (entry_part around) es) id) ≡ Some (entry_part around e)
    by_test true f rest = ap (λ (y : PEntry). Some (entry_part around y)) (some_same f)
    by_test false f rest = rest f

not-false : (b : Bool) → not b ≡ false → b ≡ true
not-false true e = refl
not-false false e = absurd (true≢false e)

module _ (mode : Mode) (names : List (List ℕ)) where
  abbrev M : CheckSite → Type 0
  M x = IsCheckMet mode names x

  -- the accept is of an entry of the task around it
  own-entry : (c : CheckScope) (n : ℕ) (h : PHead) → AllByRecursion M (check.head_sites c n h) → is_own_entry c.own h.entry.name ≡ true
  own-entry c n h m = not-false (is_own_entry c.own h.entry.name) (or_parts (not (is_own_entry c.own h.entry.name)) (is_among c.accepting h.entry.name) (test-fails _ h.span m.1.0.accepts)).0

  head-fits : (t : PTask) (around : Scope) (s : Scope) (c : CheckScope) (n : ℕ) (h : PHead) → s.own ≡ map (entry_part around) t.entries → c.own ≡ Some (check.enclosing_unit t) →
      AllByRecursion IsMet (head_sites s h) → AllByRecursion M (check.head_sites c n h) → HeadFits t h
  head-fits t around s c n h e f k m =
      let found = among-found t.entries h.entry.name (ap (λ o. is_own_entry o h.entry.name) (sym f) ∙ own-entry c n h m) in
      let part : entry_named s.own h.entry.name ≡ Some (entry_part around found.0) = ap (λ l. entry_named l h.entry.name) e ∙ named-found around t.entries h.entry.name found.0 found.1 in
      let counted : wrong_accept (Some (entry_part around found.0)) h ≡ [] = ap (λ o. wrong_accept o h) (sym part) ∙ k.0.counted in
      let fits = not-false (fits_accept (entry_part around found.0).family h.index && are_same (written_formals h.formals) (formal_parts around found.0.formals)) (test-fails _ h.entry.span counted) in
      record { entry = found.0; named = found.1; around = around; same = (and_both (fits_accept (entry_part around found.0).family h.index) _ fits).1 }

module _ (mode : Mode) (p : PProgram) where
  abbrev T : TypeTable
  T = types_in p

  abbrev numbers : Numbering
  numbers = all_numbers T p

  abbrev g : Setting
  g = record { program = p; types = T; numbers = numbers }

  abbrev met : CheckSite → Type 0
  met x = IsCheckMet mode p.names x

  -- only heads of accepts are asked for
  abbrev asked : (PHead → Type 0) → Asked
  asked H = record {
    programs = record { original = g; made = g; is_old = λ n. true; is_fixed = λ n. false; is_known = λ k. true };
    call = λ x. Unit {0};
    callee = λ x. Unit {0};
    head = H;
    wait = λ x. Unit {0};
  }

  -- a place in the body of a task
  pub record IsIn (entries : List EntryPart) (unit : Option CheckUnit) (s : Scope) (c : CheckScope) : Type 0 where
    pub own : s.own ≡ entries
    pub unit_is : c.own ≡ unit

  abbrev known : List EntryPart → Option CheckUnit → Known
  known entries unit = record { place = IsMet; check_place = met; scopes = IsIn entries unit }

  gives : (entries : List EntryPart) (unit : Option CheckUnit) (H : PHead → Type 0) →
      ((s : Scope) (c : CheckScope) (n : ℕ) (h : PHead) → IsIn entries unit s c → AllByRecursion IsMet (head_sites s h) → AllByRecursion met (check.head_sites c n h) → H h) →
      Gives (asked H) (tokens p.names) (known entries unit)
  gives entries unit H f = record {
    old = λ id h. refl;
    free = λ s w h. refl;
    mark = λ s c w k h. refl;
    callee = λ s c n x k e h m. tt;
    call = λ s c n x k e o h m. tt;
    head = λ s c n h k e l m. f s c n h k l m;
    wait = λ c x others t m. tt;
    in_accept = λ s c n h k l m. record { own = formals_own h.formals (inner_scope s) ∙ k.own; unit_is = meant-own meant.Inner (check.formal_names h.formals) _ ∙ k.unit_is };
    handling = λ s c k. record { own = k.own; unit_is = k.unit_is };
    looping = λ s c w x k h. record { own = loop-own x s ∙ k.own; unit_is = loop-check-own w x c ∙ k.unit_is };
  }

  -- ---- bodies

  -- a task is found by its name, and a body is that of a task and has accepts that fit
  pub record BodyFits (w : Word) (b : PBody) : Type 0 where
    pub task : PTask
    pub named : unit_named p w.name ≡ Some task
    pub fits : OldBody (asked (HeadFits task)) b

  abbrev pub DeclFits : PDecl → Type 0
  DeclFits (DTask t sp) = unit_named p t.name.name ≡ Some t
  DeclFits (DTaskBody w ds b sp) = BodyFits w b
  DeclFits _ = Unit {0}

  abbrev pub DeclsFit : PDecls → Type 0
  DeclsFit no_decl = Unit {0}
  DeclsFit (decl_then d rest) = DeclFits d × DeclsFit rest

  -- the unit whose body stands there
  unit-seen : (done : List PTask) (units : List CheckUnit) (s : Scope) (w : Word) → AreSeen done units s → no_body_of (meaning s w.name) w ≡ [] → IsSeen done units w.name (own_entries (meaning s w.name))
  unit-seen done units s w h n = by_thing (meaning s w.name) refl n
    where
      by_thing : (o : Option Thing) → meaning s w.name ≡ o → no_body_of o w ≡ [] → IsSeen done units w.name (own_entries o)
      by_thing (Some (SingleTask es)) e k = h.things w.name (SingleTask es) e
      by_thing (Some (TaskType es)) e k = h.things w.name (TaskType es) e
      by_thing (Some (TypeMark m)) e k = absurd (not_empty _ _ k)
      by_thing (Some (TaskObject es)) e k = absurd (not_empty _ _ k)
      by_thing (Some (TaskArray r es)) e k = absurd (not_empty _ _ k)
      by_thing (Some (Variable m)) e k = absurd (not_empty _ _ k)
      by_thing (Some (ConstantObject m)) e k = absurd (not_empty _ _ k)
      by_thing (Some (Parameter mode m)) e k = absurd (not_empty _ _ k)
      by_thing (Some (LoopParameter m)) e k = absurd (not_empty _ _ k)
      by_thing (Some (Literal m)) e k = absurd (not_empty _ _ k)
      by_thing (Some AnException) e k = absurd (not_empty _ _ k)
      by_thing (Some MainProcedure) e k = absurd (not_empty _ _ k)
      by_thing (Some AnotherUnit) e k = absurd (not_empty _ _ k)
      by_thing (Some Unclear) e k = absurd (not_empty _ _ k)
      by_thing None e k = absurd (not_empty _ _ k)

  body-fits : (done rest : List PTask) (w : Word) (ds : PDecls) (b : PBody) (s : Scope) (c : CheckScope) → tasks_of p ≡ done ++ rest → AreSeen done c.units s → no_body_of (meaning s w.name) w ≡ [] → EveryBody (tokens p.names) 1 b →
      AllByRecursion IsMet (body_sites (inner_scope (after_objects (in_body s w) ds)) b) → AllByRecursion met (check.body_sites (check.after_own (check.in_body c w) ds) 1 b) → BodyFits w b
  body-fits done rest w ds b s c tasks seen named has h m =
      let u = unit-seen done c.units s w seen named in
      record {
        task = u.task;
        named = ap (find (is_task w.name)) tasks ∙ find_front (is_task w.name) done rest u.task u.found;
        fits = body-as-asked (asked (HeadFits u.task)) (tokens p.names) (known (map (entry_part u.around) u.task.entries) (Some (check.enclosing_unit u.task)))
            (gives (map (entry_part u.around) u.task.entries) (Some (check.enclosing_unit u.task)) (HeadFits u.task) (λ s c n h k l q. head-fits mode p.names u.task u.around s c n h k.own k.unit_is l q))
            b (inner_scope (after_objects (in_body s w) ds)) (check.after_own (check.in_body c w) ds) 1
            record {
              own = objects_own ds (in_body s w) ∙ u.entries;
              unit_is = objects-check-own ds (check.in_body c w) ∙ ap (λ o. Some (unwrap_or o (record { name = w.name; entries = [] }))) u.unit;
            }
            has h m;
      }

  tasks-step : (d : PDecl) (rest : PDecls) → tasks_in (decl_list (decl_then d rest)) ≡ tasks_of_decl d ++ tasks_in (decl_list rest)
  tasks-step (DTask t sp) rest = refl
  tasks-step (DNumber w e sp) rest = refl
  tasks-step (DObject ws k x i sp) rest = refl
  tasks-step (DEnumeration w ws sp) rest = refl
  tasks-step (DArray w i x sp) rest = refl
  tasks-step (DSubtype w x sp) rest = refl
  tasks-step (DException ws sp) rest = refl
  tasks-step (DIntIo w sp) rest = refl
  tasks-step (DPragma e sp) rest = refl
  tasks-step (DTaskBody w ds b sp) rest = refl

  -- the task that was declared last is found by its name
  last-named : (done rest : List PTask) (t : PTask) (s : Scope) → tasks_of p ≡ (done ++ t ∷ []) ++ rest → IsUnused s t.name → AllByRecursion (λ (x : PTask). IsUsed s x.name.name) done → unit_named p t.name.name ≡ Some t
  last-named done rest t s e u h =
      ap (find (is_task t.name.name)) e
      ∙ find_front (is_task t.name.name) (done ++ t ∷ []) rest t
      (find-only (is_task t.name.name) done t (found_none (is_task t.name.name) done (others-before done s t.name t.name.name refl u h)) (eq-eqb t.name.name.0 t.name.name.0 refl))

  next-tasks : (done : List PTask) (d : PDecl) (rest : PDecls) → tasks_of p ≡ done ++ tasks_in (decl_list (decl_then d rest)) → tasks_of p ≡ (done ++ tasks_of_decl d) ++ tasks_in (decl_list rest)
  next-tasks done d rest e = e ∙ ap (λ (l : List PTask). done ++ l) (tasks-step d rest) ∙ sym (append_assoc done (tasks_of_decl d) (tasks_in (decl_list rest)))

  decl-fits : (d : PDecl) (rest : PDecls) (done : List PTask) (bodies : List ℕ) (s : Scope) (c : CheckScope) → tasks_of p ≡ done ++ tasks_in (decl_list (decl_then d rest)) → AllByRecursion (IsUnused s) (names_declared d) → AreSeen done c.units s →
      EveryDecl (tokens p.names) d → AllByRecursion IsMet (decl_sites s d) → AllByRecursion met (check.decl_sites c bodies d) → DeclFits d
  decl-fits (DTask t sp) rest done bodies s c e u seen has h m = last-named done (tasks_in (decl_list rest)) t s (next-tasks done (DTask t sp) rest e) u.0 seen.used
  decl-fits (DTaskBody w ds b sp) rest done bodies s c e u seen has h m =
      body-fits done (tasks_in (decl_list rest)) w ds b s c e seen h.0.known has.4
      (all_back IsMet (own_sites (in_body s w) ds) (body_sites (inner_scope (after_objects (in_body s w) ds)) b) h.1)
      (all_back met (check.own_sites (check.in_body c w) ds) (check.body_sites (check.after_own (check.in_body c w) ds) 1 b) m)
  decl-fits (DNumber w x sp) rest done bodies s c e u seen has h m = tt
  decl-fits (DObject ws k x i sp) rest done bodies s c e u seen has h m = tt
  decl-fits (DEnumeration w ws sp) rest done bodies s c e u seen has h m = tt
  decl-fits (DArray w i x sp) rest done bodies s c e u seen has h m = tt
  decl-fits (DSubtype w x sp) rest done bodies s c e u seen has h m = tt
  decl-fits (DException ws sp) rest done bodies s c e u seen has h m = tt
  decl-fits (DIntIo w sp) rest done bodies s c e u seen has h m = tt
  decl-fits (DPragma x sp) rest done bodies s c e u seen has h m = tt

  decls-fit : (ds : PDecls) (done : List PTask) (bodies : List ℕ) (s : Scope) (c : CheckScope) → tasks_of p ≡ done ++ tasks_in (decl_list ds) → DeclareOnce s ds → AreSeen done c.units s →
      EveryDecls (tokens p.names) ds → AllByRecursion IsMet (decls_sites s ds) → AllByRecursion met (check.decls_sites c bodies ds) → DeclsFit ds
  decls-fit no_decl done bodies s c e once seen has h m = tt
  decls-fit (decl_then d rest) done bodies s c e once seen has h m = (
    decl-fits d rest done bodies s c e once.0 seen has.0 (all_front IsMet (decl_sites s d) (decls_sites (after_decl s d) rest) h)
        (all_front met (check.decl_sites c bodies d) (check.decls_sites (check.after_decl c d) bodies rest) m),
    decls-fit rest (done ++ tasks_of_decl d) bodies (after_decl s d) (check.after_decl c d) (next-tasks done d rest e) once.1 (decl-seen done d s c once.0 seen) has.1
        (all_back IsMet (decl_sites s d) (decls_sites (after_decl s d) rest) h) (all_back met (check.decl_sites c bodies d) (check.decls_sites (check.after_decl c d) bodies rest) m),
  )

  -- ---- main

  value-own : (b : Bool) (ws : List Word) (c : CheckScope) → (check.with_declared_object b c ws).own ≡ c.own
  value-own true ws c = meant-own meant.Shared ws c
  value-own false ws c = refl

  with-object-own : (o : Option Meant) (mark : Word) (shared : Bool) (ws : List Word) (c : CheckScope) → (check.with_object c o mark shared ws).own ≡ c.own
  with-object-own (Some meant.TaskType) mark shared ws c = meant-own (meant.TaskOf mark.name) ws c
  with-object-own (Some meant.MainProcedure) mark shared ws c = value-own shared ws c
  with-object-own (Some (meant.TaskOf u)) mark shared ws c = value-own shared ws c
  with-object-own (Some meant.Shared) mark shared ws c = value-own shared ws c
  with-object-own (Some meant.Inner) mark shared ws c = value-own shared ws c
  with-object-own None mark shared ws c = value-own shared ws c

  decl-check-own : (d : PDecl) (c : CheckScope) → (check.after_decl c d).own ≡ c.own
  decl-check-own (DObject ws k (OPlain x) i sp) c = with-object-own (check_meaning c x.mark.name) x.mark _ ws c
  decl-check-own (DObject ws k (OArray r x) i sp) c = with-object-own (check_meaning c x.mark.name) x.mark true ws c
  decl-check-own (DTask t sp) c = refl
  decl-check-own (DNumber w e sp) c = refl
  decl-check-own (DEnumeration w ws sp) c = refl
  decl-check-own (DArray w i x sp) c = refl
  decl-check-own (DSubtype w x sp) c = refl
  decl-check-own (DException ws sp) c = refl
  decl-check-own (DIntIo w sp) c = refl
  decl-check-own (DPragma e sp) c = refl
  decl-check-own (DTaskBody w ds b sp) c = refl

  decls-check-own : (ds : PDecls) (c : CheckScope) → (check.after_decls c ds).own ≡ c.own
  decls-check-own no_decl c = refl
  decls-check-own (decl_then d rest) c = decls-check-own rest (check.after_decl c d) ∙ decl-check-own d c

  -- ---- units

  named-tasks : (ds : PDecls) → DeclsFit ds → AllByRecursion (λ (t : PTask). unit_named p t.name.name ≡ Some t) (tasks_in (decl_list ds))
  named-tasks no_decl h = tt
  named-tasks (decl_then (DTask t sp) rest) h = (h.0, named-tasks rest h.1)
  named-tasks (decl_then (DNumber w e sp) rest) h = named-tasks rest h.1
  named-tasks (decl_then (DObject ws k x i sp) rest) h = named-tasks rest h.1
  named-tasks (decl_then (DEnumeration w ws sp) rest) h = named-tasks rest h.1
  named-tasks (decl_then (DArray w i x sp) rest) h = named-tasks rest h.1
  named-tasks (decl_then (DSubtype w x sp) rest) h = named-tasks rest h.1
  named-tasks (decl_then (DException ws sp) rest) h = named-tasks rest h.1
  named-tasks (decl_then (DIntIo w sp) rest) h = named-tasks rest h.1
  named-tasks (decl_then (DPragma e sp) rest) h = named-tasks rest h.1
  named-tasks (decl_then (DTaskBody w ds b sp) rest) h = named-tasks rest h.1

  among-fits : (H : PHead → Type 0) (ds : PDecls) (id : NameId) (t : PTask) → DeclsFit ds → unit_named p id ≡ Some t → ((h : PHead) → HeadFits t h → H h) → InBody H (unit_among ds id).body
  among-fits H no_decl id t h e f = (tt, tt)
  among-fits H (decl_then (DTaskBody w ds b sp) rest) id t h e f = by_test (w.name.0 == id.0) refl (among-fits H rest id t h.1 e f)
    where
      by_test : (q : Bool) → (w.name.0 == id.0) ≡ q → InBody H (unit_among rest id).body → InBody H (unwrap_or (if q then Some (record { in_main = false; decls = ds; body = b }) else None) (unit_among rest id)).body
      by_test false g later = later
      by_test true g later =
          let same : h.0.task ≡ t = some_same (sym h.0.named ∙ ap (λ (n : ℕ). unit_named p record { 0 = n }) (eqb-true w.name.0 id.0 g) ∙ e) in
          in-body (asked (HeadFits h.0.task)) H (λ x y. f x (subst (λ u. HeadFits u x) same y)) h.0.fits
  among-fits H (decl_then (DTask x sp) rest) id t h e f = among-fits H rest id t h.1 e f
  among-fits H (decl_then (DNumber w x sp) rest) id t h e f = among-fits H rest id t h.1 e f
  among-fits H (decl_then (DObject ws k x i sp) rest) id t h e f = among-fits H rest id t h.1 e f
  among-fits H (decl_then (DEnumeration w ws sp) rest) id t h e f = among-fits H rest id t h.1 e f
  among-fits H (decl_then (DArray w i x sp) rest) id t h e f = among-fits H rest id t h.1 e f
  among-fits H (decl_then (DSubtype w x sp) rest) id t h e f = among-fits H rest id t h.1 e f
  among-fits H (decl_then (DException ws sp) rest) id t h e f = among-fits H rest id t h.1 e f
  among-fits H (decl_then (DIntIo w sp) rest) id t h e f = among-fits H rest id t h.1 e f
  among-fits H (decl_then (DPragma x sp) rest) id t h e f = among-fits H rest id t h.1 e f

  module _ (types : MeetsTypeRules p) (checks : MeetsCheckRules p mode) (has : HasTokens p) where
    abbrev c0 : CheckScope
    c0 = check.around_program p

    abbrev s0 : Scope
    s0 = first_scope p.name

    front : List CheckSite
    front = check.site c0 (declares p.name) ∷ check.decls_sites c0 (check.body_names p.decls) p.decls

    main : List CheckSite
    main = check.body_sites (check.after_decls c0 p.decls) 1 p.body

    places : AllByRecursion IsMet (decls_sites s0 p.decls ++ body_sites (inner_scope (after_decls s0 p.decls)) p.body)
    places = (all_met p types).1

    check-places : AllByRecursion met (front ++ main)
    unfolding front main
    check-places = all_front met (front ++ main) (check.counted_sites c0 p) (all_check_met p mode checks)

    fits : DeclsFit p.decls
    unfolding front main
    fits = decls-fit p.decls [] (check.body_names p.decls) s0 c0 refl (declared_once p types).1 (first-seen p.name) has.2 (all_front IsMet (decls_sites s0 p.decls) _ places) (all_front met front main check-places).1

    units-named : AllByRecursion (λ (x : NumberedTask). unit_named p x.unit.name.name ≡ Some x.unit) (numbered_tasks T p)
    units-named =
        let Q = λ (t : PTask). unit_named p t.name.name ≡ Some t in
        numbered-tasks-all Q T (task_names_of p) (parts-all Q p.decls [] tt (named-tasks p.decls fits))

    module _ (H : ℕ → PHead → Type 0) (from : (n : ℕ) (h : PHead) → HasFormals g n h → H n h) where
      main-conforms : InBody (H 0) p.body
      unfolding front main
      main-conforms =
          in-body (asked (H 0)) (H 0) (λ h k. k)
          (body-as-asked (asked (H 0)) (tokens p.names) (known (after_decls s0 p.decls).own None)
          (gives (after_decls s0 p.decls).own None (H 0) (λ s c n h k l q. absurd (true≢false (sym (ap (λ o. is_own_entry o h.entry.name) (sym k.unit_is) ∙ own-entry mode p.names c n h q)))))
          p.body (inner_scope (after_decls s0 p.decls)) (check.after_decls c0 p.decls) 1
          record { own = refl; unit_is = decls-check-own p.decls c0 } has.3 (all_back IsMet (decls_sites s0 p.decls) _ places) (all_back met front main check-places))

      head-conforms : (n : ℕ) (x : NumberedTask) → IsTaskOf p T n x → (h : PHead) → HeadFits x.unit h → H n h
      head-conforms n x is h k =
          let e = entry-there p T n x h.entry.name k.entry is k.named in
          from n h (subst (λ fs. parameters_of T h.formals ≡ parameters_of T fs) (sym e.formals) (formals-same T k.around k.entry.formals h.formals k.same))

      numbered-task-conforms : (n : ℕ) (o : Option NumberedTask) → slice_get (numbered_tasks T p) n ≡ o → (info : Option TaskInfo) → slice_get (map (info_of_task p.names) (numbered_tasks T p)) n ≡ info → InBody (H (suc n)) (unit_of_info p info).body
      numbered-task-conforms n o e None f = (tt, tt)
      numbered-task-conforms n None e (Some info) f = absurd (none-some info (sym (mapped-none (numbered_tasks T p) n e) ∙ f))
        where
          mapped-none : (xs : List NumberedTask) (k : ℕ) → slice_get xs k ≡ None → slice_get (map (info_of_task p.names) xs) k ≡ None
          mapped-none [] k q = refl
          mapped-none (y ∷ ys) zero q = absurd (none-some y (sym q))
          mapped-none (y ∷ ys) (suc k) q = mapped-none ys k q
      numbered-task-conforms n (Some x) e (Some info) f =
          let is : IsTaskOf p T (suc n) x = record { place = n; number = refl; numbered_task = e; unit = place-all (λ (y : NumberedTask). unit_named p y.unit.name.name ≡ Some y.unit) (numbered_tasks T p) n x units-named e } in
          let same : info_of_task p.names x ≡ info = some_same (sym (mapped-at p T (numbered_tasks T p) n x e) ∙ f) in
          subst (λ (i : TaskInfo). InBody (H (suc n)) (unit_among p.decls i.unit).body) same
          (among-fits (H (suc n)) p.decls x.unit.name.name x.unit fits is.unit (head-conforms (suc n) x is))

      -- What holds of each accept with the formals of its entry holds of each accept in the body of each task.
      pub heads-hold : (n : ℕ) → InBody (H n) (unit_of p numbers n).body
      heads-hold zero = main-conforms
      heads-hold (suc n) =
          subst (λ (b : Bool). InBody (H (suc n)) (if b then record { in_main = true; decls = p.decls; body = p.body } else unit_of_info p (task_at numbers (suc n))).body)
          (sym (ne_eqb (suc n) 0 (λ e. omega (arith, e)))) (numbered-task-conforms n (slice_get (numbered_tasks T p) n) refl (slice_get (map (info_of_task p.names) (numbered_tasks T p)) n) refl)

    -- Each accept in the body of each task conforms to its entry.
    pub conforms : (n : ℕ) → InBody (Conforms g n) (unit_of p numbers n).body
    conforms n = heads-hold (Conforms g) (λ k h e. alike-same _ _ e) n
