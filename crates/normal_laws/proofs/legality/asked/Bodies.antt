-- What is asked of the body of main and of each task body of a legal program, so that those of its normal form meet the static rules 1 and 3 to 12.
use Rattle.std.proofs.Common.{◌≡◌, ℕ, Bool, true, List, [], ◌∷◌, ◌++◌, Some, None, refl, ◌∙◌}
use Rattle.std.specs.List.{AllByRecursion}
use Rattle.common_lemmas.proofs.Lists.{all_front, all_back}
use Rattle.ada_tree.specs.NameList.{AreNames}
use Rattle.ada_tree.specs.declared.naming.Span.{Span}
use Rattle.ada_tree.specs.declared.naming.Word.{Word}
use Rattle.ada_tree.specs.TypeTable.{TypeTable}
use Rattle.ada_tree.specs.PlainStmt.{PBody}
use Rattle.ada_tree.specs.PlainDecl.{PTask, PDecl, DNumber, DObject, DEnumeration, DArray, DSubtype, DException, DIntIo, DPragma, DTask, DTaskBody, PDecls, no_decl, decl_then}
use Rattle.ada_tree.specs.PlainProgram.{PProgram}
use Rattle.ada_static_rules.specs.Refusals.{types_in}
use Rattle.ada_tree.specs.Every.{EveryDecls, EveryProgram}
use Rattle.ada_tree.specs.WellPlaced.{well_placed, IsWellPlaced}
use Rattle.ada_static_rules.specs.Demand.{Site}
use Rattle.ada_static_rules.specs.Scope.{Scope, EntryPart, meaning}
use Rattle.ada_static_rules.specs.Declaring.{before_all, first_scope, inner_scope, own_entries, in_body, after_objects, after_decl, after_decls}
use Rattle.ada_static_rules.specs.Sites.{names_sites, own_sites, decl_sites, decls_sites, body_sites, sites}
use Rattle.syn_event.specs.declared.numbering.Mode.TheVariants.{Original}
use Rattle.syn_event.specs.Legal.{Legal}
use Rattle.syn_event.specs.Numbering.{Numbering}
use Rattle.syn_event.specs.CheckScope.{CheckScope, CheckSite}
use Rattle.syn_event.specs.CheckSites as check
use Rattle.task_model.specs.Setting.{Setting}
use Rattle.task_laws.specs.legal.sites.Met.{IsMet}
use Rattle.task_laws.specs.legal.types.Typed.{IsSmall}
use Rattle.task_laws.proofs.legal.types.MainScopes.{StandsWhole}
use Rattle.task_laws.specs.legal.asked.Asked.{Asks, AskedBody}
use Rattle.task_laws.specs.legal.asked.Kinds.{place_asks, type_asks, both}
use Rattle.task_laws.specs.legal.rewritten_types.Rewriting.{DeclareOnce}
use Rattle.task_laws.proofs.legal.rewritten_types.Refused.{declared_once}
use Rattle.normal_laws.specs.structure.types.Own.{own_name}
use Rattle.task_laws.specs.translation.Translations.{Programs}
use Rattle.normal_laws.specs.runs.runs.Premises.{programs_of}
use Rattle.normal_laws.specs.runs.forms.Normalisable.{setting_for, normal_rewrite}
use Rattle.task_laws.proofs.legal.sites.Meeting.{all_met, all_check_met}
use Rattle.normal_laws.proofs.existence.seen_tasks.Parts.{AreRanged, MainSeen, ObjectsApart, types_after, decl-step}
use Rattle.normal_laws.proofs.existence.seen_tasks.Bodies.{first-seen, decls-step, main-seen, TaskSeen, task-seen}
use Rattle.normal_laws.proofs.existence.seen_tasks.Units.{BodiesTyped, objects-apart}
use Rattle.normal_laws.proofs.existence.statement_forms.Text.{IsLocal, text_rules, TextPremises}
use Rattle.normal_laws.specs.structure.checked.Around.{own_rules}
use Rattle.normal_laws.specs.structure.typed.ScopeOf.{IsPlaceOf, task_asks}
use Rattle.normal_laws.proofs.legality.asked.Inner.{places-of}
use Rattle.normal_laws.proofs.legality.asked.Tasks.{text}
use Rattle.normal_laws.proofs.legality.asked.Asked.{Place, Checked, body-asked, main-heads, task-heads}
use Rattle.ada_static_rules.proofs.found_twice.Declared.{objects_own, decl_own}

decls-own : (ds : PDecls) (s : Scope) → (after_decls s ds).own ≡ s.own
decls-own no_decl s = refl
decls-own (decl_then d rest) s = decls-own rest (after_decl s d) ∙ decl_own d s

-- what is asked of a body in a unit with these entries
abbrev pub body_asks : Setting → (ℕ → Bool) → List EntryPart → Asks (Prim.Unit {0} × (Scope × Prim.Unit {0}))
body_asks g own entries = both (place_asks (own_rules own)) (both (type_asks (IsPlaceOf g)) (task_asks g entries))

-- Each task body among declarations is as asked, where its statements begin.
abbrev pub BodiesAsked : Setting → (ℕ → Bool) → Scope → PDecls → Type 0
BodiesAsked g own s no_decl = Prim.Unit {0}
BodiesAsked g own s (decl_then (DTaskBody w objects its sp) rest) =
    AskedBody (body_asks g own (own_entries (meaning s w.name))) (tt, (inner_scope (after_objects (in_body s w) objects), tt)) 1 its × BodiesAsked g own (after_decl s (DTaskBody w objects its sp)) rest
BodiesAsked g own s (decl_then d rest) = BodiesAsked g own (after_decl s d) rest

module _ (p : PProgram) (types : TypeTable) (its_numbers : Numbering) (legal : Legal p types its_numbers Original) (placed : IsWellPlaced p) (names : AreNames p.names) (small : IsSmall (types_in p))
    (own : ℕ → Bool) (mine : EveryProgram (own_rules own) p) where
  abbrev T : TypeTable
  T = types_in p

  abbrev g : Setting
  g = setting_for p

  abbrev Known : Site → Type 0
  Known = Place p types its_numbers legal placed names small

  abbrev Check : CheckSite → Type 0
  Check = Checked p types its_numbers legal placed names small

  abbrev P : Site → Type 0
  P = IsPlaceOf g

  -- what is known before some declarations of main
  record IsBefore (kinds : List PTask) (ds : PDecls) (s : Scope) (c : CheckScope) (bodies : List ℕ) : Type 0 where
    apart : ObjectsApart ds
    ranged : AreRanged T s ds
    once : DeclareOnce s ds
    seen : MainSeen p T kinds ds s c
    typed : BodiesTyped p T Known Check (text_rules (own_name p)) (StandsWhole T) s ds
    every : EveryDecls (well_placed p.names) ds
    owned : EveryDecls (own_rules own) ds
    known : AllByRecursion Known (decls_sites s ds)
    places : AllByRecursion P (decls_sites s ds)
    checks : AllByRecursion Check (check.decls_sites c bodies ds)

  next : (d : PDecl) (rest : PDecls) (kinds : List PTask) (s : Scope) (c : CheckScope) (bodies : List ℕ) → IsBefore kinds (decl_then d rest) s c bodies → BodiesTyped p T Known Check (text_rules (own_name p)) (StandsWhole T) (after_decl s d) rest →
      IsBefore (types_after p T kinds d) rest (after_decl s d) (check.after_decl c d) bodies
  next d rest kinds s c bodies h typed = record {
    apart = h.apart.1;
    ranged = h.ranged.1;
    once = h.once.1;
    seen = decl-step p T d kinds rest s c h.apart.0 h.ranged.0 h.once.0 h.seen;
    typed = typed;
    every = h.every.1;
    owned = h.owned.1;
    known = all_back Known (decl_sites s d) (decls_sites (after_decl s d) rest) h.known;
    places = all_back P (decl_sites s d) (decls_sites (after_decl s d) rest) h.places;
    checks = all_back Check (check.decl_sites c bodies d) (check.decls_sites (check.after_decl c d) bodies rest) h.checks;
  }

  one-body : (w : Word) (objects : PDecls) (its : PBody) (sp : Span) (rest : PDecls) (kinds : List PTask) (s : Scope) (c : CheckScope) (bodies : List ℕ) → IsBefore kinds (decl_then (DTaskBody w objects its sp) rest) s c bodies →
      AskedBody (body_asks g own (own_entries (meaning s w.name))) (tt, (inner_scope (after_objects (in_body s w) objects), tt)) 1 its
  one-body w objects its sp rest kinds s c bodies h =
      let d : PDecl = DTaskBody w objects its sp in
      let scope : Scope = inner_scope (after_objects (in_body s w) objects) in
      let around : CheckScope = check.after_own (check.in_body c w) objects in
      let known = all_front Known (decl_sites s d) (decls_sites (after_decl s d) rest) h.known in
      let places = all_front P (decl_sites s d) (decls_sites (after_decl s d) rest) h.places in
      let checks = all_front Check (check.decl_sites c bodies d) (check.decls_sites (check.after_decl c d) bodies rest) h.checks in
      let seen : TaskSeen p T w scope around = task-seen p T kinds w objects its sp rest s c h.seen known.0.0.known in
      body-asked p types its_numbers legal placed names small (Some seen.task) (own_entries (meaning s w.name)) (task-heads p types its_numbers legal placed names small seen.task) own scope around its seen.seen h.typed.0
      (objects_own objects (in_body s w)) h.every.0.4 h.owned.0.4
      (all_back Known (own_sites (in_body s w) objects) (body_sites scope its) known.1)
      (all_back P (own_sites (in_body s w) objects) (body_sites scope its) places.1)
      (all_back Check (check.own_sites (check.in_body c w) objects) (check.body_sites around 1 its) checks)

  all-bodies : (ds : PDecls) (kinds : List PTask) (s : Scope) (c : CheckScope) (bodies : List ℕ) → IsBefore kinds ds s c bodies → BodiesAsked g own s ds
  all-bodies no_decl kinds s c bodies h = tt
  all-bodies (decl_then (DTaskBody w objects its sp) rest) kinds s c bodies h = (one-body w objects its sp rest kinds s c bodies h, all-bodies rest _ _ _ bodies (next (DTaskBody w objects its sp) rest kinds s c bodies h h.typed.1))
  all-bodies (decl_then (DNumber w e sp) rest) kinds s c bodies h = all-bodies rest _ _ _ bodies (next (DNumber w e sp) rest kinds s c bodies h h.typed)
  all-bodies (decl_then (DObject ws k x i sp) rest) kinds s c bodies h = all-bodies rest _ _ _ bodies (next (DObject ws k x i sp) rest kinds s c bodies h h.typed)
  all-bodies (decl_then (DEnumeration w ws sp) rest) kinds s c bodies h = all-bodies rest _ _ _ bodies (next (DEnumeration w ws sp) rest kinds s c bodies h h.typed)
  all-bodies (decl_then (DArray w i x sp) rest) kinds s c bodies h = all-bodies rest _ _ _ bodies (next (DArray w i x sp) rest kinds s c bodies h h.typed)
  all-bodies (decl_then (DSubtype w x sp) rest) kinds s c bodies h = all-bodies rest _ _ _ bodies (next (DSubtype w x sp) rest kinds s c bodies h h.typed)
  all-bodies (decl_then (DException ws sp) rest) kinds s c bodies h = all-bodies rest _ _ _ bodies (next (DException ws sp) rest kinds s c bodies h h.typed)
  all-bodies (decl_then (DIntIo w sp) rest) kinds s c bodies h = all-bodies rest _ _ _ bodies (next (DIntIo w sp) rest kinds s c bodies h h.typed)
  all-bodies (decl_then (DPragma e sp) rest) kinds s c bodies h = all-bodies rest _ _ _ bodies (next (DPragma e sp) rest kinds s c bodies h h.typed)
  all-bodies (decl_then (DTask t sp) rest) kinds s c bodies h = all-bodies rest _ _ _ bodies (next (DTask t sp) rest kinds s c bodies h h.typed)

  -- ---- the program

  abbrev programs : Programs
  programs = programs_of (normal_rewrite p [])

  abbrev premises : TextPremises p programs.made programs.is_old programs.is_fixed (StandsWhole T)
  premises = text p types its_numbers legal placed names small

  abbrev main_scope : Scope
  main_scope = inner_scope (after_decls (first_scope p.name) p.decls)

  both-known : (xs : List Site) → AllByRecursion IsMet xs → AllByRecursion (IsLocal T programs.is_fixed) xs → AllByRecursion Known xs
  both-known [] m l = tt
  both-known (x ∷ xs) m l = ((m.0, l.0), both-known xs m.1 l.1)

  all-known : AllByRecursion Known (sites p)
  all-known = both-known (sites p) (all_met p legal.type_rules) premises.local

  all-places : AllByRecursion P (sites p)
  all-places = places-of p legal.type_rules placed small

  abbrev decl_places : List Site
  decl_places = decls_sites (first_scope p.name) p.decls

  abbrev body_places : List Site
  body_places = body_sites main_scope p.body

  abbrev first_places : List Site
  first_places = names_sites true before_all (p.name ∷ [])

  decls-part : (Q : Site → Type 0) → AllByRecursion Q (sites p) → AllByRecursion Q decl_places
  decls-part Q h = all_back Q first_places decl_places (all_front Q (first_places ++ decl_places) body_places h)

  body-part : (Q : Site → Type 0) → AllByRecursion Q (sites p) → AllByRecursion Q body_places
  body-part Q h = all_back Q (first_places ++ decl_places) body_places h

  abbrev decl_checks : List CheckSite
  decl_checks = check.decls_sites (check.around_program p) (check.body_names p.decls) p.decls

  abbrev body_checks : List CheckSite
  body_checks = check.body_sites (check.after_decls (check.around_program p) p.decls) 1 p.body

  all-checked : AllByRecursion Check (decl_checks ++ body_checks)
  all-checked = all_front Check (decl_checks ++ body_checks) (check.counted_sites (check.around_program p) p) (all_check_met p Original legal.check_rules).1

  abbrev Main : List PTask → PDecls → Scope → CheckScope → Type 0
  Main kinds ds s c = MainSeen p T kinds ds s c

  at-first : Main [] p.decls (first_scope p.name) (check.around_program p)
  at-first = first-seen p T (declared_once p legal.type_rules).0

  objects : ObjectsApart p.decls
  objects = objects-apart p T p.decls (first_scope p.name) (decls-part IsMet (all_met p legal.type_rules))

  at-last : (kinds : List PTask) × Main kinds no_decl (after_decls (first_scope p.name) p.decls) (check.after_decls (check.around_program p) p.decls)
  at-last = (_, decls-step p T p.decls [] (first_scope p.name) (check.around_program p) objects premises.ranged (declared_once p legal.type_rules).1 at-first)

  -- The body of main is as asked.
  pub main-asked : AskedBody (body_asks g own []) (tt, (main_scope, tt)) 1 p.body
  main-asked =
      body-asked p types its_numbers legal placed names small None [] (main-heads p types its_numbers legal placed names small) own main_scope (check.after_decls (check.around_program p) p.decls) p.body
      (main-seen p T at-last.0 _ (check.after_decls (check.around_program p) p.decls) at-last.1) premises.typed.main (decls-own p.decls (first_scope p.name)) placed.3 mine.3
      (body-part Known all-known) (body-part P all-places) (all_back Check decl_checks body_checks all-checked)

  -- So is each task body.
  pub bodies-asked : BodiesAsked g own (first_scope p.name) p.decls
  bodies-asked = all-bodies p.decls [] (first_scope p.name) (check.around_program p) (check.body_names p.decls) record {
    apart = objects;
    ranged = premises.ranged;
    once = (declared_once p legal.type_rules).1;
    seen = at-first;
    typed = premises.typed.bodies;
    every = placed.2;
    owned = mine.2;
    known = decls-part Known all-known;
    places = decls-part P all-places;
    checks = all_front Check decl_checks body_checks all-checked;
  }
