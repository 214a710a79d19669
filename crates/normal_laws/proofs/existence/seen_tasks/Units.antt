-- The bodies of a program, with what is known of their places and of what stands there.
use Rattle.std.proofs.Common.{◌≡◌, ℕ, Bool, true, false, ◌==◌, ◌||◌, ◌&&◌, if◌then◌else◌, List, [], ◌∷◌, ◌++◌, unwrap_or, Some, None, refl, sym, ap, ◌∙◌, true≢false}
use Rattle.std.specs.List.{AllByRecursion, list_any}
use Rattle.std.proofs.lemmas.Bool.{or_left, or_right, or_parts, or_from, eq-eqb, eqb-true}
use Rattle.ada_tree.specs.declared.naming.NameId.{NameId}
use Rattle.ada_tree.specs.declared.naming.Span.{Span}
use Rattle.ada_tree.specs.declared.naming.Word.{Word}
use Rattle.ada_tree.specs.TypeTable.{TypeTable}
use Rattle.ada_tree.specs.PlainStmt.{PBody, body, no_stmt, no_handler}
use Rattle.ada_tree.specs.PlainDecl.{PTask, PDecl, DNumber, DObject, DEnumeration, DArray, DSubtype, DException, DIntIo, DPragma, DTask, DTaskBody, PDecls, no_decl, decl_then}
use Rattle.ada_tree.specs.PlainProgram.{PProgram}
use Rattle.ada_tree.specs.Every.{Rules, EveryBody, EveryDecls}
use Rattle.ada_static_rules.specs.Scope.{Scope}
use Rattle.ada_static_rules.specs.Demand.{gives_body, Site}
use Rattle.ada_static_rules.specs.Sites.{site, if_there, names_sites, shape_sites, init_sites, object_marking, own_sites, body_sites, decl_sites, decls_sites}
use Rattle.ada_static_rules.specs.RuleDuplicate.{is_predefined, is_among, fixes, introduces, at_word}
use Rattle.ada_static_rules.specs.Declaring.{declared_object, inner_scope, in_body, after_objects, after_decl}
use Rattle.syn_event.specs.CheckScope.{CheckScope, CheckSite}
use Rattle.syn_event.specs.CheckSites as sites
use Rattle.task_model.specs.Starting.{unit_among}
use Rattle.task_laws.specs.legal.rewritten_types.Rewriting.{DeclareOnce}
use Rattle.task_laws.specs.legal.sites.Met.{IsMet}
use Rattle.normal_laws.proofs.existence.seen_tasks.Finding.{no-place}
use Rattle.normal_laws.proofs.existence.seen_tasks.Scopes.{is_one_of}
use Rattle.normal_laws.proofs.existence.seen_tasks.Parts.{AllApart, NamesApart, ObjectsApart, AreRanged, MainSeen, types_after, decl-step}
use Rattle.normal_laws.proofs.existence.seen_tasks.Bodies.{TaskSeen, task-seen}
use Rattle.common_lemmas.proofs.Lists.{all_back, all_front}

module _ (p : PProgram) (T : TypeTable) where
  -- the rules at the places of main's declarations, from which the names of objects differ
  among-more : (here : List ℕ) (m n : ℕ) → is_among here n ≡ true → is_among (m ∷ here) n ≡ true
  among-more here m n e = or_right (m == n) (is_among here n) e

  names-others : (fixed : Bool) (ws : List Word) (s : Scope) (id : NameId) → is_among s.here id.0 ≡ true → AllByRecursion IsMet (names_sites fixed s ws) → is_one_of ws id ≡ false
  names-others fixed [] s id h met = refl
  names-others fixed (w ∷ ws) s id h met =
      or_from (w.name.0 == id.0) (is_one_of ws id) (by_test (w.name.0 == id.0) refl) (names-others fixed ws (record s { here = w.name.0 ∷ s.here }) id (among-more s.here w.name.0 id.0 h) met.1)
    where
      tested : at_word (is_predefined w.name.0 || is_among s.here w.name.0 || list_any (fixes w.name.0) met.0.before || (fixed && list_any (introduces w.name.0) met.0.before)) w ≡ []
      tested = met.0.once

      unused : is_among s.here w.name.0 ≡ false
      unused =
          let a = no-place (is_predefined w.name.0 || is_among s.here w.name.0 || list_any (fixes w.name.0) met.0.before || (fixed && list_any (introduces w.name.0) met.0.before)) w.span tested in
          let b = or_parts (is_predefined w.name.0 || is_among s.here w.name.0 || list_any (fixes w.name.0) met.0.before) _ a in
          let c = or_parts (is_predefined w.name.0 || is_among s.here w.name.0) _ b.0 in
          (or_parts (is_predefined w.name.0) (is_among s.here w.name.0) c.0).1

      by_test : (b : Bool) → (w.name.0 == id.0) ≡ b → b ≡ false
      by_test false e = refl
      by_test true e = absurd (true≢false (sym (ap (is_among s.here) (eqb-true w.name.0 id.0 e) ∙ h) ∙ unused))

  names-apart : (fixed : Bool) (ws : List Word) (s : Scope) → AllByRecursion IsMet (names_sites fixed s ws) → AllApart ws
  names-apart fixed [] s met = tt
  names-apart fixed (w ∷ ws) s met =
      (names-others fixed ws (record s { here = w.name.0 ∷ s.here }) w.name (or_left (w.name.0 == w.name.0) (is_among s.here w.name.0) (eq-eqb w.name.0 w.name.0 refl)) met.1, names-apart fixed ws _ met.1)

  decl-apart : (d : PDecl) (s : Scope) → AllByRecursion IsMet (decl_sites s d) → NamesApart d
  decl-apart (DObject names constant shape init sp) s met =
      names-apart _ names s (all_front IsMet _ (shape_sites s constant shape init) (all_front IsMet _ (if_there (init_sites s (declared_object s constant shape).types (object_marking (declared_object s constant shape))) init) met))
  decl-apart (DNumber w e sp) s met = tt
  decl-apart (DEnumeration w ws sp) s met = tt
  decl-apart (DArray w r x sp) s met = tt
  decl-apart (DSubtype w x sp) s met = tt
  decl-apart (DException ws sp) s met = tt
  decl-apart (DIntIo w sp) s met = tt
  decl-apart (DPragma e sp) s met = tt
  decl-apart (DTask t sp) s met = tt
  decl-apart (DTaskBody w objects its sp) s met = tt

  pub objects-apart : (ds : PDecls) (s : Scope) → AllByRecursion IsMet (decls_sites s ds) → ObjectsApart ds
  objects-apart no_decl s met = tt
  objects-apart (decl_then d rest) s met =
      (decl-apart d s (all_front IsMet (decl_sites s d) (decls_sites (after_decl s d) rest) met), objects-apart rest (after_decl s d) (all_back IsMet (decl_sites s d) (decls_sites (after_decl s d) rest) met))

  -- a body of a task among declarations, with what is known of its places and of what stands there
  module _ (place : Site → Type 0) (check_place : CheckSite → Type 0) (r : Rules) (Typed : Scope → Type 0) where
    -- the bodies of tasks begin at scopes that are typed
    abbrev pub BodiesTyped : Scope → PDecls → Type 0
    BodiesTyped s no_decl = Unit {0}
    BodiesTyped s (decl_then (DTaskBody w objects its sp) rest) = Typed (inner_scope (after_objects (in_body s w) objects)) × BodiesTyped (after_decl s (DTaskBody w objects its sp)) rest
    BodiesTyped s (decl_then d rest) = BodiesTyped (after_decl s d) rest

    pub record BodyPlace (name : NameId) (its : PBody) : Type 0 where
      pub word : Word
      pub called : word.name.0 ≡ name.0
      pub scope : Scope
      pub around : CheckScope
      pub seen : TaskSeen p T word scope around
      pub typed : Typed scope
      pub places : AllByRecursion place (body_sites scope its)
      pub check_places : AllByRecursion check_place (sites.body_sites around 1 its)
      pub every : EveryBody r 1 its

    -- the body of a unit, if it has one
    pub data BodyFound (name : NameId) : PBody → Type 0 where
      nothing_found : BodyFound name (body no_stmt no_handler)
      body_found : (its : PBody) → BodyPlace name its → BodyFound name its

    one-body : (w : Word) (objects : PDecls) (its : PBody) (sp : Span) (rest : PDecls) (kinds : List PTask) (s : Scope) (c : CheckScope) (name : NameId) → (w.name.0 == name.0) ≡ true →
        ((x : Site) → place x → IsMet x) → MainSeen p T kinds (decl_then (DTaskBody w objects its sp) rest) s c → Typed (inner_scope (after_objects (in_body s w) objects)) → EveryBody r 1 its →
        AllByRecursion place (decl_sites s (DTaskBody w objects its sp)) → AllByRecursion check_place (sites.own_sites (sites.in_body c w) objects ++ sites.body_sites (sites.after_own (sites.in_body c w) objects) 1 its) → BodyPlace name its
    one-body w objects its sp rest kinds s c name e met m typed every at checked = record {
      word = w;
      called = eqb-true w.name.0 name.0 e;
      scope = inner_scope (after_objects (in_body s w) objects);
      around = sites.after_own (sites.in_body c w) objects;
      seen = task-seen p T kinds w objects its sp rest s c m (met (site s (gives_body w)) at.0).known;
      typed = typed;
      places = all_back place (own_sites (in_body s w) objects) (body_sites (inner_scope (after_objects (in_body s w) objects)) its) at.1;
      check_places = all_back check_place (sites.own_sites (sites.in_body c w) objects) (sites.body_sites (sites.after_own (sites.in_body c w) objects) 1 its) checked;
      every = every;
    }

    pub bodies-found : (ds : PDecls) (kinds : List PTask) (s : Scope) (c : CheckScope) (bodies : List ℕ) (name : NameId) → ((x : Site) → place x → IsMet x) → ObjectsApart ds → AreRanged T s ds → DeclareOnce s ds →
        MainSeen p T kinds ds s c → BodiesTyped s ds → EveryDecls r ds → AllByRecursion place (decls_sites s ds) → AllByRecursion check_place (sites.decls_sites c bodies ds) → BodyFound name (unit_among ds name).body
    bodies-found no_decl kinds s c bodies name met apart ranged once m typed every at checked = nothing_found
    bodies-found (decl_then (DTaskBody w objects its sp) rest) kinds s c bodies name met apart ranged once m typed every at checked =
        by_test (w.name.0 == name.0) refl
        (bodies-found rest kinds (after_decl s (DTaskBody w objects its sp)) c bodies name met apart.1 ranged.1 once.1 (decl-step p T (DTaskBody w objects its sp) kinds rest s c tt tt once.0 m) typed.1 every.1
        (all_back place (decl_sites s (DTaskBody w objects its sp)) (decls_sites (after_decl s (DTaskBody w objects its sp)) rest) at)
        (all_back check_place (sites.decl_sites c bodies (DTaskBody w objects its sp)) (sites.decls_sites c bodies rest) checked))
      where
        by_test : (b : Bool) → (w.name.0 == name.0) ≡ b → BodyFound name (unit_among rest name).body →
            BodyFound name (unwrap_or (if b then Some (record { in_main = false; decls = objects; body = its }) else None) (unit_among rest name)).body
        by_test false e later = later
        by_test true e later =
            body_found its
            (one-body w objects its sp rest kinds s c name e met m typed.0 every.0.4
            (all_front place (decl_sites s (DTaskBody w objects its sp)) (decls_sites (after_decl s (DTaskBody w objects its sp)) rest) at)
            (all_front check_place (sites.decl_sites c bodies (DTaskBody w objects its sp)) (sites.decls_sites c bodies rest) checked))
    bodies-found (decl_then (DNumber w e sp) rest) kinds s c bodies name met apart ranged once m typed every at checked =
        bodies-found rest (types_after p T kinds (DNumber w e sp)) (after_decl s (DNumber w e sp)) (sites.after_decl c (DNumber w e sp)) bodies name met apart.1 ranged.1 once.1 (decl-step p T (DNumber w e sp) kinds rest s c apart.0 ranged.0 once.0 m) typed every.1
        (all_back place (decl_sites s (DNumber w e sp)) (decls_sites (after_decl s (DNumber w e sp)) rest) at)
        (all_back check_place (sites.decl_sites c bodies (DNumber w e sp)) (sites.decls_sites (sites.after_decl c (DNumber w e sp)) bodies rest) checked)
    bodies-found (decl_then (DObject names constant shape init sp) rest) kinds s c bodies name met apart ranged once m typed every at checked =
        bodies-found rest (types_after p T kinds (DObject names constant shape init sp)) (after_decl s (DObject names constant shape init sp)) (sites.after_decl c (DObject names constant shape init sp)) bodies name met apart.1 ranged.1 once.1 (decl-step p T (DObject names constant shape init sp) kinds rest s c apart.0 ranged.0 once.0 m) typed every.1
        (all_back place (decl_sites s (DObject names constant shape init sp)) (decls_sites (after_decl s (DObject names constant shape init sp)) rest) at)
        (all_back check_place (sites.decl_sites c bodies (DObject names constant shape init sp)) (sites.decls_sites (sites.after_decl c (DObject names constant shape init sp)) bodies rest) checked)
    bodies-found (decl_then (DEnumeration w ws sp) rest) kinds s c bodies name met apart ranged once m typed every at checked =
        bodies-found rest (types_after p T kinds (DEnumeration w ws sp)) (after_decl s (DEnumeration w ws sp)) (sites.after_decl c (DEnumeration w ws sp)) bodies name met apart.1 ranged.1 once.1 (decl-step p T (DEnumeration w ws sp) kinds rest s c apart.0 ranged.0 once.0 m) typed every.1
        (all_back place (decl_sites s (DEnumeration w ws sp)) (decls_sites (after_decl s (DEnumeration w ws sp)) rest) at)
        (all_back check_place (sites.decl_sites c bodies (DEnumeration w ws sp)) (sites.decls_sites (sites.after_decl c (DEnumeration w ws sp)) bodies rest) checked)
    bodies-found (decl_then (DArray w q x sp) rest) kinds s c bodies name met apart ranged once m typed every at checked =
        bodies-found rest (types_after p T kinds (DArray w q x sp)) (after_decl s (DArray w q x sp)) (sites.after_decl c (DArray w q x sp)) bodies name met apart.1 ranged.1 once.1 (decl-step p T (DArray w q x sp) kinds rest s c apart.0 ranged.0 once.0 m) typed every.1
        (all_back place (decl_sites s (DArray w q x sp)) (decls_sites (after_decl s (DArray w q x sp)) rest) at)
        (all_back check_place (sites.decl_sites c bodies (DArray w q x sp)) (sites.decls_sites (sites.after_decl c (DArray w q x sp)) bodies rest) checked)
    bodies-found (decl_then (DSubtype w x sp) rest) kinds s c bodies name met apart ranged once m typed every at checked =
        bodies-found rest (types_after p T kinds (DSubtype w x sp)) (after_decl s (DSubtype w x sp)) (sites.after_decl c (DSubtype w x sp)) bodies name met apart.1 ranged.1 once.1 (decl-step p T (DSubtype w x sp) kinds rest s c apart.0 ranged.0 once.0 m) typed every.1
        (all_back place (decl_sites s (DSubtype w x sp)) (decls_sites (after_decl s (DSubtype w x sp)) rest) at)
        (all_back check_place (sites.decl_sites c bodies (DSubtype w x sp)) (sites.decls_sites (sites.after_decl c (DSubtype w x sp)) bodies rest) checked)
    bodies-found (decl_then (DException ws sp) rest) kinds s c bodies name met apart ranged once m typed every at checked =
        bodies-found rest (types_after p T kinds (DException ws sp)) (after_decl s (DException ws sp)) (sites.after_decl c (DException ws sp)) bodies name met apart.1 ranged.1 once.1 (decl-step p T (DException ws sp) kinds rest s c apart.0 ranged.0 once.0 m) typed every.1
        (all_back place (decl_sites s (DException ws sp)) (decls_sites (after_decl s (DException ws sp)) rest) at)
        (all_back check_place (sites.decl_sites c bodies (DException ws sp)) (sites.decls_sites (sites.after_decl c (DException ws sp)) bodies rest) checked)
    bodies-found (decl_then (DIntIo w sp) rest) kinds s c bodies name met apart ranged once m typed every at checked =
        bodies-found rest (types_after p T kinds (DIntIo w sp)) (after_decl s (DIntIo w sp)) (sites.after_decl c (DIntIo w sp)) bodies name met apart.1 ranged.1 once.1 (decl-step p T (DIntIo w sp) kinds rest s c apart.0 ranged.0 once.0 m) typed every.1
        (all_back place (decl_sites s (DIntIo w sp)) (decls_sites (after_decl s (DIntIo w sp)) rest) at)
        (all_back check_place (sites.decl_sites c bodies (DIntIo w sp)) (sites.decls_sites (sites.after_decl c (DIntIo w sp)) bodies rest) checked)
    bodies-found (decl_then (DPragma e sp) rest) kinds s c bodies name met apart ranged once m typed every at checked =
        bodies-found rest (types_after p T kinds (DPragma e sp)) (after_decl s (DPragma e sp)) (sites.after_decl c (DPragma e sp)) bodies name met apart.1 ranged.1 once.1 (decl-step p T (DPragma e sp) kinds rest s c apart.0 ranged.0 once.0 m) typed every.1
        (all_back place (decl_sites s (DPragma e sp)) (decls_sites (after_decl s (DPragma e sp)) rest) at)
        (all_back check_place (sites.decl_sites c bodies (DPragma e sp)) (sites.decls_sites (sites.after_decl c (DPragma e sp)) bodies rest) checked)
    bodies-found (decl_then (DTask t sp) rest) kinds s c bodies name met apart ranged once m typed every at checked =
        bodies-found rest (types_after p T kinds (DTask t sp)) (after_decl s (DTask t sp)) (sites.after_decl c (DTask t sp)) bodies name met apart.1 ranged.1 once.1 (decl-step p T (DTask t sp) kinds rest s c apart.0 ranged.0 once.0 m) typed every.1
        (all_back place (decl_sites s (DTask t sp)) (decls_sites (after_decl s (DTask t sp)) rest) at)
        (all_back check_place (sites.decl_sites c bodies (DTask t sp)) (sites.decls_sites (sites.after_decl c (DTask t sp)) bodies rest) checked)
