-- All places of the normal form of a legal program meet the static rules 1 and 3 to 12: those of copied bodies do, and so all do.
use Rattle.std.proofs.Common.{ℕ, ◌+◌, Bool, ◌==◌, List, [], ◌∷◌, ◌++◌, map, flat_map, refl, sym, ap, ◌∙◌, subst}
use Rattle.std.specs.List.{AllByRecursion}
use Rattle.common_lemmas.proofs.Lists.{all_front, all_back, all_joined, all_kept}
use Rattle.ada_tree.specs.declared.naming.Span.{Span}
use Rattle.ada_tree.specs.declared.naming.Word.{Word}
use Rattle.ada_tree.specs.TypeTable.{TypeTable}
use Rattle.ada_tree.specs.PlainExpr.{PSubind, RMarked}
use Rattle.ada_tree.specs.PlainStmt.{PBody}
use Rattle.ada_tree.specs.PlainDecl.{PDecl, DNumber, DObject, DEnumeration, DArray, DSubtype, DException, DIntIo, DPragma, DTask, DTaskBody, PDecls, no_decl, decl_then, decls_of}
use Rattle.ada_tree.specs.PlainProgram.{PProgram}
use Rattle.ada_tree.specs.Every.{EveryDecls}
use Rattle.ada_static_rules.specs.Refusals.{types_in}
use Rattle.ada_static_rules.specs.Scope.{Scope, meaning, entry_named}
use Rattle.ada_static_rules.specs.Sites.{own_object_sites, own_sites, body_sites, decl_sites, decls_sites, sites}
use Rattle.ada_static_rules.specs.Declaring.{first_scope, own_entries, in_body, inner_scope, after_own_object, after_objects, after_decl, after_decls}
use Rattle.syn_event.specs.declared.numbering.TaskInfo.{TaskInfo}
use Rattle.syn_event.specs.NamedTasks.{task_names_of}
use Rattle.syn_event.specs.DeclaredTasks.{decl_list}
use Rattle.task_model.specs.Setting.{Setting}
use Rattle.normal_model.specs.Names.{variable_name, task_name}
use Rattle.normal_model.specs.Ranges.{word_at}
use Rattle.normal_model.specs.Variables.{variable_declared}
use Rattle.normal_model.specs.NormalStmts.{unit_variables, normal_body}
use Rattle.normal_model.specs.NormalTree.{decls_front, tasks_beside, running, unit_for, body_copy, bodies_of}
use Rattle.normal_model.proofs.VariablesLemmas.{begins-refl}
use Rattle.task_laws.proofs.legal.rewritten_types.Keeping.{grows-self}
use Rattle.task_laws.specs.legal.sites.Met.{IsMet}
use Rattle.task_laws.proofs.legal.sites.Meeting.{all_met}
use Rattle.task_laws.proofs.legal.types.StaticParts.{HasSubtype}
use Rattle.task_laws.proofs.legal.types.MainScopes.{last-stands}
use Rattle.normal_laws.specs.runs.forms.Normalisable.{numbers_of, made_for}
use Rattle.normal_laws.proofs.structure.placed.Added.{AreVariablesFrom}
use Rattle.normal_laws.proofs.structure.placed.Whole.{each-of}
use Rattle.normal_laws.specs.structure.checked.Around.{own_rules}
use Rattle.normal_laws.specs.existence.Laws.{IsLegalOriginal}
use Rattle.normal_laws.proofs.legality.asked.KnownKinds.{known-kinds}
use Rattle.normal_laws.proofs.legality.asked.Bodies.{BodiesAsked, bodies-asked}
use Rattle.normal_laws.specs.structure.asked.Pieces.{IsAmong, first_among, later_among}
use Rattle.task_laws.specs.legal.alike_scopes.Alike.{Alike}
use Rattle.task_laws.specs.legal.alike_scopes.Laws.{IsMetBut}
use Rattle.normal_laws.specs.structure.typed.ScopeOf.{IsScopeOf}
use Rattle.normal_laws.proofs.structure.typed.Variables.{AllMetBut}
use Rattle.normal_laws.proofs.structure.typed.Stays.{met-but}
use Rattle.normal_laws.proofs.structure.typed.Declared.{own-stays}
use Rattle.normal_laws.proofs.structure.typed.StaticMet.{NoneIsOut}
use Rattle.normal_laws.proofs.structure.typed.Typed.{body-met}
use Rattle.normal_laws.specs.legality.scopes.Plain.{plain_name}
use Rattle.normal_laws.proofs.legality.scopes.Places.{AtBodies, IsPlaced}
use Rattle.normal_laws.proofs.legality.scopes.Outer.{AreLocal}
use Rattle.normal_laws.proofs.legality.scopes.Main.{g, old, last, first, rules, walked, tasked, tasked-there}
use Rattle.normal_laws.proofs.legality.typed_declarations.Outs.{none-out}
use Rattle.normal_laws.proofs.legality.typed_declarations.Known.{range-grown}
use Rattle.normal_laws.proofs.legality.typed_declarations.Variables.{variable-met}
use Rattle.normal_laws.proofs.legality.typed_declarations.Bodies.{own-front}
use Rattle.normal_laws.proofs.legality.typed_declarations.Joined.{program-rules, sites-met}
use Rattle.normal_laws.proofs.legality.variables_marked.Subtypes.{fixed, IsStatic, variables-static}
use Rattle.normal_laws.proofs.legality.variables_marked.Steps.{IsReady, variable-behind}
use Rattle.normal_laws.proofs.legality.variables_marked.Scopes.{main-scope, IsBodyPlace, place-tasked, place-body, q-ready, BodiesScoped, bodies-scope, BodiesLocal, bodies-local}
use Rattle.normal_laws.proofs.structure.placed.Made.{among}
use Rattle.ada_static_rules.proofs.found_twice.Declared.{objects_own}
use Rattle.normal_laws.proofs.structure.typed.Places.{gives-met}

module _ (p : PProgram) (legal : IsLegalOriginal p) where
  abbrev T : TypeTable
  T = types_in p

  abbrev L : Scope
  L = last p legal

  abbrev G : Setting
  G = g p legal

  abbrev few : ℕ → Bool
  few = fixed p legal

  -- ---- variables of a body

  -- the scope behind all declarations, as if it were that of a body
  abbrev as_inner : Scope → Scope
  as_inner q = record L { in_main = q.in_main; own = q.own }

  static-inner : (q : Scope) (x : PSubind) → IsStatic p legal x → HasSubtype (as_inner q) x
  static-inner q x h =
      range-grown T L (as_inner q) record { stands = (last-stands p (rules p legal) legal.placed legal.small).stands; types = refl; grows = grows-self T; kept = λ id y e. e } p.names 2 (RMarked x) h.every h.static

  alike-inner : (q : Scope) → IsReady p legal q → Alike few (as_inner q) q
  alike-inner q r = record { names = record { types = r.same.types; things = r.same.things }; own = λ id o. refl; main = refl }

  free-inner : (q : Scope) → NoneIsOut (as_inner q)
  free-inner q id m e = none-out p.name p.decls id m e

  vars-met : (ds : List PDecl) (j : ℕ) → AreVariablesFrom G (IsStatic p legal) j ds → (q : Scope) → IsReady p legal q → AllMetBut (own_sites q (decls_of ds))
  vars-met [] j h q r = tt
  vars-met (d ∷ ds) j h q r =
      let v = h.0 in
      let e : PDecl = variable_declared G v.place v.subtype j in
      let one : AllMetBut (own_object_sites q e) = variable-met few (as_inner q) q (alike-inner q r) (free-inner q) (word_at v.place (variable_name G j)) v.subtype (static-inner q v.subtype v.fits) v.fits.known.words in
      let rest : AllMetBut (own_sites (after_own_object q e) (decls_of ds)) = vars-met ds (j + 1) h.1 (after_own_object q e) (variable-behind p legal q r v.place v.subtype j v.fits.known).ready in
      subst (λ (z : PDecl). AllMetBut (own_sites q (decls_of (z ∷ ds)))) (sym v.is) (all_joined IsMetBut (own_object_sites q e) (own_sites (after_own_object q e) (decls_of ds)) one rest)

  -- ---- one copy

  among-beside : (w : Word) (info : TaskInfo) → IsAmong info (running G w.name) → IsAmong info (tasks_beside G)
  among-beside w info i =
      among (λ (x : TaskInfo). IsAmong x (tasks_beside G)) info (running G w.name) i
      (all_kept (λ (x : TaskInfo). IsAmong x (tasks_beside G)) (λ x. x.unit.0 == w.name.0) (tasks_beside G) (each-of (λ (x : TaskInfo). IsAmong x (tasks_beside G)) (tasks_beside G) (λ x j. j)))

  module _ (s : Scope) (w : Word) (objects : PDecls) (its : PBody) (sp : Span) (met : AllByRecursion IsMet (decl_sites s (DTaskBody w objects its sp))) (placed : IsPlaced L (task_names_of p) (first p legal) s) (whole : EveryDecls (own_rules (plain_name p)) objects)
      (local : AreLocal G (old p legal) objects) (asked : BodiesAsked G (plain_name p) s (decl_then (DTaskBody w objects its sp) no_decl)) (scoped : BodiesScoped p legal s (decl_then (DTaskBody w objects its sp) no_decl)) where
    abbrev vars : List PDecl
    vars = unit_variables (unit_for G w.name) its

    abbrev inner : PDecls
    inner = decls_front objects (decls_of vars)

    abbrev copy : TaskInfo → PDecl
    copy info = body_copy G w objects vars (normal_body (unit_for G w.name) its) (λ ds b name. DTaskBody name ds b sp) info

    copy-met : (t : Scope) → IsBodyPlace p legal t → (info : TaskInfo) → IsAmong info (running G w.name) → AllMetBut (decl_sites t (copy info))
    copy-met t b info i = (
      gives-met t v _ (b.bodied.means (task_name G info) ∙ tasked-there p legal info (among-beside w info i)),
      all_joined IsMetBut (own_sites (in_body t v) inner) (body_sites d (normal_body (unit_for G w.name) its)) (own-front objects (decls_of vars) (in_body t v) objects-met (vars-met vars 0 (variables-static p legal (unit_for G w.name).task its) (after_objects (in_body t v) objects) (q-ready p legal t b v objects local))) stmts-met,
    )
      where
        v : Word
        v = word_at w.span (task_name G info)

        c : Scope
        c = inner_scope (after_objects (in_body s w) objects)

        d : Scope
        d = inner_scope (after_objects (in_body t v) inner)

        scope : IsScopeOf (unit_for G w.name) (plain_name p) vars c d
        scope = scoped.0 t b info i

        begins : Alike (plain_name p) (in_body s w) (in_body t v)
        begins = record {
          names = record { types = (b.bodied.formed.same s placed).types; things = (b.bodied.formed.same s placed).things };
          own = λ id o. ap (λ es. entry_named es id) (sym (objects_own objects (in_body s w))) ∙ scope.alike.own id o ∙ ap (λ es. entry_named es id) (objects_own inner (in_body t v));
          main = refl;
        }

        own-met : AllByRecursion IsMet (own_sites (in_body s w) objects)
        own-met = all_front IsMet (own_sites (in_body s w) objects) (body_sites c its) met.1

        objects-met : AllMetBut (own_sites (in_body t v) objects)
        objects-met = own-stays IsMet met-but (plain_name p) objects (in_body s w) (in_body t v) begins refl whole own-met

        stmts-met : AllMetBut (body_sites d (normal_body (unit_for G w.name) its))
        stmts-met =
            body-met (unit_for G w.name) (plain_name p) vars (own_entries (meaning s w.name)) (known-kinds p (rules p legal) legal.placed legal.small) (tt, (c, tt)) d 1 its
            (scope, objects_own objects (in_body s w)) asked.0 (begins-refl vars)

    -- the copies, and what stands behind them
    copies-met : (infos : List TaskInfo) → ((info : TaskInfo) → IsAmong info infos → IsAmong info (running G w.name)) → (rest : List PDecl) → ((t : Scope) → IsBodyPlace p legal t → AllMetBut (decls_sites t (decls_of rest))) →
        (t : Scope) → IsBodyPlace p legal t → AllMetBut (decls_sites t (decls_of (map copy infos ++ rest)))
    copies-met [] among rest later t b = later t b
    copies-met (info ∷ infos) among rest later t b =
        all_joined IsMetBut (decl_sites t (copy info)) (decls_sites (after_decl t (copy info)) (decls_of (map copy infos ++ rest))) (copy-met t b info (among info (first_among infos)))
        (copies-met infos (λ x i. among x (later_among info infos i)) rest later (after_decl t (copy info)) (place-body p legal (word_at w.span (task_name G info)) inner (normal_body (unit_for G w.name) its) sp t b))

  -- ---- all copies

  all-copies : (ds : PDecls) (s : Scope) → AllByRecursion IsMet (decls_sites s ds) → AtBodies (IsPlaced L (task_names_of p) (first p legal)) s ds → EveryDecls (own_rules (plain_name p)) ds → BodiesLocal p legal ds → BodiesAsked G (plain_name p) s ds → BodiesScoped p legal s ds →
      (t : Scope) → IsBodyPlace p legal t → AllMetBut (decls_sites t (decls_of (flat_map (bodies_of G) (decl_list ds))))
  all-copies no_decl s met placed whole local asked scoped t b = tt
  all-copies (decl_then (DTaskBody w objects its sp) rest) s met placed whole local asked scoped t b =
      let d : PDecl = DTaskBody w objects its sp in
      copies-met s w objects its sp (all_front IsMet (decl_sites s d) (decls_sites (after_decl s d) rest) met) placed.0 whole.0.3 local.0 (asked.0, tt) (scoped.0, tt)
      (running G w.name) (λ x i. i) (flat_map (bodies_of G) (decl_list rest))
      (λ q c. all-copies rest (after_decl s d) (all_back IsMet (decl_sites s d) (decls_sites (after_decl s d) rest) met) placed.1 whole.1 local.1 asked.1 scoped.1 q c) t b
  all-copies (decl_then (DNumber w e sp) rest) s met placed whole local asked scoped t b = all-copies rest _ (all_back IsMet (decl_sites s (DNumber w e sp)) _ met) placed whole.1 local asked scoped t b
  all-copies (decl_then (DObject ws c x i sp) rest) s met placed whole local asked scoped t b = all-copies rest _ (all_back IsMet (decl_sites s (DObject ws c x i sp)) _ met) placed whole.1 local asked scoped t b
  all-copies (decl_then (DEnumeration w ws sp) rest) s met placed whole local asked scoped t b = all-copies rest _ (all_back IsMet (decl_sites s (DEnumeration w ws sp)) _ met) placed whole.1 local asked scoped t b
  all-copies (decl_then (DArray w r x sp) rest) s met placed whole local asked scoped t b = all-copies rest _ (all_back IsMet (decl_sites s (DArray w r x sp)) _ met) placed whole.1 local asked scoped t b
  all-copies (decl_then (DSubtype w x sp) rest) s met placed whole local asked scoped t b = all-copies rest _ (all_back IsMet (decl_sites s (DSubtype w x sp)) _ met) placed whole.1 local asked scoped t b
  all-copies (decl_then (DException ws sp) rest) s met placed whole local asked scoped t b = all-copies rest _ (all_back IsMet (decl_sites s (DException ws sp)) _ met) placed whole.1 local asked scoped t b
  all-copies (decl_then (DIntIo w sp) rest) s met placed whole local asked scoped t b = all-copies rest _ (all_back IsMet (decl_sites s (DIntIo w sp)) _ met) placed whole.1 local asked scoped t b
  all-copies (decl_then (DPragma e sp) rest) s met placed whole local asked scoped t b = all-copies rest _ (all_back IsMet (decl_sites s (DPragma e sp)) _ met) placed whole.1 local asked scoped t b
  all-copies (decl_then (DTask u sp) rest) s met placed whole local asked scoped t b = all-copies rest _ (all_back IsMet (decl_sites s (DTask u sp)) _ met) placed whole.1 local asked scoped t b

  -- The copied bodies meet the rules.
  pub bodies-met : AllMetBut (decls_sites (tasked p legal) (decls_of (flat_map (bodies_of G) (decl_list p.decls))))
  bodies-met =
      all-copies p.decls (first_scope p.name)
      (all_front IsMet (decls_sites (first_scope p.name) p.decls) (body_sites (inner_scope (after_decls (first_scope p.name) p.decls)) p.body) (all_met p (rules p legal)).1)
      (walked p legal).places (program-rules p legal).2 (bodies-local p legal)
      (bodies-asked p T (numbers_of p) legal.legal legal.placed legal.names legal.small (plain_name p) (program-rules p legal))
      (bodies-scope p legal) (tasked p legal) (place-tasked p legal)

  -- So each place of the normal form of a legal program meets the rules 1 and 3 to 12.
  pub normal-places-met : AllMetBut (sites (made_for p))
  normal-places-met = sites-met p legal (main-scope p legal) bodies-met
