-- The units of the normal form of a legal program: main and the copies of bodies, one behind the other.
use Rattle.std.proofs.Common.{◌≡◌, ℕ, ◌==◌, Bool, List, [], ◌∷◌, ◌++◌, map, flat_map, slice_get, Some, refl, sym, ap, subst, ◌∙◌}
use Rattle.std.specs.List.{AllByRecursion}
use Rattle.std.proofs.lemmas.Option.{none-some}
use Rattle.common_lemmas.proofs.Lists.{all_front, all_back, all_kept}
use Rattle.ada_tree.specs.declared.naming.Span.{Span}
use Rattle.ada_tree.specs.declared.naming.Word.{Word}
use Rattle.ada_tree.specs.TypeTable.{TypeTable}
use Rattle.ada_tree.specs.PlainStmt.{PBody}
use Rattle.ada_tree.specs.PlainDecl.{PDecl, DNumber, DObject, DEnumeration, DArray, DSubtype, DException, DIntIo, DPragma, DTask, DTaskBody, PDecls, no_decl, decl_then, decls_of}
use Rattle.ada_tree.specs.PlainProgram.{PProgram}
use Rattle.ada_static_rules.specs.Refusals.{types_in}
use Rattle.ada_static_rules.specs.Scope.{Scope, EntryPart, meaning, entry_named}
use Rattle.ada_static_rules.specs.Sites.{own_sites, body_sites, decl_sites, decls_sites}
use Rattle.ada_static_rules.specs.Declaring.{first_scope, own_entries, in_body, inner_scope, after_objects, after_decl, after_decls}
use Rattle.syn_event.specs.declared.numbering.TaskInfo.{TaskInfo}
use Rattle.syn_event.specs.DeclaredTasks.{decl_list}
use Rattle.task_model.specs.Setting.{Setting, entry_of}
use Rattle.task_laws.proofs.legal.rewritten_types.Adding.{keeps-objects}
use Rattle.task_laws.proofs.legal.types.TypedValues.{anybody}
use Rattle.normal_model.specs.Names.{task_name}
use Rattle.normal_model.specs.Ranges.{word_at, kind_name}
use Rattle.normal_model.specs.NormalStmts.{unit_variables, normal_body}
use Rattle.normal_model.specs.NormalTree.{decls_front, first_decls, tasks_beside, task_declared, running, unit_for, main_unit, main_variables, body_copy, bodies_of}
use Rattle.normal_model.proofs.VariablesLemmas.{begins-refl}
use Rattle.normal_laws.proofs.structure.types.Normal.{front-after}
use Rattle.normal_laws.proofs.structure.types.Variables.{unit-all}
use Rattle.normal_laws.specs.runs.forms.Normalisable.{numbers_of, made_for}
use Rattle.normal_laws.proofs.structure.placed.Made.{among}
use Rattle.normal_laws.proofs.structure.placed.Whole.{each-of}
use Rattle.normal_laws.proofs.structure.numbers.Listed as list
use Rattle.normal_laws.specs.structure.asked.Pieces.{IsAmong, first_among, later_among}
use Rattle.normal_laws.specs.existence.Laws.{IsLegalOriginal}
use Rattle.normal_laws.proofs.legality.asked.Bodies.{BodiesAsked, main-asked, bodies-asked}
use Rattle.normal_laws.proofs.structure.typed.Variables.{AllMetBut}
use Rattle.normal_laws.specs.legality.scopes.Plain.{plain_name}
use Rattle.normal_laws.proofs.legality.scopes.Fixed.{apart-variable}
use Rattle.normal_laws.proofs.legality.scopes.Outer.{AreLocal, IsVariableDecl, variable-stays, outer-marked}
use Rattle.normal_laws.proofs.legality.scopes.Begun.{IsOuterScope}
use Rattle.normal_laws.proofs.legality.scopes.Starts.{body-outer}
use Rattle.normal_laws.proofs.legality.scopes.Main.{g, old, last, first, tasked, made, last-placed, tasked-there, made-formed, decls-frame}
use Rattle.normal_laws.proofs.legality.typed_declarations.Joined.{program-rules, main-met}
use Rattle.normal_laws.proofs.legality.checks.Joined.{normal_meets_checks}
use Rattle.normal_laws.proofs.legality.variables_marked.Scopes.{main-scope, IsBodyPlace, place-tasked, place-body, BodiesScoped, bodies-scope, BodiesLocal, bodies-local}
use Rattle.normal_laws.proofs.legality.variables_marked.Bodies.{bodies-met}
use Rattle.replay_structure.specs.checkable.Prepared.{form_for}
use Rattle.replay_structure.specs.typed.ScopeOf.{IsEntryOf}
use Rattle.replay_structure.specs.legal.names.form_units.Inner.{inner_name}
use Rattle.replay_structure.specs.legal.names.inner.Units.{HasItsEntries, IsScopedBody, BodyUnits}
use Rattle.replay_structure.proofs.legal.names.form_units.InnerNames.{BodiesInner, bodies-inner, main-inner}
use Rattle.replay_structure.proofs.legal.names.form_units.Seen.{AreSeenWell, tasked-well, bodies-well, objects-well}
use Rattle.replay_structure.proofs.legal.names.form_units.KindNames.{AreKindsMeant, kind-there-named, kind-plain, kinds-same, kinds-later}
use Rattle.replay_structure.proofs.legal.names.form_units.Entries.{place-of, unit-numbered}
use Rattle.replay_structure.proofs.legal.names.form_units.Callees.{callees-single}
use Rattle.replay_structure.proofs.legal.names.form_units.Asked.{scopes-asked}
use Rattle.replay_structure.proofs.legal.names.form_units.Waits.{HasWaits, bodies-wait, main-waits}
use Rattle.replay_structure.proofs.legal.names.form_units.Called.{entry-of-task, called-is}
use Rattle.ada_static_rules.proofs.found_twice.Declared.{objects_own, decls_joined}

module _ (p : PProgram) (h : IsLegalOriginal p) where
  abbrev T : TypeTable
  T = types_in p

  abbrev G : Setting
  G = g p h

  abbrev F : Setting
  F = form_for p

  abbrev S : Scope
  S = last p h

  abbrev inner : ℕ → Bool
  inner = inner_name p

  -- ---- one copy

  among-beside : (w : Word) (info : TaskInfo) → IsAmong info (running G w.name) → IsAmong info (tasks_beside G)
  among-beside w info i =
      among (λ (x : TaskInfo). IsAmong x (tasks_beside G)) info (running G w.name) i
      (all_kept (λ (x : TaskInfo). IsAmong x (tasks_beside G)) (λ x. x.unit.0 == w.name.0) (tasks_beside G) (each-of (λ (x : TaskInfo). IsAmong x (tasks_beside G)) (tasks_beside G) (λ x j. j)))

  -- a scope of the normal form behind its tasks and some bodies
  record IsPlace (t : Scope) : Type 0 where
    place : IsBodyPlace p h t
    seen : AreSeenWell p h t

  module _ (s : Scope) (w : Word) (objects : PDecls) (its : PBody) (sp : Span) (local : AreLocal G (old p h) objects) (asked : BodiesAsked G (plain_name p) s (decl_then (DTaskBody w objects its sp) no_decl))
      (scoped : BodiesScoped p h s (decl_then (DTaskBody w objects its sp) no_decl)) (declared : BodiesInner p h (decl_then (DTaskBody w objects its sp) no_decl)) where
    abbrev vars : List PDecl
    vars = unit_variables (unit_for G w.name) its

    abbrev own_decls : PDecls
    own_decls = decls_front objects (decls_of vars)

    abbrev copy : TaskInfo → PDecl
    copy info = body_copy G w objects vars (normal_body (unit_for G w.name) its) (λ ds b name. DTaskBody name ds b sp) info

    module _ (t : Scope) (b : IsPlace t) (info : TaskInfo) (i : IsAmong info (running G w.name)) where
      abbrev v : Word
      v = word_at w.span (task_name G info)

      abbrev d : Scope
      d = inner_scope (after_objects (in_body t v) own_decls)

      beside : IsAmong info (tasks_beside G)
      beside = among-beside w info i

      at : (k : ℕ) × (slice_get (tasks_beside G) k ≡ Some info)
      at = place-of p h info beside

      outer : IsOuterScope p h d
      outer =
          body-outer p h t b.place.bodied v objects vars local
          (λ id apart. unit-all (IsVariableDecl G (old p h) id) (unit_for G w.name) (λ q x k. variable-stays G (old p h) id apart q x k) its)

      kinds : AreKindsMeant p h d
      kinds =
          kinds-later p h t d (keeps-objects {old = anybody} own_decls (in_body t v) refl).grows
          (λ j r. outer.stays (kind_name T j) (outer-marked G (old p h) (kind_name T j) (kind-there-named p h j r)) (apart-variable p h (kind_name T j) (kind-plain p h j r)) ∙ sym (b.place.bodied.means (kind_name T j)))
          (kinds-same p h t (b.place.bodied.formed.same S (last-placed p h)))

      seen : AreSeenWell p h d
      seen = objects-well p h own_decls (in_body t v) b.seen

      own-is : d.own ≡ own_entries (meaning (tasked p h) (task_name G info))
      own-is = objects_own own_decls (in_body t v) ∙ ap own_entries (b.place.bodied.means (task_name G info))

      entries : HasItsEntries (unit_for F (task_name G info)) inner d
      entries = record {
        called = called-is p h d seen kinds;
        accepted = λ name part e.
            subst (λ n. IsEntryOf F inner d (entry_of F.numbers n name) part.family) (sym (unit-numbered p h at.0 info beside at.1))
            (entry-of-task p h d kinds at.0 info beside at.1 name part (ap (λ (l : List EntryPart). entry_named l name) (sym (own-is ∙ ap own_entries (tasked-there p h info beside))) ∙ e));
      }

      body : AllMetBut (decl_sites t (copy info)) → HasWaits (copy info) → IsScopedBody inner d (normal_body (unit_for G w.name) its)
      body met waits =
          let c : Scope = inner_scope (after_objects (in_body s w) objects) in
          scopes-asked inner d (normal_body (unit_for G w.name) its)
          (all_back _ (own_sites (in_body t v) own_decls) (body_sites d (normal_body (unit_for G w.name) its)) met.1)
          (declared.0 (unit_for G w.name) d)
          (callees-single (unit_for G w.name) (plain_name p) vars (own_entries (meaning s w.name)) c d its (scoped.0 t b.place info i) (objects_own objects (in_body s w)) asked.0 (begins-refl vars))
          waits

      behind : IsPlace (after_decl t (copy info))
      behind = record { place = place-body p h v own_decls (normal_body (unit_for G w.name) its) sp t b.place; seen = b.seen }

    -- the copies, and what stands behind them
    copies : (infos : List TaskInfo) → ((info : TaskInfo) → IsAmong info infos → IsAmong info (running G w.name)) → (rest : List PDecl) →
        ((t : Scope) → IsPlace t → AllMetBut (decls_sites t (decls_of rest)) → AllByRecursion HasWaits rest → BodyUnits F inner t rest) →
        (t : Scope) → IsPlace t → AllMetBut (decls_sites t (decls_of (map copy infos ++ rest))) → AllByRecursion HasWaits (map copy infos ++ rest) → BodyUnits F inner t (map copy infos ++ rest)
    copies [] is rest later t b met waits = later t b met waits
    copies (info ∷ infos) is rest later t b met waits =
        let i : IsAmong info (running G w.name) = is info (first_among infos) in
        let more : List PDecl = map copy infos ++ rest in (
          entries t b info i,
          body t b info i (all_front _ (decl_sites t (copy info)) (decls_sites (after_decl t (copy info)) (decls_of more)) met) waits.0,
          copies infos (λ x j. is x (later_among info infos j)) rest later (after_decl t (copy info)) (behind t b info i)
              (all_back _ (decl_sites t (copy info)) (decls_sites (after_decl t (copy info)) (decls_of more)) met) waits.1,
        )

  -- ---- all copies

  all-copies : (ds : PDecls) (s : Scope) → BodiesLocal p h ds → BodiesAsked G (plain_name p) s ds → BodiesScoped p h s ds → BodiesInner p h ds →
      (t : Scope) → IsPlace t → AllMetBut (decls_sites t (decls_of (flat_map (bodies_of G) (decl_list ds)))) → AllByRecursion HasWaits (flat_map (bodies_of G) (decl_list ds)) → BodyUnits F inner t (flat_map (bodies_of G) (decl_list ds))
  all-copies no_decl s local asked scoped declared t b met waits = tt
  all-copies (decl_then (DTaskBody w objects its sp) rest) s local asked scoped declared t b met waits =
      copies s w objects its sp local.0 (asked.0, tt) (scoped.0, tt) (declared.0, tt) (running G w.name) (λ x i. i) (flat_map (bodies_of G) (decl_list rest))
      (λ q c. all-copies rest (after_decl s (DTaskBody w objects its sp)) local.1 asked.1 scoped.1 declared.1 q c) t b met waits
  all-copies (decl_then (DNumber w e sp) rest) s local asked scoped declared t b met waits = all-copies rest _ local asked scoped declared t b met waits
  all-copies (decl_then (DObject ws c x i sp) rest) s local asked scoped declared t b met waits = all-copies rest _ local asked scoped declared t b met waits
  all-copies (decl_then (DEnumeration w ws sp) rest) s local asked scoped declared t b met waits = all-copies rest _ local asked scoped declared t b met waits
  all-copies (decl_then (DArray w r x sp) rest) s local asked scoped declared t b met waits = all-copies rest _ local asked scoped declared t b met waits
  all-copies (decl_then (DSubtype w x sp) rest) s local asked scoped declared t b met waits = all-copies rest _ local asked scoped declared t b met waits
  all-copies (decl_then (DException ws sp) rest) s local asked scoped declared t b met waits = all-copies rest _ local asked scoped declared t b met waits
  all-copies (decl_then (DIntIo w sp) rest) s local asked scoped declared t b met waits = all-copies rest _ local asked scoped declared t b met waits
  all-copies (decl_then (DPragma e sp) rest) s local asked scoped declared t b met waits = all-copies rest _ local asked scoped declared t b met waits
  all-copies (decl_then (DTask u sp) rest) s local asked scoped declared t b met waits = all-copies rest _ local asked scoped declared t b met waits

  abbrev q : PProgram
  q = made_for p

  abbrev bodies : List PDecl
  bodies = flat_map (bodies_of G) (decl_list p.decls)

  copies-wait : AllByRecursion HasWaits bodies
  copies-wait =
      let all : AllByRecursion HasWaits (list.firsts p T G.numbers ++ (list.vars p T G.numbers ++ list.tasks p T G.numbers ++ bodies)) =
      subst (AllByRecursion HasWaits) (list.normal-list p T (numbers_of p)) (bodies-wait q (normal_meets_checks p h)) in
      all_back HasWaits (list.vars p T G.numbers ++ list.tasks p T G.numbers) bodies (all_back HasWaits (list.firsts p T G.numbers) (list.vars p T G.numbers ++ list.tasks p T G.numbers ++ bodies) all)

  -- The bodies of the normal form of a legal program are so.
  pub bodies-units : BodyUnits F inner (tasked p h) bodies
  bodies-units =
      all-copies p.decls (first_scope p.name) (bodies-local p h)
      (bodies-asked p T (numbers_of p) h.legal h.placed h.names h.small (plain_name p) (program-rules p h)) (bodies-scope p h) (bodies-inner p h)
      (tasked p h) record { place = place-tasked p h; seen = tasked-well p h } (bodies-met p h) copies-wait

  -- ---- main

  made-is : made p h ≡ after_decls (tasked p h) (decls_of bodies)
  made-is =
      front-after (first_decls [] p.decls) (decls_of (main_variables G ++ flat_map (task_declared G) (tasks_beside G) ++ bodies)) (first_scope p.name)
      ∙ decls_joined (main_variables G ++ flat_map (task_declared G) (tasks_beside G)) bodies (first p h)
      ∙ ap (λ s. after_decls s (decls_of bodies)) (decls_joined (main_variables G) (flat_map (task_declared G) (tasks_beside G)) (first p h))

  main-seen : AreSeenWell p h (inner_scope (made p h))
  main-seen = subst (λ (s : Scope). AreSeenWell p h (inner_scope s)) (sym made-is) (bodies-well p h bodies (list.bodies-all G) (tasked p h) (tasked-well p h))

  main-kinds : AreKindsMeant p h (inner_scope (made p h))
  main-kinds = kinds-same p h (made p h) ((made-formed p h).same S (last-placed p h))

  main-entries : HasItsEntries (main_unit F) inner (inner_scope (made p h))
  main-entries = record {
    called = called-is p h (inner_scope (made p h)) main-seen main-kinds;
    accepted = λ name part e. absurd (none-some part (ap (λ (l : List EntryPart). entry_named l name) (sym (made-formed p h).own) ∙ e));
  }

  main-body : IsScopedBody inner (inner_scope (made p h)) q.body
  main-body =
      scopes-asked inner (inner_scope (made p h)) q.body (main-met p h (main-scope p h)) (main-inner p h (main_unit G) (inner_scope (made p h)))
      (callees-single (main_unit G) (plain_name p) (main_variables G) [] (inner_scope S) (inner_scope (made p h)) p.body (main-scope p h) (decls-frame p.decls (first_scope p.name)).own
      (main-asked p T (numbers_of p) h.legal h.placed h.names h.small (plain_name p) (program-rules p h)) (begins-refl (main_variables G)))
      (main-waits q (normal_meets_checks p h))

  -- So is main.
  pub main-told : HasItsEntries (main_unit F) inner (inner_scope (after_decls (tasked p h) (decls_of bodies))) × IsScopedBody inner (inner_scope (after_decls (tasked p h) (decls_of bodies))) q.body
  main-told = subst (λ (s : Scope). HasItsEntries (main_unit F) inner (inner_scope s) × IsScopedBody inner (inner_scope s) q.body) made-is (main-entries, main-body)
