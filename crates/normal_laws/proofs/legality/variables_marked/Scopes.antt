-- Where the statements of main and of each copy of a body begin in the normal form of a legal program all is as the statements ask (`IsScopeOf`).
use Rattle.std.proofs.Common.{◌≡◌, ℕ, ◌+◌, ◌<◌, ◌≤◌, ◌^◌, Bool, true, false, ◌==◌, ◌||◌, List, [], ◌++◌, length, flat_map, is_some, refl, sym, ap, ◌∙◌, subst, true≢false, arith}
use Rattle.std.specs.List.{AllByRecursion}
use Rattle.common_lemmas.proofs.Lists.{all_front, all_back, all_weaker, all_joined}
use Rattle.common_lemmas.proofs.Numbers.{unequal, equal_self}
use Rattle.common_lemmas.proofs.Truth.{and_left, and_right}
use Rattle.ada_tree.specs.declared.naming.NameId.{NameId}
use Rattle.ada_tree.specs.declared.naming.Span.{Span}
use Rattle.ada_tree.specs.declared.naming.Word.{Word}
use Rattle.ada_tree.specs.TypeTable.{TypeTable}
use Rattle.ada_tree.specs.PlainExpr.{PSubind}
use Rattle.ada_tree.specs.PlainStmt.{PBody}
use Rattle.ada_tree.specs.PlainDecl.{PDecl, DNumber, DObject, DEnumeration, DArray, DSubtype, DException, DIntIo, DPragma, DTask, DTaskBody, PDecls, no_decl, decl_then, decls_of}
use Rattle.ada_tree.specs.PlainProgram.{PProgram}
use Rattle.ada_tree.specs.Every.{EveryDecls}
use Rattle.ada_static_rules.specs.Refusals.{types_in}
use Rattle.ada_static_rules.specs.Scope.{Scope, meaning}
use Rattle.ada_static_rules.specs.StaticValue.{value_named, mark_named}
use Rattle.ada_static_rules.specs.Demand.{Site}
use Rattle.ada_static_rules.specs.Sites.{own_sites, body_sites, decl_sites, decls_sites, sites}
use Rattle.ada_static_rules.specs.Declaring.{first_scope, in_body, inner_scope, after_objects, after_decl, after_decls}
use Rattle.syn_event.specs.declared.numbering.TaskInfo.{TaskInfo}
use Rattle.syn_event.specs.NamedTasks.{task_names_of}
use Rattle.syn_event.specs.DeclaredTasks.{decl_list}
use Rattle.task_model.specs.Setting.{Setting}
use Rattle.normal_model.specs.Names.{variable_name, task_name}
use Rattle.normal_model.specs.Ranges.{word_at}
use Rattle.normal_model.specs.NormalStmts.{unit_variables}
use Rattle.normal_model.specs.NormalTree.{decls_front, first_decls, tasks_beside, task_declared, bodies_of, running, unit_for, main_unit, main_variables}
use Rattle.task_laws.specs.legal.rewritten_types.Agreement.{Keeps}
use Rattle.task_laws.specs.legal.rewritten_types.Rewriting.{IsAdded}
use Rattle.task_laws.proofs.legal.rewritten_types.Keeping.{grows-self, keeps-self}
use Rattle.task_laws.proofs.legal.rewritten_types.Adding.{keeps-objects, keeps-decls}
use Rattle.task_laws.proofs.legal.rewritten_types.Soundness.{sound-decls, sound-first}
use Rattle.task_laws.proofs.legal.rewritten_types.Owning.{whole-decls, whole-first}
use Rattle.task_laws.specs.legal.rewritten_values.Values.{old_names}
use Rattle.task_laws.specs.legal.sites.Met.{IsMet}
use Rattle.task_laws.proofs.legal.sites.Meeting.{all_met}
use Rattle.task_laws.proofs.legal.types.TypedValues.{anybody}
use Rattle.task_laws.proofs.legal.types.InnerScopes.{IsApartLocal}
use Rattle.normal_laws.proofs.structure.types.Normal.{front-after}
use Rattle.normal_laws.proofs.structure.types.Variables.{are-added, task-added, tasks-only, bodies-only}
use Rattle.normal_laws.specs.existence.Laws.{IsLegalOriginal}
use Rattle.normal_laws.proofs.legality.asked.Inner.{inner-names}
use Rattle.normal_laws.specs.existence.units.Weights.{body_weight, AreLight}
use Rattle.normal_laws.proofs.existence.units.Few.{body-few}
use Rattle.normal_laws.proofs.existence.units.Apart.{all-apart}
use Rattle.normal_laws.proofs.existence.units.TasksApart.{IsNamed}
use Rattle.normal_laws.specs.structure.asked.Pieces.{IsAmong, IsVariable}
use Rattle.normal_laws.specs.structure.typed.ScopeOf.{IsInner, IsScopeOf}
use Rattle.task_laws.specs.legal.alike_scopes.Alike.{SameTypes, SameThing}
use Rattle.task_laws.proofs.legal.alike_scopes.Tables.{types-kept, rooted_is_same}
use Rattle.task_laws.proofs.legal.alike_scopes.Marks.{thing-grown}
use Rattle.normal_laws.specs.legality.scopes.Plain.{plain_name}
use Rattle.normal_laws.proofs.legality.scopes.Names.{variable-new, variable-task}
use Rattle.normal_laws.proofs.legality.scopes.Formed.{tasks-other}
use Rattle.normal_laws.proofs.legality.scopes.Outer.{AreLocal, IsOuter, outer-valued, outer-marked, objects-stay, objects-local}
use Rattle.normal_laws.proofs.legality.scopes.Bodies.{objects-front}
use Rattle.normal_laws.proofs.legality.scopes.Main.{g, old, last, first, rules, every, named, units, last-placed, first-formed, varied, tasked, made, made-means}
use Rattle.normal_laws.proofs.legality.scopes.Starts.{IsBegun, main-begun, IsBodied, bodied-body, bodied-tasked, BodiesBegun, bodies-begun}
use Rattle.normal_laws.proofs.legality.variables_marked.Static.{names-fewer, types-fewer}
use Rattle.normal_laws.proofs.legality.variables_marked.Subtypes.{fixed, variables-known}
use Rattle.normal_laws.proofs.legality.variables_marked.Steps.{IsReady, IsSeenVariable, seen-later, variable-of, AreKnown, list-ready, variables-seen, objects-are-decls}
use Rattle.ada_static_rules.proofs.found_twice.Declared.{decls_joined}

-- a test of two numbers, the other way round
flip : (a b : ℕ) → (b == a) ≡ false → (a == b) ≡ false
flip a b e = unequal a b (λ q. true≢false (sym (equal_self a) ∙ ap (λ n. n == a) q ∙ e))

module _ (p : PProgram) (legal : IsLegalOriginal p) where
  abbrev T : TypeTable
  T = types_in p

  abbrev L : Scope
  L = last p legal

  abbrev G : Setting
  G = g p legal

  abbrev few : ℕ → Bool
  few = fixed p legal

  few-plain : (n : ℕ) → few n ≡ true → plain_name p n ≡ true
  few-plain n h = and_left (plain_name p n) (is_some (value_named T record { 0 = n }) || is_some (mark_named T record { 0 = n })) h

  -- ---- main

  pub first-ready : IsReady p legal (first p legal)
  first-ready = record {
    types = rooted_is_same anybody (first p legal).types T (first p legal).types record {
      sound = sound-decls (first_decls [] p.decls) (first_scope p.name) (sound-first p.name);
      whole = whole-decls (first_decls [] p.decls) (first_scope p.name) (whole-first p.name);
      left = (last-placed p legal).beside.keeps;
      right = keeps-self (first p legal).types;
    };
    same = names-fewer (plain_name p) few few-plain L (first p legal) ((first-formed p legal).same L (last-placed p legal));
  }

  main-known : AreKnown p legal 0 (main_variables G)
  main-known = variables-known p legal (main_unit G).task p.body

  main-few : length (main_variables G) < 2 ^ 64
  main-few = let few : length (unit_variables (main_unit G) p.body) ≤ 0 + body_weight p.body = body-few (main_unit G) p.body [] in omega (arith, few, legal.light.0)

  varied-ready : IsReady p legal (varied p legal)
  varied-ready = (list-ready p legal (main_variables G) 0 main-known (first p legal) first-ready).0

  abbrev tasks : List PDecl
  tasks = flat_map (task_declared G) (tasks_beside G)

  abbrev bodies : List PDecl
  bodies = flat_map (bodies_of G) (decl_list p.decls)

  tasks-keep : Keeps anybody (varied p legal).types (tasked p legal).types
  tasks-keep = keeps-decls {old = anybody} (decls_of tasks) (varied p legal) (are-added anybody tasks (all_weaker _ _ _ (task-added anybody) (tasks-only G)))

  made-keeps : Keeps anybody (varied p legal).types (made p legal).types
  made-keeps =
      subst (λ (s : Scope). Keeps anybody (varied p legal).types s.types)
      (sym (front-after (first_decls [] p.decls) (decls_of (main_variables G ++ tasks ++ bodies)) (first_scope p.name) ∙ decls_joined (main_variables G ++ tasks) bodies (first p legal)
      ∙ ap (λ s. after_decls s (decls_of bodies)) (decls_joined (main_variables G) tasks (first p legal)) ∙ sym (decls_joined tasks bodies (varied p legal))))
      (keeps-decls {old = anybody} (decls_of (tasks ++ bodies)) (varied p legal) (are-added anybody (tasks ++ bodies) (all_joined (IsAdded anybody) tasks bodies (all_weaker _ _ _ (task-added anybody) (tasks-only G)) (all_weaker _ _ _ (task-added anybody) (bodies-only G)))))

  -- the name of a variable of main means the same behind all declarations
  made-stays : (k : ℕ) → meaning (made p legal) (variable_name G k) ≡ meaning (varied p legal) (variable_name G k)
  made-stays k =
      made-means p legal (variable_name G k)
      ∙ tasks-other (old p legal) G L (first p legal) (task_names_of p) (last-placed p legal) (tasks_beside G) (units p legal) (varied p legal) (variable_name G k)
      (all_weaker (IsNamed G) _ (tasks_beside G) (λ info n. flip (task_name G info).0 (variable_name G k).0 (variable-task G info k n)) (named p legal))

  -- ---- the whole

  scope-of : (task : ℕ) (vars : List PDecl) (c d : Scope) → IsBegun p legal task c d → SameTypes anybody T d.types → ((s : Span) (x : PSubind) (k : ℕ) → IsVariable G vars s x k → IsSeenVariable p legal d (variable_name G k) x) →
      IsScopeOf (record { setting = G; task = task }) (plain_name p) vars c d
  scope-of task vars c d b types seen = record {
    alike = b.alike;
    variables = λ s x k i. (variable-of p legal d k x types (seen s x k i), variable-new G k);
    tasks = b.tasks;
    integer = b.integer;
    falses = b.falses;
    trues = b.trues;
    literals = b.literals;
    program_error = b.program_error;
    called = b.called;
    accepted = b.accepted;
    arrays = b.arrays;
  }

  -- Where main's statements begin all is as they ask.
  pub main-scope : IsScopeOf (main_unit G) (plain_name p) (main_variables G) (inner_scope L) (inner_scope (made p legal))
  main-scope =
      scope-of (main_unit G).task (main_variables G) (inner_scope L) (inner_scope (made p legal)) (main-begun p legal)
      (types-kept anybody T (varied p legal).types T (made p legal).types varied-ready.types (keeps-self T) made-keeps)
      (λ s x k i. seen-later p legal (varied p legal) (inner_scope (made p legal)) (variable_name G k) x (made-stays k) made-keeps.grows (variables-seen p legal (main_variables G) main-few main-known (first p legal) first-ready s x k i))

  -- ---- bodies

  -- A scope of the normal form behind its tasks and some bodies, which says of types and values what the program says.
  pub record IsBodyPlace (t : Scope) : Type 0 where
    pub bodied : IsBodied p legal t
    pub types : SameTypes anybody T t.types

  -- behind the tasks it is so
  pub place-tasked : IsBodyPlace (tasked p legal)
  place-tasked = record {
    bodied = bodied-tasked p legal;
    types = types-kept anybody T (varied p legal).types T (tasked p legal).types varied-ready.types (keeps-self T) tasks-keep;
  }

  -- a body keeps it so
  pub place-body : (w : Word) (objects : PDecls) (its : PBody) (sp : Span) (t : Scope) → IsBodyPlace t → IsBodyPlace (after_decl t (DTaskBody w objects its sp))
  place-body w objects its sp t b = record {
    bodied = bodied-body p legal w objects its sp t b.bodied;
    types = types-kept anybody T t.types T (after_objects (in_body t w) objects).types b.types (keeps-self T) (keeps-objects {old = anybody} objects (in_body t w) refl);
  }

  -- no inner scope hides a name with a value or a mark
  few-outer : (id : NameId) → few id.0 ≡ true → IsOuter G (old p legal) id
  few-outer id o = by_value (is_some (value_named T id)) refl (and_right (plain_name p id.0) (is_some (value_named T id) || is_some (mark_named T id)) o)
    where
      by_value : (b : Bool) → is_some (value_named T id) ≡ b → (b || is_some (mark_named T id)) ≡ true → IsOuter G (old p legal) id
      by_value true e h = outer-valued G (old p legal) id e
      by_value false e h = outer-marked G (old p legal) id h

  module _ (t : Scope) (b : IsBodyPlace t) (v : Word) (objects : PDecls) (local : AreLocal G (old p legal) objects) where
    abbrev q : Scope
    q = after_objects (in_body t v) objects

    q-keeps : Keeps anybody t.types q.types
    q-keeps = keeps-objects {old = anybody} objects (in_body t v) refl

    -- behind the objects of a body such names mean the same
    pub q-ready : IsReady p legal q
    q-ready = record {
      types = q-types;
      same = record {
        types = types-fewer anybody few (λ n o. refl) T q.types q-types;
        things = λ id o.
            subst (SameThing T q.types (meaning L id)) (sym (objects-stay G (old p legal) objects (in_body t v) id local (few-outer id o)))
            (thing-grown T T t.types q.types (grows-self T) q-keeps.grows (meaning L id) (meaning t id) ((b.bodied.formed.same L (last-placed p legal)).things id (few-plain id.0 o)));
      };
    }
      where
        q-types : SameTypes anybody T q.types
        q-types = types-kept anybody T t.types T q.types b.types (keeps-self T) q-keeps

    module _ (name : NameId) (its : PBody) (light : body_weight its < 2 ^ 64) where
      abbrev vars : List PDecl
      vars = unit_variables (unit_for G name) its

      vars-known : AreKnown p legal 0 vars
      vars-known = variables-known p legal (unit_for G name).task its

      vars-few : length vars < 2 ^ 64
      vars-few = let few : length (unit_variables (unit_for G name) its) ≤ 0 + body_weight its = body-few (unit_for G name) its [] in omega (arith, few, light)

      behind : after_objects (in_body t v) (decls_front objects (decls_of vars)) ≡ after_decls q (decls_of vars)
      behind = objects-front objects (decls_of vars) (in_body t v) ∙ objects-are-decls p legal vars 0 vars-known q

      -- so all is as the statements ask, where all but variables is
      pub body-scope : (c : Scope) → IsBegun p legal (unit_for G name).task c (inner_scope (after_objects (in_body t v) (decls_front objects (decls_of vars)))) →
          IsScopeOf (unit_for G name) (plain_name p) vars c (inner_scope (after_objects (in_body t v) (decls_front objects (decls_of vars))))
      body-scope c begun =
          scope-of (unit_for G name).task vars c (inner_scope (after_objects (in_body t v) (decls_front objects (decls_of vars)))) begun
          (subst (λ (z : Scope). SameTypes anybody T z.types) (sym behind) (list-ready p legal vars 0 vars-known q q-ready).0.types)
          (λ s x k i. seen-later p legal (after_objects (in_body t v) (decls_front objects (decls_of vars))) (inner_scope (after_objects (in_body t v) (decls_front objects (decls_of vars)))) (variable_name G k) x refl (grows-self (after_objects (in_body t v) (decls_front objects (decls_of vars))).types)
          (subst (λ (z : Scope). IsSeenVariable p legal z (variable_name G k) x) (sym behind) (variables-seen p legal vars vars-few vars-known q q-ready s x k i)))

  -- ---- all bodies

  -- Where the statements of each copy of a body begin all is as they ask, wherever behind the tasks it stands.
  abbrev pub BodiesScoped : Scope → PDecls → Type 0
  BodiesScoped s no_decl = Prim.Unit {0}
  BodiesScoped s (decl_then (DTaskBody w objects its sp) rest) =
      ((t : Scope) → IsBodyPlace t → (info : TaskInfo) → IsAmong info (running G w.name) →
      IsScopeOf (unit_for G w.name) (plain_name p) (unit_variables (unit_for G w.name) its) (inner_scope (after_objects (in_body s w) objects))
      (inner_scope (after_objects (in_body t (word_at w.span (task_name G info))) (decls_front objects (decls_of (unit_variables (unit_for G w.name) its))))))
      × BodiesScoped (after_decl s (DTaskBody w objects its sp)) rest
  BodiesScoped s (decl_then d rest) = BodiesScoped (after_decl s d) rest

  abbrev IsInnerSite : Site → Type 0
  IsInnerSite x = IsInner G x.demand

  abbrev IsApartSite : Site → Type 0
  IsApartSite x = IsApartLocal T x.demand

  -- what is known of all places of some declarations
  record AreMet (s : Scope) (ds : PDecls) : Type 0 where
    met : AllByRecursion IsMet (decls_sites s ds)
    inner : AllByRecursion IsInnerSite (decls_sites s ds)
    apart : AllByRecursion IsApartSite (decls_sites s ds)

  further : (d : PDecl) (rest : PDecls) (s : Scope) → AreMet s (decl_then d rest) → AreMet (after_decl s d) rest
  further d rest s h =
      let one : List Site = decl_sites s d in
      let more : List Site = decls_sites (after_decl s d) rest in
      record { met = all_back IsMet one more h.met; inner = all_back IsInnerSite one more h.inner; apart = all_back IsApartSite one more h.apart }

  objects-are-local : (w : Word) (objects : PDecls) (its : PBody) (sp : Span) (rest : PDecls) (s : Scope) → EveryDecls (old_names (plain_name p)) objects → AreMet s (decl_then (DTaskBody w objects its sp) rest) → AreLocal G (old p legal) objects
  objects-are-local w objects its sp rest s every h =
      let d : PDecl = DTaskBody w objects its sp in
      let one : List Site = decl_sites s d in
      let more : List Site = decls_sites (after_decl s d) rest in
      let own : List Site = own_sites (in_body s w) objects in
      let stmts : List Site = body_sites (inner_scope (after_objects (in_body s w) objects)) its in
      objects-local G (old p legal) objects (in_body s w) refl every (all_front IsMet own stmts (all_front IsMet one more h.met).1) (all_front IsInnerSite own stmts (all_front IsInnerSite one more h.inner).1)
      (all_front IsApartSite own stmts (all_front IsApartSite one more h.apart).1)

  scoped : (ds : PDecls) (s : Scope) → BodiesBegun p legal s ds → AreMet s ds → EveryDecls (old_names (plain_name p)) ds → AreLight ds → BodiesScoped s ds
  scoped no_decl s begun met whole light = tt
  scoped (decl_then (DTaskBody w objects its sp) rest) s begun met whole light = (
    λ t b info i.
        body-scope t b (word_at w.span (task_name G info)) objects (objects-are-local w objects its sp rest s whole.0.3 met) w.name its light.0 (inner_scope (after_objects (in_body s w) objects)) (begun.0 t b.bodied info i),
    scoped rest (after_decl s (DTaskBody w objects its sp)) begun.1 (further (DTaskBody w objects its sp) rest s met) whole.1 light.1,
  )
  scoped (decl_then (DNumber w e sp) rest) s begun met whole light = scoped rest (after_decl s (DNumber w e sp)) begun (further (DNumber w e sp) rest s met) whole.1 light
  scoped (decl_then (DObject ws c x i sp) rest) s begun met whole light = scoped rest (after_decl s (DObject ws c x i sp)) begun (further (DObject ws c x i sp) rest s met) whole.1 light
  scoped (decl_then (DEnumeration w ws sp) rest) s begun met whole light = scoped rest (after_decl s (DEnumeration w ws sp)) begun (further (DEnumeration w ws sp) rest s met) whole.1 light
  scoped (decl_then (DArray w r x sp) rest) s begun met whole light = scoped rest (after_decl s (DArray w r x sp)) begun (further (DArray w r x sp) rest s met) whole.1 light
  scoped (decl_then (DSubtype w x sp) rest) s begun met whole light = scoped rest (after_decl s (DSubtype w x sp)) begun (further (DSubtype w x sp) rest s met) whole.1 light
  scoped (decl_then (DException ws sp) rest) s begun met whole light = scoped rest (after_decl s (DException ws sp)) begun (further (DException ws sp) rest s met) whole.1 light
  scoped (decl_then (DIntIo w sp) rest) s begun met whole light = scoped rest (after_decl s (DIntIo w sp)) begun (further (DIntIo w sp) rest s met) whole.1 light
  scoped (decl_then (DPragma e sp) rest) s begun met whole light = scoped rest (after_decl s (DPragma e sp)) begun (further (DPragma e sp) rest s met) whole.1 light
  scoped (decl_then (DTask u sp) rest) s begun met whole light = scoped rest (after_decl s (DTask u sp)) begun (further (DTask u sp) rest s met) whole.1 light

  -- the objects of each body have names that inner scopes declare
  abbrev pub BodiesLocal : PDecls → Type 0
  BodiesLocal no_decl = Prim.Unit {0}
  BodiesLocal (decl_then (DTaskBody w objects its sp) rest) = AreLocal G (old p legal) objects × BodiesLocal rest
  BodiesLocal (decl_then d rest) = BodiesLocal rest

  all-local : (ds : PDecls) (s : Scope) → AreMet s ds → EveryDecls (old_names (plain_name p)) ds → BodiesLocal ds
  all-local no_decl s met whole = tt
  all-local (decl_then (DTaskBody w objects its sp) rest) s met whole = (objects-are-local w objects its sp rest s whole.0.3 met, all-local rest (after_decl s (DTaskBody w objects its sp)) (further (DTaskBody w objects its sp) rest s met) whole.1)
  all-local (decl_then (DNumber w e sp) rest) s met whole = all-local rest (after_decl s (DNumber w e sp)) (further (DNumber w e sp) rest s met) whole.1
  all-local (decl_then (DObject ws c x i sp) rest) s met whole = all-local rest (after_decl s (DObject ws c x i sp)) (further (DObject ws c x i sp) rest s met) whole.1
  all-local (decl_then (DEnumeration w ws sp) rest) s met whole = all-local rest (after_decl s (DEnumeration w ws sp)) (further (DEnumeration w ws sp) rest s met) whole.1
  all-local (decl_then (DArray w r x sp) rest) s met whole = all-local rest (after_decl s (DArray w r x sp)) (further (DArray w r x sp) rest s met) whole.1
  all-local (decl_then (DSubtype w x sp) rest) s met whole = all-local rest (after_decl s (DSubtype w x sp)) (further (DSubtype w x sp) rest s met) whole.1
  all-local (decl_then (DException ws sp) rest) s met whole = all-local rest (after_decl s (DException ws sp)) (further (DException ws sp) rest s met) whole.1
  all-local (decl_then (DIntIo w sp) rest) s met whole = all-local rest (after_decl s (DIntIo w sp)) (further (DIntIo w sp) rest s met) whole.1
  all-local (decl_then (DPragma e sp) rest) s met whole = all-local rest (after_decl s (DPragma e sp)) (further (DPragma e sp) rest s met) whole.1
  all-local (decl_then (DTask u sp) rest) s met whole = all-local rest (after_decl s (DTask u sp)) (further (DTask u sp) rest s met) whole.1

  places-met : AreMet (first_scope p.name) p.decls
  places-met = record { met = decl-part IsMet (all_met p (rules p legal)); inner = decl-part IsInnerSite (inner-names p (rules p legal)); apart = decl-part IsApartSite (all-apart p (rules p legal)) }
    where
      decl-part : (P : Site → Type 0) → AllByRecursion P (sites p) → AllByRecursion P (decls_sites (first_scope p.name) p.decls)
      decl-part P h = all_front P (decls_sites (first_scope p.name) p.decls) (body_sites (inner_scope (after_decls (first_scope p.name) p.decls)) p.body) h.1

  pub bodies-local : BodiesLocal p.decls
  bodies-local = all-local p.decls (first_scope p.name) places-met (every p legal).2

  pub bodies-scope : BodiesScoped (first_scope p.name) p.decls
  bodies-scope = scoped p.decls (first_scope p.name) (bodies-begun p legal) places-met (every p legal).2 legal.light.1
