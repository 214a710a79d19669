-- Where the statements of main and of each copy of a body begin in the normal form of a legal program.
use Rattle.std.proofs.Common.{◌≡◌, ℕ, ℤ, pos, Bool, true, false, ◌==◌, cond, List, [], ◌∷◌, ◌++◌, flat_map, unwrap_or, Some, refl, sym, ap, ◌∙◌, subst}
use Rattle.std.specs.List.{AllByRecursion, filter}
use Rattle.common_lemmas.proofs.Lists.{all_front, all_back, all_kept}
use Rattle.common_lemmas.proofs.Numbers.{equal_is}
use Rattle.ada_tree.specs.declared.naming.NameId.{NameId}
use Rattle.ada_tree.specs.declared.naming.Span.{Span}
use Rattle.ada_tree.specs.declared.naming.Word.{Word}
use Rattle.ada_tree.specs.Attributes.{false_name, true_name}
use Rattle.ada_tree.specs.PlainStmt.{PBody}
use Rattle.ada_tree.specs.PlainDecl.{PTask, PDecl, DNumber, DObject, DEnumeration, DArray, DSubtype, DException, DIntIo, DPragma, DTask, DTaskBody, PDecls, no_decl, decl_then, decls_of}
use Rattle.ada_tree.specs.PlainProgram.{PProgram}
use Rattle.ada_tree.specs.Every.{EveryDecls}
use Rattle.ada_static_rules.specs.Refusals.{MeetsTypeRules, types_in}
use Rattle.ada_static_rules.specs.Scope.{Scope, Range, Thing, TaskArray, EntryPart, truth_kind, AnException, meaning, entry_named}
use Rattle.ada_static_rules.specs.RuleArgCount.{called_entry}
use Rattle.syn_event.specs.Numbering.{task_named}
use Rattle.std.proofs.lemmas.Option.{none-some}
use Rattle.ada_static_rules.specs.Demand.{Site}
use Rattle.ada_static_rules.specs.Sites.{own_sites, body_sites, decl_sites, decls_sites, sites}
use Rattle.ada_static_rules.specs.Declaring.{first_scope, own_entries, in_body, inner_scope, after_objects, after_decl, after_decls}
use Rattle.syn_event.specs.declared.numbering.TaskInfo.{TaskInfo}
use Rattle.syn_event.specs.NamedTasks.{task_names_of}
use Rattle.syn_event.specs.DeclaredTasks.{decl_list, tasks_of}
use Rattle.task_model.specs.Setting.{Setting, entry_of}
use Rattle.normal_model.specs.Names.{variable_name, task_name}
use Rattle.normal_model.specs.Ranges.{word_at}
use Rattle.normal_model.specs.NormalStmts.{unit_variables}
use Rattle.normal_model.specs.NormalTree.{decls_front, tasks_beside, running, unit_for, main_unit, first_decls, task_declared, bodies_of, main_variables}
use Rattle.task_laws.specs.legal.rewritten_types.Agreement.{Grows}
use Rattle.task_laws.proofs.legal.rewritten_types.Fresh.{first-here}
use Rattle.task_laws.proofs.legal.rewritten_types.Keeping.{grows-on, keeps-self}
use Rattle.task_laws.proofs.legal.rewritten_types.Adding.{keeps-objects}
use Rattle.task_laws.specs.legal.rewritten_values.Values.{old_names}
use Rattle.task_laws.specs.legal.sites.Met.{IsMet}
use Rattle.task_laws.proofs.legal.sites.Meeting.{all_met}
use Rattle.normal_laws.proofs.existence.units.Apart.{all-apart}
use Rattle.normal_laws.proofs.legality.asked.Inner.{inner-names}
use Rattle.task_laws.proofs.legal.types.MainScopes.{grows-decls}
use Rattle.task_laws.proofs.legal.types.InnerScopes.{IsApartLocal, AreApart}
use Rattle.normal_laws.proofs.structure.types.Normal.{front-after}
use Rattle.normal_laws.proofs.structure.types.Variables.{unit-all, unit-new, are-added}
use Rattle.normal_laws.specs.existence.Laws.{IsLegalOriginal}
use Rattle.normal_laws.specs.structure.asked.Pieces.{IsAmong, first_among, later_among}
use Rattle.normal_laws.specs.structure.typed.ScopeOf.{IsTaskThere, IsEntryOf, IsArrayOf, IsLiteralOf, MeansLiteral, MeansInteger, IsInner}
use Rattle.task_laws.specs.legal.alike_scopes.Alike.{Alike}
use Rattle.task_laws.proofs.legal.alike_scopes.Tables.{types-kept}
use Rattle.normal_laws.specs.legality.scopes.Plain.{plain_name}
use Rattle.normal_laws.proofs.legality.scopes.Seeing.{HasEntries, entries_in}
use Rattle.normal_laws.proofs.legality.scopes.Places.{AtBodies, IsPlaced}
use Rattle.normal_laws.proofs.legality.scopes.Names.{variable-new}
use Rattle.normal_laws.proofs.legality.scopes.Olds.{old-objects}
use Rattle.normal_laws.proofs.legality.scopes.Tasks.{has_name}
use Rattle.normal_laws.proofs.legality.scopes.Formed.{HasUnit, IsFormed, formed-body}
use Rattle.normal_laws.proofs.legality.scopes.Units.{IsUnitOrNot}
use Rattle.normal_laws.proofs.legality.scopes.Bodies.{body-own, body-alike, objects-front}
use Rattle.normal_laws.proofs.legality.scopes.Outer.{AreLocal, objects-stay, objects-local, IsVariableDecl, variable-stays, variables-stay, objects-seen}
use Rattle.normal_laws.proofs.legality.scopes.Called.{IsKeptTo, kept-at, objects-back, called-is, accepted-is}
use Rattle.normal_laws.proofs.legality.scopes.Arrays.{array-is}
use Rattle.normal_laws.proofs.legality.scopes.Main.{g, old, once, decls-frame, last, first, every, walked, units-seen, last-placed, tasked, tasked-formed, tasked-there, unit-of, made, made-formed, made-means, main-alike, main-tasks, seen-with}
use Rattle.normal_laws.proofs.legality.scopes.Begun.{IsOuterScope, new-member, task-in, falses-in, trues-in, error-in, literals-in, integer-in}
use Rattle.ada_static_rules.proofs.found_twice.Declared.{objects_own}

module _ (p : PProgram) (legal : IsLegalOriginal p) where
  abbrev G : Setting
  G = g p legal

  -- the own entries of a task are those of its number
  abbrev pub AreAccepted : ℕ → List EntryPart → Type 0
  AreAccepted task es = (name : NameId) (part : EntryPart) → entry_named es name ≡ Some part → IsEntryOf G (entry_of G.numbers task name) part

  -- What is told of the scopes where the statements of a unit begin, of the program and of its normal form: names that are plain mean the same, each
  -- task has its own name, and INTEGER, literals and PROGRAM_ERROR stand for themselves. The entries that the program's scope sees, and its arrays of
  -- tasks, are those of the numbers; that task runs the unit.
  pub record IsBegun (task : ℕ) (c d : Scope) : Type 0 where
    pub alike : Alike (plain_name p) c d
    pub tasks : (info : TaskInfo) → IsAmong info (tasks_beside G) → IsTaskThere G c d info × ((z : ℤ) → info.member ≡ Some z → plain_name p (task_name G info).0 ≡ false)
    pub integer : MeansInteger d
    pub falses : MeansLiteral d (record { 0 = false_name }) truth_kind (pos 0)
    pub trues : MeansLiteral d (record { 0 = true_name }) truth_kind (pos 1)
    pub literals : (id : NameId) (k n : ℕ) → IsLiteralOf (types_in p) id k n → MeansLiteral d id k (pos n)
    pub program_error : meaning d (record { 0 = 8 }) ≡ Some AnException
    pub called : (id name : NameId) (part : EntryPart) → called_entry (meaning c id) name ≡ Some part → IsEntryOf G (entry_of G.numbers (unwrap_or (task_named G.numbers id) 0) name) part
    pub accepted : AreAccepted task c.own
    pub arrays : (id : NameId) (range : Range) (es : List EntryPart) → meaning c id ≡ Some (TaskArray range es) → IsArrayOf G id range

  begun : (task : ℕ) (c d : Scope) → IsOuterScope p legal d → Alike (plain_name p) c d → ((info : TaskInfo) → IsAmong info (tasks_beside G) → IsTaskThere G c d info) →
      ((id : NameId) (x : Thing) (es : List EntryPart) → HasEntries es x → meaning c id ≡ Some x → meaning (last p legal) id ≡ Some x) → AreAccepted task c.own → IsBegun task c d
  begun task c d o a t kept own = record {
    alike = a;
    tasks = λ info i. (t info i, new-member p legal info i);
    integer = integer-in p legal d o;
    falses = falses-in p legal d o;
    trues = trues-in p legal d o;
    literals = literals-in p legal d o;
    program_error = error-in p legal d o;
    called = called-is p legal c kept;
    accepted = own;
    arrays = λ id range es e. array-is p legal id range es (kept id (TaskArray range es) es refl e);
  }

  -- ---- main

  pub main-outer : IsOuterScope p legal (inner_scope (made p legal))
  main-outer = record {
    types = ((made-formed p legal).same (last p legal) (last-placed p legal)).types;
    grows = subst (λ (s : Scope). Grows (first p legal).types s.types) (sym (front-after (first_decls [] p.decls) rest (first_scope p.name))) (grows-decls rest (first p legal));
    stays = λ id o apart. made-means p legal id;
  }
    where
      rest : PDecls
      rest = decls_of (main_variables G ++ flat_map (task_declared G) (tasks_beside G) ++ flat_map (bodies_of G) (decl_list p.decls))

  -- Where main's statements begin it is so.
  pub main-begun : IsBegun (main_unit G).task (inner_scope (last p legal)) (inner_scope (made p legal))
  main-begun =
      begun (main_unit G).task (inner_scope (last p legal)) (inner_scope (made p legal)) main-outer (main-alike p legal) (main-tasks p legal) (λ id x es has e. e)
      (subst (AreAccepted (main_unit G).task) (sym (decls-frame p.decls (first_scope p.name)).own) (λ name part e. absurd (none-some part e)))

  -- ---- bodies

  -- a scope of the normal form behind its tasks and some bodies
  pub record IsBodied (t : Scope) : Type 0 where
    pub formed : IsFormed (old p legal) G (last p legal) (first p legal) (task_names_of p) t
    pub means : (id : NameId) → meaning t id ≡ meaning (tasked p legal) id
    pub grows : Grows (first p legal).types t.types

  -- a body keeps it so
  pub bodied-body : (w : Word) (objects : PDecls) (its : PBody) (sp : Span) (t : Scope) → IsBodied t → IsBodied (after_decl t (DTaskBody w objects its sp))
  bodied-body w objects its sp t b = record {
    formed = formed-body (old p legal) G (last p legal) (first p legal) (task_names_of p) w objects its sp t b.formed;
    means = b.means;
    grows = grows-on b.grows (keeps-objects {old = plain_name p} objects (in_body t w) refl).grows;
  }

  -- behind the tasks it is so
  pub bodied-tasked : IsBodied (tasked p legal)
  bodied-tasked = record {
    formed = tasked-formed p legal;
    means = λ id. refl;
    grows = grows-on (grows-decls (decls_of (main_variables G)) (first p legal)) (grows-decls (decls_of (flat_map (task_declared G) (tasks_beside G))) (after_decls (first p legal) (decls_of (main_variables G))));
  }

  module _ (t : Scope) (b : IsBodied t) (v : Word) (objects : PDecls) (vars : List PDecl) (local : AreLocal G (old p legal) objects) (named : (id : NameId) → ((k : ℕ) → ((variable_name G k).0 == id.0) ≡ false) → AllByRecursion (IsVariableDecl G (old p legal) id) vars) where
    abbrev d : Scope
    d = inner_scope (after_objects (in_body t v) (decls_front objects (decls_of vars)))

    pub body-outer : IsOuterScope p legal d
    body-outer = record {
      types = types-kept (plain_name p) (types_in p) t.types (types_in p) d.types (b.formed.same (last p legal) (last-placed p legal)).types (keeps-self (types_in p)) (keeps-objects (decls_front objects (decls_of vars)) (in_body t v) refl);
      grows = grows-on b.grows (keeps-objects {old = plain_name p} (decls_front objects (decls_of vars)) (in_body t v) refl).grows;
      stays = λ id o apart.
          ap (λ q. meaning q id) (objects-front objects (decls_of vars) (in_body t v))
          ∙ variables-stay G (old p legal) id vars (named id apart) (after_objects (in_body t v) objects)
          ∙ objects-stay G (old p legal) objects (in_body t v) id local o
          ∙ b.means id;
    }

  -- ---- lists

  among-filter : (q : TaskInfo → Bool) (x : TaskInfo) (xs : List TaskInfo) → IsAmong x (filter q xs) → IsAmong x xs × (q x ≡ true)
  among-filter q x [] i = elim i [ ]
  among-filter q x (y ∷ ys) i = by_test (q y) refl i (among-filter q x ys)
    where
      same-first : (z : TaskInfo) (zs : List TaskInfo) → IsAmong x zs → zs ≡ y ∷ filter q ys → q y ≡ true → (IsAmong x (filter q ys) → IsAmong x ys × (q x ≡ true)) → IsAmong x (y ∷ ys) × (q x ≡ true)
      same-first z zs (first_among us) e f later = let s : x ≡ y = head-same e in (subst (λ u. IsAmong x (u ∷ ys)) s (first_among ys), subst (λ u. q u ≡ true) (sym s) f)
        where
          head-same : {a c : TaskInfo} {us cs : List TaskInfo} → a ∷ us ≡ c ∷ cs → a ≡ c
          head-same h = cc
      same-first z zs (later_among u us j) e f later = let r = later (subst (IsAmong x) (tail-same e) j) in (later_among y ys r.0, r.1)
        where
          tail-same : {a c : TaskInfo} {us cs : List TaskInfo} → a ∷ us ≡ c ∷ cs → us ≡ cs
          tail-same h = cc

      by_test : (c : Bool) → q y ≡ c → IsAmong x (cond c (y ∷ filter q ys) (filter q ys)) → (IsAmong x (filter q ys) → IsAmong x ys × (q x ≡ true)) → IsAmong x (y ∷ ys) × (q x ≡ true)
      by_test true f j later = same-first y (y ∷ filter q ys) j refl f later
      by_test false f j later = let r = later j in (later_among y ys r.0, r.1)

  filter-passes : {A : Type 0} (q : A → Bool) (xs : List A) → AllByRecursion (λ x. q x ≡ true) (filter q xs)
  filter-passes q [] = tt
  filter-passes q (x ∷ xs) = by_test (q x) refl (filter-passes q xs)
    where
      by_test : (c : Bool) → q x ≡ c → AllByRecursion (λ y. q y ≡ true) (filter q xs) → AllByRecursion (λ y. q y ≡ true) (cond c (x ∷ filter q xs) (filter q xs))
      by_test true f h = (f, h)
      by_test false f h = h

  -- ---- one body

  -- what is known of a body in the program
  pub record IsBodyAt (s : Scope) (w : Word) (objects : PDecls) (its : PBody) (sp : Span) : Type 0 where
    pub placed : IsPlaced (last p legal) (task_names_of p) (first p legal) s
    pub units : AllByRecursion (IsUnitOrNot (last p legal) s) (tasks_of p)
    pub met : AllByRecursion IsMet (decl_sites s (DTaskBody w objects its sp))
    pub inner : AllByRecursion (λ (x : Site). IsInner G x.demand) (decl_sites s (DTaskBody w objects its sp))
    pub apart : AreApart (types_in p) (decl_sites s (DTaskBody w objects its sp))
    pub every : EveryDecls (old_names (plain_name p)) objects
    pub kept : IsKeptTo (last p legal) s

  module _ (s : Scope) (w : Word) (objects : PDecls) (its : PBody) (sp : Span) (at : IsBodyAt s w objects its sp) (t : Scope) (b : IsBodied t) (info : TaskInfo) (i : IsAmong info (running G w.name)) where
    abbrev vars : List PDecl
    vars = unit_variables (unit_for G w.name) its

    abbrev v : Word
    v = word_at w.span (task_name G info)

    among : IsAmong info (tasks_beside G) × ((info.unit.0 == w.name.0) ≡ true)
    among = among-filter (λ x. x.unit.0 == w.name.0) info (tasks_beside G) i

    abbrev unit : HasUnit (old p legal) G (last p legal) (first p legal) (task_names_of p) info
    unit = unit-of p legal info among.0

    unit-name : unit.unit.name.name.0 ≡ w.name.0
    unit-name =
        equal_is unit.unit.name.name.0 info.unit.0 (subst (AllByRecursion (λ (x : PTask). (x.name.name.0 == info.unit.0) ≡ true)) unit.declared (filter-passes (has_name info.unit) (tasks_of p))).0
        ∙ equal_is info.unit.0 w.name.0 among.1

    unit-seen : IsUnitOrNot (last p legal) s unit.unit
    unit-seen = (subst (AllByRecursion (IsUnitOrNot (last p legal) s)) unit.declared (all_kept (IsUnitOrNot (last p legal) s) (has_name info.unit) (tasks_of p) at.units)).0

    abbrev own-sites : List Site
    own-sites = own_sites (in_body s w) objects

    local : AreLocal G (old p legal) objects
    local =
        let rest : List Site = body_sites (inner_scope (after_objects (in_body s w) objects)) its in
        objects-local G (old p legal) objects (in_body s w) refl at.every (all_front IsMet own-sites rest at.met.1) (all_front (λ (x : Site). IsInner G x.demand) own-sites rest at.inner.1)
        (all_front (λ (x : Site). IsApartLocal (types_in p) x.demand) own-sites rest at.apart.1)

    own-is : own_entries (meaning s w.name) ≡ entries_in (last p legal) unit.unit
    own-is = body-own (last p legal) s w unit.unit unit-name unit-seen at.met.0.known

    begins : Alike (plain_name p) (inner_scope (after_objects (in_body s w) objects)) (inner_scope (after_objects (in_body t v) (decls_front objects (decls_of vars))))
    begins =
        body-alike (plain_name p) s t w v objects (decls_of vars) (b.formed.same s at.placed)
        (own-is ∙ sym (ap own_entries (b.means (task_name G info) ∙ tasked-there p legal info among.0)))
        (old-objects (old_names (plain_name p)) (plain_name p) (λ id o. o) objects at.every)
        (are-added (plain_name p) vars (unit-new (plain_name p) (unit_for G w.name) (variable-new G) its))

    outer : IsOuterScope p legal (inner_scope (after_objects (in_body t v) (decls_front objects (decls_of vars))))
    outer =
        body-outer t b v objects vars local
        (λ id apart. unit-all (IsVariableDecl G (old p legal) id) (unit_for G w.name) (λ q x k. variable-stays G (old p legal) id apart q x k) its)

    task-begun : (a : TaskInfo) → IsAmong a (tasks_beside G) → IsTaskThere G (inner_scope (after_objects (in_body s w) objects)) (inner_scope (after_objects (in_body t v) (decls_front objects (decls_of vars)))) a
    task-begun a j =
        let u = unit-of p legal a j in
        record {
          entries = entries_in (last p legal) u.unit;
          means = task-in p legal (inner_scope (after_objects (in_body t v) (decls_front objects (decls_of vars)))) outer a j ∙ tasked-there p legal a j;
          seen = objects-seen (entries_in (last p legal) u.unit) objects (in_body s w) a.name refl (seen-with (last p legal) s a.name u.unit (u.seen s at.placed));
        }

    pub body-begun : IsBegun (unit_for G w.name).task (inner_scope (after_objects (in_body s w) objects)) (inner_scope (after_objects (in_body t v) (decls_front objects (decls_of vars))))
    body-begun =
        begun (unit_for G w.name).task _ _ outer begins task-begun (λ id x es has e. at.kept id x (objects-back objects (in_body s w) id es x refl has e))
        (subst (AreAccepted (unit_for G w.name).task) (sym (objects_own objects (in_body s w) ∙ own-is)) (accepted-is p legal unit.unit info.unit w.name unit.declared unit-name info among.0 among.1))

  -- ---- all bodies

  -- Where the statements of each copy of a body begin it is so, wherever behind the tasks it stands.
  abbrev pub BodiesBegun : Scope → PDecls → Type 0
  BodiesBegun s no_decl = Prim.Unit {0}
  BodiesBegun s (decl_then (DTaskBody w objects its sp) rest) =
      ((t : Scope) → IsBodied t → (info : TaskInfo) → IsAmong info (running G w.name) →
      IsBegun (unit_for G w.name).task (inner_scope (after_objects (in_body s w) objects))
      (inner_scope (after_objects (in_body t (word_at w.span (task_name G info))) (decls_front objects (decls_of (unit_variables (unit_for G w.name) its))))))
      × BodiesBegun (after_decl s (DTaskBody w objects its sp)) rest
  BodiesBegun s (decl_then d rest) = BodiesBegun (after_decl s d) rest

  abbrev IsInnerSite : Site → Type 0
  IsInnerSite x = IsInner G x.demand

  abbrev IsApartSite : Site → Type 0
  IsApartSite x = IsApartLocal (types_in p) x.demand

  bodies : (ds : PDecls) (s : Scope) → AtBodies (IsPlaced (last p legal) (task_names_of p) (first p legal)) s ds → AtBodies (λ q. AllByRecursion (IsUnitOrNot (last p legal) q) (tasks_of p)) s ds → AtBodies (IsKeptTo (last p legal)) s ds → AllByRecursion IsMet (decls_sites s ds) → AllByRecursion (λ (x : Site). IsInner G x.demand) (decls_sites s ds) → AreApart (types_in p) (decls_sites s ds) → EveryDecls (old_names (plain_name p)) ds → BodiesBegun s ds
  bodies no_decl s placed units kept met inner apart whole = tt
  bodies (decl_then (DTaskBody w objects its sp) rest) s placed units kept met inner apart whole =
      let d : PDecl = DTaskBody w objects its sp in
      let one : List Site = decl_sites s d in
      let more : List Site = decls_sites (after_decl s d) rest in (
        λ t b info i. body-begun s w objects its sp
            record { placed = placed.0; units = units.0; met = all_front IsMet one more met; inner = all_front IsInnerSite one more inner; apart = all_front IsApartSite one more apart; every = whole.0.3; kept = kept.0 } t b info i,
        bodies rest (after_decl s d) placed.1 units.1 kept.1 (all_back IsMet one more met) (all_back IsInnerSite one more inner) (all_back IsApartSite one more apart) whole.1,
      )
  bodies (decl_then (DNumber w e sp) rest) s placed units kept met inner apart whole =
      let one : List Site = decl_sites s (DNumber w e sp) in
      let more : List Site = decls_sites (after_decl s (DNumber w e sp)) rest in
      bodies rest (after_decl s (DNumber w e sp)) placed units kept (all_back IsMet one more met) (all_back IsInnerSite one more inner) (all_back IsApartSite one more apart) whole.1
  bodies (decl_then (DObject ws c x i sp) rest) s placed units kept met inner apart whole =
      let one : List Site = decl_sites s (DObject ws c x i sp) in
      let more : List Site = decls_sites (after_decl s (DObject ws c x i sp)) rest in
      bodies rest (after_decl s (DObject ws c x i sp)) placed units kept (all_back IsMet one more met) (all_back IsInnerSite one more inner) (all_back IsApartSite one more apart) whole.1
  bodies (decl_then (DEnumeration w ws sp) rest) s placed units kept met inner apart whole =
      let one : List Site = decl_sites s (DEnumeration w ws sp) in
      let more : List Site = decls_sites (after_decl s (DEnumeration w ws sp)) rest in
      bodies rest (after_decl s (DEnumeration w ws sp)) placed units kept (all_back IsMet one more met) (all_back IsInnerSite one more inner) (all_back IsApartSite one more apart) whole.1
  bodies (decl_then (DArray w q x sp) rest) s placed units kept met inner apart whole =
      let one : List Site = decl_sites s (DArray w q x sp) in
      let more : List Site = decls_sites (after_decl s (DArray w q x sp)) rest in
      bodies rest (after_decl s (DArray w q x sp)) placed units kept (all_back IsMet one more met) (all_back IsInnerSite one more inner) (all_back IsApartSite one more apart) whole.1
  bodies (decl_then (DSubtype w x sp) rest) s placed units kept met inner apart whole =
      let one : List Site = decl_sites s (DSubtype w x sp) in
      let more : List Site = decls_sites (after_decl s (DSubtype w x sp)) rest in
      bodies rest (after_decl s (DSubtype w x sp)) placed units kept (all_back IsMet one more met) (all_back IsInnerSite one more inner) (all_back IsApartSite one more apart) whole.1
  bodies (decl_then (DException ws sp) rest) s placed units kept met inner apart whole =
      let one : List Site = decl_sites s (DException ws sp) in
      let more : List Site = decls_sites (after_decl s (DException ws sp)) rest in
      bodies rest (after_decl s (DException ws sp)) placed units kept (all_back IsMet one more met) (all_back IsInnerSite one more inner) (all_back IsApartSite one more apart) whole.1
  bodies (decl_then (DIntIo w sp) rest) s placed units kept met inner apart whole =
      let one : List Site = decl_sites s (DIntIo w sp) in
      let more : List Site = decls_sites (after_decl s (DIntIo w sp)) rest in
      bodies rest (after_decl s (DIntIo w sp)) placed units kept (all_back IsMet one more met) (all_back IsInnerSite one more inner) (all_back IsApartSite one more apart) whole.1
  bodies (decl_then (DPragma e sp) rest) s placed units kept met inner apart whole =
      let one : List Site = decl_sites s (DPragma e sp) in
      let more : List Site = decls_sites (after_decl s (DPragma e sp)) rest in
      bodies rest (after_decl s (DPragma e sp)) placed units kept (all_back IsMet one more met) (all_back IsInnerSite one more inner) (all_back IsApartSite one more apart) whole.1
  bodies (decl_then (DTask u sp) rest) s placed units kept met inner apart whole =
      let one : List Site = decl_sites s (DTask u sp) in
      let more : List Site = decls_sites (after_decl s (DTask u sp)) rest in
      bodies rest (after_decl s (DTask u sp)) placed units kept (all_back IsMet one more met) (all_back IsInnerSite one more inner) (all_back IsApartSite one more apart) whole.1

  pub bodies-begun : BodiesBegun (first_scope p.name) p.decls
  bodies-begun =
      bodies p.decls (first_scope p.name) (walked p legal).places (units-seen p legal) (kept-at p.decls (first_scope p.name) (first-here p.name) (once p legal).1) (decl-part IsMet (all_met p rules)) (decl-part IsInnerSite (inner-names p rules)) (decl-part IsApartSite (all-apart p rules)) (every p legal).2
    where
      rules : MeetsTypeRules p
      rules = legal.legal.type_rules

      decl-part : (P : Site → Type 0) → AllByRecursion P (sites p) → AllByRecursion P (decls_sites (first_scope p.name) p.decls)
      decl-part P h = all_front P (decls_sites (first_scope p.name) p.decls) (body_sites (inner_scope (after_decls (first_scope p.name) p.decls)) p.body) h.1
