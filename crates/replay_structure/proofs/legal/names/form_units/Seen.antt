-- In the normal form of a legal program no name is that of a task or of a task type but those of the tasks beside main, each of which is a single
-- task with the entries of its unit.
use Rattle.std.proofs.Common.{◌≡◌, ℕ, ◌==◌, Bool, List, [], ◌∷◌, ◌++◌, flat_map, find, Option, Some, None, option_map, refl, sym, ap, subst, ◌∙◌}
use Rattle.std.specs.List.{AllByRecursion}
use Rattle.std.proofs.lemmas.Option.{none-some}
use Rattle.common_lemmas.proofs.Options.{some_same}
use Rattle.ada_tree.specs.declared.naming.NameId.{NameId}
use Rattle.ada_tree.specs.declared.naming.Word.{Word}
use Rattle.ada_tree.specs.PlainDecl.{PShape, PDecl, DNumber, DObject, DEnumeration, DArray, DSubtype, DException, DIntIo, DPragma, DTask, DTaskBody, PDecls, no_decl, decl_then, decls_of}
use Rattle.ada_tree.specs.PlainProgram.{PProgram}
use Rattle.ada_static_rules.specs.Scope.{Scope, NameMeaning, EntryPart, Thing, TaskType, SingleTask, MainProcedure, AnException, meaning}
use Rattle.ada_static_rules.specs.Declaring.{first_scope, with_name, with_names, type_of_mark, declared_object, after_objects, after_decl, after_decls}
use Rattle.syn_event.specs.declared.numbering.TaskInfo.{TaskInfo}
use Rattle.syn_event.specs.NamedTasks.{task_names_of}
use Rattle.syn_event.specs.DeclaredTasks.{decl_list}
use Rattle.task_model.specs.Setting.{Setting}
use Rattle.task_laws.proofs.legal.rewritten_types.Lookups.{find-all}
use Rattle.normal_model.specs.Names.{task_name}
use Rattle.normal_model.specs.NormalTree.{first_decls, tasks_beside, task_declared, main_variables, task_under}
use Rattle.normal_laws.proofs.structure.numbers.Listed as list
use Rattle.normal_laws.proofs.existence.seen_tasks.Scopes.{IsNoTask, ObjectThing, no_task_object, one_object, array_of_objects, object-thing, task-type-seen}
use Rattle.normal_laws.specs.structure.asked.Pieces.{IsAmong, first_among, later_among}
use Rattle.task_laws.specs.legal.rewritten_values.Values.{old_names}
use Rattle.normal_laws.specs.existence.Laws.{IsLegalOriginal}
use Rattle.normal_laws.proofs.legality.scopes.Seeing.{entries_in}
use Rattle.normal_laws.proofs.legality.scopes.Tasks.{one-under, entries-same}
use Rattle.normal_laws.proofs.legality.scopes.Formed.{task-formed}
use Rattle.normal_laws.proofs.legality.scopes.Main.{g, old, last, first, varied, tasked, last-placed, unit-of, varied-formed, Formed}

module _ (p : PProgram) (h : IsLegalOriginal p) where
  abbrev G : Setting
  G = g p h

  abbrev S : Scope
  S = last p h

  -- the entries of the unit of a task beside main
  abbrev pub entries_of_task : (info : TaskInfo) → IsAmong info (tasks_beside G) → List EntryPart
  entries_of_task info i = entries_in S (unit-of p h info i).unit

  -- what a name is seen as
  pub data IsSeenWell (x : NameMeaning) : Type 0 where
    no_task : IsNoTask x.thing → IsSeenWell x
    the_main : x.thing ≡ MainProcedure → IsSeenWell x
    a_task : (info : TaskInfo) (i : IsAmong info (tasks_beside G)) → x.name ≡ (task_name G info).0 → x.thing ≡ SingleTask (entries_of_task info i) → IsSeenWell x

  abbrev pub AreSeenWell : Scope → Type 0
  AreSeenWell s = AllByRecursion IsSeenWell s.names

  -- no name is that of a task type
  no-type : (s : Scope) → AreSeenWell s → (id : NameId) (es : List EntryPart) → meaning s id ≡ Some (TaskType es) → ⊥
  no-type s a id es e = by_found (find (λ (x : NameMeaning). x.name == id.0) s.names) refl e
    where
      by_seen : (x : NameMeaning) → IsSeenWell x → x.thing ≡ TaskType es → ⊥
      by_seen x (no_task n) f = subst IsNoTask f n
      by_seen x (the_main m) f = let q : MainProcedure ≡ TaskType es = sym m ∙ f in cc
      by_seen x (a_task info i n t) f = let q : SingleTask (entries_of_task info i) ≡ TaskType es = sym t ∙ f in cc

      by_found : (o : Option NameMeaning) → find (λ (x : NameMeaning). x.name == id.0) s.names ≡ o → option_map (λ (x : NameMeaning). x.thing) o ≡ Some (TaskType es) → ⊥
      by_found None f q = none-some (TaskType es) q
      by_found (Some x) f q = by_seen x (find-all IsSeenWell (λ (y : NameMeaning). y.name == id.0) s.names x a f) (some_same q)

  -- so no object is one of tasks
  object-well : (s : Scope) → AreSeenWell s → (constant : Bool) (shape : PShape) → IsNoTask (declared_object s constant shape).thing
  object-well s a constant shape = by_form (declared_object s constant shape).thing (object-thing s constant shape)
    where
      by_form : (th : Thing) → ObjectThing s shape th → IsNoTask th
      by_form th (no_task_object _ n) = n
      by_form th (one_object x es f q m) = absurd (no-type s a x.mark.name es (task-type-seen s x.mark.name es m))
      by_form th (array_of_objects r x range es f q m d) = absurd (no-type s a x.mark.name es (task-type-seen s x.mark.name es m))

  -- ---- declarations

  names-well : (th : Thing) (ws : List Word) (s : Scope) → IsNoTask th → AreSeenWell s → AreSeenWell (with_names th s ws)
  names-well th [] s n a = a
  names-well th (w ∷ ws) s n a = names-well th ws (with_name th s w) n (no_task n, a)

  type-no-task : (o : Option ℕ) → IsNoTask (type_of_mark o)
  type-no-task (Some m) = tt
  type-no-task None = tt

  plain-well : (d : PDecl) (s : Scope) → list.IsPlain d → AreSeenWell s → AreSeenWell (after_decl s d)
  plain-well (DNumber w e sp) s k a = (no_task tt, a)
  plain-well (DObject ws c x i sp) s k a = names-well (declared_object s c x).thing ws _ (object-well s a c x) a
  plain-well (DEnumeration w ws sp) s k a = names-well _ ws _ tt (no_task tt, a)
  plain-well (DArray w r x sp) s k a = (no_task (type-no-task _), a)
  plain-well (DSubtype w x sp) s k a = (no_task (type-no-task _), a)
  plain-well (DException ws sp) s k a = names-well AnException ws s tt a
  plain-well (DIntIo w sp) s k a = (no_task tt, a)
  plain-well (DPragma e sp) s k a = a
  plain-well (DTask t sp) s k a = absurd k
  plain-well (DTaskBody w objects its sp) s k a = absurd k

  plains-well : (xs : List PDecl) (s : Scope) → AllByRecursion list.IsPlain xs → AreSeenWell s → AreSeenWell (after_decls s (decls_of xs))
  plains-well [] s k a = a
  plains-well (d ∷ xs) s k a = plains-well xs (after_decl s d) k.1 (plain-well d s k.0 a)

  decls-well : (ds : PDecls) (s : Scope) → AllByRecursion list.IsPlain (decl_list ds) → AreSeenWell s → AreSeenWell (after_decls s ds)
  decls-well no_decl s k a = a
  decls-well (decl_then d ds) s k a = decls-well ds (after_decl s d) k.1 (plain-well d s k.0 a)

  predefined-well : AreSeenWell (first_scope p.name)
  predefined-well = (
    the_main refl,
    (no_task tt, (no_task tt, (no_task tt, (no_task tt, (no_task tt, (no_task tt, (no_task tt, (no_task tt, (no_task tt, (no_task tt, (no_task tt, (no_task tt, (no_task tt, (no_task tt, (no_task tt, (no_task tt, (no_task tt, (no_task tt, tt)))))))))))))))))),
  )

  first-well : AreSeenWell (first p h)
  first-well = decls-well (first_decls [] p.decls) (first_scope p.name) (list.first-plain p.decls []) predefined-well

  varied-well : AreSeenWell (varied p h)
  varied-well = plains-well (main_variables G) (first p h) (list.vars-plain p G.types G.numbers) first-well

  -- ---- tasks

  tasks-well : (infos : List TaskInfo) → ((x : TaskInfo) → IsAmong x infos → IsAmong x (tasks_beside G)) → (t : Scope) → Formed p h t → AreSeenWell t → AreSeenWell (after_decls t (decls_of (flat_map (task_declared G) infos)))
  tasks-well [] among t f a = a
  tasks-well (info ∷ infos) among t f a =
      let i : IsAmong info (tasks_beside G) = among info (first_among infos) in
      let u = unit-of p h info i in
      let d = one-under info.unit (task_name G info) (decl_list p.decls) u.unit u.declared in
      subst (λ (xs : List PDecl). AreSeenWell (after_decls t (decls_of (xs ++ flat_map (task_declared G) infos)))) (sym d.is)
      (tasks-well infos (λ x j. among x (later_among info infos j)) (after_decl t (DTask (task_under (task_name G info) u.unit) d.place))
      (task-formed (old p h) G S (first p h) (task_names_of p) (last-placed p h) info u d.place t f)
      (a_task info i refl (ap SingleTask (sym (entries-same (old_names (old p h)) (old p h) (λ id o. o) S t (f.same S (last-placed p h)) u.unit.entries u.entries))), a))

  -- Behind the tasks it is so.
  pub tasked-well : AreSeenWell (tasked p h)
  tasked-well = tasks-well (tasks_beside G) (λ x i. i) (varied p h) (varied-formed p h) varied-well

  -- ---- bodies

  -- bodies leave it so
  pub bodies-well : (xs : List PDecl) → AllByRecursion list.IsOneBody xs → (t : Scope) → AreSeenWell t → AreSeenWell (after_decls t (decls_of xs))
  bodies-well [] k t a = a
  bodies-well (DTaskBody w objects its sp ∷ xs) k t a = bodies-well xs k.1 (after_decl t (DTaskBody w objects its sp)) a
  bodies-well (DNumber w e sp ∷ xs) k t a = absurd k.0
  bodies-well (DObject ws c x i sp ∷ xs) k t a = absurd k.0
  bodies-well (DEnumeration w ws sp ∷ xs) k t a = absurd k.0
  bodies-well (DArray w r x sp ∷ xs) k t a = absurd k.0
  bodies-well (DSubtype w x sp ∷ xs) k t a = absurd k.0
  bodies-well (DException ws sp ∷ xs) k t a = absurd k.0
  bodies-well (DIntIo w sp ∷ xs) k t a = absurd k.0
  bodies-well (DPragma e sp ∷ xs) k t a = absurd k.0
  bodies-well (DTask u sp ∷ xs) k t a = absurd k.0

  -- and so do the objects of one
  pub objects-well : (ds : PDecls) (s : Scope) → AreSeenWell s → AreSeenWell (after_objects s ds)
  objects-well no_decl s a = a
  objects-well (decl_then (DObject ws c x i sp) rest) s a = objects-well rest _ (names-well (declared_object s c x).thing ws _ (object-well s a c x) a)
  objects-well (decl_then (DNumber w e sp) rest) s a = objects-well rest s a
  objects-well (decl_then (DEnumeration w ws sp) rest) s a = objects-well rest s a
  objects-well (decl_then (DArray w r x sp) rest) s a = objects-well rest s a
  objects-well (decl_then (DSubtype w x sp) rest) s a = objects-well rest s a
  objects-well (decl_then (DException ws sp) rest) s a = objects-well rest s a
  objects-well (decl_then (DIntIo w sp) rest) s a = objects-well rest s a
  objects-well (decl_then (DPragma e sp) rest) s a = objects-well rest s a
  objects-well (decl_then (DTask u sp) rest) s a = objects-well rest s a
  objects-well (decl_then (DTaskBody w os its sp) rest) s a = objects-well rest s a
