-- In a program of own names each task of the replay text has its body, and the added tasks have theirs alone.
use Rattle.std.proofs.Common.{◌≡◌, ℕ, zero, suc, ◌==◌, ◌||◌, Bool, true, false, cond, List, [], ◌∷◌, ◌++◌, map, flat_map, slice_get, option_map, Option, Some, None, refl, sym, ap, ap₂, ◌∙◌, true≢false}
use Rattle.std.specs.List.{AllByRecursion, filter}
use Rattle.std.proofs.lemmas.Bool.{eqb-true, eq-eqb, or_left, or_right}
use Rattle.std.proofs.lemmas.Option.{none-some, slice_get-map}
use Rattle.ada_tree.specs.declared.naming.NameId.{NameId}
use Rattle.ada_tree.specs.declared.naming.Span.{Span}
use Rattle.ada_tree.specs.declared.naming.Word.{Word}
use Rattle.ada_tree.specs.TypeTable.{TypeTable}
use Rattle.ada_tree.specs.PlainStmt.{PBody}
use Rattle.ada_tree.specs.PlainDecl.{PTask, PDecl, DNumber, DObject, DEnumeration, DArray, DSubtype, DException, DIntIo, DPragma, DTask, DTaskBody, PDecls}
use Rattle.ada_tree.specs.PlainProgram.{PProgram}
use Rattle.ada_static_rules.specs.Refusals.{types_in}
use Rattle.syn_event.specs.declared.numbering.TaskInfo.{TaskInfo}
use Rattle.syn_event.specs.Numbering.{Numbering, task_at}
use Rattle.syn_event.specs.AddedNames.{is_added_name, task_info}
use Rattle.syn_event.specs.NamedTasks.{NumberedTask, numbered_tasks}
use Rattle.syn_event.specs.AllNumbers.{info_of_task, all_numbers}
use Rattle.syn_event.specs.DeclaredTasks.{decl_list}
use Rattle.task_model.specs.Setting.{Setting}
use Rattle.normal_model.specs.Names.{task_name}
use Rattle.normal_model.specs.NormalTree.{tasks_beside, unit_for, body_copy, bodies_of, normal_tree}
use Rattle.normal_model.specs.NormalStmts.{normal_body, unit_variables}
use Rattle.replay_model.specs.Names.{control_text, idle_text, replay_names, added_id}
use Rattle.replay_model.specs.ReplayTree.{normal_setting}
use Rattle.task_laws.proofs.legal.rewritten_types.Lookups.{place-all}
use Rattle.normal_laws.specs.structure.types.Laws.{IsOrdered, setting_of, AreOwn}
use Rattle.normal_laws.specs.structure.numbers.Laws.{NoneIsDed}
use Rattle.normal_laws.proofs.structure.numbers.Named.{reserved-added}
use Rattle.normal_laws.proofs.structure.numbers.Listed.{IsPlain, IsOneTask, first-plain, firsts, vars, tasks, bodies, vars-plain, tasks-all, normal-list}
use Rattle.replay_structure.proofs.texts.Rooted.{replay-has}
use Rattle.normal_laws.proofs.structure.numbers.Tasked.{under, normal-tasks-of}
use Rattle.replay_structure.proofs.texts.Kept.{all-not-added}
use Rattle.replay_structure.specs.bodies.Laws.{has_body, HasBodies, ProgramsRun}
use Rattle.replay_structure.proofs.bodies.Bodies.{units_are_replayed, added_tasks_run}
use Rattle.common_lemmas.proofs.Options.{some_same}

-- ---- whether a body is declared

joined : (xs ys : List PDecl) (id : NameId) → has_body (xs ++ ys) id ≡ (has_body xs id || has_body ys id)
joined [] ys id = refl
joined (DTaskBody w objects its sp ∷ xs) ys id = by_test (w.name.0 == id.0) (joined xs ys id)
  where
    by_test : (b : Bool) → has_body (xs ++ ys) id ≡ (has_body xs id || has_body ys id) → (b || has_body (xs ++ ys) id) ≡ ((b || has_body xs id) || has_body ys id)
    by_test true e = refl
    by_test false e = e
joined (DTask t sp ∷ xs) ys id = joined xs ys id
joined (DNumber w e sp ∷ xs) ys id = joined xs ys id
joined (DObject ws c x i sp ∷ xs) ys id = joined xs ys id
joined (DEnumeration w ws sp ∷ xs) ys id = joined xs ys id
joined (DArray w r x sp ∷ xs) ys id = joined xs ys id
joined (DSubtype w x sp ∷ xs) ys id = joined xs ys id
joined (DException ws sp ∷ xs) ys id = joined xs ys id
joined (DIntIo w sp ∷ xs) ys id = joined xs ys id
joined (DPragma e sp ∷ xs) ys id = joined xs ys id

plain-none : (xs : List PDecl) (id : NameId) → AllByRecursion IsPlain xs → has_body xs id ≡ false
plain-none [] id h = refl
plain-none (DTaskBody w objects its sp ∷ xs) id h = absurd h.0
plain-none (DTask t sp ∷ xs) id h = absurd h.0
plain-none (DNumber w e sp ∷ xs) id h = plain-none xs id h.1
plain-none (DObject ws c x i sp ∷ xs) id h = plain-none xs id h.1
plain-none (DEnumeration w ws sp ∷ xs) id h = plain-none xs id h.1
plain-none (DArray w r x sp ∷ xs) id h = plain-none xs id h.1
plain-none (DSubtype w x sp ∷ xs) id h = plain-none xs id h.1
plain-none (DException ws sp ∷ xs) id h = plain-none xs id h.1
plain-none (DIntIo w sp ∷ xs) id h = plain-none xs id h.1
plain-none (DPragma e sp ∷ xs) id h = plain-none xs id h.1

tasks-none : (xs : List PDecl) (id : NameId) → AllByRecursion IsOneTask xs → has_body xs id ≡ false
tasks-none [] id h = refl
tasks-none (DTask t sp ∷ xs) id h = tasks-none xs id h.1
tasks-none (DTaskBody w objects its sp ∷ xs) id h = absurd h.0
tasks-none (DNumber w e sp ∷ xs) id h = absurd h.0
tasks-none (DObject ws c x i sp ∷ xs) id h = absurd h.0
tasks-none (DEnumeration w ws sp ∷ xs) id h = absurd h.0
tasks-none (DArray w r x sp ∷ xs) id h = absurd h.0
tasks-none (DSubtype w x sp ∷ xs) id h = absurd h.0
tasks-none (DException ws sp ∷ xs) id h = absurd h.0
tasks-none (DIntIo w sp ∷ xs) id h = absurd h.0
tasks-none (DPragma e sp ∷ xs) id h = absurd h.0

-- ---- copies

module _ (g : Setting) (w : Word) (objects : PDecls) (its : PBody) (s : Span) where
  abbrev copy : TaskInfo → PDecl
  copy info = body_copy g w objects (unit_variables (unit_for g w.name) its) (normal_body (unit_for g w.name) its) (λ ds b name. DTaskBody name ds b s) info

  -- there is a copy for each task that runs the body
  copy-there : (infos : List TaskInfo) (k : ℕ) (info : TaskInfo) → slice_get infos k ≡ Some info → (info.unit.0 == w.name.0) ≡ true →
      has_body (map copy (filter (λ (i : TaskInfo). i.unit.0 == w.name.0) infos)) (task_name g info) ≡ true
  copy-there [] k info at runs = absurd (none-some info at)
  copy-there (i ∷ infos) zero info at runs =
      ap (λ b. has_body (map copy (cond b (i ∷ filter (λ (x : TaskInfo). x.unit.0 == w.name.0) infos) (filter (λ (x : TaskInfo). x.unit.0 == w.name.0) infos))) (task_name g info))
      (ap (λ (x : TaskInfo). x.unit.0 == w.name.0) (some_same at) ∙ runs)
      ∙ or_left ((task_name g i).0 == (task_name g info).0) _ (eq-eqb _ _ (ap (λ (x : TaskInfo). (task_name g x).0) (some_same at)))
  copy-there (i ∷ infos) (suc k) info at runs = by_test (i.unit.0 == w.name.0) (copy-there infos k info at runs)
    where
      by_test : (b : Bool) → has_body (map copy (filter (λ (x : TaskInfo). x.unit.0 == w.name.0) infos)) (task_name g info) ≡ true →
          has_body (map copy (cond b (i ∷ filter (λ (x : TaskInfo). x.unit.0 == w.name.0) infos) (filter (λ (x : TaskInfo). x.unit.0 == w.name.0) infos))) (task_name g info) ≡ true
      by_test true e = or_right ((task_name g i).0 == (task_name g info).0) _ e
      by_test false e = e

  -- no copy has a name that no task has
  copy-none : (infos : List TaskInfo) (id : NameId) → AllByRecursion (λ (i : TaskInfo). ((task_name g i).0 == id.0) ≡ false) infos →
      has_body (map copy (filter (λ (i : TaskInfo). i.unit.0 == w.name.0) infos)) id ≡ false
  copy-none [] id h = refl
  copy-none (i ∷ infos) id h = by_test (i.unit.0 == w.name.0) (copy-none infos id h.1)
    where
      by_test : (b : Bool) → has_body (map copy (filter (λ (x : TaskInfo). x.unit.0 == w.name.0) infos)) id ≡ false →
          has_body (map copy (cond b (i ∷ filter (λ (x : TaskInfo). x.unit.0 == w.name.0) infos) (filter (λ (x : TaskInfo). x.unit.0 == w.name.0) infos))) id ≡ false
      by_test true e = ap₂ (λ (a b : Bool). a || b) h.0 e
      by_test false e = e

-- of all bodies
copies-there : (g : Setting) (ds : List PDecl) (k : ℕ) (info : TaskInfo) → slice_get (tasks_beside g) k ≡ Some info → has_body ds info.unit ≡ true → has_body (flat_map (bodies_of g) ds) (task_name g info) ≡ true
copies-there g [] k info at h = absurd (true≢false (sym h))
copies-there g (DTaskBody w objects its sp ∷ ds) k info at h = by_test (w.name.0 == info.unit.0) refl h (copies-there g ds k info at)
  where
    by_test : (b : Bool) → (w.name.0 == info.unit.0) ≡ b → (b || has_body ds info.unit) ≡ true → (has_body ds info.unit ≡ true → has_body (flat_map (bodies_of g) ds) (task_name g info) ≡ true) →
        has_body (bodies_of g (DTaskBody w objects its sp) ++ flat_map (bodies_of g) ds) (task_name g info) ≡ true
    by_test true e any later =
        joined (bodies_of g (DTaskBody w objects its sp)) (flat_map (bodies_of g) ds) (task_name g info)
        ∙ or_left _ _ (copy-there g w objects its sp (tasks_beside g) k info at (eq-eqb info.unit.0 w.name.0 (sym (eqb-true w.name.0 info.unit.0 e))))
    by_test false e any later =
        joined (bodies_of g (DTaskBody w objects its sp)) (flat_map (bodies_of g) ds) (task_name g info) ∙ or_right (has_body (bodies_of g (DTaskBody w objects its sp)) (task_name g info)) _ (later any)
copies-there g (DTask t sp ∷ ds) k info at h = copies-there g ds k info at h
copies-there g (DNumber w e sp ∷ ds) k info at h = copies-there g ds k info at h
copies-there g (DObject ws c x i sp ∷ ds) k info at h = copies-there g ds k info at h
copies-there g (DEnumeration w ws sp ∷ ds) k info at h = copies-there g ds k info at h
copies-there g (DArray w r x sp ∷ ds) k info at h = copies-there g ds k info at h
copies-there g (DSubtype w x sp ∷ ds) k info at h = copies-there g ds k info at h
copies-there g (DException ws sp ∷ ds) k info at h = copies-there g ds k info at h
copies-there g (DIntIo w sp ∷ ds) k info at h = copies-there g ds k info at h
copies-there g (DPragma e sp ∷ ds) k info at h = copies-there g ds k info at h

copies-none : (g : Setting) (ds : List PDecl) (id : NameId) → AllByRecursion (λ (i : TaskInfo). ((task_name g i).0 == id.0) ≡ false) (tasks_beside g) → has_body (flat_map (bodies_of g) ds) id ≡ false
copies-none g [] id h = refl
copies-none g (DTaskBody w objects its sp ∷ ds) id h =
    joined (bodies_of g (DTaskBody w objects its sp)) (flat_map (bodies_of g) ds) id
    ∙ ap₂ (λ (a b : Bool). a || b) (copy-none g w objects its sp (tasks_beside g) id h) (copies-none g ds id h)
copies-none g (DTask t sp ∷ ds) id h = copies-none g ds id h
copies-none g (DNumber w e sp ∷ ds) id h = copies-none g ds id h
copies-none g (DObject ws c x i sp ∷ ds) id h = copies-none g ds id h
copies-none g (DEnumeration w ws sp ∷ ds) id h = copies-none g ds id h
copies-none g (DArray w r x sp ∷ ds) id h = copies-none g ds id h
copies-none g (DSubtype w x sp ∷ ds) id h = copies-none g ds id h
copies-none g (DException ws sp ∷ ds) id h = copies-none g ds id h
copies-none g (DIntIo w sp ∷ ds) id h = copies-none g ds id h
copies-none g (DPragma e sp ∷ ds) id h = copies-none g ds id h

-- ---- the normal form

module _ (p : PProgram) (types : TypeTable) (numbers : Numbering) (id : NameId) where
  -- only the copies are bodies
  copies-alone : has_body (decl_list (normal_tree p types numbers).decls) id ≡ has_body (bodies p types numbers) id
  copies-alone =
      ap (λ l. has_body l id) (normal-list p types numbers)
      ∙ joined (firsts p types numbers) (vars p types numbers ++ tasks p types numbers ++ bodies p types numbers) id
      ∙ ap₂ (λ (a b : Bool). a || b) (plain-none (firsts p types numbers) id (first-plain p.decls []))
      (joined (vars p types numbers ++ tasks p types numbers) (bodies p types numbers) id
      ∙ ap (λ b. b || has_body (bodies p types numbers) id)
      (joined (vars p types numbers) (tasks p types numbers) id
      ∙ ap₂ (λ (a b : Bool). a || b) (plain-none (vars p types numbers) id (vars-plain p types numbers)) (tasks-none (tasks p types numbers) id (tasks-all (setting_of p types numbers)))))

module _ (p : PProgram) (ordered : IsOrdered p) (own : AreOwn p p.decls) (ded : NoneIsDed p) where
  abbrev types : TypeTable
  types = types_in p

  abbrev numbers : Numbering
  numbers = all_numbers types p

  abbrev g : Setting
  g = setting_of p types numbers

  abbrev normal : PProgram
  normal = normal_tree p types numbers

  -- no task has an added name
  others : (ys : List NumberedTask) (id : NameId) → is_added_name (replay_names normal) id ≡ true → AllByRecursion (λ (y : NumberedTask). is_added_name (replay_names normal) (under g y).name.name ≡ false) ys →
      AllByRecursion (λ (i : TaskInfo). ((task_name g i).0 == id.0) ≡ false) (map (info_of_task p.names) ys)
  others [] id a h = tt
  others (y ∷ ys) id a h = (by_test ((task_name g (info_of_task p.names y)).0 == id.0) refl, others ys id a h.1)
    where
      by_test : (b : Bool) → ((task_name g (info_of_task p.names y)).0 == id.0) ≡ b → b ≡ false
      by_test false e = refl
      by_test true e =
          let same : (task_name g (info_of_task p.names y)).0 ≡ id.0 = eqb-true _ _ e in
          absurd (true≢false (sym a ∙ (λ i. is_added_name (replay_names normal) record { 0 = sym same i }) ∙ h.0))

  no-body : (text : List ℕ) → is_added_name (replay_names normal) (added_id normal text) ≡ true → has_body (decl_list normal.decls) (added_id normal text) ≡ false
  no-body text a =
      copies-alone p types numbers (added_id normal text)
      ∙ copies-none g (decl_list p.decls) (added_id normal text) (others (numbered_tasks types p) (added_id normal text) a (all-not-added p ordered own ded))

  -- the body of a task of the normal form
  own-body : HasBodies p (tasks_beside g) → (k : ℕ) (info : TaskInfo) → task_at (normal_setting p types numbers).numbers (suc k) ≡ Some info → has_body (decl_list normal.decls) info.unit ≡ true
  own-body has k info at =
      let ys = numbered_tasks types p in
      let names : slice_get (map (λ (y : NumberedTask). task_info normal.names (under g y).name.name) ys) k ≡ Some info =
      ap (λ l. slice_get l k) (sym (mapped ys)) ∙ ap (λ (ts : List PTask). slice_get (map (λ (t : PTask). task_info normal.names t.name.name) ts) k) (sym (normal-tasks-of p types ordered)) ∙ at in
      by_place (slice_get ys k) refl (sym (slice_get-map (λ (y : NumberedTask). task_info normal.names (under g y).name.name) ys k) ∙ names)
    where
      mapped : (ys : List NumberedTask) → map (λ (t : PTask). task_info normal.names t.name.name) (map (under g) ys) ≡ map (λ (y : NumberedTask). task_info normal.names (under g y).name.name) ys
      mapped [] = refl
      mapped (y ∷ ys) = ap (λ l. task_info normal.names (under g y).name.name ∷ l) (mapped ys)

      by_place : (o : Option NumberedTask) → slice_get (numbered_tasks types p) k ≡ o → option_map (λ (y : NumberedTask). task_info normal.names (under g y).name.name) o ≡ Some info → has_body (decl_list normal.decls) info.unit ≡ true
      by_place None e f = absurd (none-some info f)
      by_place (Some y) e f =
          let there : slice_get (tasks_beside g) k ≡ Some (info_of_task p.names y) = slice_get-map (info_of_task p.names) (numbered_tasks types p) k ∙ ap (option_map (info_of_task p.names)) e in
          ap (λ (i : TaskInfo). has_body (decl_list normal.decls) i.unit) (sym (some_same f))
          ∙ copies-alone p types numbers (under g y).name.name
          ∙ copies-there g (decl_list p.decls) k (info_of_task p.names y) there (place-all (λ (i : TaskInfo). has_body (decl_list p.decls) i.unit ≡ true) (tasks_beside g) k (info_of_task p.names y) has there)

pub programs_run : ProgramsRun
programs_run p ops ordered own ded has = record {
  own = λ t info at. units_are_replayed p (types_in p) (all_numbers (types_in p) p) ops t info at (own-body p ordered own ded has t info at);
  added =
      added_tasks_run p (types_in p) (all_numbers (types_in p) p) ops
      (no-body p ordered own ded control_text (reserved-added (replay_names (normal_tree p (types_in p) (all_numbers (types_in p) p))) control_text (replay-has (normal_tree p (types_in p) (all_numbers (types_in p) p)) control_text refl) refl))
      (no-body p ordered own ded idle_text (reserved-added (replay_names (normal_tree p (types_in p) (all_numbers (types_in p) p))) idle_text (replay-has (normal_tree p (types_in p) (all_numbers (types_in p) p)) idle_text refl) refl));
}
