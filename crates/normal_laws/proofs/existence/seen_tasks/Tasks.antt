-- The tasks for which a name stands, in the numbers.
use Rattle.std.proofs.Common.{◌≡◌, ℕ, ℤ, zero, suc, ◌<◌, Bool, true, false, ◌==◌, ◌&&◌, if◌then◌else◌, List, [], ◌∷◌, ◌++◌, length, map, flat_map, option_map, find, slice_get, get_or, Option, Some, None, ok_or, arith, Ok, refl, sym, ap, ◌∙◌, subst, true≢false}
use Rattle.std.specs.List.{AllByRecursion, position}
use Rattle.std.proofs.lemmas.Option.{none-some}
use Rattle.std.proofs.lemmas.Bool.{and_parts, eqb-true}
use Rattle.std.proofs.lemmas.List.Quantifiers.{position-Some}
use Rattle.ada_tree.specs.declared.naming.NameId.{NameId}
use Rattle.ada_tree.specs.TypeTable.{TypeTable}
use Rattle.ada_tree.specs.PlainExpr.{PDrange}
use Rattle.ada_tree.specs.PlainDecl.{PTask}
use Rattle.ada_tree.specs.PlainProgram.{PProgram}
use Rattle.syn_event.specs.declared.numbering.TaskInfo.{TaskInfo}
use Rattle.syn_event.specs.Numbering.{task_named}
use Rattle.syn_event.specs.AddedNames.{task_info}
use Rattle.syn_event.specs.DeclaredTasks.{tasks_of}
use Rattle.syn_event.specs.NamedTasks.{NamedTasks, task_names_of, NumberedTask, numbered_task, indices, tasks_of_range, tasks_of_name, numbered_tasks}
use Rattle.syn_event.specs.Extents.{extent}
use Rattle.syn_event.specs.AllNumbers.{info_of_task}
use Rattle.task_model.specs.Setting.{is_member, member_named}
use Rattle.task_laws.proofs.legal.rewritten_types.Lookups.{place-all, find-all}
use Rattle.normal_laws.proofs.structure.entries.Lists.{find-behind, find-mapped, found-place}
use Rattle.normal_laws.proofs.structure.entries.Entries.{numbers, IsTaskOf, mapped-at}
use Rattle.normal_laws.proofs.existence.seen_tasks.Parts.{is_called, IsUnit, AtMostOnce}
use Rattle.common_lemmas.proofs.Lists.{all_joined, all_weaker, find_front, found_none, found_passes}
use Rattle.common_lemmas.proofs.Options.{some_same}

module _ (p : PProgram) (T : TypeTable) where
  -- ---- what holds of parts holds of their tasks

  module _ (Q : NumberedTask → Type 0) where
    mapped-numbered-tasks : (x : NamedTasks) → ((m : Option ℤ) → Q (numbered_task x m)) → (is : List ℤ) → AllByRecursion Q (map (λ i. numbered_task x (Some i)) is)
    mapped-numbered-tasks x h [] = tt
    mapped-numbered-tasks x h (i ∷ is) = (h (Some i), mapped-numbered-tasks x h is)

    row-all : (x : NamedTasks) (row : Option PDrange) → ((m : Option ℤ) → Q (numbered_task x m)) → AllByRecursion Q (tasks_of_range T x row)
    row-all x (Some r) h = mapped-numbered-tasks x h (indices (extent T r))
    row-all x None h = (h None, tt)

    pub numbered-tasks-all : (P : NamedTasks → Type 0) → ((x : NamedTasks) (m : Option ℤ) → P x → Q (numbered_task x m)) → (xs : List NamedTasks) → AllByRecursion P xs → AllByRecursion Q (flat_map (tasks_of_name T) xs)
    numbered-tasks-all P h [] a = tt
    numbered-tasks-all P h (x ∷ xs) a = all_joined Q (tasks_of_name T x) (flat_map (tasks_of_name T) xs) (row-all x x.index_range (λ m. h x m a.0)) (numbered-tasks-all P h xs a.1)

  -- what is known of the parts of the program: each is found by its unit's name, and none has the name of main
  pub record PartsKnown : Type 0 where
    pub units : AllByRecursion (λ (x : NamedTasks). IsUnit p T x.unit) (task_names_of p)
    pub apart : AllByRecursion (λ (x : NamedTasks). (p.name.name.0 == x.name.name.0) ≡ false) (task_names_of p)
    -- of each name there is at most one
    pub once : (id : NameId) → AtMostOnce (is_called id) (task_names_of p)
    -- and tasks of one name run one body
    pub tell : AllByRecursion (λ (a : TaskInfo). AllByRecursion (λ (b : TaskInfo). a.name.0 ≡ b.name.0 → a.unit.0 ≡ b.unit.0) (map (info_of_task p.names) (numbered_tasks T p))) (map (info_of_task p.names) (numbered_tasks T p))

  module _ (known : PartsKnown) where
    pub numbered-tasks-units : AllByRecursion (λ (x : NumberedTask). IsUnit p T x.unit) (numbered_tasks T p)
    numbered-tasks-units = numbered-tasks-all _ (λ (x : NamedTasks). IsUnit p T x.unit) (λ x m h. h) (task_names_of p) known.units

    pub numbered-tasks-apart : AllByRecursion (λ (x : NumberedTask). (p.name.name.0 == x.name.0) ≡ false) (numbered_tasks T p)
    numbered-tasks-apart = numbered-tasks-all _ (λ (x : NamedTasks). (p.name.name.0 == x.name.name.0) ≡ false) (λ x m h. h) (task_names_of p) known.apart

    -- ---- a task of that number

    pub mapped-place : (xs : List NumberedTask) (k : ℕ) (info : TaskInfo) → slice_get (map (info_of_task p.names) xs) k ≡ Some info → (x : NumberedTask) × (slice_get xs k ≡ Some x) × (info ≡ info_of_task p.names x)
    mapped-place [] k info e = absurd (none-some info e)
    mapped-place (x ∷ xs) zero info e = (x, refl, sym (some_same e))
    mapped-place (x ∷ xs) (suc k) info e = mapped-place xs k info e

    -- a task of another name than main's is one beside it
    pub record IsNumberedTask (t : ℕ) (its : TaskInfo) (id : NameId) : Type 0 where
      pub numbered_task : NumberedTask
      pub is : IsTaskOf p T t numbered_task
      pub info : its ≡ info_of_task p.names numbered_task
      pub name : numbered_task.name.0 ≡ id.0

    numbered-task-there : (t : ℕ) (info : TaskInfo) (id : NameId) → (p.name.name.0 == id.0) ≡ false → slice_get (numbers p T).tasks t ≡ Some info → (info.name.0 == id.0) ≡ true → IsNumberedTask t info id
    numbered-task-there zero info id apart e f =
        absurd (true≢false (sym f ∙ ap (λ (i : TaskInfo). i.name.0 == id.0) (sym (some_same e)) ∙ apart))
    numbered-task-there (suc k) info id apart e f =
        let x = mapped-place (numbered_tasks T p) k info e in
        record {
          numbered_task = x.0;
          is = record { place = k; number = refl; numbered_task = x.1; unit = place-all (λ (y : NumberedTask). IsUnit p T y.unit) (numbered_tasks T p) k x.0 numbered-tasks-units x.1 };
          info = x.2;
          name = ap (λ (i : TaskInfo). i.name.0) (sym x.2) ∙ eqb-true info.name.0 id.0 f;
        }

    -- units of one name are one
    pub one-unit : (t u : PTask) → IsUnit p T t → IsUnit p T u → t.name.name.0 ≡ u.name.name.0 → t ≡ u
    one-unit t u h k e = some_same (sym h ∙ ap (λ n. find (λ (x : PTask). x.name.name.0 == n) (tasks_of p)) e ∙ k)

    -- tasks of one name are of one unit
    pub same-units : (t u : ℕ) (i j : TaskInfo) (id : NameId) → (a : IsNumberedTask t i id) (b : IsNumberedTask u j id) → a.numbered_task.unit ≡ b.numbered_task.unit
    same-units t u i j id a b =
        one-unit a.numbered_task.unit b.numbered_task.unit a.is.unit b.is.unit
        (place-all (λ (y : TaskInfo). (info_of_task p.names a.numbered_task).name.0 ≡ y.name.0 → (info_of_task p.names a.numbered_task).unit.0 ≡ y.unit.0) (map (info_of_task p.names) (numbered_tasks T p)) b.is.place (info_of_task p.names b.numbered_task)
        (place-all _ (map (info_of_task p.names) (numbered_tasks T p)) a.is.place (info_of_task p.names a.numbered_task) known.tell (mapped-at p T (numbered_tasks T p) a.is.place a.numbered_task a.is.numbered_task))
        (mapped-at p T (numbered_tasks T p) b.is.place b.numbered_task b.is.numbered_task) (a.name ∙ sym b.name))

    -- a part that is found is none of main's name
    pub part-apart : (id : NameId) (x : NamedTasks) → find (is_called id) (task_names_of p) ≡ Some x → (p.name.name.0 == id.0) ≡ false
    part-apart id x e =
        subst (λ n. (p.name.name.0 == n) ≡ false) (eqb-true x.name.name.0 id.0 (found_passes (is_called id) (task_names_of p) x e))
        (found-all (task_names_of p) known.apart e)
      where
        found-all : (xs : List NamedTasks) → AllByRecursion (λ (y : NamedTasks). (p.name.name.0 == y.name.name.0) ≡ false) xs → find (is_called id) xs ≡ Some x → (p.name.name.0 == x.name.name.0) ≡ false
        found-all xs h f = find-all (λ (y : NamedTasks). (p.name.name.0 == y.name.name.0) ≡ false) (is_called id) xs x h f

    -- ---- the first task of a name

    pub numbered-tasks-named : (x : NamedTasks) → AllByRecursion (λ (y : NumberedTask). y.name ≡ x.name.name) (tasks_of_name T x)
    numbered-tasks-named x = row-all (λ (y : NumberedTask). y.name ≡ x.name.name) x x.index_range (λ m. refl)

    first-numbered-task : (id : NameId) (xs : List NamedTasks) (part : NamedTasks) (x : NumberedTask) (more : List NumberedTask) → find (is_called id) xs ≡ Some part → tasks_of_name T part ≡ x ∷ more →
        find (λ (y : NumberedTask). y.name.0 == id.0) (flat_map (tasks_of_name T) xs) ≡ Some x
    first-numbered-task id [] part x more e f = absurd (none-some part e)
    first-numbered-task id (y ∷ ys) part x more e f = by_test (is_called id y) refl e (first-numbered-task id ys part x more)
      where
        by_test : (b : Bool) → is_called id y ≡ b → (if b then Some y else find (is_called id) ys) ≡ Some part →
            (find (is_called id) ys ≡ Some part → tasks_of_name T part ≡ x ∷ more → find (λ (y : NumberedTask). y.name.0 == id.0) (flat_map (tasks_of_name T) ys) ≡ Some x) →
            find (λ (y : NumberedTask). y.name.0 == id.0) (tasks_of_name T y ++ flat_map (tasks_of_name T) ys) ≡ Some x
        by_test true g h rest =
            let same : y ≡ part = some_same h in
            let list : tasks_of_name T y ≡ x ∷ more = ap (tasks_of_name T) same ∙ f in
            let named : (x.name ≡ y.name.name) × AllByRecursion (λ (z : NumberedTask). z.name ≡ y.name.name) more = subst (AllByRecursion (λ (z : NumberedTask). z.name ≡ y.name.name)) list (numbered-tasks-named y) in
            find_front (λ (z : NumberedTask). z.name.0 == id.0) (tasks_of_name T y) (flat_map (tasks_of_name T) ys) x
            (ap (find (λ (z : NumberedTask). z.name.0 == id.0)) list ∙ ap (λ b. if b then Some x else find (λ (z : NumberedTask). z.name.0 == id.0) more) (ap (λ (n : NameId). n.0 == id.0) named.0 ∙ g))
        by_test false g h rest =
            find-behind (λ (z : NumberedTask). z.name.0 == id.0) (tasks_of_name T y) (flat_map (tasks_of_name T) ys)
            (found_none (λ (z : NumberedTask). z.name.0 == id.0) (tasks_of_name T y) (all_weaker _ _ (tasks_of_name T y) (λ z q. ap (λ (n : NameId). n.0 == id.0) q ∙ g) (numbered-tasks-named y)))
            ∙ rest h f

    -- the task of that name that comes first
    pub record IsFirst (id : NameId) (part : NamedTasks) : Type 0 where
      pub number : ℕ
      pub named : task_named (numbers p T) id ≡ Some number
      pub info : TaskInfo
      pub is : IsNumberedTask number info id
      pub unit : is.numbered_task.unit ≡ part.unit

    pub first-task : (id : NameId) (part : NamedTasks) (x : NumberedTask) (more : List NumberedTask) → find (is_called id) (task_names_of p) ≡ Some part → tasks_of_name T part ≡ x ∷ more → x.unit ≡ part.unit → IsFirst id part
    first-task id part x more e f unit =
        let apart = part-apart id part e in
        let beside : find (λ (i : TaskInfo). i.name.0 == id.0) (map (info_of_task p.names) (numbered_tasks T p)) ≡ Some (info_of_task p.names x) =
        (find-mapped (λ (i : TaskInfo). i.name.0 == id.0) (λ (y : NumberedTask). y.name.0 == id.0) (info_of_task p.names) (λ y. refl) (numbered_tasks T p)
        ∙ ap (option_map (info_of_task p.names)) (first-numbered-task id (task_names_of p) part x more e f)) in
        let whole : find (λ (i : TaskInfo). i.name.0 == id.0) (numbers p T).tasks ≡ Some (info_of_task p.names x) =
        (ap (λ b. if b then Some (task_info p.names p.name.name) else find (λ (i : TaskInfo). i.name.0 == id.0) (map (info_of_task p.names) (numbered_tasks T p))) apart ∙ beside) in
        let place = found-place (λ (i : TaskInfo). i.name.0 == id.0) (numbers p T).tasks (info_of_task p.names x) whole in
        let passes : (x.name.0 == id.0) ≡ true = found_passes (λ (i : TaskInfo). i.name.0 == id.0) (numbers p T).tasks (info_of_task p.names x) whole in
        let there = numbered-task-there place.0 (info_of_task p.names x) id apart place.1 passes in
        let own : IsUnit p T part.unit = find-all (λ (y : NamedTasks). IsUnit p T y.unit) (is_called id) (task_names_of p) part known.units e in
        record {
          number = place.0;
          named = place.2;
          info = info_of_task p.names x;
          is = there;
          unit = one-unit there.numbered_task.unit part.unit there.is.unit own (ap (λ (i : TaskInfo). i.unit.0) (sym there.info) ∙ ap (λ (t : PTask). t.name.name.0) unit);
        }

    -- a member that is found has the name
    pub member-there : (id : NameId) (z : ℤ) (t : ℕ) → (p.name.name.0 == id.0) ≡ false → member_named (numbers p T) id z ≡ Ok t → (info : TaskInfo) × IsNumberedTask t info id
    member-there id z t apart e =
        let test : TaskInfo → Bool = λ info. (info.name.0 == id.0) && is_member z info.member in
        let at = position-Some test (numbers p T).tasks t (task_info p.names p.name.name) (ok-some _ (position test (numbers p T).tasks) e) in
        let info = get_or (numbers p T).tasks t (task_info p.names p.name.name) in
        (info, numbered-task-there t info id apart (got (numbers p T).tasks t (task_info p.names p.name.name) at.0) (and_parts (info.name.0 == id.0) (is_member z info.member) at.1).0)
      where
        ok-some : {E : Type 0} (x : E) (o : Option ℕ) → ok_or o x ≡ Ok t → o ≡ Some t
        ok-some x (Some k) f = cc
        ok-some x None f = cc

        got : (xs : List TaskInfo) (k : ℕ) (d : TaskInfo) → k < length xs → slice_get xs k ≡ Some (get_or xs k d)
        got [] k d l = absurd (omega (arith, l))
        got (x ∷ xs) zero d l = refl
        got (x ∷ xs) (suc k) d l = got xs k d (omega (arith, l))
