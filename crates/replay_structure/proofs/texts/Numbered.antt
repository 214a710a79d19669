-- The numbers of a replay text.
use Rattle.std.proofs.Common.{◌≡◌, ℕ, ◌+◌, ◌<◌, true, List, [], ◌∷◌, ◌++◌, length, map, None, refl, sym, ap, ap₂, ◌∙◌, subst, arith}
use Rattle.std.specs.List.{AllByRecursion}
use Rattle.std.proofs.lemmas.List.{map-append, length-map}
use Rattle.event_machine.specs.declared.Event.{Event}
use Rattle.ada_tree.specs.declared.naming.NameId.{NameId}
use Rattle.ada_tree.specs.declared.naming.Span.{Span}
use Rattle.ada_tree.specs.TypeTable.{TypeTable}
use Rattle.ada_tree.specs.PlainDecl.{PTask, PDecl, DNumber, DObject, DEnumeration, DArray, DSubtype, DException, DIntIo, DPragma, DTask, DTaskBody}
use Rattle.ada_tree.specs.PlainProgram.{PProgram}
use Rattle.ada_static_rules.specs.Refusals.{types_in}
use Rattle.syn_event.specs.declared.numbering.TaskInfo.{TaskInfo}
use Rattle.syn_event.specs.declared.numbering.EntryInfo.{EntryInfo}
use Rattle.syn_event.specs.Numbering.{Numbering}
use Rattle.syn_event.specs.AddedNames.{task_info}
use Rattle.syn_event.specs.NamedTasks.{NumberedTask, numbered_tasks}
use Rattle.syn_event.specs.AllNumbers.{entries_of_tasks, all_numbers}
use Rattle.syn_event.specs.DeclaredTasks.{tasks_in, tasks_of}
use Rattle.control_script.specs.declared.Op.{Op}
use Rattle.task_model.specs.Setting.{Setting}
use Rattle.normal_model.specs.NormalTree.{normal_tree}
use Rattle.normal_model.proofs.VariablesLemmas.{Begins}
use Rattle.replay_model.specs.Names.{control_text, idle_text, replay_names, added_id}
use Rattle.replay_model.specs.ReplayTree.{permit_declared, replay_decl, replay_decls, last_task, normal_setting, script_of, replay_tree}
use Rattle.replay_model.specs.ReplayNumbers.{all_infos, added_infos, numbers_replayed}
use Rattle.normal_laws.specs.structure.types.Own.{own_name}
use Rattle.normal_laws.specs.structure.types.Laws.{IsOrdered, setting_of, AreOwn}
use Rattle.normal_laws.specs.structure.numbers.Laws.{NoneIsDed}
use Rattle.replay_structure.specs.texts.Laws.{ReplayNumbered}
use Rattle.normal_laws.proofs.structure.numbers.Named.{added-longer, own-within, begins-within}
use Rattle.normal_laws.specs.structure.numbers.Single.{IsSingle}
use Rattle.normal_laws.proofs.structure.numbers.TasksNumbered.{single_task, single_numbers, numbers-single, entries-joined}
use Rattle.normal_laws.proofs.structure.numbers.Listed.{IsPlain, IsOneTask, IsOneBody, first-plain, firsts, vars, tasks, bodies, vars-plain, tasks-all, bodies-all}
use Rattle.replay_structure.proofs.texts.Listed.{all-behind, more_task, added_tasks, replay-tasks}
use Rattle.replay_structure.proofs.texts.Rooted.{replay-begins, replay-list, replay_agrees}
use Rattle.replay_structure.proofs.texts.Stripped.{strip, origins-alike}
use Rattle.replay_structure.proofs.texts.Owned.{own-at}
use Rattle.normal_laws.proofs.structure.numbers.Tasked.{under, normal-tasks-of}
use Rattle.replay_structure.proofs.texts.Entries.{whole, added-part}
use Rattle.normal_laws.proofs.structure.numbers.TaskNames.{IsNamed, normal-begins, all-named}
use Rattle.normal_laws.proofs.structure.numbers.Numbered.{plain-single}
use Rattle.replay_structure.proofs.texts.Kept.{all-kept}
use Rattle.common_lemmas.proofs.Lists.{all_joined, all_weaker}
use Rattle.syn_event.proofs.DeclLists.{listed_back}

-- ---- each task is a single one

task-single : (g : Setting) (ds : List PDecl) → AllByRecursion IsOneTask ds → AllByRecursion IsSingle (map (replay_decl g) ds)
task-single g [] h = tt
task-single g (DTask t s ∷ ds) h = (h.0, task-single g ds h.1)
task-single g (DTaskBody w objects its s ∷ ds) h = absurd h.0
task-single g (DNumber w e s ∷ ds) h = absurd h.0
task-single g (DObject ws c x i s ∷ ds) h = absurd h.0
task-single g (DEnumeration w ws s ∷ ds) h = absurd h.0
task-single g (DArray w r x s ∷ ds) h = absurd h.0
task-single g (DSubtype w x s ∷ ds) h = absurd h.0
task-single g (DException ws s ∷ ds) h = absurd h.0
task-single g (DIntIo w s ∷ ds) h = absurd h.0
task-single g (DPragma e s ∷ ds) h = absurd h.0

body-single : (g : Setting) (ds : List PDecl) → AllByRecursion IsOneBody ds → AllByRecursion IsSingle (map (replay_decl g) ds)
body-single g [] h = tt
body-single g (DTaskBody w objects its s ∷ ds) h = (tt, body-single g ds h.1)
body-single g (DTask t s ∷ ds) h = absurd h.0
body-single g (DNumber w e s ∷ ds) h = absurd h.0
body-single g (DObject ws c x i s ∷ ds) h = absurd h.0
body-single g (DEnumeration w ws s ∷ ds) h = absurd h.0
body-single g (DArray w r x s ∷ ds) h = absurd h.0
body-single g (DSubtype w x s ∷ ds) h = absurd h.0
body-single g (DException ws s ∷ ds) h = absurd h.0
body-single g (DIntIo w s ∷ ds) h = absurd h.0
body-single g (DPragma e s ∷ ds) h = absurd h.0

-- ---- tasks

pub info-longer : (before names : List (List ℕ)) (id : NameId) → Begins before names → id.0 < length before → task_info names id ≡ task_info before id
info-longer before names id b within = ap (λ a. record { name = id; added = a; unit = id; member = None }) (added-longer before names id b within)

-- the numbers of tasks whose names stand in front
infos-longer : (n : PProgram) (under : NumberedTask → PTask) (ys : List NumberedTask) → AllByRecursion (λ (y : NumberedTask). (under y).name.name.0 < length n.names) ys →
    map (λ (t : PTask). task_info (replay_names n) t.name.name) (map (more_task n) (map under ys)) ≡ map (λ (t : PTask). task_info n.names t.name.name) (map under ys)
infos-longer n under [] h = refl
infos-longer n under (y ∷ ys) h = λ i. info-longer n.names (replay_names n) (under y).name.name (replay-begins n) h.0 i ∷ infos-longer n under ys h.1 i

module _ (p : PProgram) (ordered : IsOrdered p) (main : own_name p p.name.name.0 ≡ true) (own : AreOwn p p.decls) (ded : NoneIsDed p) (events : List Event) where
  abbrev T : TypeTable
  T = types_in p

  abbrev numbers : Numbering
  numbers = all_numbers T p

  abbrev normal : PProgram
  normal = normal_tree p T numbers

  abbrev form : Setting
  form = normal_setting p T numbers

  abbrev text : PProgram
  text = replay_tree p T numbers events

  abbrev U : TypeTable
  U = types_in text

  abbrev ops : List Op
  ops = script_of numbers events

  abbrev s : Span
  s = p.name.span

  abbrev last : ℕ
  last = last_task form.numbers

  abbrev ys : List NumberedTask
  ys = numbered_tasks T p

  abbrev its : NumberedTask → PTask
  its = under (setting_of p T numbers)

  all-single : AllByRecursion IsSingle (replay_decls form s ops)
  all-single =
      subst (AllByRecursion IsSingle) (sym (replay-list p T numbers ops own s))
      (all_joined IsSingle (firsts p T numbers) _ (all_weaker IsPlain IsSingle _ plain-single (first-plain p.decls []))
      (all_joined IsSingle _ _
      (all_joined IsSingle _ _
      (all_joined IsSingle _ _
      (all_joined IsSingle _ _
      (all-behind IsSingle normal.names (permit_declared normal s) (vars p T numbers) tt (all_weaker IsPlain IsSingle _ plain-single (vars-plain p T numbers)))
      (task-single form (tasks p T numbers) (tasks-all (setting_of p T numbers))))
      (refl, (refl, tt)))
      (body-single form (bodies p T numbers) (bodies-all (setting_of p T numbers))))
      (tt, (tt, tt))))

  -- the tasks of the text
  its-tasks : tasks_of text ≡ map (more_task normal) (map its ys) ++ added_tasks normal s last
  its-tasks =
      ap tasks_in (listed_back (replay_decls form s ops))
      ∙ replay-tasks form s ops
      ∙ ap (λ ts. map (more_task normal) ts ++ added_tasks normal s last) (normal-tasks-of p T ordered)

  -- how many they are
  last-is : last ≡ length ys
  last-is = length-map (tasks_of normal) (λ (t : PTask). task_info normal.names t.name.name) ∙ ap length (normal-tasks-of p T ordered) ∙ length-map ys its

  -- the numbers of the tasks
  infos-are : task_info (replay_names normal) p.name.name ∷ map (λ (t : PTask). task_info (replay_names normal) t.name.name) (map (more_task normal) (map its ys) ++ added_tasks normal s last) ≡ (numbers_replayed form).tasks
  infos-are =
      ap₂ (λ (x : TaskInfo) l. x ∷ l)
      (info-longer normal.names (replay_names normal) p.name.name (replay-begins normal) (begins-within p.names normal.names p.name.name.0 (normal-begins p T numbers) (own-within p p.name.name.0 main)))
      (map-append (λ (t : PTask). task_info (replay_names normal) t.name.name) (map (more_task normal) (map its ys)) (added_tasks normal s last)
      ∙ ap (λ l. l ++ task_info (replay_names normal) (added_id normal control_text) ∷ task_info (replay_names normal) (added_id normal idle_text) ∷ [])
      (infos-longer normal its ys (all_weaker (λ (y : NumberedTask). IsNamed p (its y).name.name y.name) _ ys (λ y h. h.within) (all-named p own ded)) ∙ ap (map (λ (t : PTask). task_info normal.names t.name.name)) (sym (normal-tasks-of p T ordered))))

  -- the entries, but for what they stand for
  entries-are : map strip (entries_of_tasks (replay_names normal) U 1 (map single_task (map (more_task normal) (map its ys) ++ added_tasks normal s last))) ≡ map strip (all_infos form last 1 ++ added_infos normal last)
  entries-are =
      let first = map single_task (map (more_task normal) (map its ys)) in
      let second = map single_task (added_tasks normal s last) in
      ap (λ l. map strip (entries_of_tasks (replay_names normal) U 1 l)) (map-append single_task (map (more_task normal) (map its ys)) (added_tasks normal s last))
      ∙ ap (map strip) (entries-joined (replay_names normal) U 1 first second)
      ∙ map-append strip (entries_of_tasks (replay_names normal) U 1 first) (entries_of_tasks (replay_names normal) U (1 + length first) second)
      ∙ ap₂ (λ (a b : List EntryInfo). a ++ b)
      (whole normal p.names T U form refl (entries_of_tasks p.names T 1 ys) its (λ y. refl) ys 1 (all-kept p ordered own ded U (replay_agrees p T numbers events ordered own))
      (λ k y at. own-at p.names T (entries_of_tasks p.names T 1 ys) ys k (1 + k) 1 y refl at)
      ∙ ap (λ n. map strip (all_infos form n 1)) (sym last-is))
      (added-part normal p.names T U s (1 + length first) last (count first (how-many)))
      ∙ sym (map-append strip (all_infos form last 1) (added_infos normal last))
    where
      how-many : length (map single_task (map (more_task normal) (map its ys))) ≡ last
      how-many = length-map (map (more_task normal) (map its ys)) single_task ∙ length-map (map its ys) (more_task normal) ∙ length-map ys its ∙ sym last-is

      count : (xs : List NumberedTask) → length xs ≡ last → 1 + length xs ≡ last + 1
      count xs e = omega (arith, e)

  numbered : all_numbers U text ≡ numbers_replayed form
  numbered =
      numbers-single U text (subst (AllByRecursion IsSingle) (sym (listed_back (replay_decls form s ops))) all-single)
      ∙ ap (single_numbers (replay_names normal) U p.name.name) its-tasks
      ∙ (λ i. record {
        main = p.name.name;
        tasks = infos-are i;
        entries = origins-alike (replay_names normal) _ _ entries-are i;
      })

pub replay_numbered : ReplayNumbered
replay_numbered p events ordered main own ded = numbered p ordered main own ded events
