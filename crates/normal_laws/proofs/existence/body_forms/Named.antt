-- Each task of a legal program is found by its own name in the normal form.
use Rattle.std.proofs.Common.{◌≡◌, ℕ, zero, suc, Bool, false, ◌==◌, List, [], ◌∷◌, map, option_map, slice_get, Option, Some, None, refl, sym, ap, ◌∙◌, subst, true≢false}
use Rattle.std.specs.List.{AllByRecursion}
use Rattle.std.proofs.lemmas.Option.{none-some}
use Rattle.std.proofs.lemmas.Bool.{eq-eqb, eqb-true}
use Rattle.ada_tree.specs.NameList.{AreNames}
use Rattle.ada_tree.specs.TypeTable.{TypeTable}
use Rattle.ada_tree.specs.PlainProgram.{PProgram}
use Rattle.ada_static_rules.specs.Refusals.{types_in}
use Rattle.ada_tree.specs.WellPlaced.{HasTokens}
use Rattle.syn_event.specs.declared.numbering.Mode.TheVariants.{Original}
use Rattle.syn_event.specs.declared.numbering.TaskInfo.{TaskInfo}
use Rattle.syn_event.specs.CheckRefusals.{MeetsCheckRules}
use Rattle.syn_event.specs.RuleReservedName.{is_reserved}
use Rattle.syn_event.specs.Numbering.{Numbering, task_named}
use Rattle.syn_event.specs.AddedNames.{task_info}
use Rattle.syn_event.specs.DeclaredTasks.{text_of}
use Rattle.syn_event.specs.NamedTasks.{NumberedTask, numbered_tasks}
use Rattle.syn_event.specs.AllNumbers.{info_of_task, all_numbers}
use Rattle.task_model.specs.Setting.{Setting}
use Rattle.normal_model.specs.Names.{task_name, name_of_task, task_name_at}
use Rattle.normal_model.specs.NormalTree.{normal_tree}
use Rattle.normal_laws.specs.structure.types.Laws.{IsOrdered, setting_of}
use Rattle.normal_laws.specs.structure.units.Laws.{TellUnits, numbers_made}
use Rattle.normal_laws.proofs.structure.units.Tasks.{tasks_keep_numbers}
use Rattle.task_laws.proofs.legal.rewritten_types.Lookups.{place-all}
use Rattle.task_laws.proofs.legal.sites.Meeting.{all_check_met}
use Rattle.normal_laws.proofs.structure.entries.Lists.{found-place}
use Rattle.normal_laws.proofs.structure.entries.Entries.{IsTaskOf, mapped-at}
use Rattle.normal_laws.proofs.existence.units.DeclaredNames.{IsGood, tasks-good}
use Rattle.normal_laws.proofs.existence.units.TaskNames.{IsShort}
use Rattle.normal_laws.proofs.existence.units.TasksApart.{IsNamed, all-named, members-there, tasks-apart, tasks-told}
use Rattle.normal_laws.proofs.existence.seen_tasks.Finding.{no-place}
use Rattle.normal_laws.proofs.existence.seen_tasks.Tasks.{PartsKnown, mapped-place, numbered-tasks-apart}
use Rattle.normal_laws.proofs.existence.statement_forms.Alone.{numbered-tasks-alone}
use Rattle.common_lemmas.proofs.Lists.{found_passes, found_some}
use Rattle.common_lemmas.proofs.Options.{some_same}

module _ (p : PProgram) (ordered : IsOrdered p) (checks : MeetsCheckRules p Original) (has : HasTokens p) (are : AreNames p.names) (known : PartsKnown p (types_in p)) where
  abbrev T : TypeTable
  T = types_in p

  abbrev numbers : Numbering
  numbers = all_numbers T p

  abbrev g : Setting
  g = setting_of p T numbers

  abbrev made : Numbering
  made = numbers_made p T numbers

  -- main's name
  main-info : TaskInfo
  main-info = task_info p.names p.name.name

  main-good : IsGood p.names p.name.name
  main-good = record { there = has.0; free = no-place (is_reserved (text_of p.names p.name.name)) p.name.span (all_check_met p Original checks).0.reserved }

  main-named : IsNamed g (task_info p.names p.name.name)
  main-named = (all-named g (task_info p.names p.name.name ∷ []) (main-good, tt) (tt, tt)).0

  beside-named : AllByRecursion (IsNamed g) (map (info_of_task p.names) (numbered_tasks T p))
  beside-named = all-named g (map (info_of_task p.names) (numbered_tasks T p)) (tasks-good p T checks has) (members-there g).1

  module _ (tell : TellUnits (setting_of p (types_in p) (all_numbers (types_in p) p))) (short : AllByRecursion (λ (i : TaskInfo). IsShort i.member) (map (info_of_task p.names) (numbered_tasks (types_in p) p))) where
    apart : AllByRecursion (λ (a : TaskInfo). AllByRecursion (λ (b : TaskInfo). (task_name g a).0 ≡ (task_name g b).0 → (a.name.0 ≡ b.name.0) × (a.member ≡ b.member)) (map (info_of_task p.names) (numbered_tasks T p))) (map (info_of_task p.names) (numbered_tasks T p))
    apart = tasks-told p T ordered checks has are short

    made-at : (k : ℕ) → slice_get made.tasks (suc k) ≡ option_map (λ (info : TaskInfo). task_info (normal_tree p T numbers).names (task_name g info)) (slice_get (map (info_of_task p.names) (numbered_tasks T p)) k)
    made-at k = tasks_keep_numbers p T numbers tell k

    -- a task that comes first under the name of that of the numbered task is it
    is-it : (k : ℕ) (x : NumberedTask) → slice_get (numbered_tasks T p) k ≡ Some x → (m : ℕ) (y : TaskInfo) → slice_get made.tasks m ≡ Some y → y.name.0 ≡ (task_name g (info_of_task p.names x)).0 → m ≡ suc k
    is-it k x at zero y here e =
        let info : TaskInfo = info_of_task p.names x in
        let named = place-all (IsNamed g) (map (info_of_task p.names) (numbered_tasks T p)) k info beside-named (mapped-at p T (numbered_tasks T p) k x at) in
        let same : p.name.name.0 ≡ (task_name g info).0 = ap (λ (i : TaskInfo). i.name.0) (some_same here) ∙ e in
        let r = tasks-apart g are (task_info p.names p.name.name) info main-named named same in
        absurd (true≢false (sym (eq-eqb p.name.name.0 x.name.0 r.0) ∙ place-all (λ (z : NumberedTask). (p.name.name.0 == z.name.0) ≡ false) (numbered_tasks T p) k x (numbered-tasks-apart p T known) at))
    is-it k x at (suc j) y here e = by_place (slice_get (map (info_of_task p.names) (numbered_tasks T p)) j) refl (sym (made-at j) ∙ here)
      where
        infos : List TaskInfo
        infos = map (info_of_task p.names) (numbered_tasks T p)

        by_place : (o : Option TaskInfo) → slice_get (map (info_of_task p.names) (numbered_tasks T p)) j ≡ o → option_map (λ (info : TaskInfo). task_info (normal_tree p T numbers).names (task_name g info)) o ≡ Some y → suc j ≡ suc k
        by_place None f q = absurd (none-some y q)
        by_place (Some b) f q =
            let there = mapped-at p T (numbered_tasks T p) k x at in
            let other = mapped-place p T known (numbered_tasks T p) j b f in
            let name : (task_name g b).0 ≡ (task_name g (info_of_task p.names x)).0 = ap (λ (i : TaskInfo). i.name.0) (some_same q) ∙ e in
            let both = place-all (λ (c : TaskInfo). (task_name g b).0 ≡ (task_name g c).0 → (b.name.0 ≡ c.name.0) × (b.member ≡ c.member)) (map (info_of_task p.names) (numbered_tasks T p)) k (info_of_task p.names x)
            (place-all (λ (a : TaskInfo). AllByRecursion (λ (c : TaskInfo). (task_name g a).0 ≡ (task_name g c).0 → (a.name.0 ≡ c.name.0) × (a.member ≡ c.member)) (map (info_of_task p.names) (numbered_tasks T p))) (map (info_of_task p.names) (numbered_tasks T p)) j b apart f) there name in
            ap suc (numbered-tasks-alone p T known j k other.0 x other.1 at (ap (λ (i : TaskInfo). i.name.0) (sym other.2) ∙ both.0) (ap (λ (i : TaskInfo). i.member) (sym other.2) ∙ both.1))

    -- each of the tasks beside main is found by its name in the normal form
    pub beside-found : (k : ℕ) (x : NumberedTask) → slice_get (numbered_tasks T p) k ≡ Some x → task_named made (task_name g (info_of_task p.names x)) ≡ Some (suc k)
    beside-found k x at =
        let info : TaskInfo = info_of_task p.names x in
        let q : TaskInfo → Bool = λ i. i.name.0 == (task_name g info).0 in
        let there : slice_get made.tasks (suc k) ≡ Some (task_info (normal_tree p T numbers).names (task_name g info)) =
        (made-at k ∙ ap (option_map (λ (i : TaskInfo). task_info (normal_tree p T numbers).names (task_name g i))) (mapped-at p T (numbered_tasks T p) k x at)) in
        let some = found_some q made.tasks (suc k) _ there (eq-eqb (task_name g info).0 (task_name g info).0 refl) in
        let place = found-place q made.tasks some.0 some.1 in
        place.2 ∙ ap (λ m. Some m) (is-it k x at place.0 some.0 place.1 (eqb-true some.0.name.0 (task_name g info).0 (found_passes q made.tasks some.0 some.1)))

    -- each task is found by its own name
    pub task-found : (t : ℕ) (x : NumberedTask) → IsTaskOf p T t x → task_named made (task_name_at g t) ≡ Some t
    task-found t x is =
        subst (λ m. task_named made (task_name_at g m) ≡ Some m) (sym is.number)
        (ap (λ o. task_named made (name_of_task g o)) (mapped-at p T (numbered_tasks T p) is.place x is.numbered_task) ∙ beside-found is.place x is.numbered_task)
