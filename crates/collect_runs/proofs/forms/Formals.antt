-- The entries of the program have one formal more in the collecting text of a legal program, that of their caller.
use Rattle.std.proofs.Common.{◌≡◌, ◌==◌, ◌-◌, ◌+◌, arith, ℕ, suc, Bool, true, false, if◌then◌else◌, List, [], ◌∷◌, ◌++◌, map, find, slice_get, Option, Some, None, option_map, refl, sym, ap, ap₂, subst, ◌∙◌}
use Rattle.std.specs.List.{AllByRecursion}
use Rattle.std.proofs.lemmas.List.{map-append}
use Rattle.std.proofs.lemmas.List.Elements.{recursion_from_All}
use Rattle.std.proofs.lemmas.Option.{none-some, slice_get-map}
use Rattle.common_lemmas.proofs.Lists.{all_joined, all_by_place, find_front, found_some}
use Rattle.common_lemmas.proofs.Numbers.{equal_self}
use Rattle.common_lemmas.proofs.Options.{some_same}
use Rattle.ada_tree.specs.declared.naming.NameId.{NameId}
use Rattle.ada_tree.specs.PlainStmt.{PFormal}
use Rattle.ada_tree.specs.PlainDecl.{PEntry, PTask}
use Rattle.ada_tree.specs.PlainProgram.{PProgram}
use Rattle.ada_tree.specs.Every.{Rules, EveryEntry, EveryFormal}
use Rattle.ada_static_rules.specs.Refusals.{types_in}
use Rattle.ada_static_rules.specs.StaticValue.{mark_named}
use Rattle.ada_value.specs.declared.values.Limits.{Limits}
use Rattle.ada_value.specs.Values.{limits_or}
use Rattle.syn_event.specs.declared.numbering.TaskInfo.{TaskInfo}
use Rattle.syn_event.specs.declared.numbering.EntryInfo.{EntryInfo}
use Rattle.syn_event.specs.Numbering.{Numbering, task_at, entry_at}
use Rattle.syn_event.specs.AddedNames.{task_info, with_origin}
use Rattle.syn_event.specs.NamedTasks.{NumberedTask, numbered_tasks}
use Rattle.syn_event.specs.AllNumbers.{info_of_task, entry_of_task, entries_of_tasks}
use Rattle.syn_event.specs.DeclaredTasks.{tasks_of}
use Rattle.task_model.specs.declared.parameters.FormalParameter.{FormalParameter}
use Rattle.task_model.specs.Setting.{Setting, unit_named, formals_of_entry, formals_in, formals_of_unit, formals_of_info, parameters_of, entry_parameters}
use Rattle.task_laws.proofs.legal.rewritten_types.Lookups.{find-all, place-all, place-more}
use Rattle.task_laws.specs.legal.rewritten_values.Values.{old_names}
use Rattle.normal_model.specs.Names.{task_name}
use Rattle.normal_model.specs.NormalTree.{tasks_beside}
use Rattle.normal_laws.specs.structure.types.Own.{own_name}
use Rattle.normal_laws.proofs.structure.numbers.Tasked.{IsOne, numbered-tasks-one, under, normal-tasks-of}
use Rattle.normal_laws.proofs.structure.numbers.TaskNames.{entries-own}
use Rattle.normal_laws.proofs.structure.units.Declared.{units_are_declared}
use Rattle.normal_laws.proofs.structure.units.Tasks.{has_name, first_one, entries_in, tell-at, unit-found, tasks-of}
use Rattle.normal_laws.proofs.structure.entries.Lists.{find-mapped}
use Rattle.normal_laws.specs.runs.forms.Normalisable.{made_for, numbers_of}
use Rattle.normal_laws.proofs.legality.checks.Facts as facts
use Rattle.normal_laws.specs.existence.Laws.{IsLegalOriginal}
use Rattle.replay_runs.specs.starts.Laws.{form_in}
use Rattle.replay_runs.specs.starts.Formals.{form_setting}
use Rattle.collect_model.specs.declared.AddedNames.{AddedNames}
use Rattle.collect_model.specs.CollectTree.{entry_telling, task_telling}
use Rattle.collect_structure.proofs.texts.Telling.{recorder_tasks}
use Rattle.collect_structure.proofs.texts.Rooted.{collect_agrees}
use Rattle.collect_runs.specs.translation.Floors.{caller_parameter}
use Rattle.collect_runs.specs.starts.Texts.{text_setting, names_added}
use Rattle.collect_runs.proofs.forms.Finding.{text-tasks}

module _ (p : PProgram) (h : IsLegalOriginal p) where
  abbrev r : Rules
  r = old_names (own_name p)

  abbrev numbers : Numbering
  numbers = numbers_of p

  abbrev s : Setting
  s = record { program = p; types = types_in p; numbers = numbers }

  abbrev normal : PProgram
  normal = made_for p

  abbrev F : Numbering
  F = (form_in p).numbers

  abbrev U : Setting
  U = text_setting p

  abbrev n : AddedNames
  n = names_added p

  abbrev ys : List NumberedTask
  ys = numbered_tasks (types_in p) p

  abbrev named : NameId → PEntry → Bool
  named id e = e.name.name.0 == id.0

  -- ---- the entries of the program

  -- the entry is one of a task that is there, and of a name by which one of its unit is found
  pub record IsOf (x : EntryInfo) : Type 0 where
    pub k : ℕ
    pub y : NumberedTask
    pub at : slice_get ys k ≡ Some y
    pub owner : x.owner ≡ suc k
    pub entry : PEntry
    pub found : find (named x.name) y.unit.entries ≡ Some entry

  abbrev IsFound : NumberedTask → PEntry → Type 0
  IsFound y e = (z : PEntry) × (find (named e.name.name) y.unit.entries ≡ Some z)

  pub all-found : (y : NumberedTask) → AllByRecursion (IsFound y) y.unit.entries
  all-found y = all_by_place (IsFound y) y.unit.entries (λ i e at. found_some (named e.name.name) y.unit.entries i e at (equal_self e.name.name.0))

  pub of-task : (all : List EntryInfo) (k m : ℕ) (y : NumberedTask) → m ≡ suc k → slice_get ys k ≡ Some y → (es : List PEntry) → AllByRecursion (IsFound y) es →
      AllByRecursion IsOf (map (with_origin p.names all) (map (entry_of_task p.names (types_in p) m y) es))
  of-task all k m y e at [] f = tt
  of-task all k m y e at (x ∷ es) f = (record { k = k; y = y; at = at; owner = e; entry = f.0.0; found = f.0.1 }, of-task all k m y e at es f.1)

  pub of-tasks : (all : List EntryInfo) (zs : List NumberedTask) (d m : ℕ) → m ≡ suc d → ((k : ℕ) (y : NumberedTask) → slice_get zs k ≡ Some y → slice_get ys (d + k) ≡ Some y) →
      AllByRecursion IsOf (map (with_origin p.names all) (entries_of_tasks p.names (types_in p) m zs))
  of-tasks all [] d m e at = tt
  of-tasks all (y ∷ zs) d m e at =
      subst (AllByRecursion IsOf) (sym (map-append (with_origin p.names all) (map (entry_of_task p.names (types_in p) m y) y.unit.entries) (entries_of_tasks p.names (types_in p) (m + 1) zs)))
      (all_joined IsOf (map (with_origin p.names all) (map (entry_of_task p.names (types_in p) m y) y.unit.entries)) _
      (of-task all d m y e (subst (λ j. slice_get ys j ≡ Some y) (none-more-than d) (at 0 y refl)) y.unit.entries (all-found y))
      (of-tasks all zs (suc d) (m + 1) (next m d e) (λ k z b. subst (λ j. slice_get ys j ≡ Some z) (one-further d k) (at (suc k) z b))))
    where
      none-more-than : (d : ℕ) → d + 0 ≡ d
      none-more-than d = omega arith

      next : (m d : ℕ) → m ≡ suc d → m + 1 ≡ suc (suc d)
      next m d e = omega (arith, e)

      one-further : (d k : ℕ) → d + suc k ≡ suc d + k
      one-further d k = omega arith

  pub all-of : AllByRecursion IsOf F.entries
  all-of = of-tasks (entries_of_tasks p.names (types_in p) 1 ys) ys 0 1 refl (λ k y at. subst (λ j. slice_get ys j ≡ Some y) (none-before k) at)
    where
      none-before : (k : ℕ) → k ≡ 0 + k
      none-before k = omega arith

  pub is-of : (e : ℕ) (x : EntryInfo) → entry_at F e ≡ Some x → IsOf x
  is-of e x at = by_test (e == 0) at
    where
      by_test : (b : Bool) → (if b then None else slice_get F.entries (e - 1)) ≡ Some x → IsOf x
      by_test true f = absurd (none-some x f)
      by_test false f = place-all IsOf F.entries (e - 1) x all-of f

  -- it has its number in the text
  pub entry-stays : (e : ℕ) (x : EntryInfo) → entry_at F e ≡ Some x → entry_at U.numbers e ≡ Some x
  entry-stays e x at = by_test (e == 0) at
    where
      by_test : (b : Bool) → (if b then None else slice_get F.entries (e - 1)) ≡ Some x → (if b then None else slice_get U.numbers.entries (e - 1)) ≡ Some x
      by_test true f = f
      by_test false f = place-more F.entries _ (e - 1) x f

  -- ---- units

  abbrev unit_name : NumberedTask → NameId
  unit_name y = task_name s (info_of_task p.names y)

  pub task-there : (k : ℕ) (y : NumberedTask) → slice_get ys k ≡ Some y → task_at F (suc k) ≡ Some (task_info normal.names (unit_name y))
  task-there k y at =
      slice_get-map (λ (t : PTask). task_info normal.names t.name.name) (tasks_of normal) k
      ∙ ap (option_map (λ (t : PTask). task_info normal.names t.name.name)) (ap (λ l. slice_get l k) (normal-tasks-of p (types_in p) (facts.ordered p h)) ∙ slice_get-map (under s) ys k ∙ ap (option_map (under s)) at)

  pub task-stays : (t : ℕ) (info : TaskInfo) → task_at F t ≡ Some info → task_at U.numbers t ≡ Some info
  task-stays t info at = place-more F.tasks _ t info at

  pub entries-there : (k : ℕ) (y : NumberedTask) → slice_get ys k ≡ Some y → entries_in (unit_named normal (unit_name y)) ≡ Some y.unit.entries
  entries-there k y at =
      let infos = tasks_beside s in
      let here : slice_get infos k ≡ Some (info_of_task p.names y) = (slice_get-map (info_of_task p.names) ys k ∙ ap (option_map (info_of_task p.names)) at) in
      let one : IsOne p y.unit = place-all (λ (z : NumberedTask). IsOne p z.unit) ys k y (numbered-tasks-one p (types_in p) (facts.ordered p h)) at in
      ap (λ l. entries_in (find (has_name (unit_name y)) l)) (tasks-of p (types_in p) numbers)
      ∙ unit-found s (info_of_task p.names y) infos k here (units_are_declared p (types_in p) (facts.ordered p h)) (tell-at s (info_of_task p.names y) infos infos k here (facts.tell p h))
      ∙ ap (λ l. entries_in (first_one l)) one

  pub unit-there : (k : ℕ) (y : NumberedTask) → slice_get ys k ≡ Some y → (t : PTask) × (unit_named normal (unit_name y) ≡ Some t) × (t.entries ≡ y.unit.entries)
  unit-there k y at = go (unit_named normal (unit_name y)) refl (entries-there k y at)
    where
      go : (o : Option PTask) → unit_named normal (unit_name y) ≡ o → entries_in o ≡ Some y.unit.entries → (t : PTask) × (unit_named normal (unit_name y) ≡ Some t) × (t.entries ≡ y.unit.entries)
      go None e f = absurd (none-some _ f)
      go (Some t) e f = (t, e, some_same f)

  -- in the text it has a formal more in each entry
  unit-stays : (id : NameId) (t : PTask) → unit_named normal id ≡ Some t → unit_named U.program id ≡ Some (task_telling n t)
  unit-stays id t e =
      ap (find (has_name id)) (text-tasks p h)
      ∙ find_front (has_name id) (map (task_telling n) (tasks_of normal)) (recorder_tasks n normal) (task_telling n t)
      (find-mapped (has_name id) (has_name id) (task_telling n) (λ z. refl) (tasks_of normal) ∙ ap (option_map (task_telling n)) e)

  -- ---- formals

  limits-alike : (id : NameId) → own_name p id.0 ≡ true → limits_or (mark_named U.types id) ≡ limits_or (mark_named (types_in normal) id)
  limits-alike id o = ap limits_or (sym ((collect_agrees p (types_in p) numbers (facts.ordered p h) (facts.olds p h).2).marks id o) ∙ (facts.alike p h).marks id o)

  parameters-alike : (fs : List PFormal) → AllByRecursion (EveryFormal r) fs → parameters_of U.types fs ≡ parameters_of (types_in normal) fs
  parameters-alike [] k = refl
  parameters-alike (f ∷ fs) k =
      ap₂ (λ (l : Limits) (rest : List FormalParameter). map (λ w. record { name = w.name; mode = f.mode; limits = l }) f.names ++ rest) (limits-alike f.mark.name k.0.1) (parameters-alike fs k.1)

  -- Each entry of the normal form has one formal more in the text, that of its caller.
  pub legal_formals : (e : ℕ) (x : EntryInfo) → entry_at F e ≡ Some x → entry_parameters U e ≡ caller_parameter n U.types ∷ entry_parameters (form_setting p) e
  legal_formals e x at =
      let i = is-of e x at in
      let unit = unit-there i.k i.y i.at in
      let t : PTask = unit.0 in
      let info : TaskInfo = task_info normal.names (unit_name i.y) in
      let there : task_at F x.owner ≡ Some info = (ap (task_at F) i.owner ∙ task-there i.k i.y i.at) in
      let found : find (named x.name) t.entries ≡ Some i.entry = (ap (find (named x.name)) unit.2 ∙ i.found) in
      let own : EveryEntry r i.entry = find-all (EveryEntry r) (named x.name) i.y.unit.entries i.entry (place-all (λ (y : NumberedTask). AllByRecursion (EveryEntry r) y.unit.entries) ys i.k i.y (entries-own p (facts.olds p h).2 (types_in p)) i.at) i.found in
      let before : entry_parameters (form_setting p) e ≡ parameters_of (types_in normal) i.entry.formals =
      (ap (λ o. parameters_of (types_in normal) (formals_of_info (form_setting p) o)) at
      ∙ ap (λ o. parameters_of (types_in normal) (formals_of_unit normal o x.name)) there
      ∙ ap (λ o. parameters_of (types_in normal) (formals_in o x.name)) unit.1
      ∙ ap (λ o. parameters_of (types_in normal) (formals_of_entry o)) found) in
      ap (λ o. parameters_of U.types (formals_of_info U o)) (entry-stays e x at)
      ∙ ap (λ o. parameters_of U.types (formals_of_unit U.program o x.name)) (task-stays x.owner info there)
      ∙ ap (λ o. parameters_of U.types (formals_in o x.name)) (unit-stays (unit_name i.y) t unit.1)
      ∙ ap (λ o. parameters_of U.types (formals_of_entry o)) (find-mapped (named x.name) (named x.name) (entry_telling n) (λ z. refl) t.entries ∙ ap (option_map (entry_telling n)) found)
      ∙ ap (λ l. caller_parameter n U.types ∷ l) (parameters-alike i.entry.formals (recursion_from_All (EveryFormal r) i.entry.formals own.3) ∙ sym before)
