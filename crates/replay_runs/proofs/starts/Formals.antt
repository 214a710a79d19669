-- The formals of the entries of a replay text.
use Rattle.std.proofs.Common.{◌≡◌, ℕ, suc, ◌+◌, ◌-◌, ◌<◌, ◌==◌, Bool, true, false, if◌then◌else◌, List, [], ◌∷◌, ◌++◌, length, map, find, drop, slice_get, unwrap_or, option_map, Option, Some, None, refl, sym, ap, ap₂, ◌∙◌, subst, true≢false, arith}
use Rattle.std.specs.List.{AllByRecursion}
use Rattle.std.specs.Str.{bytes_eq}
use Rattle.std.proofs.lemmas.Bool.{eqb-true, eq-eqb}
use Rattle.std.proofs.lemmas.List.{map-append, length-map}
use Rattle.std.proofs.lemmas.List.Elements.{recursion_from_All}
use Rattle.std.proofs.lemmas.Option.{none-some, slice_get-map}
use Rattle.event_machine.specs.declared.Event.{Event}
use Rattle.ada_tree.specs.declared.naming.NameId.{NameId}
use Rattle.ada_tree.specs.declared.naming.Span.{Span}
use Rattle.ada_tree.specs.declared.statements.ParMode.TheVariants.{Give}
use Rattle.ada_tree.specs.NameList.{AreNames}
use Rattle.ada_tree.specs.TypeTable.{TypeTable}
use Rattle.ada_tree.specs.PlainStmt.{PFormal}
use Rattle.ada_tree.specs.PlainDecl.{PEntry, PTask}
use Rattle.ada_tree.specs.PlainProgram.{PProgram}
use Rattle.ada_tree.specs.Every.{Rules, EveryEntry, EveryFormal}
use Rattle.ada_static_rules.specs.Refusals.{types_in}
use Rattle.ada_static_rules.specs.StaticValue.{mark_named}
use Rattle.syn_event.specs.declared.numbering.TaskInfo.{TaskInfo}
use Rattle.syn_event.specs.declared.numbering.EntryInfo.{EntryInfo}
use Rattle.syn_event.specs.Numbering.{Numbering, task_at, entry_at}
use Rattle.syn_event.specs.AddedNames.{is_added_name, task_info, with_origin}
use Rattle.syn_event.specs.NamedTasks.{NumberedTask, numbered_tasks}
use Rattle.syn_event.specs.AllNumbers.{entry_of_task, entries_of_tasks, all_numbers}
use Rattle.syn_event.specs.DeclaredTasks.{text_of, tasks_in, tasks_of}
use Rattle.syn_event.proofs.DeclLists.{listed_back}
use Rattle.control_script.specs.declared.Op.{Op}
use Rattle.ada_value.specs.declared.values.Limits.{Limits}
use Rattle.ada_value.specs.Values.{limits_or}
use Rattle.task_model.specs.declared.parameters.FormalParameter.{FormalParameter}
use Rattle.task_model.specs.Setting.{Setting, parameters_of, unit_named, formals_of_entry, formals_in, formals_of_unit, formals_of_info, entry_parameters}
use Rattle.run_laws.specs.replaying.Copies.{Spots}
use Rattle.replay_model.specs.Controlling.{added_entry, all_tasks, permit_formals}
use Rattle.replay_model.specs.Names.{kind_text, argument_text, index_text, control_text, go_text, done_text, hold_text, idle_text, stop_text, rest_text, never_text, join_text, added_texts, double_text, replay_names, added_id, added_word, double_word}
use Rattle.replay_model.specs.ReplayTree.{last_task, replay_decls, script_of}
use Rattle.replay_model.specs.ReplayNumbers.{plain_info, double_info, numbers_replayed}
use Rattle.task_laws.proofs.legal.rewritten_types.Keeping.{apart}
use Rattle.task_laws.proofs.legal.rewritten_types.Lookups.{find-all, place-all}
use Rattle.task_laws.specs.legal.rewritten_values.Values.{old_names}
use Rattle.normal_laws.specs.structure.types.Own.{own_name}
use Rattle.normal_laws.specs.structure.types.Laws.{IsOrdered, setting_of, AreOwn}
use Rattle.normal_laws.specs.structure.numbers.Laws.{NoneIsDed}
use Rattle.normal_laws.proofs.structure.numbers.Named.{Has, IsReserved, text-there, text-longer, reserved-added, reserved-new, own-within}
use Rattle.normal_laws.proofs.structure.numbers.Tasked.{under, normal-tasks-of}
use Rattle.normal_laws.proofs.structure.numbers.TaskNames.{normal-begins, entries-own}
use Rattle.replay_structure.proofs.texts.Listed.{more_task, added_tasks, replay-tasks}
use Rattle.replay_structure.proofs.texts.Rooted.{replay-has, ids-apart, text-begins, replay_agrees}
use Rattle.replay_structure.proofs.texts.Entries.{IsKept, IsTaskKept}
use Rattle.replay_structure.proofs.texts.Kept.{all-kept, all-not-added}
use Rattle.replay_structure.specs.bodies.Laws.{TasksStay}
use Rattle.replay_structure.proofs.bodies.Bodies.{tasks_keep_numbers}
use Rattle.replay_structure.specs.spots.Places.{text_spots}
use Rattle.replay_structure.specs.spots.Laws.{IsThere, AreThere}
use Rattle.replay_structure.proofs.spots.Placed.{spots_are_there}
use Rattle.replay_structure.proofs.spots.Ordered.{normal_is_in_order}
use Rattle.replay_runs.specs.starts.Laws.{form_in, text_in}
use Rattle.replay_runs.specs.starts.Formals.{form_setting, text_setting, permit_parameters, FormalsStay}
use Rattle.replay_runs.proofs.starts.Tables.{integer_is_there}
use Rattle.replay_runs.proofs.starts.Programs.{agrees}
use Rattle.replay_runs.proofs.starts.Found.{picked, skipped, among-more, none-more, own-formals, double-formals, never-formals, join-formals}
use Rattle.common_lemmas.proofs.Lists.{all_joined, found_some, element_at, texts_differ}
use Rattle.common_lemmas.proofs.Numbers.{equal_self, unequal_turned}

-- ---- the tasks that are added

abbrev go_entry : PProgram → Span → ℕ → PEntry
go_entry q s n = added_entry q s go_text (all_tasks s n) (permit_formals q s)

abbrev done_entry : PProgram → Span → ℕ → PEntry
done_entry q s n = added_entry q s done_text (all_tasks s n) []

abbrev hold_entry : PProgram → Span → PEntry
hold_entry q s = added_entry q s hold_text None []

abbrev stop_entry : PProgram → Span → PEntry
stop_entry q s = added_entry q s stop_text None []

abbrev rest_entry : PProgram → Span → PEntry
rest_entry q s = added_entry q s rest_text None []

-- the controller, and the idle task
abbrev control_task : PProgram → Span → ℕ → PTask
control_task q s n = record { name = added_word q s control_text; of_kind = false; entries = go_entry q s n ∷ done_entry q s n ∷ hold_entry q s ∷ []; priorities = [] }

abbrev idle_task : PProgram → Span → PTask
idle_task q s = record { name = added_word q s idle_text; of_kind = false; entries = stop_entry q s ∷ rest_entry q s ∷ []; priorities = [] }

module _ (p : PProgram) (events : List Event) (ordered : IsOrdered p) (own : AreOwn p p.decls) (ded : NoneIsDed p) (names : AreNames p.names) where
  abbrev old : ℕ → Bool
  old = own_name p

  abbrev r : Rules
  r = old_names old

  abbrev numbers : Numbering
  numbers = all_numbers (types_in p) p

  abbrev g : Setting
  g = form_in p

  abbrev normal : PProgram
  normal = g.program

  abbrev text : PProgram
  text = text_in p events

  abbrev T : TypeTable
  T = types_in normal

  abbrev U : TypeTable
  U = types_in text

  abbrev Q : Numbering
  Q = numbers_replayed g

  abbrev ops : List Op
  ops = script_of numbers events

  abbrev s : Span
  s = normal.name.span

  abbrev ys : List NumberedTask
  ys = numbered_tasks (types_in p) p

  abbrev its : NumberedTask → PTask
  its = under (setting_of p (types_in p) numbers)

  abbrev added : List PTask
  added = added_tasks normal s (last_task g.numbers)

  -- ---- names

  -- a name that the text adds, and one of the program's own
  reserved-apart : (t : List ℕ) (id : NameId) → Has (replay_names normal) t → IsReserved t → old id.0 ≡ true → ((added_id normal t).0 == id.0) ≡ false
  reserved-apart t id h k o = apart old (added_id normal t).0 id.0 (reserved-new p (replay_names normal) t (text-begins p (types_in p) numbers) h k) o

  pub reserved-turned : (t : List ℕ) (id : NameId) → Has (replay_names normal) t → IsReserved t → old id.0 ≡ true → (id.0 == (added_id normal t).0) ≡ false
  reserved-turned t id h k o = unequal_turned (added_id normal t).0 id.0 (reserved-apart t id h k o)

  -- the text of a double's name
  abbrev doubled : NameId → List ℕ
  doubled id = double_text (text_of normal.names id)

  abbrev HasDouble : NameId → Type 0
  HasDouble id = Has (replay_names normal) (doubled id)

  -- two texts that are there and differ have two ids
  texts-apart : (a b : List ℕ) → Has (replay_names normal) a → Has (replay_names normal) b → (a ≡ b → ⊥) → ((added_id normal a).0 == (added_id normal b).0) ≡ false
  texts-apart a b has_a has_b differ = by_test ((added_id normal a).0 == (added_id normal b).0) refl
    where
      by_test : (c : Bool) → ((added_id normal a).0 == (added_id normal b).0) ≡ c → c ≡ false
      by_test false e = refl
      by_test true e =
          let n : (added_id normal a).0 ≡ (added_id normal b).0 = eqb-true _ _ e in
          absurd (differ (sym (text-there (replay_names normal) a has_a) ∙ (λ i. text_of (replay_names normal) record { 0 = n i }) ∙ text-there (replay_names normal) b has_b))

  -- two own names of one text are one
  one-name : (a b : NameId) → old a.0 ≡ true → old b.0 ≡ true → text_of normal.names a ≡ text_of normal.names b → a.0 ≡ b.0
  one-name a b own_a own_b e =
      let at_a = element_at p.names a.0 (own-within p a.0 own_a) in
      let at_b = element_at p.names b.0 (own-within p b.0 own_b) in
      let begins = normal-begins p (types_in p) numbers in
      let text_a : text_of normal.names a ≡ at_a.0 = text-longer p.names normal.names a begins (own-within p a.0 own_a) ∙ ap (λ o. unwrap_or o []) at_a.1 in
      let text_b : text_of normal.names b ≡ at_b.0 = text-longer p.names normal.names b begins (own-within p b.0 own_b) ∙ ap (λ o. unwrap_or o []) at_b.1 in
      names.distinct at_a.0 a.0 b.0 at_a.1 (at_b.1 ∙ ap Some (sym text_b ∙ sym e ∙ text_a))

  -- doubles have one name where their entries have
  same-test : (a b : NameId) → old a.0 ≡ true → old b.0 ≡ true → HasDouble a → HasDouble b → ((added_id normal (doubled a)).0 == (added_id normal (doubled b)).0) ≡ (a.0 == b.0)
  same-test a b own_a own_b has_a has_b = by_test (a.0 == b.0) refl
    where
      by_test : (c : Bool) → (a.0 == b.0) ≡ c → ((added_id normal (doubled a)).0 == (added_id normal (doubled b)).0) ≡ c
      by_test true e =
          let n : a.0 ≡ b.0 = eqb-true a.0 b.0 e in
          eq-eqb (added_id normal (doubled a)).0 (added_id normal (doubled b)).0 (λ i. (added_id normal (doubled record { 0 = n i })).0)
      by_test false e = texts-apart (doubled a) (doubled b) has_a has_b (λ d. true≢false (sym (eq-eqb a.0 b.0 (one-name a b own_a own_b (ap (drop 6) d))) ∙ e))

  -- ---- tasks

  -- a task of the normal form with entries of own names, whose doubles are there
  record IsFine (t : PTask) : Type 0 where
    names_own : AllByRecursion (EveryEntry r) t.entries
    kept : AllByRecursion (IsKept normal p.names (types_in p) U) t.entries

  fine-mapped : (zs : List NumberedTask) → AllByRecursion (λ (y : NumberedTask). AllByRecursion (EveryEntry r) y.unit.entries) zs → AllByRecursion (IsTaskKept normal p.names (types_in p) U its) zs → AllByRecursion IsFine (map its zs)
  fine-mapped [] h k = tt
  fine-mapped (y ∷ zs) h k = (record { names_own = h.0; kept = k.0.entries }, fine-mapped zs h.1 k.1)

  tasks-are : tasks_of normal ≡ map its ys
  tasks-are = normal-tasks-of p (types_in p) ordered

  all-fine : AllByRecursion IsFine (tasks_of normal)
  all-fine = subst (AllByRecursion IsFine) (sym tasks-are) (fine-mapped ys (entries-own p own (types_in p)) (all-kept p ordered own ded U (replay_agrees p (types_in p) numbers events ordered own)))

  -- what holds of an own entry whose double is there
  each : (t : PTask) → IsFine t → (P : PEntry → Type 0) → ((e : PEntry) → old e.name.name.0 ≡ true → HasDouble e.name.name → P e) → AllByRecursion P t.entries
  each t fine P f = go t.entries fine.names_own fine.kept
    where
      go : (es : List PEntry) → AllByRecursion (EveryEntry r) es → AllByRecursion (IsKept normal p.names (types_in p) U) es → AllByRecursion P es
      go [] h k = tt
      go (e ∷ es) h k = (f e h.0.1 k.0.double, go es h.1 k.1)

  -- the number of a task, and the unit that it runs
  abbrev info_of : NumberedTask → TaskInfo
  info_of y = task_info normal.names (its y).name.name

  place-of : (k : ℕ) (y : NumberedTask) → slice_get ys k ≡ Some y → slice_get (tasks_of normal) k ≡ Some (its y)
  place-of k y at = ap (λ l. slice_get l k) tasks-are ∙ slice_get-map its ys k ∙ ap (option_map its) at

  task-there : (k : ℕ) (y : NumberedTask) → slice_get ys k ≡ Some y → task_at g.numbers (suc k) ≡ Some (info_of y)
  task-there k y at = slice_get-map (λ (t : PTask). task_info normal.names t.name.name) (tasks_of normal) k ∙ ap (option_map (λ (t : PTask). task_info normal.names t.name.name)) (place-of k y at)

  unit-there : (k : ℕ) (y : NumberedTask) → slice_get ys k ≡ Some y → (t : PTask) × (unit_named normal (info_of y).unit ≡ Some t)
  unit-there k y at = found_some (λ (t : PTask). t.name.name.0 == (its y).name.name.0) (tasks_of normal) k (its y) (place-of k y at) (eq-eqb (its y).name.name.0 (its y).name.name.0 refl)

  fine-unit : (id : NameId) (t : PTask) → unit_named normal id ≡ Some t → IsFine t
  fine-unit id t e = find-all IsFine (λ (x : PTask). x.name.name.0 == id.0) (tasks_of normal) t all-fine e

  -- ---- the tasks of the text

  text-tasks : tasks_of text ≡ map (more_task normal) (tasks_of normal) ++ added
  text-tasks = ap tasks_in (listed_back (replay_decls g s ops)) ∙ replay-tasks g s ops

  more-unit : (id : NameId) (t : PTask) → unit_named normal id ≡ Some t → unit_named text id ≡ Some (more_task normal t)
  more-unit id t e = ap (find (λ (x : PTask). x.name.name.0 == id.0)) text-tasks ∙ among-more normal added id (tasks_of normal) t e

  stay : TasksStay g
  stay = tasks_keep_numbers p (types_in p) numbers

  -- the formals of an entry that is there, of a task that is there
  formals-there : (n : ℕ) (x : EntryInfo) → IsThere Q n x → (info : TaskInfo) → task_at Q x.owner ≡ Some info → entry_parameters (text_setting p events) n ≡ parameters_of U (formals_in (unit_named text info.unit) x.name)
  formals-there n x there info at =
      ap (λ o. parameters_of U (formals_of_info (text_setting p events) o)) there.at
      ∙ (λ i. parameters_of U (formals_of_unit text (task_at Q (there.same.owner i)) (there.same.name i)))
      ∙ ap (λ o. parameters_of U (formals_of_unit text o x.name)) at

  -- ---- the entries of the program

  -- an entry in the numbers is one of a task that is there, with an own name, whose double is there
  record IsTold (x : EntryInfo) : Type 0 where
    k : ℕ
    y : NumberedTask
    at : slice_get ys k ≡ Some y
    owner : x.owner ≡ suc k
    own_id : old x.name.0 ≡ true
    double : HasDouble x.name

  told-of : (all : List EntryInfo) (k n : ℕ) (y : NumberedTask) → n ≡ suc k → slice_get ys k ≡ Some y → (es : List PEntry) → AllByRecursion (EveryEntry r) es → AllByRecursion (IsKept normal p.names (types_in p) U) es →
      AllByRecursion IsTold (map (with_origin p.names all) (map (entry_of_task p.names (types_in p) n y) es))
  told-of all k n y e at [] h c = tt
  told-of all k n y e at (x ∷ es) h c = (record { k = k; y = y; at = at; owner = e; own_id = h.0.1; double = c.0.double }, told-of all k n y e at es h.1 c.1)

  told-from : (all : List EntryInfo) (zs : List NumberedTask) (d n : ℕ) → n ≡ suc d → ((k : ℕ) (y : NumberedTask) → slice_get zs k ≡ Some y → slice_get ys (d + k) ≡ Some y) →
      AllByRecursion (λ (y : NumberedTask). AllByRecursion (EveryEntry r) y.unit.entries) zs → AllByRecursion (IsTaskKept normal p.names (types_in p) U its) zs →
      AllByRecursion IsTold (map (with_origin p.names all) (entries_of_tasks p.names (types_in p) n zs))
  told-from all [] d n e at h c = tt
  told-from all (y ∷ zs) d n e at h c =
      subst (AllByRecursion IsTold) (sym (map-append (with_origin p.names all) (map (entry_of_task p.names (types_in p) n y) y.unit.entries) (entries_of_tasks p.names (types_in p) (n + 1) zs)))
      (all_joined IsTold (map (with_origin p.names all) (map (entry_of_task p.names (types_in p) n y) y.unit.entries)) _
      (told-of all d n y e (subst (λ m. slice_get ys m ≡ Some y) (none-more-than d) (at 0 y refl)) y.unit.entries h.0 c.0.entries)
      (told-from all zs (suc d) (n + 1) (next n d e) (λ k z b. subst (λ m. slice_get ys m ≡ Some z) (one-further d k) (at (suc k) z b)) h.1 c.1))
    where
      none-more-than : (d : ℕ) → d + 0 ≡ d
      none-more-than d = omega arith

      next : (n d : ℕ) → n ≡ suc d → n + 1 ≡ suc (suc d)
      next n d e = omega (arith, e)

      one-further : (d k : ℕ) → d + suc k ≡ suc d + k
      one-further d k = omega arith

  all-told : AllByRecursion IsTold g.numbers.entries
  all-told =
      told-from (entries_of_tasks p.names (types_in p) 1 ys) ys 0 1 refl (λ k y at. subst (λ m. slice_get ys m ≡ Some y) (none-before k) at)
      (entries-own p own (types_in p)) (all-kept p ordered own ded U (replay_agrees p (types_in p) numbers events ordered own))
    where
      none-before : (k : ℕ) → k ≡ 0 + k
      none-before k = omega arith

  told : (e : ℕ) (x : EntryInfo) → entry_at g.numbers e ≡ Some x → IsTold x
  told e x at = by_test (e == 0) at
    where
      by_test : (b : Bool) → (if b then None else slice_get g.numbers.entries (e - 1)) ≡ Some x → IsTold x
      by_test true f = absurd (none-some x f)
      by_test false f = place-all IsTold g.numbers.entries (e - 1) x all-told f

  -- ---- types

  limits-alike : (id : NameId) → old id.0 ≡ true → limits_or (mark_named U id) ≡ limits_or (mark_named T id)
  limits-alike id o = ap limits_or (sym ((agrees p events ordered own).marks id o))

  parameters-alike : (fs : List PFormal) → AllByRecursion (EveryFormal r) fs → parameters_of U fs ≡ parameters_of T fs
  parameters-alike [] h = refl
  parameters-alike (f ∷ fs) h =
      ap₂ (λ (l : Limits) (k : List FormalParameter). map (λ w. record { name = w.name; mode = f.mode; limits = l }) f.names ++ k) (limits-alike f.mark.name h.0.1) (parameters-alike fs h.1)

  formals-own : (t : PTask) → IsFine t → (name : NameId) → AllByRecursion (EveryFormal r) (formals_in (Some t) name)
  formals-own t fine name = go (find (λ (e : PEntry). e.name.name.0 == name.0) t.entries) refl
    where
      go : (o : Option PEntry) → find (λ (e : PEntry). e.name.name.0 == name.0) t.entries ≡ o → AllByRecursion (EveryFormal r) (formals_of_entry o)
      go None e = tt
      go (Some x) e = recursion_from_All (EveryFormal r) x.formals (find-all (EveryEntry r) (λ (z : PEntry). z.name.name.0 == name.0) t.entries x fine.names_own e).3

  -- what the normal form has
  formals-before : (e : ℕ) (x : EntryInfo) → entry_at g.numbers e ≡ Some x → (h : IsTold x) (t : PTask) → unit_named normal (info_of h.y).unit ≡ Some t → entry_parameters (form_setting p) e ≡ parameters_of T (formals_in (Some t) x.name)
  formals-before e x at h t unit =
      ap (λ o. parameters_of T (formals_of_info (form_setting p) o)) at
      ∙ ap (λ o. parameters_of T (formals_of_unit normal o x.name)) (ap (task_at g.numbers) h.owner ∙ task-there h.k h.y h.at)
      ∙ ap (λ o. parameters_of T (formals_in o x.name)) unit

  -- what the text has by a name of such a task
  formals-after : (n k : ℕ) (x : EntryInfo) (y : NumberedTask) → IsThere Q n x → x.owner ≡ suc k → slice_get ys k ≡ Some y → (t : PTask) → unit_named normal (info_of y).unit ≡ Some t →
      entry_parameters (text_setting p events) n ≡ parameters_of U (formals_in (Some (more_task normal t)) x.name)
  formals-after n k x y there owner at t unit =
      formals-there n x there (info_of y) (ap (task_at Q) owner ∙ stay.own (suc k) (info_of y) (task-there k y at))
      ∙ ap (λ o. parameters_of U (formals_in o x.name)) (more-unit (info_of y).unit t unit)

  has : (t : List ℕ) → Has added_texts t → Has (replay_names normal) t
  has t h = replay-has normal t h

  original : (n e : ℕ) (x : EntryInfo) → entry_at g.numbers e ≡ Some x → IsThere Q n x → entry_parameters (text_setting p events) n ≡ entry_parameters (form_setting p) e
  original n e x at there =
      let h = told e x at in
      let unit = unit-there h.k h.y h.at in
      let fine = fine-unit (info_of h.y).unit unit.0 unit.1 in
      formals-after n h.k x h.y there h.owner h.at unit.0 unit.1
      ∙ ap (parameters_of U)
      (own-formals normal unit.0 x.name
      (each unit.0 fine (λ z. ((double_word normal z.name).name.0 == x.name.0) ≡ false) (λ z own_z has_z. reserved-apart (doubled z.name.name) x.name has_z refl h.own_id))
      (reserved-apart never_text x.name (has never_text refl) refl h.own_id)
      (reserved-apart join_text x.name (has join_text refl) refl h.own_id))
      ∙ parameters-alike (formals_in (Some unit.0) x.name) (formals-own unit.0 fine x.name)
      ∙ sym (formals-before e x at h unit.0 unit.1)

  shadow : (n e : ℕ) (x : EntryInfo) → entry_at g.numbers e ≡ Some x → IsThere Q n (double_info normal x) → entry_parameters (text_setting p events) n ≡ entry_parameters (form_setting p) e
  shadow n e x at there =
      let h = told e x at in
      let unit = unit-there h.k h.y h.at in
      let fine = fine-unit (info_of h.y).unit unit.0 unit.1 in
      let name = added_id normal (doubled x.name) in
      formals-after n h.k (double_info normal x) h.y there h.owner h.at unit.0 unit.1
      ∙ ap (parameters_of U)
      (double-formals normal unit.0 name x.name
      (each unit.0 fine (λ z. (z.name.name.0 == name.0) ≡ false) (λ z own_z has_z. reserved-turned (doubled x.name) z.name.name h.double refl own_z))
      (each unit.0 fine (λ z. ((double_word normal z.name).name.0 == name.0) ≡ (z.name.name.0 == x.name.0)) (λ z own_z has_z. same-test z.name.name x.name own_z h.own_id has_z h.double))
      (texts-apart never_text (doubled x.name) (has never_text refl) h.double (texts_differ never_text (doubled x.name) refl))
      (texts-apart join_text (doubled x.name) (has join_text refl) h.double (texts_differ join_text (doubled x.name) refl)))
      ∙ parameters-alike (formals_in (Some unit.0) x.name) (formals-own unit.0 fine x.name)
      ∙ sym (formals-before e x at h unit.0 unit.1)

  -- ---- the two more of each task

  last-is : last_task g.numbers ≡ length ys
  last-is = length-map (tasks_of normal) (λ (t : PTask). task_info normal.names t.name.name) ∙ ap length tasks-are ∙ length-map ys its

  task-at : (t : ℕ) → t < last_task g.numbers → (y : NumberedTask) × (slice_get ys t ≡ Some y)
  task-at t l = element_at ys t (subst (λ n. t < n) last-is l)

  not-doubled : (a : List ℕ) → Has (replay_names normal) a → ((b : List ℕ) → double_text b ≡ a → ⊥) → (t : PTask) → IsFine t → AllByRecursion (λ z. ((double_word normal z.name).name.0 == (added_id normal a).0) ≡ false) t.entries
  not-doubled a has_a differ t fine = each t fine (λ z. ((double_word normal z.name).name.0 == (added_id normal a).0) ≡ false) (λ z own_z has_z. texts-apart (doubled z.name.name) a has_z has_a (differ (text_of normal.names z.name.name)))

  not-own : (a : List ℕ) → Has (replay_names normal) a → IsReserved a → (t : PTask) → IsFine t → AllByRecursion (λ z. (z.name.name.0 == (added_id normal a).0) ≡ false) t.entries
  not-own a has_a k t fine = each t fine (λ z. (z.name.name.0 == (added_id normal a).0) ≡ false) (λ z own_z has_z. reserved-turned a z.name.name has_a k own_z)

  never : (n t : ℕ) → t < last_task g.numbers → IsThere Q n (plain_info normal (suc t) never_text) → entry_parameters (text_setting p events) n ≡ []
  never n t l there =
      let y = task-at t l in
      let unit = unit-there t y.0 y.1 in
      let fine = fine-unit (info_of y.0).unit unit.0 unit.1 in
      formals-after n t (plain_info normal (suc t) never_text) y.0 there refl y.1 unit.0 unit.1
      ∙ ap (parameters_of U)
      (never-formals normal unit.0 (added_id normal never_text)
      (not-own never_text (has never_text refl) refl unit.0 fine)
      (not-doubled never_text (has never_text refl) (λ b. texts_differ (double_text b) never_text refl) unit.0 fine)
      (equal_self (added_id normal never_text).0))

  join : (n t : ℕ) → t < last_task g.numbers → IsThere Q n (plain_info normal (suc t) join_text) → entry_parameters (text_setting p events) n ≡ []
  join n t l there =
      let y = task-at t l in
      let unit = unit-there t y.0 y.1 in
      let fine = fine-unit (info_of y.0).unit unit.0 unit.1 in
      formals-after n t (plain_info normal (suc t) join_text) y.0 there refl y.1 unit.0 unit.1
      ∙ ap (parameters_of U)
      (join-formals normal unit.0 (added_id normal join_text)
      (not-own join_text (has join_text refl) refl unit.0 fine)
      (not-doubled join_text (has join_text refl) (λ b. texts_differ (double_text b) join_text refl) unit.0 fine)
      (ids-apart normal never_text join_text refl refl (texts_differ never_text join_text refl))
      (equal_self (added_id normal join_text).0))

  -- ---- the controller and the idle task

  -- no task of the program has the name of one that is added
  pub none-named : (t : List ℕ) → is_added_name (replay_names normal) (added_id normal t) ≡ true → AllByRecursion (λ (x : PTask). (x.name.name.0 == (added_id normal t).0) ≡ false) (tasks_of normal)
  none-named t a = subst (AllByRecursion (λ (x : PTask). (x.name.name.0 == (added_id normal t).0) ≡ false)) (sym tasks-are) (go ys (all-not-added p ordered own ded))
    where
      unlike : (id : NameId) → is_added_name (replay_names normal) id ≡ false → (b : Bool) → (id.0 == (added_id normal t).0) ≡ b → b ≡ false
      unlike id n false e = refl
      unlike id n true e =
          let m : id.0 ≡ (added_id normal t).0 = eqb-true _ _ e in
          absurd (true≢false (sym a ∙ (λ i. is_added_name (replay_names normal) record { 0 = sym m i }) ∙ n))

      go : (zs : List NumberedTask) → AllByRecursion (λ (y : NumberedTask). is_added_name (replay_names normal) (its y).name.name ≡ false) zs → AllByRecursion (λ (x : PTask). (x.name.name.0 == (added_id normal t).0) ≡ false) (map its zs)
      go [] h = tt
      go (y ∷ zs) h = (unlike (its y).name.name h.0 ((its y).name.name.0 == (added_id normal t).0) refl, go zs h.1)

  -- an added task
  added-unit : (t : List ℕ) → Has added_texts t → IsReserved t → (o : Option PTask) → find (λ (x : PTask). x.name.name.0 == (added_id normal t).0) added ≡ o → unit_named text (added_id normal t) ≡ o
  added-unit t h k o e =
      ap (find (λ (x : PTask). x.name.name.0 == (added_id normal t).0)) text-tasks
      ∙ none-more normal added (added_id normal t) (tasks_of normal) (none-named t (reserved-added (replay_names normal) t (has t h) k))
      ∙ e

  self : (t : List ℕ) → ((added_id normal t).0 == (added_id normal t).0) ≡ true
  self t = equal_self (added_id normal t).0

  differ : (a b : List ℕ) → Has added_texts a → Has added_texts b → bytes_eq a b ≡ false → ((added_id normal a).0 == (added_id normal b).0) ≡ false
  differ a b h k e = ids-apart normal a b h k (texts_differ a b e)

  one-behind : last_task g.numbers + 1 ≡ suc (last_task g.numbers)
  one-behind = omega arith

  two-behind : last_task g.numbers + 2 ≡ suc (suc (last_task g.numbers))
  two-behind = omega arith

  abbrev control : PTask
  control = control_task normal s (last_task g.numbers)

  abbrev idle : PTask
  idle = idle_task normal s

  control-unit : unit_named text (added_id normal control_text) ≡ Some control
  control-unit = added-unit control_text refl refl (Some control) (picked (λ (x : PTask). x.name.name.0 == (added_id normal control_text).0) control (idle ∷ []) (self control_text))

  idle-unit : unit_named text (added_id normal idle_text) ≡ Some idle
  idle-unit =
      added-unit idle_text refl refl (Some idle)
      (skipped (λ (x : PTask). x.name.name.0 == (added_id normal idle_text).0) control (idle ∷ []) (differ control_text idle_text refl refl refl)
      ∙ picked (λ (x : PTask). x.name.name.0 == (added_id normal idle_text).0) idle [] (self idle_text))

  -- an entry of the controller, and one of the idle task
  of-control : (n : ℕ) (x : EntryInfo) → IsThere Q n x → x.owner ≡ last_task g.numbers + 1 → entry_parameters (text_setting p events) n ≡ parameters_of U (formals_in (Some control) x.name)
  of-control n x there owner =
      formals-there n x there _ (ap (task_at Q) (owner ∙ one-behind) ∙ stay.control)
      ∙ ap (λ o. parameters_of U (formals_in o x.name)) control-unit

  of-idle : (n : ℕ) (x : EntryInfo) → IsThere Q n x → x.owner ≡ last_task g.numbers + 2 → entry_parameters (text_setting p events) n ≡ parameters_of U (formals_in (Some idle) x.name)
  of-idle n x there owner =
      formals-there n x there _ (ap (task_at Q) (owner ∙ two-behind) ∙ stay.idle)
      ∙ ap (λ o. parameters_of U (formals_in o x.name)) idle-unit

  abbrev named : List ℕ → PEntry → Bool
  named t e = e.name.name.0 == (added_id normal t).0

  go-formals : formals_in (Some control) (added_id normal go_text) ≡ permit_formals normal s
  go-formals = ap formals_of_entry (picked (named go_text) (go_entry normal s (last_task g.numbers)) (done_entry normal s (last_task g.numbers) ∷ hold_entry normal s ∷ []) (self go_text))

  done-formals : formals_in (Some control) (added_id normal done_text) ≡ []
  done-formals =
      ap formals_of_entry
      (skipped (named done_text) (go_entry normal s (last_task g.numbers)) (done_entry normal s (last_task g.numbers) ∷ hold_entry normal s ∷ []) (differ go_text done_text refl refl refl)
      ∙ picked (named done_text) (done_entry normal s (last_task g.numbers)) (hold_entry normal s ∷ []) (self done_text))

  hold-formals : formals_in (Some control) (added_id normal hold_text) ≡ []
  hold-formals =
      ap formals_of_entry
      (skipped (named hold_text) (go_entry normal s (last_task g.numbers)) (done_entry normal s (last_task g.numbers) ∷ hold_entry normal s ∷ []) (differ go_text hold_text refl refl refl)
      ∙ skipped (named hold_text) (done_entry normal s (last_task g.numbers)) (hold_entry normal s ∷ []) (differ done_text hold_text refl refl refl)
      ∙ picked (named hold_text) (hold_entry normal s) [] (self hold_text))

  stop-formals : formals_in (Some idle) (added_id normal stop_text) ≡ []
  stop-formals = ap formals_of_entry (picked (named stop_text) (stop_entry normal s) (rest_entry normal s ∷ []) (self stop_text))

  rest-formals : formals_in (Some idle) (added_id normal rest_text) ≡ []
  rest-formals =
      ap formals_of_entry
      (skipped (named rest_text) (stop_entry normal s) (rest_entry normal s ∷ []) (differ stop_text rest_text refl refl refl)
      ∙ picked (named rest_text) (rest_entry normal s) [] (self rest_text))

  go-parameters : parameters_of U (permit_formals normal s) ≡ permit_parameters normal
  go-parameters =
      ap
      (λ (l : Limits).
      record { name = added_id normal kind_text; mode = Give; limits = l }
      ∷ record { name = added_id normal argument_text; mode = Give; limits = l }
      ∷ record { name = added_id normal index_text; mode = Give; limits = l } ∷ [])
      (integer_is_there text).formal

  there : (far : Spots) → AreThere far g
  there far = spots_are_there far g (normal_is_in_order p ordered)

pub formals_stay : FormalsStay
formals_stay p events far ordered own ded names =
    let g = form_in p in
    let at = there p events ordered own ded names far in
    record {
      original = λ e x f. original p events ordered own ded names ((text_spots far g).original e) e x f (at.original e x f);
      shadow = λ e x f. shadow p events ordered own ded names ((text_spots far g).shadow e) e x f (at.shadow e x f);
      never = λ t l. never p events ordered own ded names ((text_spots far g).never (suc t)) t l (at.never t l);
      join = λ t l. join p events ordered own ded names ((text_spots far g).join (suc t)) t l (at.join t l);
      go =
          of-control p events ordered own ded names (text_spots far g).go _ at.go refl
          ∙ ap (parameters_of (types_in (text_in p events))) (go-formals p events ordered own ded names)
          ∙ go-parameters p events ordered own ded names;
      done = of-control p events ordered own ded names (text_spots far g).done _ at.done refl ∙ ap (parameters_of (types_in (text_in p events))) (done-formals p events ordered own ded names);
      hold = of-control p events ordered own ded names (text_spots far g).hold _ at.hold refl ∙ ap (parameters_of (types_in (text_in p events))) (hold-formals p events ordered own ded names);
      stop = of-idle p events ordered own ded names (text_spots far g).stop _ at.stop refl ∙ ap (parameters_of (types_in (text_in p events))) (stop-formals p events ordered own ded names);
      rest = of-idle p events ordered own ded names (text_spots far g).rest _ at.rest refl ∙ ap (parameters_of (types_in (text_in p events))) (rest-formals p events ordered own ded names);
    }
