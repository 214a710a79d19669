-- What names of the recorder and of its entry are found as in the collecting text of a legal program, and which formals its entries have.
use Rattle.std.proofs.Common.{◌≡◌, ◌==◌, ◌≤◌, ◌+◌, ◌&&◌, arith, ℕ, suc, Bool, true, false, if◌then◌else◌, cond, List, [], ◌∷◌, ◌++◌, map, length, find, unwrap_or, Some, None, option_map, slice_get, refl, ap, ap₂, ◌∙◌}
use Rattle.std.specs.List.{AllByRecursion, position}
use Rattle.ada_static_rules.proofs.found_twice.FirstOfTwo.{position_push}
use Rattle.common_lemmas.proofs.Numbers.{equal_self, unequal_above, unequal_turned}
use Rattle.ada_tree.specs.declared.naming.NameId.{NameId}
use Rattle.ada_tree.specs.TypeTable.{TypeTable}
use Rattle.ada_tree.specs.PlainDecl.{PEntry, PTask, PDecl, DNumber, DObject, DEnumeration, DArray, DSubtype, DException, DIntIo, DPragma, DTask, DTaskBody}
use Rattle.ada_tree.specs.PlainProgram.{PProgram}
use Rattle.ada_tree.specs.Every.{EveryDecl}
use Rattle.ada_static_rules.specs.StaticValue.{first_of_two}
use Rattle.ada_static_rules.specs.Refusals.{types_in}
use Rattle.ada_value.specs.Values.{truth_limits, limits_or, limits_named}
use Rattle.syn_event.specs.declared.numbering.TaskInfo.{TaskInfo}
use Rattle.syn_event.specs.declared.numbering.EntryInfo.{EntryInfo}
use Rattle.syn_event.specs.Numbering.{Numbering, task_at, task_named, entry_named, entry_at, owner_of}
use Rattle.syn_event.specs.DeclaredTasks.{decl_list, tasks_in, tasks_of}
use Rattle.syn_event.proofs.DeclLists.{listed_back}
use Rattle.task_model.specs.Setting.{Setting, is_family_in, unit_named, formals_in, formals_of_entry, formals_of_unit, formals_of_info, parameters_of, entry_parameters}
use Rattle.task_laws.specs.legal.rewritten_types.Agreement.{Grows}
use Rattle.task_laws.proofs.legal.rewritten_types.Lookups.{find-grown}
use Rattle.task_laws.proofs.legal.types.MainScopes.{grows-decls}
use Rattle.normal_model.specs.NormalTree.{main_unit}
use Rattle.normal_laws.specs.runs.forms.Normalisable.{made_for, numbers_of}
use Rattle.normal_laws.proofs.legality.checks.Facts as facts
use Rattle.normal_laws.specs.existence.Laws.{IsLegalOriginal}
use Rattle.replay_model.specs.ReplayTree.{last_task}
use Rattle.replay_structure.proofs.spots.Ordered.{normal_is_in_order}
use Rattle.replay_structure.proofs.spots.Placed.{entry-suc}
use Rattle.replay_runs.specs.starts.Laws.{form_in}
use Rattle.replay_runs.proofs.starts.Tables.{integer_is_there}
use Rattle.replay_runs.proofs.controls.meanings.Naming.{owner-below}
use Rattle.collect_model.specs.Names.{recorder_text, note_text}
use Rattle.collect_model.specs.Teller.{Teller, teller_in}
use Rattle.collect_model.specs.Recording.{note_formals}
use Rattle.collect_model.specs.CollectTree.{task_telling, collect_decls}
use Rattle.collect_model.specs.CollectNumbers.{recorder_info, note_info}
use Rattle.collect_structure.specs.Names.{added_id, kept_name, kept_names}
use Rattle.collect_structure.specs.checked.Checkable.{IsCheckable}
use Rattle.collect_structure.proofs.checked.Names.{kept-other}
use Rattle.collect_structure.proofs.texts.Numbered.{place-none}
use Rattle.collect_structure.proofs.texts.Rooted.{collect-tasks}
use Rattle.collect_structure.proofs.texts.Telling.{recorder_tasks}
use Rattle.collect_structure.proofs.legal.Values.{same-values}
use Rattle.collect_structure.proofs.legal.Checkable.{legal_is_checkable}
use Rattle.ada_static_rules.specs.StaticValue.{is_named}
use Rattle.ada_static_rules.specs.Declaring.{predefined_types, first_scope}
use Rattle.syn_event.specs.AddedNames.{task_info}
use Rattle.normal_model.specs.Ranges.{word_at}
use Rattle.std.specs.Option.{option_map_or}
use Rattle.collect_runs.specs.telling.Texts.{CanTell}
use Rattle.collect_runs.specs.starts.Texts.{text_for, text_setting, names_added, recorder_number, note_number, texts_of}
use Rattle.collect_runs.proofs.forms.Tables.{kept_for, names_are_added, types_agree}
use Rattle.common_lemmas.proofs.Lists.{last_at, all_by_place}

-- ---- lists

-- what is found behind others that do not pass
pub find-past : {A : Type 0} (test : A → Bool) (xs ys : List A) → AllByRecursion (λ x. test x ≡ false) xs → find test (xs ++ ys) ≡ find test ys
find-past test [] ys h = refl
find-past test (x ∷ xs) ys h = ap (λ c. cond c (Some x) (find test (xs ++ ys))) h.0 ∙ find-past test xs ys h.1

-- what comes last, behind others that do not pass
position-last : {A : Type 0} (test : A → Bool) (xs : List A) (y : A) → AllByRecursion (λ x. test x ≡ false) xs → test y ≡ true → position test (xs ++ y ∷ []) ≡ Some (length xs)
position-last test xs y none it = position_push test xs y ∙ ap₂ (λ o (c : Bool). first_of_two o (if c then Some (length xs) else None)) (place-none test xs none) it

-- ---- tasks with kept names

module _ (q : PProgram) where
  pub tasks-kept : (ds : List PDecl) → AllByRecursion (EveryDecl (kept_names q)) ds → AllByRecursion (λ (t : PTask). kept_name q t.name.name.0 ≡ true) (tasks_in ds)
  tasks-kept [] h = tt
  tasks-kept (DTask t s ∷ ds) h = (h.0.1.0, tasks-kept ds h.1)
  tasks-kept (DTaskBody w objects its s ∷ ds) h = tasks-kept ds h.1
  tasks-kept (DNumber w e s ∷ ds) h = tasks-kept ds h.1
  tasks-kept (DObject ws c x i s ∷ ds) h = tasks-kept ds h.1
  tasks-kept (DEnumeration w ws s ∷ ds) h = tasks-kept ds h.1
  tasks-kept (DArray w r x s ∷ ds) h = tasks-kept ds h.1
  tasks-kept (DSubtype w x s ∷ ds) h = tasks-kept ds h.1
  tasks-kept (DException ws s ∷ ds) h = tasks-kept ds h.1
  tasks-kept (DIntIo w s ∷ ds) h = tasks-kept ds h.1
  tasks-kept (DPragma e s ∷ ds) h = tasks-kept ds h.1

module _ (p : PProgram) (h : IsLegalOriginal p) where
  abbrev q : PProgram
  q = made_for p

  abbrev F : Numbering
  F = (form_in p).numbers

  abbrev U : Setting
  U = text_setting p

  abbrev rec : NameId
  rec = added_id (made_for p) recorder_text

  abbrev noted : NameId
  noted = added_id (made_for p) note_text

  abbrev T : TypeTable
  T = (text_setting p).types

  abbrev x : Teller
  x = teller_in (main_unit (form_in p))

  pub checkable : IsCheckable (form_in p)
  checkable = legal_is_checkable p h (same-values p (types_in p) (numbers_of p) (facts.ordered p h) (facts.olds p h).2)

  pub named : AllByRecursion (λ (t : PTask). kept_name q t.name.name.0 ≡ true) (tasks_of q)
  named = tasks-kept q (decl_list q.decls) checkable.declared

  -- no task of the normal form has the recorder's name
  tasks-other : (ts : List PTask) → AllByRecursion (λ (t : PTask). kept_name q t.name.name.0 ≡ true) ts → AllByRecursion (λ (t : PTask). (t.name.name.0 == rec.0) ≡ false) ts
  tasks-other [] k = tt
  tasks-other (t ∷ ts) k = (kept-other q t.name.name recorder_text k.0 refl refl, tasks-other ts k.1)

  infos-other : (ts : List PTask) → AllByRecursion (λ (t : PTask). (t.name.name.0 == rec.0) ≡ false) ts → AllByRecursion (λ (i : TaskInfo). (i.name.0 == rec.0) ≡ false) (map (λ (t : PTask). task_info q.names t.name.name) ts)
  infos-other [] k = tt
  infos-other (t ∷ ts) k = (k.0, infos-other ts k.1)

  recorder-found : task_named U.numbers rec ≡ Some (recorder_number p)
  recorder-found =
      position-last (λ (i : TaskInfo). i.name.0 == rec.0) F.tasks (recorder_info (names_added p))
      (kept-other q q.name.name recorder_text checkable.main refl refl, infos-other (tasks_of q) (tasks-other (tasks_of q) named)) (equal_self rec.0)

  -- no entry of the normal form is the recorder's
  entries-other : AllByRecursion (λ (i : EntryInfo). ((i.owner == recorder_number p) && (i.name.0 == noted.0)) ≡ false) F.entries
  entries-other = all_by_place (λ (i : EntryInfo). ((i.owner == recorder_number p) && (i.name.0 == noted.0)) ≡ false) F.entries each
    where
      each : (k : ℕ) (i : EntryInfo) → slice_get F.entries k ≡ Some i → ((i.owner == recorder_number p) && (i.name.0 == noted.0)) ≡ false
      each k i at =
          let owner : owner_of F (suc k) ≡ i.owner = ap (λ o. option_map_or (λ (z : EntryInfo). z.owner) o 0) (entry-suc F k ∙ at) in
          let below = owner-below F (normal_is_in_order p (facts.ordered p h)) (suc k) in
          ap (λ c. c && (i.name.0 == noted.0)) (unequal_turned (recorder_number p) i.owner (unequal_above (recorder_number p) i.owner (omega (arith, owner, below))))

  last-is : last_task F + 1 ≡ recorder_number p
  last-is = omega arith

  note-found : entry_named U.numbers (recorder_number p) noted ≡ Some (note_number p)
  note-found =
      ap (option_map (λ k. k + 1)) (position-last (λ (i : EntryInfo). (i.owner == recorder_number p) && (i.name.0 == noted.0)) F.entries (note_info (names_added p) (last_task F)) entries-other
      (ap₂ (λ (a b : Bool). a && b) (ap (λ n. n == recorder_number p) last-is ∙ equal_self (recorder_number p)) (equal_self noted.0)))
      ∙ ap Some (let e : length F.entries + 1 ≡ suc (length F.entries) = omega arith in e)

  note-at : entry_at U.numbers (note_number p) ≡ Some (note_info (names_added p) (last_task F))
  note-at = entry-suc U.numbers (length F.entries) ∙ last_at F.entries (note_info (names_added p) (last_task F))

  pub recorder-there : task_at U.numbers (recorder_number p) ≡ Some (recorder_info (names_added p))
  recorder-there = last_at F.tasks (recorder_info (names_added p))

  recorder-at : task_at U.numbers (last_task F + 1) ≡ Some (recorder_info (names_added p))
  recorder-at = ap (task_at U.numbers) last-is ∙ recorder-there

  -- ---- the tasks of the text

  pub text-tasks : tasks_of (text_for p) ≡ map (task_telling (names_added p)) (tasks_of q) ++ recorder_tasks (names_added p) q
  text-tasks = ap tasks_in (listed_back (collect_decls x q (decl_list q.decls))) ∙ collect-tasks x q

  told-other : (ts : List PTask) → AllByRecursion (λ (t : PTask). (t.name.name.0 == rec.0) ≡ false) ts → AllByRecursion (λ (t : PTask). (t.name.name.0 == rec.0) ≡ false) (map (task_telling (names_added p)) ts)
  told-other [] k = tt
  told-other (t ∷ ts) k = (k.0, told-other ts k.1)

  recorder-unit : unit_named (text_for p) rec ≡ find (λ (t : PTask). t.name.name.0 == rec.0) (recorder_tasks (names_added p) q)
  recorder-unit =
      ap (find (λ (t : PTask). t.name.name.0 == rec.0)) text-tasks
      ∙ find-past (λ (t : PTask). t.name.name.0 == rec.0) (map (task_telling (names_added p)) (tasks_of q)) (recorder_tasks (names_added p) q) (told-other (tasks_of q) (tasks-other (tasks_of q) named))

  -- the recorder's declaration
  abbrev note_entry : PEntry
  note_entry = record { name = word_at q.name.span noted; family = None; formals = note_formals (names_added p) q.name.span; span = q.name.span }

  abbrev recorder_task : PTask
  recorder_task = record { name = word_at q.name.span rec; of_kind = false; entries = note_entry ∷ []; priorities = [] }

  note-formals : entry_parameters U (note_number p) ≡ parameters_of T (note_formals (names_added p) q.name.span)
  note-formals =
      ap (λ o. parameters_of T (formals_of_info U o)) note-at
      ∙ ap (λ o. parameters_of T (formals_of_unit U.program o noted)) recorder-at
      ∙ ap (λ o. parameters_of T (formals_in o noted)) recorder-unit
      ∙ ap (λ (c : Bool). parameters_of T (formals_in (cond c (Some recorder_task) None) noted)) (equal_self rec.0)
      ∙ ap (λ (c : Bool). parameters_of T (formals_of_entry (cond c (Some note_entry) None))) (equal_self noted.0)

  truth : limits_named T record { 0 = 3 } ≡ truth_limits
  truth = ap limits_or (find-grown (λ y. is_named record { 0 = 3 } y.name) predefined_types.marks T.marks begins.mark _ refl)
    where
      begins : Grows predefined_types T
      begins = grows-decls (text_for p).decls (first_scope (text_for p).name)

  pub legal_can_tell : CanTell (texts_of p (kept_for p))
  legal_can_tell = record {
    names = names_are_added p;
    types = types_agree p h;
    recorder = ap (λ o. unwrap_or o 0) recorder-found;
    note = ap (λ o. unwrap_or o 0) note-found;
    single = ap is_family_in note-at;
    span = q.name.span;
    formals = note-formals;
    integer = (integer_is_there (text_for p)).formal;
    truth = truth;
  }

  pub few_tasks : last_task (form_in p).numbers ≤ 2147483647
  few_tasks = omega (arith, checkable.few_numbers)
