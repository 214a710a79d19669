-- What names of the recorder and of its entry are found as in the collecting text with abort statements of a legal program, and which formals its entries have.
use Rattle.std.proofs.Common.{◌≡◌, ◌==◌, ◌+◌, arith, Bool, true, false, cond, List, [], ◌∷◌, ◌++◌, map, length, find, unwrap_or, Some}
use Rattle.std.proofs.Common.{None, refl, sym, ap, subst, ◌∙◌}
use Rattle.std.specs.List.{AllByRecursion}
use Rattle.common_lemmas.proofs.Numbers.{equal_self}
use Rattle.ada_tree.specs.declared.naming.NameId.{NameId}
use Rattle.ada_tree.specs.TypeTable.{TypeTable}
use Rattle.ada_tree.specs.PlainDecl.{PEntry, PTask}
use Rattle.ada_tree.specs.PlainProgram.{PProgram}
use Rattle.ada_static_rules.specs.StaticValue.{is_named}
use Rattle.ada_static_rules.specs.Declaring.{predefined_types, first_scope}
use Rattle.ada_value.specs.Values.{truth_limits, limits_or, limits_named}
use Rattle.syn_event.specs.Numbering.{Numbering, task_at, task_named, entry_at}
use Rattle.syn_event.specs.DeclaredTasks.{decl_list, tasks_in, tasks_of}
use Rattle.syn_event.proofs.DeclLists.{listed_back}
use Rattle.task_model.specs.Setting.{Setting, entry_of, is_family_in, unit_named, formals_in, formals_of_entry, formals_of_unit, formals_of_info}
use Rattle.task_model.specs.Setting.{parameters_of, entry_parameters}
use Rattle.task_laws.specs.legal.rewritten_types.Agreement.{Grows}
use Rattle.task_laws.proofs.legal.rewritten_types.Lookups.{find-grown}
use Rattle.task_laws.proofs.legal.types.MainScopes.{grows-decls}
use Rattle.normal_model.specs.Ranges.{word_at}
use Rattle.normal_model.specs.NormalTree.{main_unit}
use Rattle.normal_laws.specs.runs.forms.Normalisable.{made_for}
use Rattle.normal_laws.specs.existence.Laws.{IsLegalOriginal}
use Rattle.replay_model.specs.ReplayTree.{last_task}
use Rattle.replay_structure.proofs.spots.Placed.{entry-suc}
use Rattle.replay_runs.specs.starts.Laws.{form_in}
use Rattle.replay_runs.proofs.starts.Tables.{integer_is_there}
use Rattle.collect_model.specs.declared.AddedNames.{AddedNames}
use Rattle.collect_model.specs.Names.{recorder_text}
use Rattle.collect_model.specs.Recording.{note_formals}
use Rattle.collect_model.specs.CollectTree.{task_telling}
use Rattle.collect_model.specs.CollectNumbers.{recorder_info, note_info}
use Rattle.collect_structure.specs.Names.{added_id, kept_name}
use Rattle.collect_structure.proofs.checked.Names.{kept-other}
use Rattle.collect_runs.specs.telling.Texts.{CanTell as CanTellPlainly}
use Rattle.collect_runs.specs.starts.Texts.{text_setting as plain_setting}
use Rattle.collect_runs.proofs.forms.Finding.{find-past, legal_can_tell as plain_can_tell, named}
use Rattle.collect_model.specs.aborts.AbortTeller.{AbortTeller, told_in}
use Rattle.collect_model.specs.aborts.AbortTree.{abort_decls}
use Rattle.collect_structure.proofs.aborts.texts.Listed.{abort-tasks}
use Rattle.collect_structure.proofs.texts.Telling.{recorder_tasks}
use Rattle.collect_structure.proofs.aborts.typed.Names.{same-added}
use Rattle.collect_runs.specs.aborts.starts.Texts.{abort_text, abort_setting, recorder_number, note_number}
use Rattle.collect_runs.specs.aborts.telling.Texts.{plain, CanTell}
use Rattle.collect_runs.specs.aborts.forms.Texts.{names_added, names_kept, texts_of}
use Rattle.collect_runs.proofs.aborts.forms.Numbers.{same_added, same_numbers}
use Rattle.collect_runs.proofs.aborts.forms.Tables.{AreCounted, names_are_added, few-places, places_are_added, types_agree}
use Rattle.common_lemmas.proofs.Lists.{last_at}

-- ---- the recorder and its entry

module _ (p : PProgram) (h : IsLegalOriginal p) where
  abbrev q : PProgram
  q = made_for p

  abbrev F : Numbering
  F = (form_in p).numbers

  abbrev U : Setting
  U = abort_setting p

  abbrev n : AddedNames
  n = names_added p

  abbrev T : TypeTable
  T = (abort_setting p).types

  abbrev x : AbortTeller
  x = told_in (main_unit (form_in p))

  pub recorder-there : task_at U.numbers (recorder_number p) ≡ Some (recorder_info (names_added p))
  recorder-there = last_at F.tasks (recorder_info (names_added p))

  recorder-at : task_at U.numbers (last_task F + 1) ≡ Some (recorder_info (names_added p))
  recorder-at = ap (task_at U.numbers) (let e : last_task F + 1 ≡ recorder_number p = omega arith in e) ∙ recorder-there

  note-at : entry_at U.numbers (note_number p) ≡ Some (note_info (names_added p) (last_task F))
  note-at = entry-suc U.numbers (length F.entries) ∙ last_at F.entries (note_info (names_added p) (last_task F))

  recorder-found : unwrap_or (task_named U.numbers n.recorder) 0 ≡ recorder_number p
  recorder-found =
      ap (λ (m : Numbering). unwrap_or (task_named m n.recorder) 0) (same_numbers p)
      ∙ ap (λ (a : AddedNames). unwrap_or (task_named (plain_setting p).numbers a.recorder) 0) (same_added p)
      ∙ (plain_can_tell p h).recorder

  note-found : entry_of U.numbers (recorder_number p) n.note ≡ note_number p
  note-found =
      ap (λ (m : Numbering). entry_of m (recorder_number p) n.note) (same_numbers p)
      ∙ ap (λ (a : AddedNames). entry_of (plain_setting p).numbers (recorder_number p) a.note) (same_added p)
      ∙ (plain_can_tell p h).note

  -- ---- the tasks of the text

  recorder-is : n.recorder ≡ added_id q recorder_text
  recorder-is = same-added q recorder_text refl

  pub recorder-other : (id : NameId) → kept_name q id.0 ≡ true → (id.0 == n.recorder.0) ≡ false
  recorder-other id k = subst (λ (r : NameId). (id.0 == r.0) ≡ false) (sym recorder-is) (kept-other q id recorder_text k refl refl)

  told-other : (ts : List PTask) → AllByRecursion (λ (t : PTask). kept_name q t.name.name.0 ≡ true) ts →
      AllByRecursion (λ (t : PTask). (t.name.name.0 == n.recorder.0) ≡ false) (map (task_telling n) ts)
  told-other [] k = tt
  told-other (t ∷ ts) k = (recorder-other t.name.name k.0, told-other ts k.1)

  pub text-tasks : tasks_of (abort_text p) ≡ map (task_telling n) (tasks_of q) ++ recorder_tasks n q
  text-tasks = ap tasks_in (listed_back (abort_decls x q (decl_list q.decls))) ∙ abort-tasks x q

  recorder-unit : unit_named (abort_text p) n.recorder ≡ find (λ (t : PTask). t.name.name.0 == n.recorder.0) (recorder_tasks n q)
  recorder-unit =
      ap (find (λ (t : PTask). t.name.name.0 == n.recorder.0)) text-tasks
      ∙ find-past (λ (t : PTask). t.name.name.0 == n.recorder.0) (map (task_telling n) (tasks_of q)) (recorder_tasks n q) (told-other (tasks_of q) (named p h))

  -- the recorder's declaration
  abbrev note_entry : PEntry
  note_entry = record { name = word_at q.name.span n.note; family = None; formals = note_formals n q.name.span; span = q.name.span }

  abbrev recorder_task : PTask
  recorder_task = record { name = word_at q.name.span n.recorder; of_kind = false; entries = note_entry ∷ []; priorities = [] }

  note-formals : entry_parameters U (note_number p) ≡ parameters_of T (note_formals n q.name.span)
  note-formals =
      ap (λ o. parameters_of T (formals_of_info U o)) note-at
      ∙ ap (λ o. parameters_of T (formals_of_unit U.program o n.note)) recorder-at
      ∙ ap (λ o. parameters_of T (formals_in o n.note)) recorder-unit
      ∙ ap (λ (c : Bool). parameters_of T (formals_in (cond c (Some recorder_task) None) n.note)) (equal_self n.recorder.0)
      ∙ ap (λ (c : Bool). parameters_of T (formals_of_entry (cond c (Some note_entry) None))) (equal_self n.note.0)

  truth : limits_named T record { 0 = 3 } ≡ truth_limits
  truth = ap limits_or (find-grown (λ y. is_named record { 0 = 3 } y.name) predefined_types.marks T.marks begins.mark _ refl)
    where
      begins : Grows predefined_types T
      begins = grows-decls (abort_text p).decls (first_scope (abort_text p).name)

  pub can-tell-plainly : CanTellPlainly (plain (texts_of p (names_kept p)))
  can-tell-plainly = record {
    names = names_are_added p;
    types = types_agree p h;
    recorder = recorder-found;
    note = note-found;
    single = ap is_family_in note-at;
    span = q.name.span;
    formals = note-formals;
    integer = (integer_is_there (abort_text p)).formal;
    truth = truth;
  }

  pub legal_can_tell : AreCounted (form_in p).program → CanTell (texts_of p (names_kept p))
  legal_can_tell counted = record {
    plainly = can-tell-plainly;
    places = λ t l. places_are_added p counted ((texts_of p (names_kept p)).places t) (few-places p t);
  }
