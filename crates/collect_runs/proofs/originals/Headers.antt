-- The header that the recorder of a legal program's collecting text writes is that of the program's own files.
use Rattle.std.proofs.Common.{◌≡◌, ◌+◌, ℕ, not, cond, List, [], ◌∷◌, ◌++◌, map, refl, sym, ap, ap₂, ◌∙◌}
use Rattle.std.specs.Prelude.{count_by, codes, decimal}
use Rattle.std.specs.List.{AllByRecursion}
use Rattle.std.proofs.lemmas.List.Sums.{sum_by-cons}
use Rattle.ada_tree.specs.PlainDecl.{PTask}
use Rattle.ada_tree.specs.PlainProgram.{PProgram}
use Rattle.ada_static_rules.specs.Refusals.{types_in}
use Rattle.syn_event.specs.declared.numbering.TaskInfo.{TaskInfo}
use Rattle.syn_event.specs.Numbering.{is_original_task, original_tasks, original_entries}
use Rattle.syn_event.specs.AddedNames.{task_info}
use Rattle.syn_event.specs.NamedTasks.{NumberedTask, numbered_tasks}
use Rattle.syn_event.specs.AllNumbers.{info_of_task}
use Rattle.normal_laws.specs.runs.forms.Normalisable.{numbers_of, setting_for, made_for}
use Rattle.normal_laws.specs.existence.Laws.{IsLegalOriginal}
use Rattle.normal_laws.proofs.structure.numbers.Tasked.{under, normal-tasks-of}
use Rattle.normal_laws.proofs.structure.numbers.TaskNames.{IsNamed, all-named}
use Rattle.normal_laws.proofs.legality.checks.Facts as facts
use Rattle.normal_laws.proofs.legality.numbers.Numbered.{none_legal_is_ded}
use Rattle.replay_runs.specs.starts.Laws.{form_in}
use Rattle.collect_model.specs.Lines.{header_text}

module _ (p : PProgram) (h : IsLegalOriginal p) where
  abbrev q : PProgram
  q = made_for p

  abbrev ys : List NumberedTask
  ys = numbered_tasks (types_in p) p

  -- a task of the normal form, with its number, and that of the program
  abbrev after : NumberedTask → TaskInfo
  after y = task_info q.names (under (setting_for p) y).name.name

  abbrev weight : TaskInfo → ℕ
  weight x = cond (is_original_task x) 1 0

  -- as many are the original's
  count-same : (zs : List NumberedTask) → AllByRecursion (λ (y : NumberedTask). IsNamed p (under (setting_for p) y).name.name y.name) zs →
      count_by is_original_task (map (λ (t : PTask). task_info q.names t.name.name) (map (under (setting_for p)) zs)) ≡ count_by is_original_task (map (info_of_task p.names) zs)
  count-same [] named = refl
  count-same (y ∷ zs) named =
      sum_by-cons weight (after y) (map (λ (t : PTask). task_info q.names t.name.name) (map (under (setting_for p)) zs))
      ∙ ap₂ (λ b n. cond (not b) 1 0 + n) named.0.added (count-same zs named.1)
      ∙ sym (sum_by-cons weight (info_of_task p.names y) (map (info_of_task p.names) zs))

  tasks-same : original_tasks (form_in p).numbers ≡ original_tasks (numbers_of p)
  tasks-same =
      ap (λ ts. count_by is_original_task (map (λ (t : PTask). task_info q.names t.name.name) ts)) (normal-tasks-of p (types_in p) (facts.ordered p h))
      ∙ count-same ys (all-named p (facts.olds p h).2 (none_legal_is_ded p (types_in p) (numbers_of p) h.legal h.placed))

  pub header-same : header_text (form_in p).program.names (form_in p).numbers ≡ header_text p.names (numbers_of p)
  header-same =
      ap₂ (λ t n. codes "ded-seq 1 " ++ t ++ codes " " ++ decimal n ++ codes " " ++ decimal (original_entries (numbers_of p))) (facts.same-text p h p.name.name (facts.olds p h).0) tasks-same
