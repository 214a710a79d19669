-- The numbers of a collecting text with abort statements are those of a collecting text without.
use Rattle.std.proofs.Common.{◌≡◌, ℕ, Some, ap, sym, subst}
use Rattle.ada_tree.specs.PlainProgram.{PProgram}
use Rattle.syn_event.specs.declared.numbering.TaskInfo.{TaskInfo}
use Rattle.syn_event.specs.declared.numbering.EntryInfo.{EntryInfo}
use Rattle.syn_event.specs.Numbering.{Numbering, task_at, entry_at}
use Rattle.normal_laws.specs.existence.Laws.{IsLegalOriginal}
use Rattle.replay_runs.specs.starts.Laws.{form_in}
use Rattle.collect_model.specs.CollectNumbers.{numbers_with}
use Rattle.collect_runs.specs.starts.Texts as collect
use Rattle.collect_runs.proofs.forms.Formals as formals
use Rattle.collect_structure.proofs.aborts.typed.Names.{told-added}
use Rattle.collect_runs.specs.aborts.starts.Texts.{abort_setting}
use Rattle.collect_runs.specs.aborts.forms.Texts.{names_added}

-- each added name has one id
pub same_added : (p : PProgram) → names_added p ≡ collect.names_added p
same_added p = told-added (form_in p).program

pub same_numbers : (p : PProgram) → (abort_setting p).numbers ≡ (collect.text_setting p).numbers
same_numbers p = ap (λ n. numbers_with n (form_in p).numbers) (same_added p)

-- a task and an entry of the normal form keep their numbers
pub entry-stays : (p : PProgram) (h : IsLegalOriginal p) (e : ℕ) (x : EntryInfo) → entry_at (form_in p).numbers e ≡ Some x → entry_at
    (abort_setting p).numbers e ≡ Some x
entry-stays p h e x at = subst (λ (n : Numbering). entry_at n e ≡ Some x) (sym (same_numbers p)) (formals.entry-stays p h e x at)

pub task-stays : (p : PProgram) (h : IsLegalOriginal p) (t : ℕ) (x : TaskInfo) → task_at (form_in p).numbers t ≡ Some x → task_at
    (abort_setting p).numbers t ≡ Some x
task-stays p h t x at = subst (λ (n : Numbering). task_at n t ≡ Some x) (sym (same_numbers p)) (formals.task-stays p h t x at)
