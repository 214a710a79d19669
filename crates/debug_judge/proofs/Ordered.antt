-- Lists by tasks are judged by the sequence that they join into.
use Rattle.std.proofs.Common.{◌≡◌, true, ℕ, List, length, inl, inr, sym, ◌∙◌, subst, arith}
use Rattle.common_lemmas.proofs.Truth.{clash}
use Rattle.event_machine.specs.declared.Event.{Event}
use Rattle.syn_event.specs.Numbering.{Numbering}
use Rattle.syn_event.specs.DeclaredTasks.{text_of}
use Rattle.seq_file.specs.Lines.{is_upper_name}
use Rattle.seq_file.specs.Lists.{list_count, ListReads}
use Rattle.seq_file.specs.Files.{SeqReads}
use Rattle.seq_file.specs.Short.{IsShort}
use Rattle.seq_file.proofs.ListOutcomes.{lists-unique}
use Rattle.task_model.specs.Machine.{ProgramWithInputs}
use Rattle.debug_judge.specs.order_law.Laws.{IsJudgedByOrder}
use Rattle.debug_judge.proofs.order_law.Sequences.{orders_are_judged}
use Rattle.debug_sequence.specs.Sequences.{AreInOrder, ReadsAs}
use Rattle.debug_sequence.proofs.Sequences.{reads_one, reads_by_tasks}

-- a file of one list has no lists by tasks
pub no_lists : (setup : ProgramWithInputs) (numbers : Numbering) (bound : ℕ) (lines : List ℕ) (events : List Event) → SeqReads lines numbers setup.program.names events →
    (lists : List (List Event)) → ListReads lines numbers setup.program.names lists → IsJudgedByOrder setup numbers lists events bound
no_lists setup numbers bound lines events reads lists by_tasks =
    clash (sym (reads_one setup.program.names numbers lines events reads) ∙ reads_by_tasks setup.program.names numbers lines lists by_tasks)

pub judged_by_order : (setup : ProgramWithInputs) (numbers : Numbering) (bound : ℕ) (lines : List ℕ) (events : List Event) → IsShort numbers → is_upper_name (text_of setup.program.names numbers.main) ≡ true →
    length numbers.tasks ≡ list_count numbers → ReadsAs lines numbers setup.program.names events →
    (lists : List (List Event)) → ListReads lines numbers setup.program.names lists → IsJudgedByOrder setup numbers lists events bound
judged_by_order setup numbers bound lines events short upper tasks (inl reads) lists by_tasks = no_lists setup numbers bound lines events reads lists by_tasks
judged_by_order setup numbers bound lines events short upper tasks (inr joined) lists by_tasks =
    orders_are_judged setup numbers lists events bound (omega (arith, tasks)) (by_tasks.fit.count ∙ sym tasks)
    (subst (λ (ls : List (List Event)). AreInOrder numbers ls events) (lists-unique setup.program.names numbers short upper lines joined.lists lists joined.reads by_tasks) joined.order)
