-- A judge before its first event stands for no events.
use Rattle.std.proofs.Common.{◌≡◌, ℕ, false, List, [], length, refl, sym, ap, ◌∙◌, subst, arith}
use Rattle.std.specs.Prelude.{slice_index}
use Rattle.event_machine.specs.Programs.{by_number}
use Rattle.event_machine.specs.Settling.{IsRunOn}
use Rattle.event_machine.proofs.Basics.{seat_path}
use Rattle.event_machine.proofs.Following.{same_base}
use Rattle.event_machine.proofs.ListLaws.{opening_numbers}
use Rattle.event_machine.proofs.Reaching.{start_still}
use Rattle.syn_event.specs.Numbering.{Numbering, owner_of}
use Rattle.task_model.proofs.Following.{opens, proper}
use Rattle.task_model.proofs.Lawful.{lawful}
use Rattle.task_model.specs.Laws.{IsProper, program_in, first_world}
use Rattle.task_model.specs.Machine.{ProgramWithInputs, opening_of, first_tasks, Tasks}
use Rattle.task_model.specs.TaskOps.{task_ops}
use Rattle.task_machine.specs.declared.verdict.Verdict.TheVariants.{Feasible}
use Rattle.task_machine.specs.Table.{seat_of}
use Rattle.task_machine.proofs.TaskLaws.{the_count}
use Rattle.task_machine.proofs.Verdicts.{verdict_empty}
use Rattle.feasible.specs.Keeping.{AreKept, StandsFor}

module _ (setup : ProgramWithInputs) (numbers : Numbering) (bound : ℕ) (tasks : Tasks) (steps : List ℕ) (started : tasks ≡ first_tasks setup numbers (length numbers.tasks))
    (zero : (t : ℕ) → slice_index steps t ≡ 0) (size : length steps ≡ length tasks) where
  first_kept : AreKept setup numbers bound [] (first_tasks setup numbers (length numbers.tasks)) steps false
  first_kept = record {
    bases = first_world setup numbers;
    leads = refl;
    follows = record { ended = refl; each = λ t. at_start t };
    size = the_count setup numbers;
    counts = size ∙ ap length started ∙ the_count setup numbers;
    within = λ t. let e : slice_index steps t ≡ 0 = zero t in omega arith;
  }
    where
      at_start : (t : ℕ) → IsRunOn task_ops ((first_world setup numbers).tasks t) (slice_index steps t) (seat_of (first_tasks setup numbers (length numbers.tasks)) t)
      at_start t = subst (λ n. IsRunOn task_ops ((first_world setup numbers).tasks t) n (seat_of (first_tasks setup numbers (length numbers.tasks)) t)) (sym (zero t))
          (same_base (program_in setup numbers) ((first_world setup numbers).tasks t) (seat_of (first_tasks setup numbers (length numbers.tasks)) t)
          (seat_path refl (start_still (program_in setup numbers) IsProper lawful (by_number (program_in setup numbers) (opening_of setup numbers).state)
          (opening_numbers task_ops (owner_of numbers) IsProper lawful (opening_of setup numbers).state (opens setup numbers) (proper setup numbers)) (proper setup numbers) t)))

  pub stands_first : StandsFor setup [] (record { numbers = numbers; tasks = tasks; steps = steps; ended = false; bound = bound; taken = 0; verdict = Feasible; lost = false })
  stands_first = record {
    memory = refl;
    verdict = verdict_empty setup numbers bound;
    counts = refl;
    keeps = subst (λ ts. AreKept setup numbers bound [] ts steps false) (sym started) first_kept;
  }
