-- A program starts the same with inputs that are the same for its tasks.
use Rattle.std.proofs.Common.{◌≡◌, ℕ, zero, suc, ℤ, false, List, [], ◌∷◌, ◌++◌, length, slice_index_or, refl, ap, ◌∙◌, arith}
use Rattle.event_machine.specs.States.{live, completed}
use Rattle.ada_tree.specs.PlainProgram.{PProgram}
use Rattle.ada_static_rules.specs.Refusals.{types_in}
use Rattle.syn_event.specs.Numbering.{Numbering, owner_of}
use Rattle.task_model.specs.Tasks.{Task}
use Rattle.task_model.specs.TaskOps.{task_ops}
use Rattle.task_model.specs.Machine.{ProgramWithInputs, Tasks, setting_of, first_tasks}
use Rattle.task_model.specs.Starting.{unit_of, started_in}
use Rattle.run_laws.specs.imitation.Shown.{Opened}
use Rattle.normal_laws.specs.runs.forms.Normalisable.{numbers_of}
use Rattle.replay_runs.specs.controls.replayed.Replaying.{AgreeBelow}
use Rattle.replay_runs.specs.controls.replayed.Laws.{InputsBelowCount}

module _ (p : PProgram) (inputs others : List (List ℤ)) where
  abbrev one : ProgramWithInputs
  one = record { program = p; types = types_in p; inputs = inputs }

  abbrev two : ProgramWithInputs
  two = record { program = p; types = types_in p; inputs = others }

  abbrev numbers : Numbering
  numbers = numbers_of p

  -- the first tasks, one by one
  first-same : (n : ℕ) → AgreeBelow n inputs others → first_tasks one numbers n ≡ first_tasks two numbers n
  first-same zero h = refl
  first-same (suc n) h =
      ap (λ ts. ts ++ live (started_in (setting_of one numbers) n (unit_of p numbers n) (slice_index_or inputs n [])) ∷ []) (first-same n (λ t l. h t (omega (arith, l))))
      ∙ ap (λ input. first_tasks two numbers n ++ live (started_in (setting_of one numbers) n (unit_of p numbers n) input) ∷ []) (h n (omega arith))

  -- a program whose tasks start so
  abbrev with_tasks : Tasks → Opened Task
  with_tasks ts = record {
    program = record { ops = task_ops; owner = owner_of numbers; size = length ts };
    out = λ t. t.output;
    at = record { seats = λ t. slice_index_or ts t (completed task_ops.nobody); line = []; ended = false };
  }

pub inputs_below_count : InputsBelowCount
inputs_below_count p inputs others h = ap (with_tasks p inputs others) (first-same p inputs others (length (numbers_of p).tasks) h)
