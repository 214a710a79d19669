-- The laws of the machine for these tasks: they follow, since each task keeps the rules.
use Rattle.std.proofs.Common.{◌≡◌, ℕ, zero, suc, ◌<◌, ◌≤◌, ◌+◌, [], ◌∷◌, length, refl, sym, ◌∙◌, subst, slice_index_or, ⊎_elim, arith, length-append}
use Rattle.std.proofs.lemmas.Bool.{cases_lt}
use Rattle.std.proofs.lemmas.List.{get_or_append_left, get_or_push}
use Rattle.event_machine.specs.declared.Standing.TheVariants.{Live}
use Rattle.event_machine.specs.States.{Seat, State, live, completed}
use Rattle.event_machine.specs.Programs.{IsOpening}
use Rattle.event_machine.proofs.ListLaws.{determinacy_list, first_law_list, second_law_list, killed_list, admitted_list, opening_list, feasible_list, rest_list}
use Rattle.syn_event.specs.Numbering.{Numbering, owner_of}
use Rattle.task_model.specs.Tasks.{Task}
use Rattle.task_model.specs.Starting.{started, nobody}
use Rattle.task_model.specs.TaskOps.{task_ops}
use Rattle.task_model.specs.Machine.{ProgramWithInputs, Tasks, rules_of, setting_of, first_tasks, opening_of}
use Rattle.task_model.specs.Laws.{IsProper, OpeningsOpen, RunsAgree, KilledIsAborted, RestsMeet, FeasibleByConditions, FeasibleIsAdmitted, FeasibleExactly, RestExactly}
use Rattle.task_model.proofs.Lawful.{lawful}

module _ (setup : ProgramWithInputs) (numbers : Numbering) where
  -- the task of a number, as the program starts
  abbrev first : ℕ → Seat Task
  first n = live (started (setting_of setup numbers) setup.inputs n)

  length_first : (n : ℕ) → length (first_tasks setup numbers n) ≡ n
  length_first zero = refl
  length_first (suc n) =
      let e : length (first_tasks setup numbers n) ≡ n = length_first n in
      length-append (first_tasks setup numbers n) (first n ∷ []) ∙ (let k : length (first_tasks setup numbers n) + 1 ≡ suc n = omega arith in k)

  -- each task is one that has started
  first_at : (n t : ℕ) (P : Seat Task → Type 0) → ((u : ℕ) → P (first u)) → t < n → P (slice_index_or (first_tasks setup numbers n) t (completed nobody))
  first_at zero t P h l = absurd (omega arith)
  first_at (suc n) t P h l = ⊎_elim
      (λ (k : t < n). subst P (sym (get_or_append_left (first_tasks setup numbers n) (first n ∷ []) (completed nobody) t
      (let e : length (first_tasks setup numbers n) ≡ n = length_first n in omega arith))) (first_at n t P h k))
      (λ (k : n ≤ t). let e : n ≡ t = omega arith in
      subst P (sym (get_or_push (first_tasks setup numbers n) (first n) (completed nobody) t (length_first n ∙ e))) (h n))
      (cases_lt t n)

  abbrev opening : State Tasks
  opening = (opening_of setup numbers).state

  below : (t : ℕ) → t < length opening.seats → t < length numbers.tasks
  below t l = let e : length opening.seats ≡ length numbers.tasks = length_first (length numbers.tasks) in omega arith

  pub opens : IsOpening (rules_of numbers) opening
  opens = opening_list task_ops (owner_of numbers) IsProper lawful opening refl refl
      (λ t l. first_at (length numbers.tasks) t (λ x. x.standing ≡ Live) (λ u. refl) (below t l))
      (λ t l. first_at (length numbers.tasks) t (λ x. task_ops.callers x.local ≡ []) (λ u. refl) (below t l))

  pub proper : (t : ℕ) → t < length opening.seats → IsProper (slice_index_or opening.seats t (completed nobody)).local
  proper t l = first_at (length numbers.tasks) t (λ x. IsProper x.local) (λ u. refl) (below t l)

pub openings_open : OpeningsOpen
openings_open setup numbers = opens setup numbers

pub runs_agree : RunsAgree
runs_agree setup numbers = determinacy_list task_ops (owner_of numbers) IsProper lawful (opening_of setup numbers).state (opens setup numbers) (proper setup numbers)

pub killed_is_aborted : KilledIsAborted
killed_is_aborted setup numbers = killed_list task_ops (owner_of numbers) IsProper lawful (opening_of setup numbers).state (opens setup numbers) (proper setup numbers)

pub rests_meet : RestsMeet
rests_meet setup numbers = first_law_list task_ops (owner_of numbers) IsProper lawful (opening_of setup numbers).state (opens setup numbers) (proper setup numbers)

pub feasible_by_conditions : FeasibleByConditions
feasible_by_conditions setup numbers = second_law_list task_ops (owner_of numbers) IsProper lawful (opening_of setup numbers).state (opens setup numbers) (proper setup numbers)

pub feasible_is_admitted : FeasibleIsAdmitted
feasible_is_admitted setup numbers = admitted_list task_ops (owner_of numbers) IsProper lawful (opening_of setup numbers).state (opens setup numbers) (proper setup numbers)

pub feasible_exactly : FeasibleExactly
feasible_exactly setup numbers = feasible_list task_ops (owner_of numbers) IsProper lawful (opening_of setup numbers).state (opens setup numbers) (proper setup numbers)

pub rest_exactly : RestExactly
rest_exactly setup numbers = rest_list task_ops (owner_of numbers) IsProper lawful (opening_of setup numbers).state (opens setup numbers) (proper setup numbers)
