-- Small programs, by computation: their opening states are those that are run, and what the events of a run tell is seen in its state.
use Rattle.std.specs.Prelude.{◌≡◌, ℕ, pos, true, false, Some, None, List, [], ◌∷◌, map, refl}
use Rattle.std.specs.Fmt.{digits}
use Rattle.ada_tree.specs.PlainProgram.{PProgram}
use Rattle.event_machine.specs.declared.Standing.{Standing}
use Rattle.event_machine.specs.declared.Standing.TheVariants.{Live}
use Rattle.event_machine.specs.declared.CallForm.TheVariants.{Plain}
use Rattle.event_machine.specs.declared.Choice.TheVariants.{Accept}
use Rattle.event_machine.specs.declared.Event.TheVariants.{X}
use Rattle.event_machine.specs.Offers.{Offer, Calls, Waits}
use Rattle.event_machine.specs.States.{Seat}
use Rattle.event_machine.specs.progress.Known.{Party, idle, admits}
use Rattle.event_machine.specs.progress.Laws.{told}
use Rattle.syn_event.specs.Numbering.{Numbering, owner_of}
use Rattle.task_model.specs.Tasks.{Task}
use Rattle.task_model.specs.Stands.{offer_of}
use Rattle.task_model.specs.TaskOps.{task_ops}
use Rattle.task_model.specs.Machine.{ProgramWithInputs, opening_of}
use Rattle.progress_law.specs.examples.Picking.{Run, picked}
use Rattle.progress_law.proofs.examples.Trees.{setup_of, numbers_in}
use Rattle.progress_law.proofs.examples.Meetings.{one_meeting}
use Rattle.progress_law.proofs.examples.Aborts.{caller_aborted}
use Rattle.progress_law.specs.Telling.{known_in}
use Rattle.progress_law.proofs.Runs.{opened}

-- The abstract program opens in the state that is run, whatever the program.
opening_is_run : (setup : ProgramWithInputs) (numbers : Numbering) (choices : List ℕ) → (opened setup numbers).state ≡ (picked 0 (opening_of setup numbers) choices).machine.state
opening_is_run setup numbers choices = refl

-- how a task stands, and what it offers
record Stance : Type 0 where
  pub standing : Standing
  pub offer : Offer

abbrev stance : Seat Task → Stance
stance seat = record { standing = seat.standing; offer = offer_of seat.local }

-- the run of at most so many actions that the choices pick, without input
abbrev run_of : PProgram → List ℕ → ℕ → Run
run_of p choices turns = picked turns (opening_of (setup_of p []) (numbers_in p)) choices

-- what its events tell of the tasks
abbrev tells : PProgram → List ℕ → ℕ → List Party
tells p choices turns = (known_in (numbers_in p) (run_of p choices turns).events).parties

-- what is so of the tasks in its state
abbrev is_so : PProgram → List ℕ → ℕ → List Party
is_so p choices turns = map (told task_ops) (run_of p choices turns).machine.state.seats

-- ---- main calls an entry

-- It opens with main at its call and the task at its accept.
opens_at : map stance (opening_of (setup_of one_meeting []) (numbers_in one_meeting)).state.seats ≡
    (record { standing = Live; offer = Calls Plain 1 (pos 0) }) ∷ (record { standing = Live; offer = Waits (Accept 1 (pos 0) ∷ []) }) ∷ []
unfolding digits
opens_at = refl

-- In the rendezvous main is served by the task, and is its caller.
abbrev met : List Party
met = (record { closed = false; server = Some 1; callers = [] }) ∷ (record { closed = false; server = None; callers = 0 ∷ [] }) ∷ []

met_told : tells one_meeting [] 3 ≡ met
unfolding digits
met_told = refl

met_so : is_so one_meeting [] 3 ≡ met
unfolding digits
met_so = refl

-- Before the first event the end of the task is admitted. It is not feasible, since the task stands at its accept (task_examples: Meetings.no_early_end).
early_end : admits (owner_of (numbers_in one_meeting)) (known_in (numbers_in one_meeting) []) (X 1) ≡ true
unfolding digits
early_end = refl

-- At the end the task has completed.
abbrev done : List Party
done = idle ∷ (record { closed = true; server = None; callers = [] }) ∷ []

done_told : tells one_meeting [] 6 ≡ done
unfolding digits
done_told = refl

done_so : is_so one_meeting [] 6 ≡ done
unfolding digits
done_so = refl

-- ---- a caller is aborted in its rendezvous

-- It is closed, and served still; the acceptor keeps its caller.
abbrev abnormal : List Party
abnormal = idle ∷ (record { closed = false; server = None; callers = 2 ∷ [] }) ∷ (record { closed = true; server = Some 1; callers = [] }) ∷ idle ∷ []

abnormal_told : tells caller_aborted (0 ∷ 0 ∷ 0 ∷ 0 ∷ 1 ∷ []) 5 ≡ abnormal
unfolding digits
abnormal_told = refl

abnormal_so : is_so caller_aborted (0 ∷ 0 ∷ 0 ∷ 0 ∷ 1 ∷ []) 5 ≡ abnormal
unfolding digits
abnormal_so = refl
