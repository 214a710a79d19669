-- Where a run halts by itself no action applies any more.
use Rattle.std.proofs.Common.{◌≡◌, Bool, true, false, not, ◌&&◌, if◌then◌else◌, List, [], ◌∷◌, Some, None, refl, sym, ap, ◌∙◌, true≢false}
use Rattle.std.proofs.lemmas.List.{get_or_past}
use Rattle.event_machine.specs.declared.Action.{Action}
use Rattle.event_machine.specs.States.{Seat, completed, seen}
use Rattle.event_machine.specs.Applying.{can, action_applies}
use Rattle.task_model.specs.Tasks.{Task}
use Rattle.syn_event.specs.Numbering.{owner_of}
use Rattle.task_model.specs.TaskOps.{task_ops}
use Rattle.task_model.specs.Starting.{nobody}
use Rattle.task_model.specs.Machine.{MachineState, rules_of, enabled_of}
use Rattle.task_model.specs.declared.picked_runs.report.RunEnd.TheVariants.{Ended, Stuck}
use Rattle.task_model.specs.picked_runs.Picked.{is_nil}
use Rattle.progress_law.specs.Laws.{HaltedIsOver}
use Rattle.progress_law.proofs.Listed.{none_applies}

nil_by : (actions : List Action) → is_nil actions ≡ true → actions ≡ []
nil_by [] h = refl
nil_by (action ∷ actions) h = absurd (true≢false (sym h))

module _ (m : MachineState) (action : Action) (applies : can (rules_of m.numbers) m.state action ≡ true) where
  -- the program has not ended
  goes_on : m.state.ended ≡ true → ⊥
  goes_on ended = true≢false (sym applies ∙ ap (λ b. not b && action_applies task_ops (owner_of m.numbers) (seen (rules_of m.numbers) m.state) action) ended)

  halts_not : (ended : Bool) → m.state.ended ≡ ended → (none : Bool) → is_nil (enabled_of m) ≡ none → ((if ended then Some Ended else (if none then Some Stuck else None)) ≡ None → ⊥) → ⊥
  halts_not true e none k h = goes_on e
  halts_not false e true k h =
      none_applies (rules_of m.numbers) m.state (λ t l. ap (λ (x : Seat Task). x.standing) (get_or_past m.state.seats t (completed nobody) l)) (nil_by (enabled_of m) k) action applies
  halts_not false e false k h = h refl

pub halted_is_over : HaltedIsOver
halted_is_over m h action applies = halts_not m action applies m.state.ended refl (is_nil (enabled_of m)) refl h
