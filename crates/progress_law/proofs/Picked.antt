-- The run that choices pick is a run.
use Rattle.std.proofs.Common.{◌≡◌, ℕ, zero, suc, ◌<◌, Bool, true, false, if◌then◌else◌, List, [], ◌∷◌, ◌++◌, length, Option, Some, None, refl, ap, ◌∙◌, subst, append-nil, arith}
use Rattle.std.specs.Prelude.{option_to_list}
use Rattle.event_machine.specs.declared.Action.{Action}
use Rattle.event_machine.specs.declared.Event.{Event}
use Rattle.event_machine.specs.States.{State}
use Rattle.event_machine.specs.Runs.{IsRun, end_of, events_of}
use Rattle.event_machine.proofs.Appends.{run_append, end_append, events_append}
use Rattle.syn_event.specs.Numbering.{Numbering}
use Rattle.task_model.specs.Machine.{Tasks, MachineState, rules_of, opening_of, enabled_of, after, event_of}
use Rattle.task_machine.specs.Table.{can}
use Rattle.task_model.specs.declared.picked_runs.report.RunEnd.{RunEnd}
use Rattle.task_model.specs.declared.picked_runs.report.RunEnd.TheVariants.{Ended, Stuck}
use Rattle.task_model.specs.picked_runs.Picked.{Position, is_nil, halted, picked_action, turned_by, picked}
use Rattle.interp.proofs.Turning.{picked_applies}
use Rattle.progress_law.specs.Laws.{IsReached, PickedIsRun}

-- where a run goes on an action applies
some_applies : (ended : Bool) (actions : List Action) → (if ended then Some Ended else (if is_nil actions then Some Stuck else None)) ≡ None → 0 < length actions
some_applies true actions h = absurd (let k : ◌≡◌ {A = Option RunEnd} (Some Ended) None = h in cc)
some_applies false [] h = absurd (let k : ◌≡◌ {A = Option RunEnd} (Some Stuck) None = h in cc)
some_applies false (action ∷ actions) h = omega arith

module _ (numbers : Numbering) (s : State Tasks) where
  abbrev whole : State Tasks → MachineState
  whole z = record { numbers = numbers; state = z }

  -- one action more, from the state behind these
  one_more : (actions : List Action) (events : List Event) (action : Action) → IsRun (rules_of numbers) s actions → events_of (rules_of numbers) s actions ≡ events →
      can (whole (end_of (rules_of numbers) s actions)) action ≡ true →
      IsReached numbers s (after (whole (end_of (rules_of numbers) s actions)) action) (events ++ option_to_list (event_of (whole (end_of (rules_of numbers) s actions)) action))
  one_more actions events action applies has applies_too = record {
    actions = actions ++ action ∷ [];
    applies = run_append (rules_of numbers) s actions (action ∷ []) applies (applies_too, tt);
    has_events = events_append (rules_of numbers) s actions (action ∷ []) ∙
        (λ i. has i ++ append-nil (option_to_list (event_of (whole (end_of (rules_of numbers) s actions)) action)) i);
    ends = ap whole (end_append (rules_of numbers) s actions (action ∷ []));
  }

  goes_on : (m : MachineState) (events : List Event) (action : Action) → IsReached numbers s m events → can m action ≡ true →
      IsReached numbers s (after m action) (events ++ option_to_list (event_of m action))
  goes_on m events action r =
      subst (λ x. can x action ≡ true → IsReached numbers s (after x action) (events ++ option_to_list (event_of x action))) r.ends
      (one_more r.actions events action r.applies r.has_events)

  module _ {C : Type 0} (word : C → ℕ) (next : C → C) where
    abbrev Reached : Position C → Type 0
    Reached p = IsReached numbers s p.machine p.events

    turn : (p : Position C) (o : Option RunEnd) → halted p.machine ≡ o → Reached p → Reached (turned_by word next p o)
    turn p (Some end) h r = r
    turn p None h r = goes_on p.machine p.events (picked_action p.machine (word p.chooser)) r
        (picked_applies p.machine (word p.chooser) (some_applies p.machine.state.ended (enabled_of p.machine) h))

    pub turns : (n : ℕ) (choices : C) → Reached (picked word next n (whole s) choices)
    turns zero choices = record { actions = []; applies = tt; has_events = refl; ends = refl }
    turns (suc n) choices = turn (picked word next n (whole s) choices) (halted (picked word next n (whole s) choices).machine) refl (turns n choices)

module _ {C : Type 0} where
  pub picked_is_run : PickedIsRun C
  picked_is_run word next setup numbers n choices = turns numbers (opening_of setup numbers).state word next n choices
