-- What a rewritten program shows (this project's rule).
use Rattle.std.specs.Prelude.{◌≡◌, ℕ, ◌<◌, true, ◌&&◌, nat_lt, if◌then◌else◌, List, [], ◌∷◌, ◌++◌, Option, Some, None}
use Rattle.std.specs.List.{filter_map}
use Rattle.event_machine.specs.declared.Action.{Action}
use Rattle.event_machine.specs.declared.Event.{Event}
use Rattle.event_machine.specs.declared.Event.TheVariants.{R, E, S, D, C, T, F, X, B, Z}
use Rattle.event_machine.specs.States.{Seat, State}
use Rattle.event_machine.specs.Applying.{can}
use Rattle.event_machine.specs.Runs.{IsRun, end_of, events_of, Feasible}
use Rattle.event_machine.specs.Programs.{Program, numbered}
use Rattle.event_machine.specs.Tallies.{ComesTo, IsKilledIn}
use Rattle.event_machine.specs.Laws.{IsQuiet}
use Rattle.run_laws.specs.replaying.Copies.{Sort, AtOriginal, AtShadow, AtGo, AtDone, AtHold, AtJoin, AtNever, AtStop, AtRest, AtNothing}
use Rattle.run_laws.specs.replaying.Rewritings.{Setting}

-- the entry of the original that an entry stands for
abbrev pub stands_for : Sort → Option ℕ
stands_for (AtOriginal e) = Some e
stands_for (AtShadow e) = Some e
stands_for AtGo = None
stands_for AtDone = None
stands_for AtHold = None
stands_for (AtJoin t) = None
stands_for (AtNever t) = None
stands_for AtStop = None
stands_for AtRest = None
stands_for AtNothing = None

-- the event at the entry of the original, if there is one
abbrev pub at_entry : (ℕ → Event) → Option ℕ → Option Event
at_entry make None = None
at_entry make (Some e) = Some (make e)

abbrev pub unless_added : Setting → ℕ → Event → Option Event
unless_added x t e = if nat_lt t x.p.size then Some e else None

-- The event of the original that an event of the rewritten program stands for, if it stands for one.
abbrev pub back : Setting → Event → Option Event
back x (R c e i) = at_entry (λ f. R c f i) (stands_for (x.n.sort e))
back x (E a) = unless_added x a (E a)
back x (S a) = unless_added x a (S a)
back x (D a k) = unless_added x a (D a k)
back x (C c e i) = at_entry (λ f. C c f i) (stands_for (x.n.sort e))
back x (T c e i) = at_entry (λ f. T c f i) (stands_for (x.n.sort e))
back x (F c e i) = at_entry (λ f. F c f i) (stands_for (x.n.sort e))
back x (X a) = unless_added x a (X a)
back x (B t v) = if nat_lt t x.p.size && nat_lt v x.p.size then Some (B t v) else None
back x Z = Some Z

-- the events that stand for something, in order
abbrev pub backs : Setting → List Event → List Event
backs x events = filter_map (back x) events

module _ (x : Setting) {K : Type 0} (q : Program K) (out : K → List ℕ) (at : State (ℕ → Seat K)) where
  -- what the run shows of the original
  abbrev pub shown : List Action → List Event
  shown actions = backs x (events_of (numbered q) at actions)

  -- The events that the run shows are a prefix of the sequence, and some run of the original has exactly these, with the same output of each task.
  pub record IsReplay (actions : List Action) : Type 0 where
    pub original : List Action
    pub applies : IsRun (numbered x.p) x.opening original
    pub events : events_of (numbered x.p) x.opening original ≡ shown actions
    pub rest : List Event
    pub prefix : shown actions ++ rest ≡ x.s
    pub outputs : (t : ℕ) → t < x.p.size → out ((end_of (numbered q) at actions).seats t).local ≡ x.out ((end_of (numbered x.p) x.opening original).seats t).local

  -- Some further actions show exactly these events.
  pub record GoesOn (actions : List Action) (events : List Event) : Type 0 where
    pub more : List Action
    pub applies : IsRun (numbered q) (end_of (numbered q) at actions) more
    pub shows : backs x (events_of (numbered q) (end_of (numbered q) at actions) more) ≡ events

  -- No action applies.
  abbrev pub IsStuck : State (ℕ → Seat K) → Type 0
  IsStuck s = (action : Action) → can (numbered q) s action ≡ true → ⊥

  -- The run shows the longest part of the sequence that is feasible, and each task that is not killed has its output in every quiet run of the
  -- original with these events, of which there is one.
  pub record EndsQuiet (actions : List Action) : Type 0 where
    pub original : List Action
    pub applies : IsRun (numbered x.p) x.opening original
    pub events : events_of (numbered x.p) x.opening original ≡ shown actions
    pub quiet : IsQuiet x.p.ops (end_of (numbered x.p) x.opening original).seats
    pub rest : List Event
    pub prefix : shown actions ++ rest ≡ x.s
    pub greatest : (e : Event) (more : List Event) → rest ≡ e ∷ more → Feasible (numbered x.p) x.opening (shown actions ++ (e ∷ [])) → ⊥
    pub outputs : (tasks : ℕ → Seat x.L) (tally : ℕ → ℕ) → ComesTo (numbered x.p) x.opening (shown actions) tasks tally → IsQuiet x.p.ops tasks →
        (t : ℕ) → t < x.p.size → (IsKilledIn (shown actions) t → ⊥) → out ((end_of (numbered q) at actions).seats t).local ≡ x.out (tasks t).local

  -- Whatever the schedule, the run shows a prefix of the sequence that is a run of the original.
  abbrev pub Replays : Type 0
  Replays = (actions : List Action) → IsRun (numbered q) at actions → IsReplay actions

  -- From each reached state the run can go on with exactly the next events, as far as they are feasible.
  abbrev pub GoesFar : Type 0
  GoesFar = (actions : List Action) (events tail : List Event) → IsRun (numbered q) at actions → x.s ≡ shown actions ++ (events ++ tail) →
      Feasible (numbered x.p) x.opening (shown actions ++ events) → GoesOn actions events

  -- Where no action applies any more the run has gone as far as the sequence is feasible, with the original's output.
  abbrev pub EndsWhole : Type 0
  EndsWhole = (actions : List Action) → IsRun (numbered q) at actions → IsStuck (end_of (numbered q) at actions) → EndsQuiet actions

  -- The whole law of replaying.
  pub record Controlled : Type 0 where
    pub replays : Replays
    pub goes_far : GoesFar
    pub ends_whole : EndsWhole
