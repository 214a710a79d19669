-- What is computed of a run on the tasks in a list is so of the run on the tasks by their numbers: for the examples of runs that are named.
use Rattle.std.proofs.Common.{◌≡◌, ℕ, zero, suc, ◌<◌, Bool, true, false, not, ◌&&◌, List, [], ◌∷◌, ◌++◌, length, slice_index_or, refl, sym, ap, ◌∙◌, subst, true≢false, append-nil}
use Rattle.std.specs.Prelude.{ℤ}
use Rattle.std.specs.List.{filter_map, list_all}
use Rattle.std.proofs.lemmas.List.{get_or_append_left, get_or_past}
use Rattle.std.proofs.Math.ListN.{get_or-map}
use Rattle.common_lemmas.proofs.Lists.{first_same, mapped_length, not_empty}
use Rattle.common_lemmas.proofs.Truth.{and_both, not_true}
use Rattle.event_machine.specs.declared.Action.{Action}
use Rattle.event_machine.specs.declared.Event.{Event}
use Rattle.event_machine.specs.States.{Seat, State, Rules, completed, is_live}
use Rattle.event_machine.specs.Applying.{can, enabled_of}
use Rattle.event_machine.specs.Effects.{after}
use Rattle.event_machine.specs.Runs.{IsRun, end_of, events_of}
use Rattle.event_machine.specs.Programs.{numbered, by_number, IsOpening}
use Rattle.event_machine.specs.Worlds.{World, still, still_seat, world_of, happens}
use Rattle.event_machine.specs.Settling.{Fires}
use Rattle.event_machine.specs.Tallies.{ComesTo, IsKilledIn, tallies}
use Rattle.event_machine.specs.Laws.{IsQuiet}
use Rattle.event_machine.proofs.Joining.{same_can, same_run}
use Rattle.event_machine.proofs.Reaching.{IsLed, run_leads}
use Rattle.event_machine.proofs.Resting.{feasible_leads}
use Rattle.event_machine.proofs.Walking.{leads_split}
use Rattle.event_machine.proofs.Following.{leads_once}
use Rattle.event_machine.proofs.Extending.{rests_happens, still_quiet}
use Rattle.event_machine.proofs.Determining.{determinacy, killed_by_events}
use Rattle.ada_tree.specs.PlainProgram.{PProgram}
use Rattle.ada_static_rules.specs.Refusals.{types_in}
use Rattle.syn_event.specs.Numbering.{Numbering}
use Rattle.task_model.specs.Tasks.{Task}
use Rattle.task_model.specs.TaskOps.{task_ops}
use Rattle.task_model.specs.Starting.{nobody}
use Rattle.task_model.specs.Machine.{ProgramWithInputs, Tasks, rules_of, opening_of}
use Rattle.task_model.specs.Laws.{IsProper}
use Rattle.task_model.proofs.Lawful.{lawful}
use Rattle.task_model.proofs.Following as following
use Rattle.run_laws.specs.imitation.Shown.{Opened, end_from}
use Rattle.normal_laws.specs.runs.runs.Laws.{opened}
use Rattle.normal_laws.specs.runs.forms.Normalisable.{numbers_of}
use Rattle.replay_structure.specs.legal.Laws.{text_for}
use Rattle.replay_runs.specs.controls.replayed.Replaying.{output_after, IsRunWith, IsFeasible, IsOver, shown, starting}
use Rattle.progress_law.specs.rewritten.normal.Showing.{outputs_of}
use Rattle.progress_law.specs.rewritten.replay.Runs.{one, text, meant, ShowsBy, GoesOnBy, EndsBy, HasParts}
use Rattle.progress_law.proofs.Listed.{none_applies}

-- ---- tests

module _ {L C : Type 0} (rules : Rules L C) where
  -- all actions apply, one after the other
  abbrev pub runs : State C → List Action → Bool
  runs s [] = true
  runs s (action ∷ actions) = can rules s action && runs (after rules s action) actions

  pub runs-run : (s : State C) (actions : List Action) → runs s actions ≡ true → IsRun rules s actions
  runs-run s [] h = tt
  runs-run s (action ∷ actions) h =
      let k = and_both (can rules s action) (runs (after rules s action) actions) h in
      (k.0, runs-run (after rules s action) actions k.1)

-- it is free and has a local step
abbrev pub is_restless : Seat Task → Bool
is_restless seat = is_live (still seat.standing) && task_ops.can_step seat.local

-- no free task has a local step
abbrev pub all_rest : Tasks → Bool
all_rest seats = list_all (λ seat. not (is_restless seat)) seats

abbrev gone : Seat Task
gone = completed nobody

rests_at : (seats : Tasks) → all_rest seats ≡ true → (t : ℕ) → is_restless (slice_index_or seats t gone) ≡ false
rests_at [] h t = refl
rests_at (seat ∷ seats) h zero = not_true (is_restless seat) (and_both (not (is_restless seat)) (all_rest seats) h).0
rests_at (seat ∷ seats) h (suc t) = rests_at seats (and_both (not (is_restless seat)) (all_rest seats) h).1 t

rests_free : (seat : Seat Task) → is_live (still seat.standing) ≡ true → is_restless seat ≡ false → task_ops.can_step seat.local ≡ false
rests_free seat free none = sym (ap (λ b. b && task_ops.can_step seat.local) free) ∙ none

-- tasks at one place in both lists, where the outputs of the one list begin with those of the other
outputs_alike : (xs ys : Tasks) (more : List (List ℕ)) → outputs_of ys ≡ outputs_of xs ++ more → (t : ℕ) → t < length xs →
    (slice_index_or ys t gone).local.output ≡ (slice_index_or xs t gone).local.output
outputs_alike xs ys more e t l =
    sym (get_or-map out ys t gone)
    ∙ ap (λ all. slice_index_or all t (out gone)) e
    ∙ get_or_append_left (outputs_of xs) more (out gone) t (subst (λ n. t < n) (sym (mapped_length out xs)) l)
    ∙ get_or-map out xs t gone
  where
    out : Seat Task → List ℕ
    out seat = seat.local.output

-- ---- one program

module _ (setup : ProgramWithInputs) (numbers : Numbering) where
  abbrev it : Opened Task
  it = opened setup numbers

  abbrev start : State Tasks
  start = (opening_of setup numbers).state

  -- where the actions end, with the tasks in a list
  abbrev pub last : List Action → State Tasks
  last actions = end_of (rules_of numbers) start actions

  -- The actions are a run on the list, which has as many tasks behind it.
  pub record IsMade (actions : List Action) : Type 0 where
    pub applies : runs (rules_of numbers) start actions ≡ true
    pub whole : length (last actions).seats ≡ length start.seats

  opens : IsOpening (numbered it.program) it.at
  opens = let o = following.opens setup numbers in record { line = o.line; ended = o.ended; live = o.live; callers = o.callers; beyond = o.beyond }

  module _ (actions : List Action) (made : IsMade actions) where
    joined : IsRun (numbered it.program) it.at actions × (by_number it.program (last actions) ≡ end_from it actions)
    joined = same_run it.program actions start refl (runs-run (rules_of numbers) start actions made.applies)

    pub is_run : IsRun (numbered it.program) it.at actions
    is_run = joined.0

    pub ends : by_number it.program (last actions) ≡ end_from it actions
    ends = joined.1

    pub is_over : enabled_of (rules_of numbers) (last actions) ≡ [] → IsOver it actions
    is_over none = subst (λ z. (action : Action) → can (numbered it.program) z action ≡ true → ⊥) ends (λ action h.
        none_applies (rules_of numbers) (last actions) (λ t l. ap (λ (x : Seat Task). x.standing) (get_or_past (last actions).seats t gone l)) none action
        (same_can it.program (last actions) made.whole action ∙ h))

    -- no free task has a local step, where those of the list have none
    rests : all_rest (last actions).seats ≡ true → IsQuiet it.program.ops (λ t. still_seat ((end_from it actions).seats t))
    rests h = subst (λ z. IsQuiet it.program.ops (λ t. still_seat (z.seats t))) ends (λ t free.
        rests_free (slice_index_or (last actions).seats t gone) free (rests_at (last actions).seats h t))

    pub is_quiet : all_rest (last actions).seats ≡ true → IsQuiet it.program.ops (end_from it actions).seats
    is_quiet h = still_quiet it.program.ops (end_from it actions).seats (rests h)

  -- ---- runs with the same events

  module _ (events : List Event) where
    -- the local steps of each task since the last event that changed it
    abbrev counts : List Action → ℕ → ℕ
    counts actions = tallies (numbered it.program) it.at actions (λ t. 0)

    abbrev tasks : List Action → ℕ → Seat Task
    tasks actions = (end_from it actions).seats

    comes : (actions : List Action) → IsRunWith it events actions → ComesTo (numbered it.program) it.at events (tasks actions) (counts actions)
    comes actions run = record { actions = actions; applies = run.applies; has_events = run.has; leaves = λ t. refl; counts = λ t. refl }

    -- two that end quiet leave each task alike that is not killed
    pub quiet_alike : (actions others : List Action) → IsRunWith it events actions → IsRunWith it events others →
        IsQuiet it.program.ops (tasks actions) → IsQuiet it.program.ops (tasks others) → (t : ℕ) → (IsKilledIn events t → ⊥) →
        output_after it actions t ≡ output_after it others t
    quiet_alike actions others run other quiet calm t free =
        let proper = following.proper setup numbers in
        let alike = determinacy it.program IsProper lawful it.at opens proper events (tasks actions) (tasks others) (counts actions) (counts others)
        (comes actions run) (comes others other) in
        let killed = killed_by_events it.program IsProper lawful it.at opens proper events (tasks actions) (counts actions) t (comes actions run) in
        ap (λ (task : Task). task.output) (alike.quiet quiet calm t (λ k. free (killed k)))

    -- what the events lead to, with the tasks of a run run on from there
    abbrev Led : List Action → Type 0
    Led actions = IsLed it.program IsProper lawful it.at opens (following.proper setup numbers) events (tasks actions) (counts actions)

    led_to : (actions : List Action) → IsRunWith it events actions → Led actions
    led_to actions run =
        run_leads it.program IsProper lawful it.at opens (following.proper setup numbers) events (tasks actions) (counts actions) (comes actions run)

    -- An event whose conditions fail where a run rests is not feasible behind its events.
    pub not_next : (actions : List Action) → IsMade actions → IsRunWith it events actions → (last actions).ended ≡ false →
        all_rest (last actions).seats ≡ true → (e : Event) → happens it.program (λ t. still_seat (slice_index_or (last actions).seats t gone)) e ≡ false →
        IsFeasible it (events ++ e ∷ []) → ⊥
    not_next actions made run runs_on calm e fails feasible =
        let (u, k) = feasible_leads it.program IsProper lawful it.at opens (following.proper setup numbers) (events ++ e ∷ []) feasible in
        let (w, reached, (next, fires, is)) = leads_split it.program events (e ∷ []) (world_of it.at) u k in
        let led = led_to actions run in
        refused led next (subst (λ v. Fires it.program v e next) (leads_once it.program events (world_of it.at) w led.last reached led.leads) fires)
      where
        refused : (led : Led actions) (next : World Task) → Fires it.program led.last e next → ⊥
        refused led next fires = true≢false (sym (rests_happens it.program fires (world_of (end_from it actions)) (counts actions)
            (record { ended = sym (ap (λ z. z.ended) (ends actions made)) ∙ runs_on ∙ sym fires.runs; each = led.each })
            (λ t need free. rests actions made calm t (ap is_live free)))
            ∙ subst (λ z. happens it.program (λ t. still_seat (z.seats t)) e ≡ false) (ends actions made) fails)

-- ---- a program and its replay text

module _ (inputs : List (List ℤ)) (p : PProgram) where
  -- a program with its inputs
  abbrev setup_of : ProgramWithInputs
  setup_of = record { program = p; types = types_in p; inputs = inputs }

  -- where the actions end in a program, with the tasks in a list
  abbrev pub last_of : List Action → State Tasks
  last_of actions = last setup_of (numbers_of p) actions

  -- the actions are a run of it, by computation
  abbrev pub IsMadeIn : List Action → Type 0
  IsMadeIn actions = IsMade setup_of (numbers_of p) actions

  module _ (actions : List Action) (made : IsMadeIn actions) where
    pub made_run : IsRun (numbered (starting p inputs).program) (starting p inputs).at actions
    made_run = is_run setup_of (numbers_of p) actions made

    pub made_over : enabled_of (rules_of (numbers_of p)) (last_of actions) ≡ [] → IsOver (starting p inputs) actions
    made_over none = is_over setup_of (numbers_of p) actions made none

    made_quiet : all_rest (last_of actions).seats ≡ true → IsQuiet task_ops (end_from (starting p inputs) actions).seats
    made_quiet calm = is_quiet setup_of (numbers_of p) actions made calm

    outputs_after : (t : ℕ) → (slice_index_or (last_of actions).seats t gone).local.output ≡ output_after (starting p inputs) actions t
    outputs_after t = ap (λ z. (z.seats t).local.output) (ends setup_of (numbers_of p) actions made)

module _ (p : PProgram) (s : List Event) (inputs : List (List ℤ)) where
  abbrev q : PProgram
  q = text_for p s

  abbrev original : Opened Task
  original = one p s inputs

  abbrev replay : Opened Task
  replay = text p s inputs

  pub goes_on_by : (actions more : List Action) (events : List Event) → runs (numbered replay.program) (end_from replay actions) more ≡ true →
      filter_map (meant p s inputs) (events_of (numbered replay.program) (end_from replay actions) more) ≡ events → GoesOnBy p s inputs actions more events
  goes_on_by actions more events run shows = record { applies = runs-run (numbered replay.program) (end_from replay actions) more run; shows = shows }

  module _ (events : List Event) (actions originals : List Action) where
    pub shows_by : (more : List (List ℕ)) → IsMadeIn inputs q actions → IsMadeIn inputs p originals →
        shown s original replay (meant p s inputs) actions ≡ events → events_of (numbered original.program) original.at originals ≡ events →
        outputs_of (last_of inputs q actions).seats ≡ outputs_of (last_of inputs p originals).seats ++ more → ShowsBy p s inputs events actions originals
    shows_by more made made_too shows has same = record {
      applies = made_run inputs q actions made;
      shows = shows;
      original = record { applies = made_run inputs p originals made_too; has = has };
      outputs = λ t l.
          sym (outputs_after inputs q actions made t)
          ∙ outputs_alike (last_of inputs p originals).seats (last_of inputs q actions).seats more same t (subst (λ n. t < n) (sym made_too.whole) l)
          ∙ outputs_after inputs p originals made_too t;
    }

    module _ (shows : ShowsBy p s inputs events actions originals) (made : IsMadeIn inputs q actions) (made_too : IsMadeIn inputs p originals)
        (none : enabled_of (rules_of (numbers_of q)) (last_of inputs q actions) ≡ []) (calm : all_rest (last_of inputs p originals).seats ≡ true) where
      -- nothing is left
      pub ends_whole : events ≡ s → EndsBy p s inputs events [] actions originals
      ends_whole e = record {
        shows = shows;
        splits = append-nil events ∙ e;
        over = made_over inputs q actions made none;
        longest = λ x more h. absurd (not_empty x more (sym h));
        quiet = made_quiet inputs p originals made_too calm;
      }

      -- an event is left that cannot come next
      pub ends_held : (e : Event) (more : List Event) → events ++ e ∷ more ≡ s → (last_of inputs p originals).ended ≡ false →
          happens original.program (λ t. still_seat (slice_index_or (last_of inputs p originals).seats t gone)) e ≡ false →
          EndsBy p s inputs events (e ∷ more) actions originals
      ends_held e more splits runs_on fails = record {
        shows = shows;
        splits = splits;
        over = made_over inputs q actions made none;
        longest = λ x rest h. subst (λ y. IsFeasible original (events ++ y ∷ []) → ⊥) (first_same h)
            (not_next (setup_of inputs p) (numbers_of p) events originals made_too shows.original runs_on calm e fails);
        quiet = made_quiet inputs p originals made_too calm;
      }

  -- What is so of named runs is what is promised of them. Of the outputs it is so of all quiet runs, since these end alike.
  pub has_parts : (first next events left : List Event) (front more whole firsts originals : List Action) → ShowsBy p s inputs first front firsts →
      GoesOnBy p s inputs front more next → EndsBy p s inputs events left whole originals → first ++ (next ++ left) ≡ s → HasParts p s inputs front next whole
  has_parts first next events left front more whole firsts originals begins on h splits = record {
    shows = record {
      rest = next ++ left;
      prefix = ap (λ l. l ++ (next ++ left)) begins.shows ∙ splits;
      originals = firsts;
      original = subst (λ l. IsRunWith original l firsts) (sym begins.shows) begins.original;
      outputs = begins.outputs;
    };
    goes_on = record { more = more; applies = on.applies; shows = on.shows };
    ends = record {
      rest = left;
      prefix = ap (λ l. l ++ left) h.shows.shows ∙ h.splits;
      longest = λ e rest k f. h.longest e rest k (subst (λ l. IsFeasible original (l ++ e ∷ [])) h.shows.shows f);
      originals = originals;
      original = subst (λ l. IsRunWith original l originals) (sym h.shows.shows) h.shows.original;
      quiet = h.quiet;
      outputs = λ others run calm t l free.
          let same = subst (λ es. IsRunWith original es others) h.shows.shows run in
          h.shows.outputs t l ∙ quiet_alike (setup_of inputs p) (numbers_of p) events originals others h.shows.original same h.quiet calm t
          (λ killed. free (subst (λ es. IsKilledIn es t) (sym h.shows.shows) killed));
    };
  }
