-- Views are a matter of the events alone, and an event is feasible next exactly where all its conditions hold of the views.
use Rattle.std.proofs.Common.{◌≡◌, ◌↔◌, ℕ, Bool, true, false, not, ◌&&◌, if◌then◌else◌, List, [], ◌∷◌, ◌++◌, length, refl, sym, ap, ◌∙◌, subst, true≢false}
use Rattle.std.specs.Prelude.{All}
use Rattle.std.specs.List.{list_all}
use Rattle.event_machine.specs.declared.Standing.{Standing}
use Rattle.event_machine.specs.declared.Standing.TheVariants.{Live, Waiting, Queued, Served, Completed, Killed}
use Rattle.event_machine.specs.declared.Event.{Event}
use Rattle.event_machine.specs.Offers.{Offer}
use Rattle.event_machine.specs.States.{Seat, State, live, is_completed, is_abnormal, is_closed}
use Rattle.event_machine.specs.Worlds.{World, still, is_last, needs}
use Rattle.event_machine.specs.Settling.{Settles, ran}
use Rattle.event_machine.specs.Tallies.{RestIs, StandsAfter, HasNoEnd, before_end}
use Rattle.event_machine.specs.Laws.{IsJudged}
use Rattle.event_machine.proofs.Stills.{still_still}
use Rattle.event_machine.proofs.Extending.{before_end-same}
use Rattle.event_machine.proofs.Following.{leads_once}
use Rattle.event_machine.proofs.Stepping.{settles_once}
use Rattle.syn_event.specs.Numbering.{Numbering}
use Rattle.task_model.specs.Tasks.{Task}
use Rattle.task_model.specs.Stands.{can_step, offer_of}
use Rattle.task_model.specs.Starting.{nobody}
use Rattle.task_model.specs.TaskOps.{task_ops}
use Rattle.task_model.specs.Machine.{ProgramWithInputs, Tasks, rules_of, opening_of}
use Rattle.task_model.specs.Laws.{program_in, first_world}
use Rattle.task_model.proofs.Following.{runs_agree, feasible_by_conditions, rest_exactly}
use Rattle.task_machine.specs.Views as views
use Rattle.task_machine.specs.Views.{IsFeasible, IsRest, StandsInSomeRun, View, At, ViewIs, is_busy, view_in, view_of}
use Rattle.task_machine.specs.Conditions.{is_closed_view, needed_of, all_hold}
use Rattle.task_machine.specs.Judging.{AreViews}
use Rattle.task_machine.specs.TaskLaws.{FeasibleByTable}
use Rattle.task_machine.proofs.TaskLaws.{the_count}
use Rattle.task_machine.proofs.Tabled.{sized, AreSeen, table_happens, needed_at, needed_all}

-- ---- events before the end

more_of : (b : Bool) (e : Event) (events : List Event) → is_last e ≡ b → HasNoEnd events → HasNoEnd (if b then [] else e ∷ events)
more_of true e events is h = refl
more_of false e events is h = ap (λ b. not b && list_all (λ x. not (is_last x)) events) is ∙ h

-- there is no end before the end
pub no_end_before : (events : List Event) → HasNoEnd (before_end events)
no_end_before [] = refl
no_end_before (e ∷ events) = more_of (is_last e) e (before_end events) refl (no_end_before events)

-- ---- views and standings

completed_view : (z : Standing) (o : Offer) → is_completed z ≡ true → view_in z o ≡ views.Completed
completed_view Completed o h = refl
completed_view Killed o h = refl
completed_view _ o h = absurd (true≢false (sym h))

abnormal_view : (z : Standing) (o : Offer) → is_abnormal z ≡ true → view_in z o ≡ views.Abnormal
abnormal_view (Served by true) o h = refl
abnormal_view (Served by false) o h = absurd (true≢false (sym h))
abnormal_view _ o h = absurd (true≢false (sym h))

busy_view : (z : Standing) (o : Offer) → is_busy z ≡ true → view_in z o ≡ views.Busy
busy_view (Served by true) o h = absurd (true≢false (sym h))
busy_view (Served by false) o h = refl
busy_view _ o h = absurd (true≢false (sym h))

-- a test that no live task passes
not_live : (test : Standing → Bool) → test Live ≡ false → (z : Standing) → test z ≡ true → z ≡ Live → ⊥
not_live test none z h e = true≢false (sym h ∙ ap test e ∙ none)

-- the view of a task that is not live does not go by its offer
view_apart : (z : Standing) (o other : Offer) → still z ≡ z → (z ≡ Live → o ≡ other) → view_in z o ≡ view_in z other
view_apart Live o other h same = ap (λ x. At x) (same refl)
view_apart Waiting o other h same = absurd (cc)
view_apart Queued o other h same = absurd (cc)
view_apart (Served by true) o other h same = refl
view_apart (Served by false) o other h same = refl
view_apart Completed o other h same = refl
view_apart Killed o other h same = refl

view_closed : (z : Standing) (o : Offer) → is_closed_view (view_in z o) ≡ is_closed z
view_closed Live o = refl
view_closed Waiting o = refl
view_closed Queued o = refl
view_closed (Served by true) o = refl
view_closed (Served by false) o = refl
view_closed Completed o = refl
view_closed Killed o = refl

module _ (setup : ProgramWithInputs) (numbers : Numbering) where
  abbrev opening : State Tasks
  opening = (opening_of setup numbers).state

  -- ---- what is so of one task

  -- A task stands in one way.
  pub stands_unique : (events : List Event) (t : ℕ) (z other : Standing) → StandsInSomeRun setup numbers events t z → StandsInSomeRun setup numbers events t other → z ≡ other
  stands_unique events t z other (tasks, tally, run, is) (tasks', tally', run', is') =
      sym is ∙ (runs_agree setup numbers (before_end events) tasks tasks' tally tally' run run').standing t ∙ is'

  -- Behind so many local steps it is in one state.
  pub rest_unique : (events : List Event) (t n : ℕ) (task other : Task) → IsRest setup numbers events t n task → IsRest setup numbers events t n other → task ≡ other
  rest_unique events t n task other (tasks, tally, run, is, count) (tasks', tally', run', is', count') =
      sym (ap (λ (x : Seat Task). x.local) is)
      ∙ (runs_agree setup numbers (before_end events) tasks tasks' tally tally' run run').free t (ap (λ (x : Seat Task). still x.standing) is) (count ∙ sym count')
      ∙ ap (λ (x : Seat Task). x.local) is'

  -- Where it has no local step left it is in one state, too.
  pub settled_unique : (events : List Event) (t n m : ℕ) (task other : Task) → IsRest setup numbers events t n task → can_step task ≡ false →
      IsRest setup numbers events t m other → can_step other ≡ false → task ≡ other
  settled_unique events t n m task other rest none rest' none' =
      let (w, leads, free, steps, is) = (rest_exactly setup numbers (before_end events) (no_end_before events) t n task).0 rest in
      let (v, leads', free', steps', is') = (rest_exactly setup numbers (before_end events) (no_end_before events) t m other).0 rest' in
      let same : v ≡ w = leads_once (program_in setup numbers) (before_end events) (first_world setup numbers) v w leads' leads in
      let settles : Settles task_ops n (w.tasks t).local = (steps, ap can_step (sym is) ∙ none) in
      let settles' : Settles task_ops m (w.tasks t).local =
      subst (λ (u : World Task). Settles task_ops m (u.tasks t).local) same (steps', ap can_step (sym is') ∙ none') in
      let count : n ≡ m = settles_once task_ops n m (w.tasks t).local settles settles' in
      is ∙ ap (λ k. ran task_ops k (w.tasks t).local) count ∙ ap (λ (u : World Task). ran task_ops m (u.tasks t).local) (sym same) ∙ sym is'

  pub stands_still : (events : List Event) (t : ℕ) (z : Standing) → StandsInSomeRun setup numbers events t z → still z ≡ z
  stands_still events t z (tasks, tally, run, is) = ap still (sym is) ∙ still_still (tasks t).standing ∙ is

  pub rest_stands : (events : List Event) (t n : ℕ) (task : Task) → IsRest setup numbers events t n task → StandsInSomeRun setup numbers events t Live
  rest_stands events t n task (tasks, tally, run, is, count) = (tasks, tally, run, ap (λ (x : Seat Task). still x.standing) is)

  -- ---- seats and views

  -- The seat is a task as it stands after the events, at rest where it is free.
  pub record IsSeat (events : List Event) (t : ℕ) (seat : Seat Task) : Type 0 where
    pub standing : StandsInSomeRun setup numbers events t seat.standing
    pub rests : seat.standing ≡ Live → (n : ℕ) × IsRest setup numbers events t n seat.local × (can_step seat.local ≡ false)

  view_from : (events : List Event) (t : ℕ) (z : Standing) (task : Task) → StandsInSomeRun setup numbers events t z → still z ≡ z →
      (z ≡ Live → (n : ℕ) × IsRest setup numbers events t n task × (can_step task ≡ false)) → ViewIs setup numbers events t (view_in z (offer_of task))
  view_from events t Live task stands h rests = let (n, rest, none) = rests refl in (n, task, rest, none, refl)
  view_from events t Waiting task stands h rests = absurd (cc)
  view_from events t Queued task stands h rests = absurd (cc)
  view_from events t (Served by true) task stands h rests = (Served by true, stands, refl)
  view_from events t (Served by false) task stands h rests = (Served by false, stands, refl)
  view_from events t Completed task stands h rests = (Completed, stands, refl)
  view_from events t Killed task stands h rests = (Killed, stands, refl)

  -- What is seen of a seat is the view.
  pub view_kept : (events : List Event) (t : ℕ) (seat : Seat Task) → IsSeat events t seat → ViewIs setup numbers events t (view_of seat)
  view_kept events t seat is = view_from events t seat.standing seat.local is.standing (stands_still events t seat.standing is.standing) is.rests

  seat_at : (events : List Event) (t : ℕ) (z : Standing) → StandsInSomeRun setup numbers events t z → (z ≡ Live → ⊥) → IsSeat events t (record { local = nobody; standing = z })
  seat_at events t z stands not_free = record { standing = stands; rests = λ free. absurd (not_free free) }

  -- And each view is that of a seat.
  pub view_seat : (events : List Event) (t : ℕ) (v : View) → ViewIs setup numbers events t v → (seat : Seat Task) × IsSeat events t seat × (v ≡ view_of seat)
  view_seat events t views.Completed (z, stands, h) =
      (record { local = nobody; standing = z }, seat_at events t z stands (not_live is_completed refl z h), sym (completed_view z (offer_of nobody) h))
  view_seat events t views.Abnormal (z, stands, h) =
      (record { local = nobody; standing = z }, seat_at events t z stands (not_live is_abnormal refl z h), sym (abnormal_view z (offer_of nobody) h))
  view_seat events t views.Busy (z, stands, h) =
      (record { local = nobody; standing = z }, seat_at events t z stands (not_live is_busy refl z h), sym (busy_view z (offer_of nobody) h))
  view_seat events t (At offer) (n, task, rest, none, is) =
      (live task, record { standing = rest_stands events t n task rest; rests = λ free. (n, rest, none) }, ap (λ x. At x) (sym is))

  -- Two seats of a task are seen alike.
  seats_alike : (events : List Event) (t : ℕ) (seat other : Seat Task) → IsSeat events t seat → IsSeat events t other → view_of seat ≡ view_of other
  seats_alike events t seat other is is' =
      let same : seat.standing ≡ other.standing = stands_unique events t seat.standing other.standing is.standing is'.standing in
      view_apart seat.standing (offer_of seat.local) (offer_of other.local) (stands_still events t seat.standing is.standing)
      (λ free. let (n, rest, none) = is.rests free in let (m, rest', none') = is'.rests (sym same ∙ free) in
      ap offer_of (settled_unique events t n m seat.local other.local rest none rest' none'))
      ∙ ap (λ z. view_in z (offer_of other.local)) same

  -- A task has one view.
  pub view_unique : (events : List Event) (t : ℕ) (v u : View) → ViewIs setup numbers events t v → ViewIs setup numbers events t u → v ≡ u
  view_unique events t v u h k =
      let (seat, is, e) = view_seat events t v h in
      let (other, is', e') = view_seat events t u k in
      e ∙ seats_alike events t seat other is is' ∙ sym e'

  -- Seats of all needed tasks, and standings of the others, are views.
  pub views_kept : (events : List Event) (e : Event) (tasks : ℕ → Seat Task) → ((t : ℕ) → StandsInSomeRun setup numbers events t (tasks t).standing) →
      All (λ t. IsSeat events t (tasks t)) (needed_of numbers e) → AreViews setup numbers events e (λ t. view_of (tasks t))
  views_kept events e tasks stands seats = record {
    needed = λ k d less. view_kept events _ _ (seats k d less);
    closed = λ t. ((tasks t).standing, stands t, sym (view_closed (tasks t).standing (offer_of (tasks t).local)));
  }

  -- ---- feasible next

  abbrev size : ℕ
  size = length opening.seats

  count : size ≡ length numbers.tasks
  count = the_count setup numbers

  -- a standing after events without an end, as Views says it
  stands_in : (events : List Event) → HasNoEnd events → (t : ℕ) (z : Standing) → StandsAfter (rules_of numbers) opening events t z → StandsInSomeRun setup numbers events t z
  stands_in events more t z = subst (λ es. StandsAfter (rules_of numbers) opening es t z) (sym (before_end-same events more))

  stands_out : (events : List Event) → HasNoEnd events → (t : ℕ) (z : Standing) → StandsInSomeRun setup numbers events t z → StandsAfter (rules_of numbers) opening events t z
  stands_out events more t z = subst (λ es. StandsAfter (rules_of numbers) opening es t z) (before_end-same events more)

  rest_in : (events : List Event) → HasNoEnd events → (t n : ℕ) (task : Task) → RestIs (rules_of numbers) opening events t n task → IsRest setup numbers events t n task
  rest_in events more t n task = subst (λ es. RestIs (rules_of numbers) opening es t n task) (sym (before_end-same events more))

  rest_out : (events : List Event) → HasNoEnd events → (t n : ℕ) (task : Task) → IsRest setup numbers events t n task → RestIs (rules_of numbers) opening events t n task
  rest_out events more t n task = subst (λ es. RestIs (rules_of numbers) opening es t n task) (before_end-same events more)

  -- the seats that the machine without queues is judged by
  judged_seat : (events : List Event) (e : Event) → HasNoEnd events → (j : IsJudged (rules_of numbers) opening events e) → (t : ℕ) → needs (sized numbers size) e t ≡ true → IsSeat events t (j.views t)
  judged_seat events e more j t need = record {
    standing = stands_in events more t (j.views t).standing (j.standing t);
    rests = λ free. let (n, rest, none) = j.rests t need free in (n, rest_in events more t n (j.views t).local rest, none);
  }

  module _ (events : List Event) (e : Event) (vs : ℕ → View) (more : HasNoEnd events) (seen : AreViews setup numbers events e vs) where
    view_at : (t : ℕ) → needs (sized numbers size) e t ≡ true → ViewIs setup numbers events t (vs t)
    view_at = needed_at numbers size count (λ t. ViewIs setup numbers events t (vs t)) e seen.needed

    -- tasks that are seen so
    seat_for : (t : ℕ) (b : Bool) → needs (sized numbers size) e t ≡ b →
        (seat : Seat Task) × StandsInSomeRun setup numbers events t seat.standing × (b ≡ true → IsSeat events t seat × (vs t ≡ view_of seat))
    seat_for t true need = let (seat, is, same) = view_seat events t (vs t) (view_at t need) in (seat, is.standing, λ h. (is, same))
    seat_for t false need = let (z, stands, closed) = seen.closed t in (record { local = nobody; standing = z }, stands, λ h. absurd (true≢false (sym h)))

    abbrev tasks : ℕ → Seat Task
    tasks t = (seat_for t (needs (sized numbers size) e t) refl).0

    tasks_stand : (t : ℕ) → StandsInSomeRun setup numbers events t (tasks t).standing
    tasks_stand t = (seat_for t (needs (sized numbers size) e t) refl).1

    closed_at : (t : ℕ) (z : Standing) → StandsInSomeRun setup numbers events t z → is_closed_view (vs t) ≡ is_closed z
    closed_at t z stands = let (y, stands', closed) = seen.closed t in sym closed ∙ ap is_closed (stands_unique events t y z stands' stands)

    tasks_seen : AreSeen numbers size e vs tasks
    tasks_seen = record {
      needed = λ t need. ((seat_for t (needs (sized numbers size) e t) refl).2 need).1;
      stills = λ t. stands_still events t (tasks t).standing (tasks_stand t);
      closed = λ t. closed_at t (tasks t).standing (tasks_stand t);
    }

    judged_back : all_hold numbers vs e ≡ true → IsJudged (rules_of numbers) opening events e
    judged_back holds = record {
      views = tasks;
      standing = λ t. stands_out events more t (tasks t).standing (tasks_stand t);
      rests = λ t need free.
          let (n, rest, none) = ((seat_for t (needs (sized numbers size) e t) refl).2 need).0.rests free in
          (n, rest_out events more t n (tasks t).local rest, none);
      holds = sym (table_happens numbers size count e vs tasks tasks_seen) ∙ holds;
    }

    judged_seen : (j : IsJudged (rules_of numbers) opening events e) → AreSeen numbers size e vs j.views
    judged_seen j = record {
      needed = λ t need. view_unique events t (vs t) (view_of (j.views t)) (view_at t need) (view_kept events t (j.views t) (judged_seat events e more j t need));
      stills = λ t. stands_still events t (j.views t).standing (stands_in events more t (j.views t).standing (j.standing t));
      closed = λ t. closed_at t (j.views t).standing (stands_in events more t (j.views t).standing (j.standing t));
    }

    -- An event is feasible next exactly where all its conditions hold of the views.
    pub judged : IsFeasible setup numbers (events ++ e ∷ []) ↔ (all_hold numbers vs e ≡ true)
    judged = (
      λ feasible. let j = (feasible_by_conditions setup numbers events e more).0 feasible in table_happens numbers size count e vs j.views (judged_seen j) ∙ j.holds,
      λ holds. (feasible_by_conditions setup numbers events e more).1 (judged_back holds),
    )

  -- Where an event is feasible next, all that it needs have views, and its conditions hold of them.
  pub feasible_views : (events : List Event) (e : Event) → HasNoEnd events → IsFeasible setup numbers (events ++ e ∷ []) →
      (vs : ℕ → View) × AreViews setup numbers events e vs × (all_hold numbers vs e ≡ true)
  feasible_views events e more feasible =
      let j = (feasible_by_conditions setup numbers events e more).0 feasible in
      let seen : AreViews setup numbers events e (λ t. view_of (j.views t)) =
      views_kept events e j.views (λ t. stands_in events more t (j.views t).standing (j.standing t))
      (needed_all numbers size count (λ t. IsSeat events t (j.views t)) e (λ t need. judged_seat events e more j t need)) in
      ((λ t. view_of (j.views t)), seen, (judged events e (λ t. view_of (j.views t)) more seen).0 feasible)

-- The second law by the table.
pub by_table : FeasibleByTable
by_table setup numbers events e more = (feasible_views setup numbers events e more, λ h. (judged setup numbers events e h.0 more h.1).1 h.2)
