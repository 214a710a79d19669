-- What a judge shows of a settled task is its view after the events that have happened.
use Rattle.std.proofs.Common.{◌≡◌, ℕ, Bool, true, false, ◌||◌, if◌then◌else◌, List, [], ◌∷◌, refl, sym, ap, ◌∙◌, subst, true≢false, take, slice_index}
use Rattle.event_machine.specs.declared.Event.{Event}
use Rattle.event_machine.specs.declared.Event.TheVariants.{Z}
use Rattle.event_machine.specs.declared.Standing.{Standing}
use Rattle.event_machine.specs.declared.Standing.TheVariants as z
use Rattle.event_machine.specs.Programs.{Program, numbered}
use Rattle.event_machine.specs.States.{Ops, Seat, is_closed, is_abnormal}
use Rattle.event_machine.specs.Settling.{Fires, Leads, IsRunOn, run_on}
use Rattle.event_machine.specs.Tallies.{RestIs, StandsAfter, before_end}
use Rattle.event_machine.specs.Worlds.{World, acted, changes, is_last}
use Rattle.event_machine.proofs.Extending.{before_end-same}
use Rattle.syn_event.specs.Numbering.{Numbering}
use Rattle.task_model.specs.Laws.{program_in, first_world}
use Rattle.task_model.specs.Machine.{ProgramWithInputs, opening_of, Tasks, rules_of}
use Rattle.task_model.specs.TaskOps.{task_ops}
use Rattle.task_model.specs.Tasks.{Task}
use Rattle.task_machine.specs.Table.{seat_of}
use Rattle.task_machine.specs.Views.{View, Completed, Abnormal, Busy, At, ViewIs}
use Rattle.task_machine.proofs.Judged.{no_end_before, view_kept}
use Rattle.feasible.specs.declared.showing.TaskView.{TaskView}
use Rattle.feasible.specs.declared.showing.TaskView.TheVariants as shown
use Rattle.feasible.specs.Failing.{view_at}
use Rattle.feasible.specs.Keeping.{AreKept, StandsFor, IsSettled}
use Rattle.feasible.specs.Kept.{Kept}
use Rattle.feasible.specs.Shown.{IsShown, Shows}
use Rattle.feasible.proofs.Continuing.{seat_settled}
use Rattle.event_machine.proofs.Standings.{completed_closed}

closed_abnormal : (s : Standing) → is_abnormal s ≡ true → is_closed s ≡ true
closed_abnormal z.Live h = h
closed_abnormal z.Waiting h = h
closed_abnormal z.Queued h = h
closed_abnormal (z.Served by abnormal) h = h
closed_abnormal z.Completed h = absurd (true≢false (sym h))
closed_abnormal z.Killed h = absurd (true≢false (sym h))

shown_view : (setup : ProgramWithInputs) (numbers : Numbering) (events : List Event) (t : ℕ) (v : View) (task : TaskView) → ViewIs setup numbers events t v → Shows v task → IsShown setup numbers events t task
shown_view setup numbers events t Completed task (s, stands, h) e = subst (IsShown setup numbers events t) (sym e) (s, stands, completed_closed s h)
shown_view setup numbers events t Abnormal task (s, stands, h) e = subst (IsShown setup numbers events t) (sym e) (s, stands, closed_abnormal s h)
shown_view setup numbers events t Busy task h e = subst (IsShown setup numbers events t) (sym e) h
shown_view setup numbers events t (At offer) shown.Closed h e = absurd e
shown_view setup numbers events t (At offer) shown.Busy h e = absurd e
shown_view setup numbers events t (At offer) (shown.At lent) h e = subst (λ o. ViewIs setup numbers events t (At o)) (sym e) h

-- ---- behind the end of the program

-- the end of the program changes no task
last_changes : (ops : Ops Task) (owner : ℕ → ℕ) (tasks : ℕ → Seat Task) (t : ℕ) (e : Event) → is_last e ≡ true → changes ops owner tasks e t ≡ false
last_changes ops owner tasks t Z h = refl
last_changes ops owner tasks t _ h = absurd (true≢false (sym h))

module _ (m : Program Task) where
  -- what the end leaves of the tasks
  last_leaves : (w next : World Task) (e : Event) (t : ℕ) → is_last e ≡ true → Fires m w e next → w.tasks t ≡ next.tasks t
  last_leaves w next e t is fires =
      sym (ap (λ (u : World Task). u.tasks t) fires.becomes
      ∙ ap (λ b. if b then acted (numbered m) (run_on m.ops fires.steps w.tasks) e t else w.tasks t) (last_changes m.ops m.owner (run_on m.ops fires.steps w.tasks) t e is))

  last_ends : (w next : World Task) (e : Event) → is_last e ≡ true → Fires m w e next → next.ended ≡ true
  last_ends w next e is fires = ap (λ (u : World Task). u.ended) fires.becomes ∙ ap (λ b. b || w.ended) is

  -- nothing follows the end
  behind_last : (w next last : World Task) (e : Event) (events : List Event) (t : ℕ) → is_last e ≡ true → Fires m w e next → Leads m next events last →
      w.tasks t ≡ last.tasks t
  behind_last w next last e [] t is fires leads = last_leaves w next e t is fires ∙ ap (λ (u : World Task). u.tasks t) leads
  behind_last w next last e (f ∷ events) t is fires (more, firing, leads) = absurd (true≢false (sym (last_ends w next e is fires) ∙ firing.runs))

  -- by whether the first event is the end
  by_last : (w next last : World Task) (e : Event) (events : List Event) → Fires m w e next → Leads m next events last →
      (later : (v : World Task) × Leads m next (before_end events) v × ((t : ℕ) → v.tasks t ≡ last.tasks t)) (b : Bool) → is_last e ≡ b →
      (v : World Task) × Leads m w (if b then [] else e ∷ before_end events) v × ((t : ℕ) → v.tasks t ≡ last.tasks t)
  by_last w next last e events fires leads later true is = (w, refl, λ t. behind_last w next last e events t is fires leads)
  by_last w next last e events fires leads (v, led, same) false is = (v, (next, fires, led), same)

  -- Without the end the events lead to the same tasks.
  led_before : (w last : World Task) (events : List Event) → Leads m w events last →
      (v : World Task) × Leads m w (before_end events) v × ((t : ℕ) → v.tasks t ≡ last.tasks t)
  led_before w last [] leads = (w, refl, λ t. ap (λ (u : World Task). u.tasks t) leads)
  led_before w last (e ∷ events) (next, fires, leads) = by_last w next last e events fires leads (led_before next last events leads) (is_last e) refl

module _ (setup : ProgramWithInputs) (numbers : Numbering) where
  -- What is kept for events is kept for those before the end.
  pub kept_before : (bound : ℕ) (events : List Event) (tasks : Tasks) (steps : List ℕ) (ended : Bool) → AreKept setup numbers bound events tasks steps ended →
      (runs : Bool) × AreKept setup numbers bound (before_end events) tasks steps runs
  kept_before bound events tasks steps ended k =
      let (v, leads, same) = led_before (program_in setup numbers) (first_world setup numbers) k.bases events k.leads in (
        v.ended,
        record {
          bases = v;
          leads = leads;
          follows = record {
            ended = refl;
            each = λ t. subst (λ (b : Seat Task). IsRunOn task_ops b (slice_index steps t) (seat_of tasks t)) (sym (same t)) (k.follows.each t);
          };
          size = k.size;
          counts = k.counts;
          within = k.within;
        },
      )

  -- What is seen of a task is taken of the events before the end.
  seen_before : (events : List Event) (t : ℕ) (task : TaskView) → IsShown setup numbers (before_end events) t task → IsShown setup numbers events t task
  seen_before events t shown.Closed (s, stands, h) =
      (s, subst (λ es. StandsAfter (rules_of numbers) (opening_of setup numbers).state es t s) (before_end-same (before_end events) (no_end_before events)) stands, h)
  seen_before events t shown.Busy (s, stands, h) =
      (s, subst (λ es. StandsAfter (rules_of numbers) (opening_of setup numbers).state es t s) (before_end-same (before_end events) (no_end_before events)) stands, h)
  seen_before events t (shown.At lent) (n, task, rest, none, is) =
      (n, task, subst (λ es. RestIs (rules_of numbers) (opening_of setup numbers).state es t n task) (before_end-same (before_end events) (no_end_before events)) rest, none, is)

pub shown_is : (setup : ProgramWithInputs) (events : List Event) (j : Kept) (t : ℕ) (task : TaskView) → StandsFor setup events j → IsSettled j.tasks t → Shows (view_at j.tasks t) task →
    IsShown setup j.numbers (take j.taken events) t task
shown_is setup events j t task s settled shows =
    let happened : List Event = take j.taken events in
    let (runs, kept) = kept_before setup j.numbers j.bound happened j.tasks j.steps j.ended s.keeps in
    seen_before setup j.numbers happened t task
    (shown_view setup j.numbers (before_end happened) t (view_at j.tasks t) task
    (view_kept setup j.numbers (before_end happened) t (seat_of j.tasks t)
    (seat_settled setup j.numbers j.bound (before_end happened) (no_end_before happened) j.tasks j.steps runs kept t settled)) shows)
