-- The verdict of a list of events, as one more event comes.
use Rattle.std.proofs.Common.{◌≡◌, ℕ, ◌+◌, List, [], ◌∷◌, ◌++◌, length, refl, sym, ap, ◌∙◌, subst, Option, Some, None, append_assoc, ◌⊎◌, inl, inr, ⊎_elim}
use Rattle.event_machine.specs.declared.Event.{Event}
use Rattle.event_machine.specs.Tallies.{HasNoEnd}
use Rattle.syn_event.specs.Numbering.{Numbering}
use Rattle.task_model.specs.Machine.{ProgramWithInputs}
use Rattle.task_machine.specs.declared.verdict.Why.{Why}
use Rattle.task_machine.specs.declared.verdict.Verdict.TheVariants.{Feasible, Infeasible, Unsettled}
use Rattle.task_machine.specs.Views.{IsFeasible, IsOpenAt, View}
use Rattle.task_machine.specs.Conditions.{needed_of, conditions_of, first_failing}
use Rattle.task_machine.specs.Judging.{AreViews, NoneOpen, IsReached, VerdictIs}
use Rattle.task_machine.proofs.Tabled.{failing_none}
use Rattle.task_machine.proofs.Judged.{judged}

-- ---- lists

pub cons_head : {A : Type 0} {x y : A} {xs ys : List A} → (x ∷ xs) ≡ (y ∷ ys) → x ≡ y
cons_head {A} {x} {y} {xs} {ys} h = let e : (x ∷ xs) ≡ (y ∷ ys) = h in cc

pub cons_tail : {A : Type 0} {x y : A} {xs ys : List A} → (x ∷ xs) ≡ (y ∷ ys) → xs ≡ ys
cons_tail {A} {x} {y} {xs} {ys} h = let e : (x ∷ xs) ≡ (y ∷ ys) = h in cc

none_split : {A : Type 0} (before rest : List A) (x : A) → [] ≡ (before ++ x ∷ rest) → ⊥
none_split [] rest x h = cc
none_split (y ∷ before) rest x h = cc

-- a place in a list with one more at its end is that end or a place of the list
split_more : {A : Type 0} (xs before rest : List A) (e x : A) → (xs ++ e ∷ []) ≡ (before ++ x ∷ rest) →
    ((xs ≡ before) × (e ≡ x)) ⊎ ((others : List A) × (xs ≡ (before ++ x ∷ others)))
split_more [] [] rest e x h = inl (refl, cons_head h)
split_more [] (b ∷ before) rest e x h = absurd (none_split before rest x (cons_tail h))
split_more (y ∷ xs) [] rest e x h = inr (xs, ap (λ z. z ∷ xs) (cons_head h))
split_more (y ∷ xs) (b ∷ before) rest e x h = ⊎_elim
    (λ (k : (xs ≡ before) × (e ≡ x)). inl ((λ i. cons_head h i ∷ k.0 i), k.1))
    (λ (k : (others : List _) × (xs ≡ (before ++ x ∷ others))). inr (k.0, (λ i. cons_head h i ∷ k.1 i)))
    (split_more xs before rest e x (cons_tail h))

module _ (setup : ProgramWithInputs) (numbers : Numbering) (bound : ℕ) where
  -- No event has gone wrong in none.
  pub verdict_empty : VerdictIs setup numbers bound [] Feasible
  verdict_empty before rest e h = absurd (none_split before rest e h)

  -- One more event that finds none of the tasks that it needs open, and is feasible.
  pub verdict_on : (events : List Event) (e : Event) → VerdictIs setup numbers bound events Feasible → NoneOpen setup numbers bound events (needed_of numbers e) →
      IsFeasible setup numbers (events ++ e ∷ []) → VerdictIs setup numbers bound (events ++ e ∷ []) Feasible
  verdict_on events e well none feasible before rest x h = ⊎_elim
      (λ (k : (events ≡ before) × (e ≡ x)). (
        subst (λ (b : List Event). NoneOpen setup numbers bound b (needed_of numbers x)) k.0 (subst (λ y. NoneOpen setup numbers bound events (needed_of numbers y)) k.1 none),
        subst (λ (b : List Event). IsFeasible setup numbers (b ++ x ∷ [])) k.0 (subst (λ y. IsFeasible setup numbers (events ++ y ∷ [])) k.1 feasible),
      ))
      (λ (k : (others : List Event) × (events ≡ (before ++ x ∷ others))). well before k.0 x k.1)
      (split_more events before rest e x h)

  -- One more event that finds none open, of whose conditions one fails.
  pub verdict_refused : (events : List Event) (e : Event) (views : ℕ → View) (why : Why) → HasNoEnd events → VerdictIs setup numbers bound events Feasible →
      NoneOpen setup numbers bound events (needed_of numbers e) → AreViews setup numbers events e views → first_failing numbers views e ≡ Some why →
      VerdictIs setup numbers bound (events ++ e ∷ []) (Infeasible (length events + 1) why)
  verdict_refused events e views why more well none seen fails = record {
    before = events;
    event = e;
    reached = record { rest = []; splits = refl; place = refl; went_well = well };
    none_open = none;
    infeasible = λ feasible.
        let nothing : ◌≡◌ {A = Option Why} None (Some why) = sym (failing_none views (conditions_of numbers e) ((judged setup numbers events e views more seen).0 feasible)) ∙ fails in cc;
    views = views;
    seen = seen;
    fails = fails;
  }

  -- One more event that finds a task open.
  pub verdict_held : (events : List Event) (e : Event) (task : ℕ) (earlier later : List ℕ) → VerdictIs setup numbers bound events Feasible →
      needed_of numbers e ≡ (earlier ++ task ∷ later) → NoneOpen setup numbers bound events earlier → IsOpenAt setup numbers events task bound →
      VerdictIs setup numbers bound (events ++ e ∷ []) (Unsettled (length events + 1) task)
  verdict_held events e task earlier later well order none stays = record {
    before = events;
    event = e;
    reached = record { rest = []; splits = refl; place = refl; went_well = well };
    earlier = earlier;
    later = later;
    order = order;
    none_open = none;
    stays_open = stays;
  }

  -- Behind the first event that goes wrong nothing changes the verdict.
  reached_stays : (events more : List Event) (at : ℕ) (before : List Event) (e : Event) → IsReached setup numbers bound events at before e → IsReached setup numbers bound (events ++ more) at before e
  reached_stays events more at before e r = record {
    rest = r.rest ++ more;
    splits = ap (λ xs. xs ++ more) r.splits ∙ append_assoc before (e ∷ r.rest) more;
    place = r.place;
    went_well = r.went_well;
  }

  pub refused_stays : (events more : List Event) (at : ℕ) (why : Why) → VerdictIs setup numbers bound events (Infeasible at why) → VerdictIs setup numbers bound (events ++ more) (Infeasible at why)
  refused_stays events more at why v = record {
    before = v.before;
    event = v.event;
    reached = reached_stays events more at v.before v.event v.reached;
    none_open = v.none_open;
    infeasible = v.infeasible;
    views = v.views;
    seen = v.seen;
    fails = v.fails;
  }

  pub held_stays : (events more : List Event) (at task : ℕ) → VerdictIs setup numbers bound events (Unsettled at task) → VerdictIs setup numbers bound (events ++ more) (Unsettled at task)
  held_stays events more at task v = record {
    before = v.before;
    event = v.event;
    reached = reached_stays events more at v.before v.event v.reached;
    earlier = v.earlier;
    later = v.later;
    order = v.order;
    none_open = v.none_open;
    stays_open = v.stays_open;
  }
