-- The turn of a letter and a task: what it proposes is added.
use Rattle.std.proofs.Common.{◌≡◌, ℕ, ◌+◌, ◌<◌, ◌≤◌, Bool, true, false, List, length, map, sym, ap, ◌∙◌, subst, arith, ⊎_elim, Option, Some, None}
use Rattle.std.specs.Prelude.{slice_get}
use Rattle.std.proofs.lemmas.Bool.{cases_lt}
use Rattle.std.proofs.lemmas.Option.{slice_get_past}
use Rattle.event_machine.specs.declared.Event.{Event}
use Rattle.event_machine.specs.declared.Event.TheVariants as event
use Rattle.event_machine.specs.declared.Standing.{Standing}
use Rattle.event_machine.specs.declared.Standing.TheVariants.{Live, Waiting, Queued, Served, Completed as Over, Killed}
use Rattle.event_machine.proofs.Basics.{some_path, none_some}
use Rattle.syn_event.specs.Numbering.{Numbering}
use Rattle.task_model.specs.Machine.{Tasks}
use Rattle.task_model.specs.Stands.{offer_of}
use Rattle.task_model.specs.Tasks.{Task}
use Rattle.task_machine.specs.Conditions.{all_hold}
use Rattle.task_machine.specs.Table.{seat_of}
use Rattle.task_machine.specs.Views.{View, view_in}
use Rattle.feasible.specs.Failing.{view_at}
use Rattle.race_variant.specs.declared.proposing.Letter.{Letter}
use Rattle.race_variant.specs.declared.proposing.Letter.TheVariants.{D}
use Rattle.race_variant.specs.inner.Passing.{actor_of, offer_seen, seen_by, seen_at, AreFound, IsAdded, AreAllAdded}
use Rattle.race_variant.specs.inner.Proposing.{place_of, delays_in, proposed}
use Rattle.race_variant.proofs.Delays.{found_delays}
use Rattle.race_variant.proofs.Gathering.{found_one, found_nothing, found_letter}
use Rattle.race_variant.proofs.Offers.{acting}
use Rattle.race_variant.proofs.Proposed.{proposed_only}
use Rattle.race_variant.proofs.Rising.{Rises, delays_rise}

module _ (numbers : Numbering) (views : ℕ → View) (skip : Option Event) (letter : Letter) (t : ℕ) where
  -- an event is proposed
  pub letter_one : (letter ≡ D → ⊥) → (e : Event) (before after : List Event) → proposed numbers views letter t (offer_seen (views t)) ≡ Some e → IsAdded skip e before after →
      AreFound numbers views skip (place_of letter) t before → AreFound numbers views skip (place_of letter) (t + 1) after
  letter_one other e before after is added h =
      let k = (proposed_only numbers views letter t other e).0 is in
      found_one numbers views skip (place_of letter) t e before after k.0 k.1 k.2 (λ f holds l a. some_path (sym is ∙ (proposed_only numbers views letter t other f).1 (holds, l, a))) added h

  -- none is
  pub letter_none : (letter ≡ D → ⊥) → (found : List Event) → proposed numbers views letter t (offer_seen (views t)) ≡ None →
      AreFound numbers views skip (place_of letter) t found → AreFound numbers views skip (place_of letter) (t + 1) found
  letter_none other found is h =
      found_nothing numbers views skip (place_of letter) t found (λ e holds l a. none_some (sym is ∙ (proposed_only numbers views letter t other e).1 (holds, l, a))) h

  -- the delays are
  pub letter_delays : letter ≡ D → (before after : List Event) → Rises 0 (delays_in (offer_seen (views t))) → AreAllAdded skip (map (event.D t) (delays_in (offer_seen (views t)))) before after →
      AreFound numbers views skip (place_of letter) t before → AreFound numbers views skip (place_of letter) (t + 1) after
  letter_delays is before after rises added h =
      subst (λ l. AreFound numbers views skip (place_of l) (t + 1) after) (sym is)
      (found_delays numbers views skip t before after rises added (subst (λ l. AreFound numbers views skip (place_of l) t before) is h))

-- ---- what is seen of tasks

module _ (tasks : Tasks) (settled : List Bool) where
  in_view : (z : Standing) (task : Task) → Rises 0 (delays_in (offer_seen (view_in z (offer_of task))))
  in_view Live task = delays_rise task
  in_view Waiting task = delays_rise task
  in_view Queued task = delays_rise task
  in_view (Served by true) task = tt
  in_view (Served by false) task = tt
  in_view Over task = tt
  in_view Killed task = tt

  by_answer : (o : Option Bool) (t : ℕ) → Rises 0 (delays_in (offer_seen (seen_by o (view_at tasks t))))
  by_answer None t = tt
  by_answer (Some true) t = in_view (seat_of tasks t).standing (seat_of tasks t).local
  by_answer (Some false) t = tt

  -- The delays that are seen have rising numbers.
  pub seen_rise : (t : ℕ) → Rises 0 (delays_in (offer_seen (seen_at tasks settled t)))
  seen_rise t = by_answer (slice_get settled t) t

  -- The task that acts is one of those that were asked.
  pub actor_within : (numbers : Numbering) (e : Event) → all_hold numbers (seen_at tasks settled) e ≡ true → actor_of e < length settled
  actor_within numbers e holds = ⊎_elim
      (λ (k : actor_of e < length settled). k)
      (λ (k : length settled ≤ actor_of e). absurd (acting numbers (seen_at tasks settled) e holds
      (ap (λ o. offer_seen (seen_by o (view_at tasks (actor_of e)))) (slice_get_past settled (actor_of e) k))))
      (cases_lt (actor_of e) (length settled))

  -- The turn of the next letter.
  pub letter_past : (numbers : Numbering) (skip : Option Event) (l n : ℕ) (found : List Event) → length settled ≡ n → AreFound numbers (seen_at tasks settled) skip l n found →
      AreFound numbers (seen_at tasks settled) skip (l + 1) 0 found
  letter_past numbers skip l n found size h =
      found_letter numbers (seen_at tasks settled) skip l n found (λ e holds. let less : actor_of e < length settled = actor_within numbers e holds in omega (arith, size)) h
