-- What a text replays by the law's word for what an event stands for it replays by its own numbers.
use Rattle.std.proofs.Common.{◌≡◌, ℕ, suc, ◌<◌, List, [], ◌∷◌, ◌++◌, Option, Some, None, refl, sym, ap, ap₂, ◌∙◌, subst}
use Rattle.std.specs.List.{AllByRecursion, cons_option, filter_map}
use Rattle.std.proofs.lemmas.Option.{none-some}
use Rattle.common_lemmas.proofs.Lists.{all_front, all_back}
use Rattle.common_lemmas.proofs.Options.{some_same}
use Rattle.event_machine.specs.declared.Action.{Action}
use Rattle.event_machine.specs.declared.Event.{Event}
use Rattle.event_machine.specs.declared.Event.TheVariants.{R, E, S, D, C, T, F, X, B, Z}
use Rattle.event_machine.specs.Runs.{IsRun, events_of}
use Rattle.event_machine.specs.Programs.{numbered}
use Rattle.event_machine.specs.Tallies.{IsKilledIn}
use Rattle.syn_event.specs.Origin.{back_of}
use Rattle.task_model.specs.Setting as task
use Rattle.run_laws.specs.imitation.Shown.{Opened, end_from}
use Rattle.replay_model.specs.ReplayTree.{last_task}
use Rattle.replay_model.specs.ReplayNumbers.{numbers_replayed}
use Rattle.run_laws.specs.replaying.Copies.{Spots}
use Rattle.run_laws.specs.replaying.Rewritings.{Setting}
use Rattle.run_laws.specs.replaying.Laws.{at_entry, back}
use Rattle.replay_structure.specs.spots.Places.{text_spots}
use Rattle.replay_structure.specs.spots.Laws.{IsInOrder}
use Rattle.replay_structure.specs.spots.inner.Origins.{HasOrigins, IsPlaced, meant}
use Rattle.replay_structure.proofs.spots.Backs.{IsOwnCall, back-same}
use Rattle.replay_runs.specs.controls.replayed.Replaying.{IsFeasible, events_after, Replays}

-- ---- two words for what an event stands for

module _ {L K : Type 0} (s : List Event) (one : Opened L) (other : Opened K) (f h : Event → Option Event) (Known : Event → Type 0) (known : AllByRecursion Known s)
    (alike : (actions more : List Action) → IsRun (numbered other.program) other.at actions → IsRun (numbered other.program) (end_from other actions) more →
    AllByRecursion Known (filter_map f (events_of (numbered other.program) (end_from other actions) more)) →
    filter_map h (events_of (numbered other.program) (end_from other actions) more) ≡ filter_map f (events_of (numbered other.program) (end_from other actions) more)) where
  -- a run shows the same by both, where it shows a prefix of the sequence by the first
  shown-same : (actions : List Action) → IsRun (numbered other.program) other.at actions → (rest : List Event) → filter_map f (events_after other actions) ++ rest ≡ s → filter_map h (events_after other actions) ≡ filter_map f (events_after other actions)
  shown-same actions run rest e = alike [] actions tt run (all_front Known (filter_map f (events_after other actions)) rest (subst (AllByRecursion Known) (sym e) known))

  -- what is replayed by the first word is replayed by the second
  pub replays-alike : Replays s one other f → Replays s one other h
  replays-alike r = record {
    shows = λ actions run.
        let q = r.shows actions run in
        let e = shown-same actions run q.rest q.prefix in
        record {
          rest = q.rest;
          prefix = ap (λ l. l ++ q.rest) e ∙ q.prefix;
          originals = q.originals;
          original = record { applies = q.original.applies; has = q.original.has ∙ sym e };
          outputs = q.outputs;
        };
    goes_on = λ actions run events tail p feasible.
        let q = r.shows actions run in
        let e = shown-same actions run q.rest q.prefix in
        let there : filter_map f (events_after other actions) ++ (events ++ tail) ≡ s = ap (λ l. l ++ (events ++ tail)) (sym e) ∙ p in
        let on = r.goes_on actions run events tail there (subst (λ l. IsFeasible one (l ++ events)) e feasible) in
        let all : AllByRecursion Known events =
        all_front Known events tail (all_back Known (filter_map f (events_after other actions)) (events ++ tail) (subst (AllByRecursion Known) (sym there) known)) in
        record {
          more = on.more;
          applies = on.applies;
          shows = alike actions on.more run on.applies (subst (AllByRecursion Known) (sym on.shows) all) ∙ on.shows;
        };
    ends = λ actions run over.
        let q = r.ends actions run over in
        let e = shown-same actions run q.rest q.prefix in
        record {
          rest = q.rest;
          prefix = ap (λ l. l ++ q.rest) e ∙ q.prefix;
          longest = λ x more is feasible. q.longest x more is (subst (λ l. IsFeasible one (l ++ x ∷ [])) e feasible);
          originals = q.originals;
          original = record { applies = q.original.applies; has = q.original.has ∙ sym e };
          quiet = q.quiet;
          outputs = λ others o calm t l free.
              q.outputs others (record { applies = o.applies; has = o.has ∙ e }) calm t l (λ k. free (subst (λ events. IsKilledIn events t) (sym e) k));
        };
  }

-- ---- the words of the law and of the numbers

-- the law's word, by the sorts of entries and the number of tasks
pub back-is : (x : Setting) (e : Event) → back x e ≡ meant x.n x.p.size e
back-is x (R c e i) = refl
back-is x (E a) = refl
back-is x (S a) = refl
back-is x (D a k) = refl
back-is x (C c e i) = refl
back-is x (T c e i) = refl
back-is x (F c e i) = refl
back-is x (X a) = refl
back-is x (B t v) = refl
back-is x Z = refl

-- the caller of a call is one of the first n tasks
abbrev pub HasCaller : ℕ → Event → Type 0
HasCaller n (R c e i) = c < n
HasCaller n (C c e i) = c < n
HasCaller n (T c e i) = c < n
HasCaller n (F c e i) = c < n
HasCaller n _ = Unit {0}

module _ (far : Spots) (g : task.Setting) (order : IsInOrder g.numbers) (has : HasOrigins far g) where
  abbrev size : ℕ
  size = suc (last_task g.numbers)

  abbrev law : Event → Option Event
  law e = meant (text_spots far g) size e

  -- a call that stands for an event with such a caller has such a caller
  own-call : (make : ℕ → ℕ → Event) (c : ℕ) (o : Option ℕ) → ((k : ℕ) → HasCaller size (make c k) → c < size) → (told : Option Event) → at_entry (λ k. make c k) o ≡ told → ((b : Event) → told ≡ Some b → HasCaller size b) →
      (k : ℕ) → o ≡ Some k → c < size
  own-call make c o caller told e h k f = caller k (h (make c k) (sym e ∙ ap (at_entry (λ j. make c j)) f))

  own-calls : (e : Event) (told : Option Event) → law e ≡ told → ((b : Event) → told ≡ Some b → HasCaller size b) → IsOwnCall far g order has e
  own-calls (R c e i) told q h = own-call (λ x k. R x k i) c _ (λ k l. l) told q h
  own-calls (C c e i) told q h = own-call (λ x k. C x k i) c _ (λ k l. l) told q h
  own-calls (T c e i) told q h = own-call (λ x k. T x k i) c _ (λ k l. l) told q h
  own-calls (F c e i) told q h = own-call (λ x k. F x k i) c _ (λ k l. l) told q h
  own-calls (E a) told q h = tt
  own-calls (S a) told q h = tt
  own-calls (D a k) told q h = tt
  own-calls (X a) told q h = tt
  own-calls (B t v) told q h = tt
  own-calls Z told q h = tt

  -- what is known of an event, if there is one, and of others
  split : (o : Option Event) (l : List Event) → AllByRecursion (HasCaller size) (cons_option o l) → ((b : Event) → o ≡ Some b → HasCaller size b) × AllByRecursion (HasCaller size) l
  split None l k = (λ b e. absurd (none-some b e), k)
  split (Some z) l k = (λ b e. subst (HasCaller size) (some_same e) k.0, k.1)

  -- events at places of the text stand for the same, where the calls for which they stand by the law have callers of the program
  pub backs-same : (events : List Event) → AllByRecursion (IsPlaced g) events → AllByRecursion (HasCaller size) (filter_map law events) → filter_map (back_of (numbers_replayed g)) events ≡ filter_map law events
  backs-same [] h k = refl
  backs-same (e ∷ events) h k =
      let p = split (law e) (filter_map law events) k in
      ap₂ (λ o l. cons_option o l) (back-same far g order has e h.0 (own-calls e (law e) refl p.0)) (backs-same events h.1 p.1)
