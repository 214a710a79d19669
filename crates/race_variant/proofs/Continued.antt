-- The laws of going on: one list and one end, which stays feasible and fit for a file.
use Rattle.std.proofs.Common.{◌≡◌, ◌⊎◌, inl, inr, ⊎_elim, ℕ, ◌+◌, ◌≤◌, true, not, List, [], ◌∷◌, ◌++◌, length, refl, sym, ap, ◌∙◌, subst, arith, append_assoc, length-append, true≢false}
use Rattle.std.proofs.lemmas.List.{append-nil}
use Rattle.std.specs.Fn.{iterate}
use Rattle.std.specs.Prelude.{All}
use Rattle.std.specs.List.{list_all}
use Rattle.std.proofs.lemmas.Bool.{and_parts}
use Rattle.std.proofs.lemmas.List.Elements.{All-nil, All-cons, All-append}
use Rattle.common_lemmas.proofs.Lists.{append_last}
use Rattle.event_machine.specs.declared.Event.{Event}
use Rattle.event_machine.specs.declared.Event.TheVariants.{R, E, S, D, C, T, F, X, B, Z}
use Rattle.event_machine.specs.Tallies.{HasNoEnd}
use Rattle.event_machine.specs.Worlds.{is_last}
use Rattle.seq_file.specs.Files.{is_end, NothingFollowsEnd}
use Rattle.seq_file.specs.Known.{is_known}
use Rattle.syn_event.specs.Numbering.{Numbering}
use Rattle.task_model.specs.Machine.{ProgramWithInputs}
use Rattle.task_machine.specs.declared.verdict.Verdict.TheVariants.{Feasible}
use Rattle.task_machine.specs.Judging.{VerdictIs}
use Rattle.feasible.proofs.Resting.{not_ended}
use Rattle.race_variant.specs.Variants.{CanFollow}
use Rattle.race_variant.specs.Continuing.{EndsSo, AreChosen, IsContinued}
use Rattle.race_variant.specs.GoingLaws.{OneGoesOn, StaysFeasible, StaysFit, EndsAtOnce}
use Rattle.race_variant.specs.declared.continuing.GoEnd.{GoEnd}
use Rattle.race_variant.specs.declared.continuing.GoEnd.TheVariants.{Ended, Stuck, Open, Count}
use Rattle.race_variant.specs.KnownOffers.{OffersAreKnown}
use Rattle.race_variant.proofs.Choices.{picked_follows, one_picked, none_chosen}
use Rattle.race_variant.proofs.Knowing.{variants_known}

-- ---- lists

-- no list, or one with a last element
last_of : {A : Type 0} (xs : List A) → (xs ≡ []) ⊎ ((front : List A) × (x : A) × (xs ≡ (front ++ x ∷ [])))
last_of [] = inl refl
last_of {A} (x ∷ xs) = ⊎_elim
    (λ (none : xs ≡ []). inr ([], x, ap (λ ys. x ∷ ys) none))
    (λ (k : (front : List A) × (y : A) × (xs ≡ (front ++ y ∷ []))). inr (x ∷ k.0, k.1, ap (λ ys. x ∷ ys) k.2))
    (last_of xs)

no_last_end : (e : Event) → not (is_last e) ≡ true → is_end e ≡ true → ⊥
no_last_end Z h k = true≢false (sym h)
no_last_end (R c e i) h k = true≢false (sym k)
no_last_end (E a) h k = true≢false (sym k)
no_last_end (S a) h k = true≢false (sym k)
no_last_end (D a n) h k = true≢false (sym k)
no_last_end (C c e i) h k = true≢false (sym k)
no_last_end (T c e i) h k = true≢false (sym k)
no_last_end (F c e i) h k = true≢false (sym k)
no_last_end (X a) h k = true≢false (sym k)
no_last_end (B t x) h k = true≢false (sym k)

-- one event behind events without the end
one_behind : (events : List Event) (e : Event) → HasNoEnd events → NothingFollowsEnd (events ++ e ∷ [])
one_behind [] e more = (λ h. refl, tt)
one_behind (x ∷ events) e more =
    let parts = and_parts (not (is_last x)) (list_all (λ y. not (is_last y)) events) more in
    (λ h. absurd (no_last_end x parts.0 h), one_behind events e parts.1)

-- ---- the end

module _ (setup : ProgramWithInputs) (numbers : Numbering) (bound : ℕ) (events : List Event) where
  abbrev Ends : GoEnd → Type 0
  Ends end = EndsSo setup numbers bound events end

  -- where an event can come next it ends by the number alone
  ends_not : (end : GoEnd) → Ends end → (e : Event) → CanFollow setup numbers bound events e → end ≡ Count
  ends_not Ended h e follows = absurd (not_ended events h follows.0)
  ends_not Stuck h e follows = absurd (h.1 e follows)
  ends_not Open h e follows = absurd (h.0 e follows)
  ends_not Count h e follows = refl

  one_end : (end other : GoEnd) → Ends end → Ends other → end ≡ other
  one_end Ended Ended h k = refl
  one_end Ended Stuck h k = absurd (not_ended events h k.0)
  one_end Ended Open h k = absurd (not_ended events h k.1.1.0)
  one_end Stuck Ended h k = absurd (not_ended events k h.0)
  one_end Stuck Stuck h k = refl
  one_end Stuck Open h k = absurd (h.2 k.1.0 k.1.1)
  one_end Open Ended h k = absurd (not_ended events k h.1.1.0)
  one_end Open Stuck h k = absurd (k.2 h.1.0 h.1.1)
  one_end Open Open h k = refl
  one_end Count other h k = sym (ends_not other k h.0 h.1)
  one_end Ended Count h k = ends_not Ended h k.0 k.1
  one_end Stuck Count h k = ends_not Stuck h k.0 k.1
  one_end Open Count h k = ends_not Open h k.0 k.1

module _ {C : Type 0} (word : C → ℕ) (next : C → C) where
  module _ (setup : ProgramWithInputs) (numbers : Numbering) (bound : ℕ) (events : List Event) (chooser : C) where
    abbrev Chosen : List Event → Type 0
    Chosen chosen = AreChosen word next setup numbers bound events chooser chosen

    -- the one list goes on where the other ends
    abbrev GoesOn : List Event → List Event → Type 0
    GoesOn xs ys = (z : Event) × (zs : List Event) × (ys ≡ (xs ++ z ∷ zs))

    -- of two lists that were chosen the one is the other's front
    one_front : (front xs ys : List Event) → Chosen (front ++ xs) → Chosen (front ++ ys) → (xs ≡ ys) ⊎ (GoesOn xs ys ⊎ GoesOn ys xs)
    one_front front [] [] h k = inl refl
    one_front front [] (y ∷ ys) h k = inr (inl (y, ys, refl))
    one_front front (x ∷ xs) [] h k = inr (inr (x, xs, refl))
    one_front front (x ∷ xs) (y ∷ ys) h k = ⊎_elim
        (λ (is : xs ≡ ys). inl (λ i. same i ∷ is i))
        (⊎_elim
        (λ (g : GoesOn xs ys). inr (inl (g.0, g.1, (λ i. sym same i ∷ g.2 i))))
        (λ (g : GoesOn ys xs). inr (inr (g.0, g.1, (λ i. same i ∷ g.2 i)))))
        (one_front (front ++ x ∷ []) xs ys (subst Chosen (sym (append_last front x xs)) h)
        (subst Chosen (sym (append_last front x ys)) (subst (λ z. Chosen (front ++ z ∷ ys)) (sym same) k)))
      where
        same : x ≡ y
        same = one_picked setup numbers bound (events ++ front) (word (iterate next (length front) chooser)) x y (h front xs x refl) (k front ys y refl)

    -- a list that was chosen whole has nothing behind it in another one
    no_more : (most : ℕ) (chosen others : List Event) (end other : GoEnd) → IsContinued word next setup numbers bound events chooser most chosen end →
        IsContinued word next setup numbers bound events chooser most others other → GoesOn chosen others → ⊥
    no_more most chosen others end other h k (z, zs, is) =
        let follows = picked_follows setup numbers bound (events ++ chosen) (word (iterate next (length chosen) chooser)) z (k.picked chosen zs z is) in
        let all : length chosen ≡ most = h.all (ends_not setup numbers bound (events ++ chosen) end h.ends z follows) in
        let long : length others ≡ length chosen + length (z ∷ zs) = ap length is ∙ length-append chosen (z ∷ zs) in
        let few : length others ≤ most = k.within in
        omega arith

  pub one_goes_on : OneGoesOn word next
  one_goes_on setup numbers bound events chooser most chosen others end other h k =
      (same, one_end setup numbers bound (events ++ chosen) end other h.ends (subst (λ es. EndsSo setup numbers bound (events ++ es) other) (sym same) k.ends))
    where
      same : chosen ≡ others
      same = ⊎_elim
          (λ (is : chosen ≡ others). is)
          (⊎_elim
          (λ (g : GoesOn setup numbers bound events chooser chosen others). absurd (no_more setup numbers bound events chooser most chosen others end other h k g))
          (λ (g : GoesOn setup numbers bound events chooser others chosen). absurd (no_more setup numbers bound events chooser most others chosen other end k h g)))
          (one_front setup numbers bound events chooser [] chosen others h.picked k.picked)

  -- ---- what stays so

  -- the last of the chosen events can come next in its turn
  last_follows : (setup : ProgramWithInputs) (numbers : Numbering) (bound : ℕ) (events : List Event) (chooser : C) (chosen front rest : List Event) (e : Event) →
      AreChosen word next setup numbers bound events chooser chosen → chosen ≡ (front ++ e ∷ rest) → CanFollow setup numbers bound (events ++ front) e
  last_follows setup numbers bound events chooser chosen front rest e h is =
      picked_follows setup numbers bound (events ++ front) (word (iterate next (length front) chooser)) e (h front rest e is)

  pub stays_feasible : StaysFeasible word next
  stays_feasible setup numbers bound events chooser chosen well h = ⊎_elim
      (λ (none : chosen ≡ []). subst (λ es. VerdictIs setup numbers bound es Feasible) (sym (ap (λ es. events ++ es) none ∙ append-nil events)) well)
      (λ (k : (front : List Event) × (e : Event) × (chosen ≡ (front ++ e ∷ []))).
      subst (λ es. VerdictIs setup numbers bound es Feasible) (append_assoc events k.0 (k.1 ∷ []) ∙ ap (λ es. events ++ es) (sym k.2))
      (last_follows setup numbers bound events chooser chosen k.0 [] k.1 h k.2).1)
      (last_of chosen)

  -- each chosen event has known numbers
  chosen_known : (setup : ProgramWithInputs) (numbers : Numbering) → OffersAreKnown setup numbers → (bound : ℕ) (events : List Event) (chooser : C) (front rest : List Event) →
      AreChosen word next setup numbers bound events chooser (front ++ rest) → All (λ e. is_known numbers e ≡ true) rest
  chosen_known setup numbers offers bound events chooser front [] h = All-nil (λ e. is_known numbers e ≡ true)
  chosen_known setup numbers offers bound events chooser front (e ∷ rest) h =
      All-cons (λ x. is_known numbers x ≡ true) e rest
      (variants_known setup numbers offers bound (events ++ front) e (last_follows setup numbers bound events chooser (front ++ e ∷ rest) front rest e h refl))
      (chosen_known setup numbers offers bound events chooser (front ++ e ∷ []) rest (subst (AreChosen word next setup numbers bound events chooser) (sym (append_last front e rest)) h))

  pub stays_fit : StaysFit word next
  stays_fit setup numbers offers bound events chooser chosen fit h few = record {
    known = All-append (λ e. is_known numbers e ≡ true) events chosen fit.known (chosen_known setup numbers offers bound events chooser [] chosen h);
    end = ⊎_elim
        (λ (none : chosen ≡ []). subst NothingFollowsEnd (sym (ap (λ es. events ++ es) none ∙ append-nil events)) fit.end)
        (λ (k : (front : List Event) × (e : Event) × (chosen ≡ (front ++ e ∷ []))).
        subst NothingFollowsEnd (append_assoc events k.0 (k.1 ∷ []) ∙ ap (λ es. events ++ es) (sym k.2))
        (one_behind (events ++ k.0) k.1 (last_follows setup numbers bound events chooser chosen k.0 [] k.1 h k.2).0))
        (last_of chosen);
    few = few;
  }

  pub ends_at_once : EndsAtOnce word next
  ends_at_once setup numbers bound events chooser most end h all = record {
    picked = none_chosen setup numbers bound word next events chooser;
    within = omega arith;
    ends = subst (λ es. EndsSo setup numbers bound es end) (sym (append-nil events)) h;
    all = λ is. sym (all is);
  }
