-- Adding what can come next: the list has all events gone by whose conditions hold, in order.
use Rattle.std.proofs.Common.{◌≡◌, ℕ, zero, suc, ◌+◌, ◌<◌, ◌≤◌, true, List, [], ◌∷◌, ◌++◌, length, refl, sym, ap, ◌∙◌, subst, arith, ⊎_elim, ◌⊎◌, inl, inr, Option, Some}
use Rattle.std.specs.Prelude.{slice_index_or}
use Rattle.std.specs.declared.cmp.Ordering.TheVariants.{Less}
use Rattle.std.specs.List.{Contains}
use Rattle.std.proofs.lemmas.Bool.{cases_lt}
use Rattle.std.proofs.lemmas.List.Elements.{Contains-push, Contains-push_cases, Contains-append_left}
use Rattle.std.proofs.lemmas.List.Quantifiers.{all_pairs_push}
use Rattle.event_machine.specs.declared.Event.{Event}
use Rattle.syn_event.specs.Numbering.{Numbering}
use Rattle.task_machine.specs.Conditions.{all_hold}
use Rattle.task_machine.specs.Views.{View}
use Rattle.race_variant.specs.Variants.{letter_of, event_cmp, AreAscending}
use Rattle.race_variant.specs.inner.Passing.{actor_of, HasPassed, AreFoundOf, AreFound, IsAdded}
use Rattle.race_variant.proofs.Orders.{earlier_less}

-- an element of a list stands somewhere in it
pub contains_at : {A : Type 0} (xs : List A) (k : ℕ) (d : A) → k < length xs → Contains xs (slice_index_or xs k d)
contains_at [] k d less = absurd (omega arith)
contains_at (x ∷ xs) zero d less = (0, less, refl)
contains_at (x ∷ xs) (suc k) d less = let h = contains_at xs k d (omega arith) in (suc h.0, (let l : h.0 < length xs = h.1 in omega arith), h.2)

-- one more behind all others
ascending_more : (found : List Event) (e : Event) → AreAscending found → ((f : Event) → Contains found f → event_cmp f e ≡ Less) → AreAscending (found ++ e ∷ [])
ascending_more found e h less = all_pairs_push (λ x y. event_cmp x y ≡ Less) found e h (λ k d l. less (slice_index_or found k d) (contains_at found k d l))

module _ (numbers : Numbering) (views : ℕ → View) (skip : Option Event) where
  abbrev Holds : Event → Type 0
  Holds e = all_hold numbers views e ≡ true

  -- Two ways to say what is past.
  pub found_same : (P Q : Event → Type 0) (found : List Event) → ((e : Event) → Holds e → P e → Q e) → ((e : Event) → Holds e → Q e → P e) →
      AreFoundOf P numbers views skip found → AreFoundOf Q numbers views skip found
  found_same P Q found there back h = record {
    members = λ e. (
      λ k. let m = (h.members e).0 k in (m.0, there e m.0 m.1, m.2),
      λ (m : Holds e × Q e × (skip ≡ Some e → ⊥)). (h.members e).1 (m.0, back e m.0 m.1, m.2),
    );
    ascending = h.ascending;
  }

  -- One more is past.
  pub found_more : (P : Event → Type 0) (e : Event) (before after : List Event) → Holds e → ((f : Event) → P f → event_cmp f e ≡ Less) →
      IsAdded skip e before after → AreFoundOf P numbers views skip before →
      AreFoundOf (λ f. P f ⊎ (e ≡ f)) numbers views skip after
  found_more P e before after holds less (inl (is, same)) h = record {
    members = λ f. (
      λ k. let m = (h.members f).0 (subst (λ es. Contains es f) same k) in (m.0, inl m.1, m.2),
      λ (m : Holds f × (P f ⊎ (e ≡ f)) × (skip ≡ Some f → ⊥)). ⊎_elim
          (λ (p : P f). subst (λ es. Contains es f) (sym same) ((h.members f).1 (m.0, p, m.2)))
          (λ (q : e ≡ f). absurd (m.2 (is ∙ ap (λ x. Some x) q)))
          m.1,
    );
    ascending = subst AreAscending (sym same) h.ascending;
  }
  found_more P e before after holds less (inr (other, same)) h = record {
    members = λ f. (
      λ k. ⊎_elim
          (λ (c : Contains before f). let m = (h.members f).0 c in (m.0, inl m.1, m.2))
          (λ (q : e ≡ f). (subst Holds q holds, inr q, λ s. other (s ∙ ap (λ x. Some x) (sym q))))
          (Contains-push_cases before e f (subst (λ es. Contains es f) same k)),
      λ (m : Holds f × (P f ⊎ (e ≡ f)) × (skip ≡ Some f → ⊥)). subst (λ es. Contains es f) (sym same) (⊎_elim
          (λ (p : P f). Contains-append_left before (e ∷ []) f ((h.members f).1 (m.0, p, m.2)))
          (λ (q : e ≡ f). subst (Contains (before ++ e ∷ [])) q (Contains-push before e))
          m.1),
    );
    ascending = subst AreAscending (sym same) (ascending_more before e h.ascending (λ f c. less f ((h.members f).0 c).1));
  }

  -- Nothing is past.
  pub found_none : AreFound numbers views skip 0 0 []
  found_none = record {
    members = λ e. (
      λ (k : Contains [] e). let less : k.0 < 0 = k.1 in absurd (omega arith),
      λ (m : Holds e × HasPassed 0 0 e × (skip ≡ Some e → ⊥)). absurd (none_past e m.1),
    );
    ascending = λ i j d less below. let l : j < 0 = below in absurd (omega arith);
  }
    where
      none_past : (e : Event) → HasPassed 0 0 e → ⊥
      none_past e (inl l) = let k : letter_of e < 0 = l in omega arith
      none_past e (inr (s, l)) = let k : actor_of e < 0 = l in omega arith

  -- All tasks are past, and so is the letter.
  pub found_letter : (l n : ℕ) (found : List Event) → ((e : Event) → Holds e → actor_of e < n) → AreFound numbers views skip l n found → AreFound numbers views skip (l + 1) 0 found
  found_letter l n found within h = found_same (HasPassed l n) (HasPassed (l + 1) 0) found (λ e holds p. there e p) (λ e holds p. back e holds p) h
    where
      there : (e : Event) → HasPassed l n e → HasPassed (l + 1) 0 e
      there e (inl k) = inl (omega arith)
      there e (inr (s, k)) = inl (let q : letter_of e ≡ l = s in omega arith)

      back : (e : Event) → Holds e → HasPassed (l + 1) 0 e → HasPassed l n e
      back e holds (inl k) = ⊎_elim (λ (q : letter_of e < l). inl q) (λ (q : l ≤ letter_of e). inr (omega arith, within e holds)) (cases_lt (letter_of e) l)
      back e holds (inr (s, k)) = let q : actor_of e < 0 = k in absurd (omega arith)

  pub past_there : (l t : ℕ) (e : Event) → HasPassed l t e → HasPassed l (t + 1) e
  past_there l t e (inl k) = inl k
  past_there l t e (inr (s, k)) = inr (s, omega arith)

  pub past_back : (l t : ℕ) (e : Event) → HasPassed l (t + 1) e → HasPassed l t e ⊎ ((letter_of e ≡ l) × (actor_of e ≡ t))
  past_back l t e (inl k) = inl (inl k)
  past_back l t e (inr (s, k)) = ⊎_elim (λ (q : actor_of e < t). inl (inr (s, q))) (λ (q : t ≤ actor_of e). inr (s, omega arith)) (cases_lt (actor_of e) t)

  pub past_here : (l t : ℕ) (e : Event) → letter_of e ≡ l → actor_of e ≡ t → HasPassed l (t + 1) e
  past_here l t e s k = inr (s, omega arith)

  -- what is past stands before an event of this letter and this task
  pub past_less : (l t : ℕ) (e f : Event) → letter_of e ≡ l → actor_of e ≡ t → HasPassed l t f → event_cmp f e ≡ Less
  past_less l t e f s k p = earlier_less f e (subst (λ a. HasPassed (letter_of e) a f) (sym k) (subst (λ m. HasPassed m t f) (sym s) p))

  -- No event of the letter and the task can come next.
  pub found_nothing : (l t : ℕ) (found : List Event) → ((e : Event) → Holds e → letter_of e ≡ l → actor_of e ≡ t → ⊥) → AreFound numbers views skip l t found → AreFound numbers views skip l (t + 1) found
  found_nothing l t found no_event h = found_same (HasPassed l t) (HasPassed l (t + 1)) found (λ e holds p. past_there l t e p)
      (λ e holds p. ⊎_elim (λ (q : HasPassed l t e). q) (λ (q : (letter_of e ≡ l) × (actor_of e ≡ t)). absurd (no_event e holds q.0 q.1)) (past_back l t e p)) h

  -- One can.
  pub found_one : (l t : ℕ) (e : Event) (before after : List Event) → Holds e → letter_of e ≡ l → actor_of e ≡ t → ((f : Event) → Holds f → letter_of f ≡ l → actor_of f ≡ t → e ≡ f) →
      IsAdded skip e before after → AreFound numbers views skip l t before → AreFound numbers views skip l (t + 1) after
  found_one l t e before after holds s k only added h =
      found_same (λ f. HasPassed l t f ⊎ (e ≡ f)) (HasPassed l (t + 1)) after
      (λ f is p. ⊎_elim (λ (q : HasPassed l t f). past_there l t f q) (λ (q : e ≡ f). past_here l t f (ap letter_of (sym q) ∙ s) (ap actor_of (sym q) ∙ k)) p)
      (λ f is p. ⊎_elim (λ (q : HasPassed l t f). inl q) (λ (q : (letter_of f ≡ l) × (actor_of f ≡ t)). inr (only f is q.0 q.1)) (past_back l t f p))
      (found_more (HasPassed l t) e before after holds (λ f p. past_less l t e f s k p) added h)
