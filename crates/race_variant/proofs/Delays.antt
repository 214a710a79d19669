-- The delays of a wait, added one after the other.
use Rattle.std.proofs.Common.{◌≡◌, ℕ, ◌+◌, ◌<◌, ◌==◌, true, List, [], ◌∷◌, ◌++◌, map, refl, sym, ap, ◌∙◌, subst, arith, true≢false, ⊎_elim, ◌⊎◌, inl, inr, Option}
use Rattle.std.specs.declared.cmp.Ordering.TheVariants.{Less}
use Rattle.std.specs.List.{filter_map, list_any}
use Rattle.std.proofs.lemmas.List.{map-append}
use Rattle.std.proofs.lemmas.List.Elements.{filter_map-append}
use Rattle.std.proofs.lemmas.Bool.{eqb-true, or_left, or_right, or_cases}
use Rattle.event_machine.specs.declared.Choice.{Choice}
use Rattle.event_machine.specs.declared.Choice.TheVariants as choice
use Rattle.event_machine.specs.declared.Event.{Event}
use Rattle.event_machine.specs.declared.Event.TheVariants.{R, E, S, D, C, T, F, X, B, Z}
use Rattle.event_machine.specs.Offers.{Offer, Nothing, Calls, Waits, Finishes, Ends, Aborts, waits_with, is_delay}
use Rattle.common_lemmas.proofs.Numbers.{equal_self}
use Rattle.syn_event.specs.Numbering.{Numbering}
use Rattle.task_machine.specs.Conditions.{all_hold}
use Rattle.task_machine.specs.Views.{View}
use Rattle.race_variant.specs.Variants.{letter_of, event_cmp}
use Rattle.race_variant.specs.inner.Passing.{actor_of, offer_seen, HasPassed, AreFoundOf, AreFound, AreAllAdded}
use Rattle.race_variant.specs.inner.Proposing.{delay_number, delays_in}
use Rattle.race_variant.proofs.Gathering.{found_same, found_more, past_there, past_back, past_here, past_less}
use Rattle.race_variant.proofs.Offers.{holds_D}
use Rattle.race_variant.proofs.Orders.{delay_less}
use Rattle.race_variant.proofs.Rising.{Rises}

-- ---- lists of additions

-- some more behind all
added_append : (skip : Option Event) (events others : List Event) (before mid after : List Event) → AreAllAdded skip events before mid → AreAllAdded skip others mid after →
    AreAllAdded skip (events ++ others) before after
added_append skip [] others before mid after h k = subst (λ m. AreAllAdded skip others m after) h k
added_append skip (f ∷ events) others before mid after h k = (h.0, h.1, added_append skip events others h.0 mid after h.2 k)

-- one more choice
pub choice_added : (skip : Option Event) (t : ℕ) (c : Choice) (cs : List Choice) (before mid after : List Event) → AreAllAdded skip (map (D t) (filter_map delay_number cs)) before mid →
    AreAllAdded skip (map (D t) (filter_map delay_number (c ∷ []))) mid after → AreAllAdded skip (map (D t) (filter_map delay_number (cs ++ c ∷ []))) before after
choice_added skip t c cs before mid after h added =
    subst (λ es. AreAllAdded skip es before after) (sym (ap (map (D t)) (filter_map-append delay_number cs (c ∷ [])) ∙ map-append (D t) (filter_map delay_number cs) (filter_map delay_number (c ∷ []))))
    (added_append skip (map (D t) (filter_map delay_number cs)) (map (D t) (filter_map delay_number (c ∷ []))) before mid after h added)

-- ---- one task

-- f is the delay of t with one of these numbers
IsDelayOf : ℕ → List ℕ → Event → Type 0
IsDelayOf t [] f = ⊥
IsDelayOf t (k ∷ ks) f = (D t k ≡ f) ⊎ IsDelayOf t ks f

-- each of these numbers passes the test
AllPass : (ℕ → Type 0) → List ℕ → Type 0
AllPass P [] = Unit {0}
AllPass P (k ∷ ks) = P k × AllPass P ks

to_right : (P Q U : Type 0) → (P ⊎ Q) ⊎ U → P ⊎ (Q ⊎ U)
to_right P Q U (inl (inl a)) = inl a
to_right P Q U (inl (inr b)) = inr (inl b)
to_right P Q U (inr c) = inr (inr c)

to_left : (P Q U : Type 0) → P ⊎ (Q ⊎ U) → (P ⊎ Q) ⊎ U
to_left P Q U (inl a) = inl (inl a)
to_left P Q U (inr (inl b)) = inl (inr b)
to_left P Q U (inr (inr c)) = inr c

delay_is : (t : ℕ) (ks : List ℕ) (f : Event) → IsDelayOf t ks f → (letter_of f ≡ 3) × (actor_of f ≡ t)
unfolding IsDelayOf
delay_is t [] f h = absurd h
delay_is t (k ∷ ks) f (inl q) = (ap letter_of (sym q), ap actor_of (sym q))
delay_is t (k ∷ ks) f (inr h) = delay_is t ks f h

-- ---- the choices

-- the delays among choices that stand in a whole wait
delays_pass : (whole cs : List Choice) → ((k : ℕ) → list_any (is_delay k) cs ≡ true → list_any (is_delay k) whole ≡ true) →
    AllPass (λ k. list_any (is_delay k) whole ≡ true) (filter_map delay_number cs)
unfolding AllPass
delays_pass whole [] within = tt
delays_pass whole (choice.Accept e i ∷ cs) within = delays_pass whole cs (λ k h. within k h)
delays_pass whole (choice.Else ∷ cs) within = delays_pass whole cs (λ k h. within k h)
delays_pass whole (choice.Delay n ∷ cs) within = (
  within n (or_left (n == n) (list_any (is_delay n) cs) (equal_self n)),
  delays_pass whole cs (λ k h. within k (or_right (k == n) (list_any (is_delay k) cs) h)),
)
delays_pass whole (choice.Terminate ∷ cs) within = delays_pass whole cs (λ k h. within k h)

-- and each delay is among them
delay_among : (t k : ℕ) (cs : List Choice) → list_any (is_delay k) cs ≡ true → IsDelayOf t (filter_map delay_number cs) (D t k)
unfolding IsDelayOf
delay_among t k [] h = absurd (true≢false (sym h))
delay_among t k (choice.Accept e i ∷ cs) h = delay_among t k cs h
delay_among t k (choice.Else ∷ cs) h = delay_among t k cs h
delay_among t k (choice.Terminate ∷ cs) h = delay_among t k cs h
delay_among t k (choice.Delay n ∷ cs) h = next (or_cases (k == n) (list_any (is_delay k) cs) h) (delay_among t k cs)
  where
    next : ((k == n) ≡ true) ⊎ (list_any (is_delay k) cs ≡ true) → (list_any (is_delay k) cs ≡ true → IsDelayOf t (filter_map delay_number cs) (D t k)) →
        (D t n ≡ D t k) ⊎ IsDelayOf t (filter_map delay_number cs) (D t k)
    next (inl q) later = inl (ap (λ m. D t m) (sym (eqb-true k n q)))
    next (inr q) later = inr (later q)

offered_pass : (o : Offer) → AllPass (λ k. waits_with (is_delay k) o ≡ true) (delays_in o)
unfolding AllPass
offered_pass Nothing = tt
offered_pass (Calls form e i) = tt
offered_pass (Waits choices) = delays_pass choices choices (λ k h. h)
offered_pass Finishes = tt
offered_pass Ends = tt
offered_pass (Aborts x) = tt

offered_among : (t k : ℕ) (o : Offer) → waits_with (is_delay k) o ≡ true → IsDelayOf t (delays_in o) (D t k)
offered_among t k Nothing h = absurd (true≢false (sym h))
offered_among t k (Calls form e i) h = absurd (true≢false (sym h))
offered_among t k (Waits choices) h = delay_among t k choices h
offered_among t k Finishes h = absurd (true≢false (sym h))
offered_among t k Ends h = absurd (true≢false (sym h))
offered_among t k (Aborts x) h = absurd (true≢false (sym h))

module _ (numbers : Numbering) (views : ℕ → View) (skip : Option Event) (t : ℕ) where
  abbrev Holds : Event → Type 0
  Holds e = all_hold numbers views e ≡ true

  -- all these delays are past
  delays_past : (ks : List ℕ) (least : ℕ) (P : Event → Type 0) (before after : List Event) → Rises least ks → AllPass (λ k. Holds (D t k)) ks →
      ((k : ℕ) (f : Event) → least < k → P f → event_cmp f (D t k) ≡ Less) → AreAllAdded skip (map (λ k. D t k) ks) before after →
      AreFoundOf P numbers views skip before → AreFoundOf (λ f. P f ⊎ IsDelayOf t ks f) numbers views skip after
  unfolding IsDelayOf AllPass
  delays_past [] least P before after rises pass less added h =
      found_same numbers views skip P (λ f. P f ⊎ ⊥) after (λ e holds p. inl p) (λ e holds (p : P e ⊎ ⊥). ⊎_elim (λ (q : P e). q) (λ (q : ⊥). absurd q) p)
      (subst (AreFoundOf P numbers views skip) (sym added) h)
  delays_past (k ∷ ks) least P before after rises pass less added h =
      let mid : List Event = added.0 in
      let one : AreFoundOf (λ f. P f ⊎ (D t k ≡ f)) numbers views skip mid = found_more numbers views skip P (D t k) before mid pass.0 (λ f p. less k f rises.0 p) added.1 h in
      let more : AreFoundOf (λ f. (P f ⊎ (D t k ≡ f)) ⊎ IsDelayOf t ks f) numbers views skip after =
      delays_past ks k (λ f. P f ⊎ (D t k ≡ f)) mid after rises.1 pass.1
      (λ l f above (p : P f ⊎ (D t k ≡ f)). ⊎_elim
      (λ (q : P f). less l f (let low : least < k = rises.0 in omega arith) q)
      (λ (q : D t k ≡ f). ap (λ e. event_cmp e (D t l)) (sym q) ∙ delay_less t k l above)
      p)
      added.2 one in
      found_same numbers views skip (λ f. (P f ⊎ (D t k ≡ f)) ⊎ IsDelayOf t ks f) (λ f. P f ⊎ ((D t k ≡ f) ⊎ IsDelayOf t ks f)) after
      (λ e holds p. to_right (P e) (D t k ≡ e) (IsDelayOf t ks e) p) (λ e holds p. to_left (P e) (D t k ≡ e) (IsDelayOf t ks e) p) more

  the_delay : (f : Event) → letter_of f ≡ 3 → actor_of f ≡ t → (k : ℕ) × (f ≡ D t k)
  the_delay (D a d) h k = (d, ap (λ n. D n d) k)
  the_delay (R c e i) h k = absurd (omega arith)
  the_delay (E a) h k = absurd (omega arith)
  the_delay (S a) h k = absurd (omega arith)
  the_delay (C c e i) h k = absurd (omega arith)
  the_delay (T c e i) h k = absurd (omega arith)
  the_delay (F c e i) h k = absurd (omega arith)
  the_delay (X a) h k = absurd (omega arith)
  the_delay (B u y) h k = absurd (omega arith)
  the_delay Z h k = absurd (omega arith)

  all_hold_there : (ks : List ℕ) → AllPass (λ k. waits_with (is_delay k) (offer_seen (views t)) ≡ true) ks → AllPass (λ k. Holds (D t k)) ks
  unfolding AllPass
  all_hold_there [] h = tt
  all_hold_there (k ∷ ks) h = (holds_D numbers views t k ∙ h.0, all_hold_there ks h.1)

  -- The delays of the task are past, and so is the task.
  pub found_delays : (before after : List Event) → Rises 0 (delays_in (offer_seen (views t))) → AreAllAdded skip (map (λ k. D t k) (delays_in (offer_seen (views t)))) before after →
      AreFound numbers views skip 3 t before → AreFound numbers views skip 3 (t + 1) after
  found_delays before after rises added h =
      found_same numbers views skip (λ f. HasPassed 3 t f ⊎ IsDelayOf t (delays_in (offer_seen (views t))) f) (HasPassed 3 (t + 1)) after
      (λ f holds p. ⊎_elim
      (λ (q : HasPassed 3 t f). past_there numbers views skip 3 t f q)
      (λ (q : IsDelayOf t (delays_in (offer_seen (views t))) f). let k = delay_is t (delays_in (offer_seen (views t))) f q in past_here numbers views skip 3 t f k.0 k.1)
      p)
      (λ f holds p. ⊎_elim
      (λ (q : HasPassed 3 t f). inl q)
      (λ (q : (letter_of f ≡ 3) × (actor_of f ≡ t)). let (k, is) = the_delay f q.0 q.1 in
      inr (subst (IsDelayOf t (delays_in (offer_seen (views t)))) (sym is) (offered_among t k (offer_seen (views t)) (sym (holds_D numbers views t k) ∙ ap (all_hold numbers views) (sym is) ∙ holds))))
      (past_back numbers views skip 3 t f p))
      (delays_past (delays_in (offer_seen (views t))) 0 (HasPassed 3 t) before after rises (all_hold_there (delays_in (offer_seen (views t))) (offered_pass (offer_seen (views t))))
      (λ k f above p. past_less numbers views skip 3 t (D t k) f refl refl p) added h)
