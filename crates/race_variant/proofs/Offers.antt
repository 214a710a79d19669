-- The conditions of events, asked of what tasks offer as they are seen.
use Rattle.std.proofs.Common.{◌≡◌, ℕ, ℤ, Bool, true, false, not, ◌&&◌, ◌==◌, refl, sym, ap, ◌∙◌, true≢false}
use Rattle.common_lemmas.proofs.Truth.{and_true}
use Rattle.std.proofs.lemmas.Bool.{and_parts}
use Rattle.event_machine.specs.declared.Event.{Event}
use Rattle.event_machine.specs.declared.Event.TheVariants.{R, E, S, D, C, T, F, X, B, Z}
use Rattle.event_machine.specs.Offers.{Offer, Nothing, calls_in, is_any_form, is_conditional, is_timed, waits_with, opens, is_else, is_delay, is_finish, is_end}
use Rattle.event_machine.specs.Worlds.{aborts}
use Rattle.syn_event.specs.Numbering.{Numbering, owner_of}
use Rattle.task_machine.specs.Conditions.{is_closed_view, is_served_view, is_at, all_hold, is_end_of}
use Rattle.task_machine.specs.Views.{View, Completed, Abnormal, Busy, At}
use Rattle.race_variant.specs.inner.Passing.{actor_of, offer_seen}
use Rattle.race_variant.specs.inner.Proposing.{is_awaited, is_gone, others_can_end}

-- a task acts where its offer passes the test
acts_seen : (v : View) (test : Offer → Bool) (rest : Bool) → test Nothing ≡ false →
    (not (is_closed_view v) && (not (is_served_view v) && (is_at test v && rest))) ≡ (test (offer_seen v) && rest)
acts_seen Completed test rest none = ap (λ b. b && rest) (sym none)
acts_seen Abnormal test rest none = ap (λ b. b && rest) (sym none)
acts_seen Busy test rest none = ap (λ b. b && rest) (sym none)
acts_seen (At offer) test rest none = refl

acts_alone : (v : View) (test : Offer → Bool) → test Nothing ≡ false →
    (not (is_closed_view v) && (not (is_served_view v) && (is_at test v && true))) ≡ test (offer_seen v)
acts_alone v test none = acts_seen v test true none ∙ and_true (test (offer_seen v))

-- the main program is at its end
ends_seen : (v : View) (rest : Bool) → (not (is_served_view v) && (is_at is_end v && rest)) ≡ (is_end (offer_seen v) && rest)
ends_seen Completed rest = refl
ends_seen Abnormal rest = refl
ends_seen Busy rest = refl
ends_seen (At offer) rest = refl

no_end_of : (a : ℕ) → is_end_of a Nothing ≡ false
no_end_of a = go (a == 0)
  where
    go : (b : Bool) → (not b && false) ≡ false
    go true = refl
    go false = refl

module _ (numbers : Numbering) (views : ℕ → View) where
  -- what a task offers, as it is seen
  abbrev pub offer : ℕ → Offer
  offer t = offer_seen (views t)

  pub holds_R : (c e : ℕ) (i : ℤ) → all_hold numbers views (R c e i) ≡ (calls_in is_any_form e i (offer c) && is_awaited numbers views e i)
  holds_R c e i = acts_seen (views c) (calls_in is_any_form e i) _ refl
      ∙ ap (λ b. calls_in is_any_form e i (offer c) && b) (acts_alone (views (owner_of numbers e)) (waits_with (opens e i)) refl)

  pub holds_E : (a : ℕ) → all_hold numbers views (E a) ≡ is_finish (offer a)
  holds_E a = acts_alone (views a) is_finish refl

  pub holds_S : (a : ℕ) → all_hold numbers views (S a) ≡ waits_with is_else (offer a)
  holds_S a = acts_alone (views a) (waits_with is_else) refl

  pub holds_D : (a k : ℕ) → all_hold numbers views (D a k) ≡ waits_with (is_delay k) (offer a)
  holds_D a k = acts_alone (views a) (waits_with (is_delay k)) refl

  pub holds_C : (c e : ℕ) (i : ℤ) → all_hold numbers views (C c e i) ≡ (calls_in is_conditional e i (offer c) && not (is_gone numbers views e i))
  holds_C c e i = acts_seen (views c) (calls_in is_conditional e i) _ refl
      ∙ ap (λ b. calls_in is_conditional e i (offer c) && b) (and_true (not (is_gone numbers views e i)))

  pub holds_T : (c e : ℕ) (i : ℤ) → all_hold numbers views (T c e i) ≡ (calls_in is_timed e i (offer c) && not (is_gone numbers views e i))
  holds_T c e i = acts_seen (views c) (calls_in is_timed e i) _ refl
      ∙ ap (λ b. calls_in is_timed e i (offer c) && b) (and_true (not (is_gone numbers views e i)))

  pub holds_F : (c e : ℕ) (i : ℤ) → all_hold numbers views (F c e i) ≡ (calls_in is_any_form e i (offer c) && is_gone numbers views e i)
  holds_F c e i = acts_seen (views c) (calls_in is_any_form e i) _ refl
      ∙ ap (λ b. calls_in is_any_form e i (offer c) && b) (and_true (is_gone numbers views e i))

  pub holds_X : (a : ℕ) → all_hold numbers views (X a) ≡ (not (a == 0) && is_end (offer a))
  holds_X a = acts_alone (views a) (is_end_of a) (no_end_of a)

  pub holds_B : (t x : ℕ) → all_hold numbers views (B t x) ≡ aborts x (offer t)
  holds_B t x = acts_alone (views t) (aborts x) refl

  pub holds_Z : all_hold numbers views Z ≡ (is_end (offer 0) && others_can_end numbers views)
  holds_Z = ends_seen (views 0) (others_can_end numbers views)

  passes_some : (test : Offer → Bool) (t : ℕ) → test Nothing ≡ false → test (offer t) ≡ true → offer t ≡ Nothing → ⊥
  passes_some test t none h k = true≢false (sym h ∙ ap test k ∙ none)

  first_part : (a b : Bool) → (a && b) ≡ true → a ≡ true
  first_part a b h = (and_parts a b h).0

  -- The task that acts offers something.
  pub acting : (e : Event) → all_hold numbers views e ≡ true → offer (actor_of e) ≡ Nothing → ⊥
  acting (R c e i) h = passes_some (calls_in is_any_form e i) c refl (first_part _ _ (sym (holds_R c e i) ∙ h))
  acting (E a) h = passes_some is_finish a refl (sym (holds_E a) ∙ h)
  acting (S a) h = passes_some (waits_with is_else) a refl (sym (holds_S a) ∙ h)
  acting (D a k) h = passes_some (waits_with (is_delay k)) a refl (sym (holds_D a k) ∙ h)
  acting (C c e i) h = passes_some (calls_in is_conditional e i) c refl (first_part _ _ (sym (holds_C c e i) ∙ h))
  acting (T c e i) h = passes_some (calls_in is_timed e i) c refl (first_part _ _ (sym (holds_T c e i) ∙ h))
  acting (F c e i) h = passes_some (calls_in is_any_form e i) c refl (first_part _ _ (sym (holds_F c e i) ∙ h))
  acting (X a) h = passes_some is_end a refl (and_parts (not (a == 0)) _ (sym (holds_X a) ∙ h)).1
  acting (B t x) h = passes_some (aborts x) t refl (sym (holds_B t x) ∙ h)
  acting Z h = passes_some is_end 0 refl (first_part _ _ (sym holds_Z ∙ h))

  -- The owner of the entry at which a rendezvous starts does, too.
  pub accepting : (c e : ℕ) (i : ℤ) → all_hold numbers views (R c e i) ≡ true → offer (owner_of numbers e) ≡ Nothing → ⊥
  accepting c e i h = passes_some (waits_with (opens e i)) (owner_of numbers e) refl (and_parts (calls_in is_any_form e i (offer c)) _ (sym (holds_R c e i) ∙ h)).1
