-- What is proposed of a letter and a task is the one event of both whose conditions hold.
use Rattle.std.proofs.Common.{◌≡◌, ◌↔◌, ℕ, ℤ, Bool, true, false, not, ◌&&◌, ◌==◌, refl, sym, ap, ◌∙◌, subst, true≢false, arith, Option, Some, None}
use Rattle.std.specs.Prelude.{option_map}
use Rattle.std.proofs.lemmas.Bool.{and_parts, eqb-true}
use Rattle.event_machine.specs.declared.CallForm.{CallForm}
use Rattle.event_machine.specs.declared.Event.{Event}
use Rattle.event_machine.specs.declared.Event.TheVariants as event
use Rattle.event_machine.specs.Offers.{Offer, Nothing, Calls, Waits, Finishes, Ends, Aborts, calls_in, same_member, is_any_form, is_conditional, is_timed, waits_with, is_else, is_finish, is_end, aborted_by}
use Rattle.event_machine.specs.Worlds.{aborts}
use Rattle.event_machine.proofs.Basics.{same_member-refl, same_member-true, some_path, none_some}
use Rattle.common_lemmas.proofs.Numbers.{equal_self}
use Rattle.syn_event.specs.Numbering.{Numbering}
use Rattle.task_machine.specs.Conditions.{all_hold}
use Rattle.task_machine.specs.Views.{View}
use Rattle.race_variant.specs.Variants.{letter_of}
use Rattle.race_variant.specs.declared.proposing.Letter.{Letter}
use Rattle.race_variant.specs.declared.proposing.Letter.TheVariants.{R, E, S, D, C, T, F, X, B, Z}
use Rattle.race_variant.specs.inner.Passing.{actor_of, offer_seen}
use Rattle.race_variant.specs.inner.Proposing.{place_of, only_if, with_call, is_awaited, is_gone, others_can_end, proposed}
use Rattle.race_variant.proofs.Offers.{holds_R, holds_E, holds_S, holds_C, holds_T, holds_F, holds_X, holds_B, holds_Z}

if_some : (b : Bool) (x e : Event) → only_if b x ≡ Some e → (b ≡ true) × (x ≡ e)
if_some true x e h = (refl, some_path h)
if_some false x e h = absurd (none_some h)

some_if : (b : Bool) (x : Event) → b ≡ true → only_if b x ≡ Some x
some_if b x h = ap (λ c. only_if c x) h

module _ (numbers : Numbering) (views : ℕ → View) where
  abbrev offer : ℕ → Offer
  offer t = offer_seen (views t)

  -- the event is of this letter and this task, and its conditions hold
  abbrev Is : ℕ → ℕ → Event → Type 0
  Is l t e = (all_hold numbers views e ≡ true) × (letter_of e ≡ l) × (actor_of e ≡ t)

  -- an event of its own, with its condition
  own : (l t : ℕ) (b : Bool) (x : Event) → all_hold numbers views x ≡ b → (letter_of x ≡ l) × (actor_of x ≡ t) → ((e : Event) → letter_of e ≡ l → actor_of e ≡ t → x ≡ e) →
      (e : Event) → (only_if b x ≡ Some e) ↔ Is l t e
  own l t b x holds at is e = (
    λ h. let k = if_some b x e h in subst (Is l t) k.1 (holds ∙ k.0, at.0, at.1),
    λ (h : Is l t e). let same : x ≡ e = is e h.1 h.2 in subst (λ y. only_if b x ≡ Some y) same (some_if b x (sym holds ∙ ap (all_hold numbers views) same ∙ h.0)),
  )

  -- a call, with the condition on the owner
  module _ (l t : ℕ) (test : CallForm → Bool) (rest : ℕ → ℤ → Bool) (make : ℕ → ℤ → Event)
      (holds : (e : ℕ) (i : ℤ) → all_hold numbers views (make e i) ≡ (calls_in test e i (offer t) && rest e i))
      (at : (e : ℕ) (i : ℤ) → (letter_of (make e i) ≡ l) × (actor_of (make e i) ≡ t))
      (is : (x : Event) → letter_of x ≡ l → actor_of x ≡ t → (e : ℕ) × (i : ℤ) × (x ≡ make e i)) where
    -- no call
    none : (o : Offer) → offer t ≡ o → ((e : ℕ) (i : ℤ) → calls_in test e i o ≡ false) → (x : Event) → ◌≡◌ {A = Option Event} None (Some x) ↔ Is l t x
    none o same off x = (
      λ h. absurd (none_some h),
      λ (h : Is l t x). let (e, i, k) = is x h.1 h.2 in
          absurd (true≢false (sym (and_parts (calls_in test e i (offer t)) (rest e i) (sym (holds e i) ∙ ap (all_hold numbers views) (sym k) ∙ h.0)).0 ∙ ap (calls_in test e i) same ∙ off e i)),
    )

    some : (form : CallForm) (f : ℕ) (j : ℤ) → offer t ≡ Calls form f j → (x : Event) → (only_if (test form && rest f j) (make f j) ≡ Some x) ↔ Is l t x
    some form f j same x = (
      λ h. let k = if_some (test form && rest f j) (make f j) x h in subst (Is l t) k.1 (there k.0, (at f j).0, (at f j).1),
      λ (h : Is l t x). let (e, i, k) = is x h.1 h.2 in back e i k (sym (holds e i) ∙ ap (all_hold numbers views) (sym k) ∙ h.0),
    )
      where
        there : (test form && rest f j) ≡ true → all_hold numbers views (make f j) ≡ true
        there h =
            let k = and_parts (test form) (rest f j) h in
            holds f j ∙ ap (λ o. calls_in test f j o && rest f j) same ∙ ap (λ b. (b && same_member f j f j) && rest f j) k.0 ∙ ap (λ b. b && rest f j) (same_member-refl f j) ∙ k.1

        back : (e : ℕ) (i : ℤ) → x ≡ make e i → (calls_in test e i (offer t) && rest e i) ≡ true → only_if (test form && rest f j) (make f j) ≡ Some x
        back e i k h =
            let parts = and_parts (calls_in test e i (offer t)) (rest e i) h in
            let both = and_parts (test form) (same_member e i f j) (sym (ap (calls_in test e i) same) ∙ parts.0) in
            let member = same_member-true e f i j both.1 in
            let here : rest f j ≡ true = ap (λ n. rest n j) (sym member.0) ∙ ap (rest e) (sym member.1) ∙ parts.1 in
            let both' : (test form && rest f j) ≡ true = ap (λ b. b && rest f j) both.0 ∙ here in
            some_if (test form && rest f j) (make f j) both' ∙ ap (λ y. Some y) (ap (λ n. make n j) (sym member.0) ∙ ap (make e) (sym member.1) ∙ sym k)

    call_only : (o : Offer) → offer t ≡ o → (x : Event) → (with_call test rest make o ≡ Some x) ↔ Is l t x
    call_only Nothing same x = none Nothing same (λ e i. refl) x
    call_only (Calls form f j) same x = some form f j same x
    call_only (Waits choices) same x = none (Waits choices) same (λ e i. refl) x
    call_only Finishes same x = none Finishes same (λ e i. refl) x
    call_only Ends same x = none Ends same (λ e i. refl) x
    call_only (Aborts y) same x = none (Aborts y) same (λ e i. refl) x

  -- ---- events by their letters

  is_R : (t : ℕ) (x : Event) → letter_of x ≡ 0 → actor_of x ≡ t → (e : ℕ) × (i : ℤ) × (x ≡ event.R t e i)
  is_R t (event.R c e i) h k = (e, i, ap (λ n. event.R n e i) k)
  is_R t (event.E a) h k = absurd (omega arith)
  is_R t (event.S a) h k = absurd (omega arith)
  is_R t (event.D a d) h k = absurd (omega arith)
  is_R t (event.C c e i) h k = absurd (omega arith)
  is_R t (event.T c e i) h k = absurd (omega arith)
  is_R t (event.F c e i) h k = absurd (omega arith)
  is_R t (event.X a) h k = absurd (omega arith)
  is_R t (event.B u y) h k = absurd (omega arith)
  is_R t event.Z h k = absurd (omega arith)

  is_C : (t : ℕ) (x : Event) → letter_of x ≡ 4 → actor_of x ≡ t → (e : ℕ) × (i : ℤ) × (x ≡ event.C t e i)
  is_C t (event.C c e i) h k = (e, i, ap (λ n. event.C n e i) k)
  is_C t (event.R c e i) h k = absurd (omega arith)
  is_C t (event.E a) h k = absurd (omega arith)
  is_C t (event.S a) h k = absurd (omega arith)
  is_C t (event.D a d) h k = absurd (omega arith)
  is_C t (event.T c e i) h k = absurd (omega arith)
  is_C t (event.F c e i) h k = absurd (omega arith)
  is_C t (event.X a) h k = absurd (omega arith)
  is_C t (event.B u y) h k = absurd (omega arith)
  is_C t event.Z h k = absurd (omega arith)

  is_T : (t : ℕ) (x : Event) → letter_of x ≡ 5 → actor_of x ≡ t → (e : ℕ) × (i : ℤ) × (x ≡ event.T t e i)
  is_T t (event.T c e i) h k = (e, i, ap (λ n. event.T n e i) k)
  is_T t (event.R c e i) h k = absurd (omega arith)
  is_T t (event.E a) h k = absurd (omega arith)
  is_T t (event.S a) h k = absurd (omega arith)
  is_T t (event.D a d) h k = absurd (omega arith)
  is_T t (event.C c e i) h k = absurd (omega arith)
  is_T t (event.F c e i) h k = absurd (omega arith)
  is_T t (event.X a) h k = absurd (omega arith)
  is_T t (event.B u y) h k = absurd (omega arith)
  is_T t event.Z h k = absurd (omega arith)

  is_F : (t : ℕ) (x : Event) → letter_of x ≡ 6 → actor_of x ≡ t → (e : ℕ) × (i : ℤ) × (x ≡ event.F t e i)
  is_F t (event.F c e i) h k = (e, i, ap (λ n. event.F n e i) k)
  is_F t (event.R c e i) h k = absurd (omega arith)
  is_F t (event.E a) h k = absurd (omega arith)
  is_F t (event.S a) h k = absurd (omega arith)
  is_F t (event.D a d) h k = absurd (omega arith)
  is_F t (event.C c e i) h k = absurd (omega arith)
  is_F t (event.T c e i) h k = absurd (omega arith)
  is_F t (event.X a) h k = absurd (omega arith)
  is_F t (event.B u y) h k = absurd (omega arith)
  is_F t event.Z h k = absurd (omega arith)

  is_E : (t : ℕ) (x : Event) → letter_of x ≡ 1 → actor_of x ≡ t → event.E t ≡ x
  is_E t (event.E a) h k = ap (λ n. event.E n) (sym k)
  is_E t (event.R c e i) h k = absurd (omega arith)
  is_E t (event.S a) h k = absurd (omega arith)
  is_E t (event.D a d) h k = absurd (omega arith)
  is_E t (event.C c e i) h k = absurd (omega arith)
  is_E t (event.T c e i) h k = absurd (omega arith)
  is_E t (event.F c e i) h k = absurd (omega arith)
  is_E t (event.X a) h k = absurd (omega arith)
  is_E t (event.B u y) h k = absurd (omega arith)
  is_E t event.Z h k = absurd (omega arith)

  is_S : (t : ℕ) (x : Event) → letter_of x ≡ 2 → actor_of x ≡ t → event.S t ≡ x
  is_S t (event.S a) h k = ap (λ n. event.S n) (sym k)
  is_S t (event.R c e i) h k = absurd (omega arith)
  is_S t (event.E a) h k = absurd (omega arith)
  is_S t (event.D a d) h k = absurd (omega arith)
  is_S t (event.C c e i) h k = absurd (omega arith)
  is_S t (event.T c e i) h k = absurd (omega arith)
  is_S t (event.F c e i) h k = absurd (omega arith)
  is_S t (event.X a) h k = absurd (omega arith)
  is_S t (event.B u y) h k = absurd (omega arith)
  is_S t event.Z h k = absurd (omega arith)

  is_X : (t : ℕ) (x : Event) → letter_of x ≡ 7 → actor_of x ≡ t → event.X t ≡ x
  is_X t (event.X a) h k = ap (λ n. event.X n) (sym k)
  is_X t (event.R c e i) h k = absurd (omega arith)
  is_X t (event.E a) h k = absurd (omega arith)
  is_X t (event.S a) h k = absurd (omega arith)
  is_X t (event.D a d) h k = absurd (omega arith)
  is_X t (event.C c e i) h k = absurd (omega arith)
  is_X t (event.T c e i) h k = absurd (omega arith)
  is_X t (event.F c e i) h k = absurd (omega arith)
  is_X t (event.B u y) h k = absurd (omega arith)
  is_X t event.Z h k = absurd (omega arith)

  is_B : (t : ℕ) (x : Event) → letter_of x ≡ 8 → actor_of x ≡ t → (y : ℕ) × (x ≡ event.B t y)
  is_B t (event.B u y) h k = (y, ap (λ n. event.B n y) k)
  is_B t (event.R c e i) h k = absurd (omega arith)
  is_B t (event.E a) h k = absurd (omega arith)
  is_B t (event.S a) h k = absurd (omega arith)
  is_B t (event.D a d) h k = absurd (omega arith)
  is_B t (event.C c e i) h k = absurd (omega arith)
  is_B t (event.T c e i) h k = absurd (omega arith)
  is_B t (event.F c e i) h k = absurd (omega arith)
  is_B t (event.X a) h k = absurd (omega arith)
  is_B t event.Z h k = absurd (omega arith)

  is_Z : (x : Event) → letter_of x ≡ 9 → event.Z ≡ x
  is_Z event.Z h = refl
  is_Z (event.R c e i) h = absurd (omega arith)
  is_Z (event.E a) h = absurd (omega arith)
  is_Z (event.S a) h = absurd (omega arith)
  is_Z (event.D a d) h = absurd (omega arith)
  is_Z (event.C c e i) h = absurd (omega arith)
  is_Z (event.T c e i) h = absurd (omega arith)
  is_Z (event.F c e i) h = absurd (omega arith)
  is_Z (event.X a) h = absurd (omega arith)
  is_Z (event.B u y) h = absurd (omega arith)

  abort_only : (t : ℕ) (o : Offer) → offer t ≡ o → (x : Event) → (option_map (event.B t) (aborted_by o) ≡ Some x) ↔ Is 8 t x
  abort_only t o same x = (λ h. there o same h, λ (h : Is 8 t x). let (y, k) = is_B t x h.1 h.2 in back o y k same (sym (holds_B numbers views t y) ∙ ap (all_hold numbers views) (sym k) ∙ h.0))
    where
      there : (o : Offer) → offer t ≡ o → option_map (event.B t) (aborted_by o) ≡ Some x → Is 8 t x
      there Nothing same h = absurd (none_some h)
      there (Calls form e i) same h = absurd (none_some h)
      there (Waits choices) same h = absurd (none_some h)
      there Finishes same h = absurd (none_some h)
      there Ends same h = absurd (none_some h)
      there (Aborts y) same h = subst (Is 8 t) (some_path h) (holds_B numbers views t y ∙ ap (aborts y) same ∙ equal_self y, refl, refl)

      back : (o : Offer) (y : ℕ) → x ≡ event.B t y → offer t ≡ o → aborts y (offer t) ≡ true → option_map (event.B t) (aborted_by o) ≡ Some x
      back Nothing y k same h = absurd (true≢false (sym h ∙ ap (aborts y) same))
      back (Calls form e i) y k same h = absurd (true≢false (sym h ∙ ap (aborts y) same))
      back (Waits choices) y k same h = absurd (true≢false (sym h ∙ ap (aborts y) same))
      back Finishes y k same h = absurd (true≢false (sym h ∙ ap (aborts y) same))
      back Ends y k same h = absurd (true≢false (sym h ∙ ap (aborts y) same))
      back (Aborts z) y k same h = ap (λ n. Some (event.B t n)) (sym (eqb-true y z (sym (ap (aborts y) same) ∙ h))) ∙ ap (λ e. Some e) (sym k)

  end_only : (t : ℕ) (x : Event) → (only_if ((t == 0) && (is_end (offer t) && others_can_end numbers views)) event.Z ≡ Some x) ↔ Is 9 t x
  end_only t x = (
    λ h. let k = if_some ((t == 0) && (is_end (offer t) && others_can_end numbers views)) event.Z x h in
        let parts = and_parts (t == 0) (is_end (offer t) && others_can_end numbers views) k.0 in
        let zero' : t ≡ 0 = eqb-true t 0 parts.0 in
        subst (Is 9 t) k.1 (holds_Z numbers views ∙ ap (λ n. is_end (offer n) && others_can_end numbers views) (sym zero') ∙ parts.1, refl, sym zero'),
    λ (h : Is 9 t x). let same : event.Z ≡ x = is_Z x h.1 in
        let zero' : t ≡ 0 = sym h.2 ∙ ap actor_of (sym same) in
        ap (λ n. only_if ((n == 0) && (is_end (offer n) && others_can_end numbers views)) event.Z) zero'
        ∙ some_if (is_end (offer 0) && others_can_end numbers views) event.Z (sym (holds_Z numbers views) ∙ ap (all_hold numbers views) same ∙ h.0)
        ∙ ap (λ e. Some e) same,
  )

  -- What is proposed is the one event of the letter and the task whose conditions hold.
  pub proposed_only : (letter : Letter) (t : ℕ) → (letter ≡ D → ⊥) → (x : Event) → (proposed numbers views letter t (offer t) ≡ Some x) ↔ Is (place_of letter) t x
  proposed_only R t other x = call_only 0 t is_any_form (is_awaited numbers views) (event.R t) (holds_R numbers views t) (λ e i. (refl, refl)) (is_R t) (offer t) refl x
  proposed_only E t other x = own 1 t (is_finish (offer t)) (event.E t) (holds_E numbers views t) (refl, refl) (is_E t) x
  proposed_only S t other x = own 2 t (waits_with is_else (offer t)) (event.S t) (holds_S numbers views t) (refl, refl) (is_S t) x
  proposed_only D t other x = absurd (other refl)
  proposed_only C t other x = call_only 4 t is_conditional (λ e i. not (is_gone numbers views e i)) (event.C t) (holds_C numbers views t) (λ e i. (refl, refl)) (is_C t) (offer t) refl x
  proposed_only T t other x = call_only 5 t is_timed (λ e i. not (is_gone numbers views e i)) (event.T t) (holds_T numbers views t) (λ e i. (refl, refl)) (is_T t) (offer t) refl x
  proposed_only F t other x = call_only 6 t is_any_form (is_gone numbers views) (event.F t) (holds_F numbers views t) (λ e i. (refl, refl)) (is_F t) (offer t) refl x
  proposed_only X t other x = own 7 t (not (t == 0) && is_end (offer t)) (event.X t) (holds_X numbers views t) (refl, refl) (is_X t) x
  proposed_only B t other x = abort_only t (offer t) refl x
  proposed_only Z t other x = end_only t x
