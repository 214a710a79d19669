-- What a task that uses its permit offers: each test on its offer tells which permit it has.
use Rattle.std.proofs.Common.{◌≡◌, ℕ, Bool, true, false, not, ◌||◌, ◌==◌, if◌then◌else◌, [], ◌∷◌, refl, sym, ap, ◌∙◌, true≢false, inl, inr, ◌⊎◌}
use Rattle.std.specs.Prelude.{ℤ, pos}
use Rattle.std.proofs.lemmas.Bool.{eqb-true, and_parts}
use Rattle.event_machine.specs.declared.CallForm.{CallForm}
use Rattle.event_machine.specs.declared.CallForm.TheVariants.{Plain, Conditional, Timed}
use Rattle.event_machine.specs.declared.Choice.TheVariants.{Accept, Terminate}
use Rattle.event_machine.specs.Offers.{Offer, Calls, Waits, Ends, calls_in, is_any_form, is_conditional, is_timed, waits_with, is_finish, is_end, opens, is_else, is_delay, is_terminate}
use Rattle.event_machine.specs.Worlds.{aborts}
use Rattle.event_machine.proofs.Basics.{same_member-true}
use Rattle.run_laws.specs.replaying.Permits.{Permit, ToMeet, ToFinish, ToElse, ToDelay, ToCallElse, ToExpire, ToFail, ToEnd, ToAbort, ToClose, wants}
use Rattle.run_laws.specs.replaying.Copies.{Spots, shows}
use Rattle.common_lemmas.proofs.Truth.{not_true}

-- one of the two parts of an `or` whose second part is false
first_part : (a b : Bool) → (a || b) ≡ true → b ≡ false → a ≡ true
first_part true b h k = refl
first_part false b h k = absurd (true≢false (sym h ∙ k))

module _ (n : Spots) (t : ℕ) (offer : Offer) where
  -- the permit for a call that is offered
  pub data CallsBy (e : ℕ) (i : ℤ) (test : CallForm → Bool) (permit : Permit) : Type 0 where
    MeetCall : (f : ℕ) → permit ≡ ToMeet f i → e ≡ n.original f → calls_in is_any_form f i offer ≡ true → test Plain ≡ true → CallsBy e i test permit
    ElseCall : (f : ℕ) → permit ≡ ToCallElse f i → e ≡ n.shadow f → calls_in is_conditional f i offer ≡ true → test Conditional ≡ true → CallsBy e i test permit
    ExpireCall : (f : ℕ) → permit ≡ ToExpire f i → e ≡ n.shadow f → calls_in is_timed f i offer ≡ true → test Timed ≡ true → CallsBy e i test permit
    FailCall : (f : ℕ) → permit ≡ ToFail f i → e ≡ n.shadow f → calls_in is_any_form f i offer ≡ true → test Plain ≡ true → CallsBy e i test permit

  meet_call : (e : ℕ) (i : ℤ) (test : CallForm → Bool) (f : ℕ) (j : ℤ) (b : Bool) → calls_in is_any_form f j offer ≡ b →
      calls_in test e i (if b then Calls Plain (n.original f) j else Waits (Accept (n.original f) j ∷ [])) ≡ true → CallsBy e i test (ToMeet f j)
  meet_call e i test f j true q h =
      let k = same_member-true e (n.original f) i j (and_parts (test Plain) _ h).1 in
      MeetCall f (ap (λ v. ToMeet f v) (sym k.1)) k.0 (ap (λ v. calls_in is_any_form f v offer) k.1 ∙ q) (and_parts (test Plain) _ h).0
  meet_call e i test f j false q h = absurd (true≢false (sym h))

  pub calls_by : (e : ℕ) (i : ℤ) (test : CallForm → Bool) (permit : Permit) → wants t permit offer ≡ true → calls_in test e i (shows n t permit offer) ≡ true → CallsBy e i test permit
  calls_by e i test (ToMeet f j) w h = meet_call e i test f j (calls_in is_any_form f j offer) refl h
  calls_by e i test ToFinish w h = absurd (true≢false (sym h))
  calls_by e i test ToElse w h = absurd (true≢false (sym h))
  calls_by e i test (ToDelay d) w h = absurd (true≢false (sym h))
  calls_by e i test (ToCallElse f j) w h =
      let k = same_member-true e (n.shadow f) i j (and_parts (test Conditional) _ h).1 in
      ElseCall f (ap (λ v. ToCallElse f v) (sym k.1)) k.0 (ap (λ v. calls_in is_conditional f v offer) k.1 ∙ w) (and_parts (test Conditional) _ h).0
  calls_by e i test (ToExpire f j) w h =
      let k = same_member-true e (n.shadow f) i j (and_parts (test Timed) _ h).1 in
      ExpireCall f (ap (λ v. ToExpire f v) (sym k.1)) k.0 (ap (λ v. calls_in is_timed f v offer) k.1 ∙ w) (and_parts (test Timed) _ h).0
  calls_by e i test (ToFail f j) w h =
      let k = same_member-true e (n.shadow f) i j (and_parts (test Plain) _ h).1 in
      FailCall f (ap (λ v. ToFail f v) (sym k.1)) k.0 (ap (λ v. calls_in is_any_form f v offer) k.1 ∙ w) (and_parts (test Plain) _ h).0
  calls_by e i test ToEnd w h = absurd (true≢false (sym h))
  calls_by e i test (ToAbort v) w h = absurd (true≢false (sym h))
  calls_by e i test ToClose w h = go (t == 0) h
    where
      go : (b : Bool) → calls_in test e i (if b then Ends else Waits (Accept (n.never t) (pos 0) ∷ Terminate ∷ [])) ≡ true → CallsBy e i test ToClose
      go true h = absurd (true≢false (sym h))
      go false h = absurd (true≢false (sym h))

  -- the permit for an accept that is offered: it is the original's, or one that nobody calls
  pub data OpensBy (e : ℕ) (i : ℤ) (permit : Permit) : Type 0 where
    MeetOpens : (f : ℕ) → permit ≡ ToMeet f i → e ≡ n.original f → waits_with (opens f i) offer ≡ true → OpensBy e i permit
    NeverOpens : e ≡ n.never t → OpensBy e i permit

  meet_opens : (e : ℕ) (i : ℤ) (f : ℕ) (j : ℤ) (b : Bool) → calls_in is_any_form f j offer ≡ b → (b || waits_with (opens f j) offer) ≡ true →
      waits_with (opens e i) (if b then Calls Plain (n.original f) j else Waits (Accept (n.original f) j ∷ [])) ≡ true → OpensBy e i (ToMeet f j)
  meet_opens e i f j true q w h = absurd (true≢false (sym h))
  meet_opens e i f j false q w h =
      let k = same_member-true e (n.original f) i j (first_part (opens e i (Accept (n.original f) j)) false h refl) in
      MeetOpens f (ap (λ v. ToMeet f v) (sym k.1)) k.0 (ap (λ v. waits_with (opens f v) offer) k.1 ∙ w)

  never_opens : (e : ℕ) (i : ℤ) (b : Bool) → (opens e i (Accept (n.never t) (pos 0)) || (b || false)) ≡ true → b ≡ false → e ≡ n.never t
  never_opens e i b h q = (same_member-true e (n.never t) i (pos 0) (first_part (opens e i (Accept (n.never t) (pos 0))) (b || false) h (ap (λ c. c || false) q))).0

  pub opens_by : (e : ℕ) (i : ℤ) (permit : Permit) → wants t permit offer ≡ true → waits_with (opens e i) (shows n t permit offer) ≡ true → OpensBy e i permit
  opens_by e i (ToMeet f j) w h = meet_opens e i f j (calls_in is_any_form f j offer) refl w h
  opens_by e i ToFinish w h = absurd (true≢false (sym h))
  opens_by e i ToElse w h = NeverOpens (never_opens e i false h refl)
  opens_by e i (ToDelay d) w h = NeverOpens (never_opens e i false h refl)
  opens_by e i (ToCallElse f j) w h = absurd (true≢false (sym h))
  opens_by e i (ToExpire f j) w h = absurd (true≢false (sym h))
  opens_by e i (ToFail f j) w h = absurd (true≢false (sym h))
  opens_by e i ToEnd w h = absurd (true≢false (sym h))
  opens_by e i (ToAbort v) w h = absurd (true≢false (sym h))
  opens_by e i ToClose w h = go (t == 0) h
    where
      go : (b : Bool) → waits_with (opens e i) (if b then Ends else Waits (Accept (n.never t) (pos 0) ∷ Terminate ∷ [])) ≡ true → OpensBy e i ToClose
      go true h = absurd (true≢false (sym h))
      go false h = NeverOpens (never_opens e i false h refl)

  pub finishes_by : (permit : Permit) → wants t permit offer ≡ true → is_finish (shows n t permit offer) ≡ true → (permit ≡ ToFinish) × (is_finish offer ≡ true)
  finishes_by (ToMeet f j) w h = go (calls_in is_any_form f j offer) h
    where
      go : (b : Bool) → is_finish (if b then Calls Plain (n.original f) j else Waits (Accept (n.original f) j ∷ [])) ≡ true → ((ToMeet f j) ≡ ToFinish) × (is_finish offer ≡ true)
      go true h = absurd (true≢false (sym h))
      go false h = absurd (true≢false (sym h))
  finishes_by ToFinish w h = (refl, w)
  finishes_by ToElse w h = absurd (true≢false (sym h))
  finishes_by (ToDelay d) w h = absurd (true≢false (sym h))
  finishes_by (ToCallElse f j) w h = absurd (true≢false (sym h))
  finishes_by (ToExpire f j) w h = absurd (true≢false (sym h))
  finishes_by (ToFail f j) w h = absurd (true≢false (sym h))
  finishes_by ToEnd w h = absurd (true≢false (sym h))
  finishes_by (ToAbort v) w h = absurd (true≢false (sym h))
  finishes_by ToClose w h = go (t == 0) h
    where
      go : (b : Bool) → is_finish (if b then Ends else Waits (Accept (n.never t) (pos 0) ∷ Terminate ∷ [])) ≡ true → (ToClose ≡ ToFinish) × (is_finish offer ≡ true)
      go true h = absurd (true≢false (sym h))
      go false h = absurd (true≢false (sym h))

  pub else_by : (permit : Permit) → wants t permit offer ≡ true → waits_with is_else (shows n t permit offer) ≡ true → (permit ≡ ToElse) × (waits_with is_else offer ≡ true)
  else_by (ToMeet f j) w h = go (calls_in is_any_form f j offer) h
    where
      go : (b : Bool) → waits_with is_else (if b then Calls Plain (n.original f) j else Waits (Accept (n.original f) j ∷ [])) ≡ true → ((ToMeet f j) ≡ ToElse) × (waits_with is_else offer ≡ true)
      go true h = absurd (true≢false (sym h))
      go false h = absurd (true≢false (sym h))
  else_by ToFinish w h = absurd (true≢false (sym h))
  else_by ToElse w h = (refl, w)
  else_by (ToDelay d) w h = absurd (true≢false (sym h))
  else_by (ToCallElse f j) w h = absurd (true≢false (sym h))
  else_by (ToExpire f j) w h = absurd (true≢false (sym h))
  else_by (ToFail f j) w h = absurd (true≢false (sym h))
  else_by ToEnd w h = absurd (true≢false (sym h))
  else_by (ToAbort v) w h = absurd (true≢false (sym h))
  else_by ToClose w h = go (t == 0) h
    where
      go : (b : Bool) → waits_with is_else (if b then Ends else Waits (Accept (n.never t) (pos 0) ∷ Terminate ∷ [])) ≡ true → (ToClose ≡ ToElse) × (waits_with is_else offer ≡ true)
      go true h = absurd (true≢false (sym h))
      go false h = absurd (true≢false (sym h))

  pub aborts_by : (u : ℕ) (permit : Permit) → wants t permit offer ≡ true → aborts u (shows n t permit offer) ≡ true → (permit ≡ ToAbort u) × (aborts u offer ≡ true)
  aborts_by u (ToMeet f j) w h = go (calls_in is_any_form f j offer) h
    where
      go : (b : Bool) → aborts u (if b then Calls Plain (n.original f) j else Waits (Accept (n.original f) j ∷ [])) ≡ true → ((ToMeet f j) ≡ ToAbort u) × (aborts u offer ≡ true)
      go true h = absurd (true≢false (sym h))
      go false h = absurd (true≢false (sym h))
  aborts_by u ToFinish w h = absurd (true≢false (sym h))
  aborts_by u ToElse w h = absurd (true≢false (sym h))
  aborts_by u (ToDelay d) w h = absurd (true≢false (sym h))
  aborts_by u (ToCallElse f j) w h = absurd (true≢false (sym h))
  aborts_by u (ToExpire f j) w h = absurd (true≢false (sym h))
  aborts_by u (ToFail f j) w h = absurd (true≢false (sym h))
  aborts_by u ToEnd w h = absurd (true≢false (sym h))
  aborts_by u (ToAbort v) w h = let k = eqb-true u v h in (ap (λ z. ToAbort z) (sym k), ap (λ z. aborts z offer) k ∙ w)
  aborts_by u ToClose w h = go (t == 0) h
    where
      go : (b : Bool) → aborts u (if b then Ends else Waits (Accept (n.never t) (pos 0) ∷ Terminate ∷ [])) ≡ true → (ToClose ≡ ToAbort u) × (aborts u offer ≡ true)
      go true h = absurd (true≢false (sym h))
      go false h = absurd (true≢false (sym h))

  pub delay_by : (k : ℕ) (permit : Permit) → wants t permit offer ≡ true → waits_with (is_delay k) (shows n t permit offer) ≡ true → (permit ≡ ToDelay k) × (waits_with (is_delay k) offer ≡ true)
  delay_by k (ToMeet f j) w h = go (calls_in is_any_form f j offer) h
    where
      go : (b : Bool) → waits_with (is_delay k) (if b then Calls Plain (n.original f) j else Waits (Accept (n.original f) j ∷ [])) ≡ true → ((ToMeet f j) ≡ ToDelay k) × (waits_with (is_delay k) offer ≡ true)
      go true h = absurd (true≢false (sym h))
      go false h = absurd (true≢false (sym h))
  delay_by k ToFinish w h = absurd (true≢false (sym h))
  delay_by k ToElse w h = absurd (true≢false (sym h))
  delay_by k (ToDelay d) w h = let q = eqb-true k d (first_part (k == d) false h refl) in (ap (λ z. ToDelay z) (sym q), ap (λ z. waits_with (is_delay z) offer) q ∙ w)
  delay_by k (ToCallElse f j) w h = absurd (true≢false (sym h))
  delay_by k (ToExpire f j) w h = absurd (true≢false (sym h))
  delay_by k (ToFail f j) w h = absurd (true≢false (sym h))
  delay_by k ToEnd w h = absurd (true≢false (sym h))
  delay_by k (ToAbort v) w h = absurd (true≢false (sym h))
  delay_by k ToClose w h = go (t == 0) h
    where
      go : (b : Bool) → waits_with (is_delay k) (if b then Ends else Waits (Accept (n.never t) (pos 0) ∷ Terminate ∷ [])) ≡ true → (ToClose ≡ ToDelay k) × (waits_with (is_delay k) offer ≡ true)
      go true h = absurd (true≢false (sym h))
      go false h = absurd (true≢false (sym h))

  -- the permit of a task that is offered at its end
  pub ends_by : (permit : Permit) → wants t permit offer ≡ true → is_end (shows n t permit offer) ≡ true →
      ((permit ≡ ToEnd) × ((t == 0) ≡ false) × (is_end offer ≡ true)) ⊎ ((permit ≡ ToClose) × ((t == 0) ≡ true) × (is_end offer ≡ true))
  ends_by (ToMeet f j) w h = go (calls_in is_any_form f j offer) h
    where
      go : (b : Bool) → is_end (if b then Calls Plain (n.original f) j else Waits (Accept (n.original f) j ∷ [])) ≡ true → ((ToMeet f j ≡ ToEnd) × ((t == 0) ≡ false) × (is_end offer ≡ true)) ⊎ ((ToMeet f j ≡ ToClose) × ((t == 0) ≡ true) × (is_end offer ≡ true))
      go true h = absurd (true≢false (sym h))
      go false h = absurd (true≢false (sym h))
  ends_by ToFinish w h = absurd (true≢false (sym h))
  ends_by ToElse w h = absurd (true≢false (sym h))
  ends_by (ToDelay d) w h = absurd (true≢false (sym h))
  ends_by (ToCallElse f j) w h = absurd (true≢false (sym h))
  ends_by (ToExpire f j) w h = absurd (true≢false (sym h))
  ends_by (ToFail f j) w h = absurd (true≢false (sym h))
  ends_by ToEnd w h = let k = and_parts (not (t == 0)) (is_end offer) w in inl (refl, not_true (t == 0) k.0, k.1)
  ends_by (ToAbort v) w h = absurd (true≢false (sym h))
  ends_by ToClose w h = go (t == 0) refl w h
    where
      go : (b : Bool) → (t == 0) ≡ b → (if b then is_end offer else waits_with is_terminate offer) ≡ true → is_end (if b then Ends else Waits (Accept (n.never t) (pos 0) ∷ Terminate ∷ [])) ≡ true →
          ((ToClose ≡ ToEnd) × ((t == 0) ≡ false) × (is_end offer ≡ true)) ⊎ ((ToClose ≡ ToClose) × ((t == 0) ≡ true) × (is_end offer ≡ true))
      go true q w h = inr (refl, q, w)
      go false q w h = absurd (true≢false (sym h))

  -- and of one that can terminate
  pub terminates_by : (permit : Permit) → wants t permit offer ≡ true → waits_with is_terminate (shows n t permit offer) ≡ true →
      (permit ≡ ToClose) × ((t == 0) ≡ false) × (waits_with is_terminate offer ≡ true)
  terminates_by (ToMeet f j) w h = go (calls_in is_any_form f j offer) h
    where
      go : (b : Bool) → waits_with is_terminate (if b then Calls Plain (n.original f) j else Waits (Accept (n.original f) j ∷ [])) ≡ true → (ToMeet f j ≡ ToClose) × ((t == 0) ≡ false) × (waits_with is_terminate offer ≡ true)
      go true h = absurd (true≢false (sym h))
      go false h = absurd (true≢false (sym h))
  terminates_by ToFinish w h = absurd (true≢false (sym h))
  terminates_by ToElse w h = absurd (true≢false (sym h))
  terminates_by (ToDelay d) w h = absurd (true≢false (sym h))
  terminates_by (ToCallElse f j) w h = absurd (true≢false (sym h))
  terminates_by (ToExpire f j) w h = absurd (true≢false (sym h))
  terminates_by (ToFail f j) w h = absurd (true≢false (sym h))
  terminates_by ToEnd w h = absurd (true≢false (sym h))
  terminates_by (ToAbort v) w h = absurd (true≢false (sym h))
  terminates_by ToClose w h = go (t == 0) refl w h
    where
      go : (b : Bool) → (t == 0) ≡ b → (if b then is_end offer else waits_with is_terminate offer) ≡ true → waits_with is_terminate (if b then Ends else Waits (Accept (n.never t) (pos 0) ∷ Terminate ∷ [])) ≡ true →
          (ToClose ≡ ToClose) × ((t == 0) ≡ false) × (waits_with is_terminate offer ≡ true)
      go true q w h = absurd (true≢false (sym h))
      go false q w h = (refl, q, w)
