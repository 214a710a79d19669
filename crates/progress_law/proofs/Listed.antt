-- Where the list of the actions that apply is empty no action applies: each that does is in the list.
use Rattle.std.proofs.Common.{◌≡◌, ℕ, zero, suc, ◌<◌, ◌≤◌, Bool, true, false, not, ◌&&◌, ◌||◌, ◌==◌, cond, List, [], ◌∷◌, ◌++◌, filter, refl, sym, ap, ◌∙◌, subst, ⊎_elim, true≢false, arith}
use Rattle.std.specs.Prelude.{is_some}
use Rattle.std.specs.List.{AllByRecursion, filter_map, list_any}
use Rattle.std.proofs.lemmas.Bool.{cases_lt}
use Rattle.common_lemmas.proofs.Lists.{not_empty, all_front, all_back}
use Rattle.common_lemmas.proofs.Numbers.{equal_is}
use Rattle.common_lemmas.proofs.Truth.{and_false, false_behind}
use Rattle.event_machine.specs.declared.Action.{Action}
use Rattle.event_machine.specs.declared.Action.TheVariants.{Local, Arrive, Start, Finish, Else, Delay, CallElse, Expire, Fail, Complete, Abort, End}
use Rattle.event_machine.specs.declared.Choice.{Choice}
use Rattle.event_machine.specs.declared.Choice.TheVariants.{Accept, Else as ElseChoice, Delay as DelayChoice, Terminate}
use Rattle.event_machine.specs.declared.Standing.TheVariants.{Completed}
use Rattle.event_machine.specs.Offers.{Offer, Nothing, Calls, Waits, Finishes, Ends, Aborts, calls_in, is_any_form, is_conditional, is_timed, waits_with, is_finish, is_end, is_else, is_delay, opens, aborted_by}
use Rattle.event_machine.specs.States.{Ops, State, Rules, Seen, seen, is_live, is_waiting, is_queued}
use Rattle.event_machine.specs.Applying.{offer_at, queues_at, queue_of, is_first, is_empty, arrives, starts, has_no_caller, calls_owner, same, action_applies, can, delay_action, delay_actions, actions_of, actions_below, enabled_of}
use Rattle.event_machine.specs.Programs.{task_of}

-- what a filter takes none of fails its test
none_pass : {A : Type 0} (p : A → Bool) (xs : List A) → filter p xs ≡ [] → AllByRecursion (λ x. p x ≡ false) xs
none_pass p [] h = tt
none_pass p (x ∷ xs) h = go (p x) refl h (none_pass p xs)
  where
    go : (b : Bool) → p x ≡ b → cond b (x ∷ filter p xs) (filter p xs) ≡ [] → (filter p xs ≡ [] → AllByRecursion (λ y. p y ≡ false) xs) →
        AllByRecursion (λ y. p y ≡ false) (x ∷ xs)
    go true e f more = absurd (not_empty x (filter p xs) f)
    go false e f more = (e, more f)

-- who fails the test is not the first of what passes
not_first : (q : ℕ → Bool) (t : ℕ) → q t ≡ false → (xs : List ℕ) → is_first t (filter q xs) ≡ false
not_first q t h [] = refl
not_first q t h (x ∷ xs) = go (q x) refl (not_first q t h xs)
  where
    other : q x ≡ true → (b : Bool) → (x == t) ≡ b → b ≡ false
    other e true f = absurd (true≢false (sym e ∙ ap q (equal_is x t f) ∙ h))
    other e false f = refl

    go : (b : Bool) → q x ≡ b → is_first t (filter q xs) ≡ false → is_first t (cond b (x ∷ filter q xs) (filter q xs)) ≡ false
    go true e more = other e (x == t) refl
    go false e more = more

-- a delay that the wait has is among its actions
delay_listed : (P : Action → Type 0) (t k : ℕ) (choices : List Choice) → list_any (is_delay k) choices ≡ true →
    AllByRecursion P (filter_map (delay_action t) choices) → P (Delay t k)
delay_listed P t k [] h all = absurd (true≢false (sym h))
delay_listed P t k (Accept e i ∷ choices) h all = delay_listed P t k choices h all
delay_listed P t k (ElseChoice ∷ choices) h all = delay_listed P t k choices h all
delay_listed P t k (DelayChoice l ∷ choices) h all = go (k == l) refl h (λ more. delay_listed P t k choices more all.1)
  where
    go : (b : Bool) → (k == l) ≡ b → (b || list_any (is_delay k) choices) ≡ true → (list_any (is_delay k) choices ≡ true → P (Delay t k)) → P (Delay t k)
    go true e f more = subst (λ j. P (Delay t j)) (sym (equal_is k l e)) all.0
    go false e f more = more f
delay_listed P t k (Terminate ∷ choices) h all = delay_listed P t k choices h all

delay_offered : (P : Action → Type 0) (t k : ℕ) (offer : Offer) → waits_with (is_delay k) offer ≡ true →
    AllByRecursion P (delay_actions t offer) → P (Delay t k)
delay_offered P t k Nothing h all = absurd (true≢false (sym h))
delay_offered P t k (Calls form e i) h all = absurd (true≢false (sym h))
delay_offered P t k (Waits choices) h all = delay_listed P t k choices h all
delay_offered P t k Finishes h all = absurd (true≢false (sym h))
delay_offered P t k Ends h all = absurd (true≢false (sym h))
delay_offered P t k (Aborts x) h all = absurd (true≢false (sym h))

module _ {L : Type 0} (ops : Ops L) (owner : ℕ → ℕ) (z : Seen L) where
  abbrev Fails : Action → Type 0
  Fails action = action_applies ops owner z action ≡ false

  -- ---- a task that has completed

  module _ (t : ℕ) (over : (z.tasks t).standing ≡ Completed) where
    abbrev offer : Offer
    offer = offer_at ops z t

    not_live : is_live (z.tasks t).standing ≡ false
    not_live = ap is_live over

    not_queued : is_queued (z.tasks t).standing ≡ false
    not_queued = ap is_queued over

    starts_not : (o : Offer) → starts ops owner z t o ≡ false
    starts_not Nothing = refl
    starts_not (Calls form e i) = false_behind
        (is_waiting (z.tasks (owner e)).standing && waits_with (opens e i) (offer_at ops z (owner e)))
        (is_first t (queue_of ops z e i) || ((is_live (z.tasks t).standing && is_conditional form) && is_empty (queue_of ops z e i)))
        (λ i'. first i' || ((not_live i' && is_conditional form) && is_empty (queue_of ops z e i)))
      where
        first : is_first t (queue_of ops z e i) ≡ false
        first = not_first (queues_at ops z e i) t (ap (λ b. b && calls_in is_any_form e i offer) not_queued) z.line
    starts_not (Waits choices) = refl
    starts_not Finishes = refl
    starts_not Ends = refl
    starts_not (Aborts x) = refl

    local_not : Fails (Local t)
    local_not = ap (λ b. b && ops.can_step (z.tasks t).local) not_live

    arrive_not : Fails (Arrive t)
    arrive_not = ap (λ b. b && arrives owner z offer) not_live

    finish_not : Fails (Finish t)
    finish_not = ap (λ b. b && is_finish offer) not_live

    else_not : Fails (Else t)
    else_not = ap (λ s. is_waiting s && (waits_with is_else offer && has_no_caller ops z offer)) over

    delay_not : (k : ℕ) → Fails (Delay t k)
    delay_not k = ap (λ s. is_waiting s && (waits_with (is_delay k) offer && has_no_caller ops z offer)) over

    call_else_not : Fails (CallElse t)
    call_else_not = ap (λ b. b && (calls_owner is_conditional not owner z offer && not (starts ops owner z t offer))) not_live

    expire_not : Fails (Expire t)
    expire_not = ap (λ b. b && calls_owner is_timed not owner z offer) not_queued

    fail_not : Fails (Fail t)
    fail_not = ap (λ s. (is_live s || is_queued s) && calls_owner is_any_form same owner z offer) over

    complete_not : Fails (Complete t)
    complete_not = ap (λ b. not (t == 0) && (b && is_end offer)) not_live ∙ and_false (not (t == 0))

    abort_not : Fails (Abort t)
    abort_not = ap (λ b. b && is_some (aborted_by offer)) not_live

  -- ---- a task of the list

  of_task : (n t : ℕ) → t < n → AllByRecursion Fails (actions_below ops z n) → AllByRecursion Fails (actions_of ops z t)
  of_task zero t l all = absurd (omega arith)
  of_task (suc n) t l all = ⊎_elim
      (λ (k : t < n). of_task n t k (all_front Fails (actions_below ops z n) (actions_of ops z n) all))
      (λ (k : n ≤ t). let e : n ≡ t = omega arith in
      subst (λ u. AllByRecursion Fails (actions_of ops z u)) e (all_back Fails (actions_below ops z n) (actions_of ops z n) all))
      (cases_lt t n)

  delay_fails : (t k : ℕ) → AllByRecursion Fails (delay_actions t (offer_at ops z t)) → Fails (Delay t k)
  delay_fails t k all = go (waits_with (is_delay k) (offer_at ops z t)) refl
    where
      go : (b : Bool) → waits_with (is_delay k) (offer_at ops z t) ≡ b → Fails (Delay t k)
      go true e = delay_offered Fails t k (offer_at ops z t) e all
      go false e = ap (λ b. is_waiting (z.tasks t).standing && (b && has_no_caller ops z (offer_at ops z t))) e ∙ and_false (is_waiting (z.tasks t).standing)

  module _ (beyond : (t : ℕ) → z.size ≤ t → (z.tasks t).standing ≡ Completed) (all : AllByRecursion Fails (actions_below ops z z.size ++ End ∷ [])) where
    -- what the list says of the task, or what its having completed does
    of : (t : ℕ) (action : Action) → (AllByRecursion Fails (actions_of ops z t) → Fails action) → ((z.tasks t).standing ≡ Completed → Fails action) →
        Fails action
    of t action listed completed = ⊎_elim
        (λ (l : t < z.size). listed (of_task z.size t l (all_front Fails (actions_below ops z z.size) (End ∷ []) all)))
        (λ (l : z.size ≤ t). completed (beyond t l))
        (cases_lt t z.size)

    -- the actions behind the delays
    abbrev behind : ℕ → List Action
    behind t = CallElse t ∷ Expire t ∷ Fail t ∷ Complete t ∷ Abort t ∷ []

    of_delays : (t : ℕ) → AllByRecursion Fails (actions_of ops z t) → AllByRecursion Fails (delay_actions t (offer_at ops z t))
    of_delays t h = all_front Fails (delay_actions t (offer_at ops z t)) (behind t) h.1.1.1.1.1

    of_last : (t : ℕ) → AllByRecursion Fails (actions_of ops z t) → AllByRecursion Fails (behind t)
    of_last t h = all_back Fails (delay_actions t (offer_at ops z t)) (behind t) h.1.1.1.1.1

    fails : (action : Action) → Fails action
    fails (Local t) = of t (Local t) (λ h. h.0) (λ e. local_not t e)
    fails (Arrive t) = of t (Arrive t) (λ h. h.1.0) (λ e. arrive_not t e)
    fails (Start t) = of t (Start t) (λ h. h.1.1.0) (λ e. starts_not t e (offer_at ops z t))
    fails (Finish t) = of t (Finish t) (λ h. h.1.1.1.0) (λ e. finish_not t e)
    fails (Else t) = of t (Else t) (λ h. h.1.1.1.1.0) (λ e. else_not t e)
    fails (Delay t k) = of t (Delay t k) (λ h. delay_fails t k (of_delays t h)) (λ e. delay_not t e k)
    fails (CallElse t) = of t (CallElse t) (λ h. (of_last t h).0) (λ e. call_else_not t e)
    fails (Expire t) = of t (Expire t) (λ h. (of_last t h).1.0) (λ e. expire_not t e)
    fails (Fail t) = of t (Fail t) (λ h. (of_last t h).1.1.0) (λ e. fail_not t e)
    fails (Complete t) = of t (Complete t) (λ h. (of_last t h).1.1.1.0) (λ e. complete_not t e)
    fails (Abort t) = of t (Abort t) (λ h. (of_last t h).1.1.1.1.0) (λ e. abort_not t e)
    fails End = (all_back Fails (actions_below ops z z.size) (End ∷ []) all).0

-- Where the list is empty no action applies, if past the last task each has completed.
pub none_applies : {L C : Type 0} (rules : Rules L C) (s : State C) → ((t : ℕ) → rules.store.size s.seats ≤ t → (task_of rules s t).standing ≡ Completed) →
    enabled_of rules s ≡ [] → (action : Action) → can rules s action ≡ true → ⊥
none_applies {L} {C} rules s beyond none action applies =
    true≢false (sym applies ∙ open_or_ended s.ended (none_pass (can rules s) candidates none))
  where
    candidates : List Action
    candidates = actions_below rules.ops (seen rules s) (rules.store.size s.seats) ++ End ∷ []

    open_or_ended : (ended : Bool) → AllByRecursion (λ a. (not ended && action_applies rules.ops rules.owner (seen rules s) a) ≡ false) candidates →
        (not ended && action_applies rules.ops rules.owner (seen rules s) action) ≡ false
    open_or_ended true all = refl
    open_or_ended false all = fails rules.ops rules.owner (seen rules s) beyond all action
