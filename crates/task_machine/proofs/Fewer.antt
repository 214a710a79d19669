-- Which actions of a task can apply, by its standing and by whether it has a local step: those that cannot need not be asked.
use Rattle.std.proofs.Common.{◌≡◌, ℕ, Bool, true, false, not, ◌&&◌, ◌||◌, ◌==◌, cond, filter, List, [], ◌∷◌, ◌++◌, refl, sym, ap, subst, ◌∙◌, append-nil}
use Rattle.std.specs.Prelude.{is_some}
use Rattle.std.specs.List.{filter_map}
use Rattle.std.proofs.lemmas.List.Elements.{filter-append}
use Rattle.event_machine.specs.declared.Choice.{Choice}
use Rattle.event_machine.specs.declared.Choice.TheVariants.{Accept, Else as ElseChoice, Delay as DelayChoice, Terminate}
use Rattle.event_machine.specs.declared.Standing.{Standing}
use Rattle.event_machine.specs.declared.Standing.TheVariants.{Live, Waiting, Queued}
use Rattle.event_machine.specs.declared.Action.{Action}
use Rattle.event_machine.specs.declared.Action.TheVariants.{Local, Arrive, Start, Finish, Else, Delay, CallElse, Expire, Fail, Complete, Abort}
use Rattle.event_machine.specs.Offers.{Offer, Nothing, Calls, Waits, Finishes, Ends, Aborts, is_conditional, is_timed, is_any_form, waits_with, is_else, is_delay, is_end, is_finish, aborted_by}
use Rattle.event_machine.specs.Applying.{action_applies, arrives, starts, has_no_caller, calls_owner, same, delay_action, delay_actions, actions_of}
use Rattle.event_machine.specs.States.{Ops, Seen, is_live, is_waiting, is_queued}
use Rattle.event_machine.proofs.Standings.{is-Live, is-Waiting, is-Queued}
use Rattle.common_lemmas.proofs.Truth.{and_false}

-- Of both lists the same elements pass the test.
pub record Sieves {A : Type 0} (p : A → Bool) (xs ys : List A) : Type 0 where
  pub same : filter p xs ≡ filter p ys

both_end : {A : Type 0} (p : A → Bool) (xs : List A) → Sieves p xs xs
both_end p xs = record { same = refl }

-- an element that fails the test is passed over
without_one : {A : Type 0} (p : A → Bool) (x : A) {xs ys : List A} → p x ≡ false → Sieves p xs ys → Sieves p (x ∷ xs) ys
without_one p x {xs} {ys} h e = record { same = ap (λ b. cond b (x ∷ filter p xs) (filter p xs)) h ∙ e.same }

-- an element stands before both
with_one : {A : Type 0} (p : A → Bool) (x : A) {xs ys : List A} → Sieves p xs ys → Sieves p (x ∷ xs) (x ∷ ys)
with_one p x {xs} {ys} e = record { same = ap (λ zs. cond (p x) (x ∷ zs) zs) e.same }

-- what a list of delays of a wait leaves, where none of them passes
no_delays : (p : Action → Bool) (t : ℕ) → ((k : ℕ) → p (Delay t k) ≡ false) → (choices : List Choice) → filter p (filter_map (delay_action t) choices) ≡ []
no_delays p t off [] = refl
no_delays p t off (Accept e i ∷ choices) = no_delays p t off choices
no_delays p t off (ElseChoice ∷ choices) = no_delays p t off choices
no_delays p t off (DelayChoice k ∷ choices) = (without_one p (Delay t k) {xs = filter_map (delay_action t) choices} {ys = []} (off k) (record { same = no_delays p t off choices })).same
no_delays p t off (Terminate ∷ choices) = no_delays p t off choices

no_delay_actions : (p : Action → Bool) (t : ℕ) → ((k : ℕ) → p (Delay t k) ≡ false) → (o : Offer) → filter p (delay_actions t o) ≡ []
no_delay_actions p t off Nothing = refl
no_delay_actions p t off (Calls form e i) = refl
no_delay_actions p t off (Waits choices) = no_delays p t off choices
no_delay_actions p t off Finishes = refl
no_delay_actions p t off Ends = refl
no_delay_actions p t off (Aborts x) = refl

module _ {L : Type 0} (ops : Ops L) (owner : ℕ → ℕ) (s : Seen L) (t : ℕ) where
  -- it applies
  abbrev p : Action → Bool
  p action = action_applies ops owner s action

  abbrev z : Standing
  z = (s.tasks t).standing

  abbrev offer : Offer
  offer = ops.offer (s.tasks t).local

  abbrev steps : Bool
  steps = ops.can_step (s.tasks t).local

  -- ---- actions that do not apply to a task that stands otherwise

  no_local : is_live z ≡ false → p (Local t) ≡ false
  no_local h = ap (λ b. b && steps) h

  no_arrive : is_live z ≡ false → p (Arrive t) ≡ false
  no_arrive h = ap (λ b. b && arrives owner s offer) h

  no_finish : is_live z ≡ false → p (Finish t) ≡ false
  no_finish h = ap (λ b. b && is_finish offer) h

  no_else : is_waiting z ≡ false → p (Else t) ≡ false
  no_else h = ap (λ b. b && (waits_with is_else offer && has_no_caller ops s offer)) h

  no_delay : is_waiting z ≡ false → (k : ℕ) → p (Delay t k) ≡ false
  no_delay h k = ap (λ b. b && (waits_with (is_delay k) offer && has_no_caller ops s offer)) h

  no_call_else : is_live z ≡ false → p (CallElse t) ≡ false
  no_call_else h = ap (λ b. b && (calls_owner is_conditional not owner s offer && not (starts ops owner s t offer))) h

  no_expire : is_queued z ≡ false → p (Expire t) ≡ false
  no_expire h = ap (λ b. b && calls_owner is_timed not owner s offer) h

  no_fail : is_live z ≡ false → is_queued z ≡ false → p (Fail t) ≡ false
  no_fail h k = λ i. (h i || k i) && calls_owner is_any_form same owner s offer

  no_complete : is_live z ≡ false → p (Complete t) ≡ false
  no_complete h = ap (λ b. not (t == 0) && (b && is_end offer)) h ∙ and_false (not (t == 0))

  no_abort : is_live z ≡ false → p (Abort t) ≡ false
  no_abort h = ap (λ b. b && is_some (aborted_by offer)) h

  -- the delays are passed over
  without_delays : {xs ys : List Action} → is_waiting z ≡ false → Sieves p xs ys → Sieves p (delay_actions t offer ++ xs) ys
  without_delays {xs} {ys} h e =
      record { same = filter-append p (delay_actions t offer) xs ∙ ap (λ zs. zs ++ filter p xs) (no_delay_actions p t (no_delay h) offer) ∙ e.same }

  nothing_before : {xs ys : List Action} → offer ≡ Nothing → Sieves p xs ys → Sieves p (delay_actions t offer ++ xs) ys
  nothing_before {xs} {ys} q e = subst (λ o. Sieves p (delay_actions t o ++ xs) ys) (sym q) e

  nothing_behind : is_live z ≡ false → is_queued z ≡ false → Sieves p (delay_actions t offer ++ (CallElse t ∷ Expire t ∷ Fail t ∷ Complete t ∷ Abort t ∷ [])) (delay_actions t offer)
  nothing_behind l q = record {
    same =
        filter-append p (delay_actions t offer) (CallElse t ∷ Expire t ∷ Fail t ∷ Complete t ∷ Abort t ∷ [])
        ∙ ap (λ zs. filter p (delay_actions t offer) ++ zs) none.same
        ∙ append-nil (filter p (delay_actions t offer));
  }
    where
      none : Sieves p (CallElse t ∷ Expire t ∷ Fail t ∷ Complete t ∷ Abort t ∷ []) []
      none =
          without_one p (CallElse t) (no_call_else l)
          (without_one p (Expire t) (no_expire q)
          (without_one p (Fail t) (no_fail l q)
          (without_one p (Complete t) (no_complete l)
          (without_one p (Abort t) (no_abort l) (both_end p [])))))

  -- ---- the actions that are left

  -- a task that has a local step offers nothing
  pub of_stepping : offer ≡ Nothing → Sieves p (actions_of ops s t) (Local t ∷ [])
  of_stepping q =
      with_one p (Local t)
      (without_one p (Arrive t) (ap (λ o. is_live z && arrives owner s o) q ∙ and_false (is_live z))
      (without_one p (Start t) (ap (λ o. starts ops owner s t o) q)
      (without_one p (Finish t) (ap (λ o. is_live z && is_finish o) q ∙ and_false (is_live z))
      (without_one p (Else t) (ap (λ o. is_waiting z && (waits_with is_else o && has_no_caller ops s o)) q ∙ and_false (is_waiting z))
      (nothing_before q
      (without_one p (CallElse t) (ap (λ o. is_live z && (calls_owner is_conditional not owner s o && not (starts ops owner s t o))) q ∙ and_false (is_live z))
      (without_one p (Expire t) (ap (λ o. is_queued z && calls_owner is_timed not owner s o) q ∙ and_false (is_queued z))
      (without_one p (Fail t) (ap (λ o. (is_live z || is_queued z) && calls_owner is_any_form same owner s o) q ∙ and_false (is_live z || is_queued z))
      (without_one p (Complete t) (ap (λ o. not (t == 0) && (is_live z && is_end o)) q ∙ ap (λ b. not (t == 0) && b) (and_false (is_live z)) ∙ and_false (not (t == 0)))
      (without_one p (Abort t) (ap (λ o. is_live z && is_some (aborted_by o)) q ∙ and_false (is_live z)) (both_end p [])))))))))))

  -- a live task that has none
  pub of_live : is_live z ≡ true → steps ≡ false → Sieves p (actions_of ops s t) (Arrive t ∷ Start t ∷ Finish t ∷ CallElse t ∷ Fail t ∷ Complete t ∷ Abort t ∷ [])
  of_live live n =
      let h : z ≡ Live = is-Live z live in
      without_one p (Local t) (ap (λ b. is_live z && b) n ∙ and_false (is_live z))
      (with_one p (Arrive t) (with_one p (Start t) (with_one p (Finish t)
      (without_one p (Else t) (no_else (ap is_waiting h))
      (without_delays (ap is_waiting h)
      (with_one p (CallElse t)
      (without_one p (Expire t) (no_expire (ap is_queued h)) (both_end p (Fail t ∷ Complete t ∷ Abort t ∷ [])))))))))

  -- one that waits
  pub of_waiting : is_waiting z ≡ true → Sieves p (actions_of ops s t) ((Start t ∷ Else t ∷ []) ++ delay_actions t offer)
  of_waiting waiting =
      let h : z ≡ Waiting = is-Waiting z waiting in
      without_one p (Local t) (no_local (ap is_live h))
      (without_one p (Arrive t) (no_arrive (ap is_live h))
      (with_one p (Start t)
      (without_one p (Finish t) (no_finish (ap is_live h))
      (with_one p (Else t)
      (nothing_behind (ap is_live h) (ap is_queued h))))))

  -- one that is queued
  pub of_queued : is_queued z ≡ true → Sieves p (actions_of ops s t) (Start t ∷ Expire t ∷ Fail t ∷ [])
  of_queued queued =
      let h : z ≡ Queued = is-Queued z queued in
      without_one p (Local t) (no_local (ap is_live h))
      (without_one p (Arrive t) (no_arrive (ap is_live h))
      (with_one p (Start t)
      (without_one p (Finish t) (no_finish (ap is_live h))
      (without_one p (Else t) (no_else (ap is_waiting h))
      (without_delays (ap is_waiting h)
      (without_one p (CallElse t) (no_call_else (ap is_live h))
      (with_one p (Expire t) (with_one p (Fail t)
      (without_one p (Complete t) (no_complete (ap is_live h))
      (without_one p (Abort t) (no_abort (ap is_live h)) (both_end p [])))))))))))

  -- any other
  pub of_other : is_live z ≡ false → is_waiting z ≡ false → is_queued z ≡ false → Sieves p (actions_of ops s t) (Start t ∷ [])
  of_other l w q =
      without_one p (Local t) (no_local l)
      (without_one p (Arrive t) (no_arrive l)
      (with_one p (Start t)
      (without_one p (Finish t) (no_finish l)
      (without_one p (Else t) (no_else w)
      (without_delays w
      (without_one p (CallElse t) (no_call_else l)
      (without_one p (Expire t) (no_expire q)
      (without_one p (Fail t) (no_fail l q)
      (without_one p (Complete t) (no_complete l)
      (without_one p (Abort t) (no_abort l) (both_end p [])))))))))))

-- what is appended of fewer actions is what is appended of all
pub appended_fewer : {A : Type 0} (p : A → Bool) (old new xs ys : List A) → Sieves p xs ys → new ≡ old ++ filter p ys → new ≡ old ++ filter p xs
appended_fewer p old new xs ys h e = e ∙ ap (λ zs. old ++ zs) (sym h.same)
