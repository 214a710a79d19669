-- The list of the actions that apply is no longer than its tasks and their choices allow.
use Rattle.std.proofs.Common.{◌≡◌, ◌<◌, ◌≤◌, ◌+◌, ◌*◌, zero, suc, ℕ, Bool, true, false, cond, filter, List, [], ◌∷◌, ◌++◌, length, length-append, ap, ◌∙◌, ◌⊎◌, ⊎_elim, true≢false, arith}
use Rattle.std.specs.List.{filter_map}
use Rattle.std.proofs.lemmas.List.Elements.{filter-append}
use Rattle.event_machine.specs.declared.Action.{Action}
use Rattle.event_machine.specs.declared.Action.TheVariants.{Local, Arrive, Start, Finish, Else, Delay, CallElse, Expire, Fail, Complete, Abort, End}
use Rattle.event_machine.specs.declared.Choice.{Choice}
use Rattle.event_machine.specs.declared.Choice.TheVariants.{Accept, Else as ElseChoice, Delay as DelayChoice, Terminate}
use Rattle.event_machine.specs.Applying.{delay_action, delay_actions, actions_of, actions_below}
use Rattle.event_machine.specs.Offers.{Offer, Nothing, Calls, Waits, Finishes, Ends, Aborts}
use Rattle.event_machine.specs.States.{Ops, Seen}
use Rattle.task_laws.proofs.actions.Offering.{choices_in, few-mapped}

few-delays : (t : ℕ) (offer : Offer) → length (delay_actions t offer) ≤ choices_in offer
few-delays t Nothing = omega arith
few-delays t (Calls form e i) = omega arith
few-delays t (Waits choices) = few-mapped (delay_action t) choices
few-delays t Finishes = omega arith
few-delays t Ends = omega arith
few-delays t (Aborts x) = omega arith

module _ (p : Action → Bool) where
  passed : (xs : List Action) → length (filter p xs) ≤ length xs
  passed [] = omega arith
  passed (x ∷ xs) = by_test (p x) (passed xs)
    where
      by_test : (b : Bool) → length (filter p xs) ≤ length xs → length (cond b (x ∷ filter p xs) (filter p xs)) ≤ length (x ∷ xs)
      by_test true h = omega (arith, h)
      by_test false h = omega (arith, h)

  -- where no delay passes
  no-delay : (t : ℕ) → ((k : ℕ) → p (Delay t k) ≡ false) → (choices : List Choice) → length (filter p (filter_map (delay_action t) choices)) ≤ 0
  no-delay t off [] = omega arith
  no-delay t off (Accept e i ∷ choices) = no-delay t off choices
  no-delay t off (ElseChoice ∷ choices) = no-delay t off choices
  no-delay t off (DelayChoice k ∷ choices) = by_test (p (Delay t k)) (off k) (no-delay t off choices)
    where
      by_test : (b : Bool) → b ≡ false → length (filter p (filter_map (delay_action t) choices)) ≤ 0 →
          length (cond b (Delay t k ∷ filter p (filter_map (delay_action t) choices)) (filter p (filter_map (delay_action t) choices))) ≤ 0
      by_test true e h = absurd (true≢false e)
      by_test false e h = h
  no-delay t off (Terminate ∷ choices) = no-delay t off choices

  no-delays : (t : ℕ) → ((k : ℕ) → p (Delay t k) ≡ false) → (offer : Offer) → length (filter p (delay_actions t offer)) ≤ 0
  no-delays t off Nothing = omega arith
  no-delays t off (Calls form e i) = omega arith
  no-delays t off (Waits choices) = no-delay t off choices
  no-delays t off Finishes = omega arith
  no-delays t off Ends = omega arith
  no-delays t off (Aborts x) = omega arith

  module _ {L : Type 0} (ops : Ops L) (s : Seen L) where
    -- no delay of the task passes, or it offers few choices
    abbrev pub IsFew : ℕ → Type 0
    IsFew t = ((k : ℕ) → p (Delay t k) ≡ false) ⊎ (choices_in (ops.offer (s.tasks t).local) ≤ 100)

    of-task : (t : ℕ) → IsFew t → length (filter p (actions_of ops s t)) ≤ 110
    of-task t few =
        let offer : Offer = ops.offer (s.tasks t).local in
        let us : List Action = Local t ∷ Arrive t ∷ Start t ∷ Finish t ∷ Else t ∷ [] in
        let vs : List Action = delay_actions t offer in
        let ws : List Action = CallElse t ∷ Expire t ∷ Fail t ∷ Complete t ∷ Abort t ∷ [] in
        let middle : length (filter p vs) ≤ 100 = ⊎_elim
        (λ off. let none : length (filter p vs) ≤ 0 = no-delays t off offer in omega (arith, none))
        (λ h. let some : length (filter p vs) ≤ length vs = passed vs in omega (arith, some, few-delays t offer, h))
        few in
        let first : length (filter p us) ≤ 5 = passed us in
        let last : length (filter p ws) ≤ 5 = passed ws in
        let whole : length (filter p (us ++ (vs ++ ws))) ≡ length (filter p us) + length (filter p (vs ++ ws)) =
        ap length (filter-append p us (vs ++ ws)) ∙ length-append (filter p us) (filter p (vs ++ ws)) in
        let behind : length (filter p (vs ++ ws)) ≡ length (filter p vs) + length (filter p ws) =
        ap length (filter-append p vs ws) ∙ length-append (filter p vs) (filter p ws) in
        omega (arith, whole, behind, first, middle, last)

    pub of-tasks : (n : ℕ) → ((t : ℕ) → t < n → IsFew t) → length (filter p (actions_below ops s n)) ≤ n * 110
    of-tasks zero few = omega arith
    of-tasks (suc n) few =
        let earlier : length (filter p (actions_below ops s n)) ≤ n * 110 = of-tasks n (λ t l. few t (omega (arith, l))) in
        let here : length (filter p (actions_of ops s n)) ≤ 110 = of-task n (few n (omega arith)) in
        let both : length (filter p (actions_below ops s n ++ actions_of ops s n)) ≡ length (filter p (actions_below ops s n)) + length (filter p (actions_of ops s n)) =
        ap length (filter-append p (actions_below ops s n) (actions_of ops s n)) ∙ length-append (filter p (actions_below ops s n)) (filter p (actions_of ops s n)) in
        omega (arith, earlier, here, both)

    -- So many actions of n tasks pass, with the end of the program.
    pub of-all : (n : ℕ) → ((t : ℕ) → t < n → IsFew t) → length (filter p (actions_below ops s n ++ End ∷ [])) ≤ n * 110 + 1
    of-all n few =
        let tasks : length (filter p (actions_below ops s n)) ≤ n * 110 = of-tasks n few in
        let end : length (filter p (End ∷ [])) ≤ 1 = passed (End ∷ []) in
        let both : length (filter p (actions_below ops s n ++ End ∷ [])) ≡ length (filter p (actions_below ops s n)) + length (filter p (End ∷ [])) =
        ap length (filter-append p (actions_below ops s n) (End ∷ [])) ∙ length-append (filter p (actions_below ops s n)) (filter p (End ∷ [])) in
        omega (arith, tasks, end, both)
