-- A list of events is feasible exactly where the bases have a world behind it, and the Rest of a task is its base run on.
use Rattle.std.proofs.Common.{◌≡◌, ℕ, ◌<◌, Bool, true, false, ◌==◌, if◌then◌else◌, List, [], ◌∷◌, refl, sym, ap, ◌∙◌, subst}
use Rattle.std.proofs.lemmas.Bool.{eqb-true}
use Rattle.event_machine.specs.declared.Standing.{Standing}
use Rattle.event_machine.specs.declared.Standing.TheVariants.{Live, Killed}
use Rattle.event_machine.specs.declared.Event.{Event}
use Rattle.event_machine.specs.States.{Seat, State, is_completed}
use Rattle.event_machine.specs.Lawful.{IsLawful}
use Rattle.event_machine.specs.Runs.{end_of, Feasible}
use Rattle.event_machine.specs.Programs.{Program, numbered, IsOpening}
use Rattle.event_machine.specs.Worlds.{World, still, world_of}
use Rattle.event_machine.specs.Settling.{ran, HasSteps, Leads, CountsFor}
use Rattle.event_machine.specs.Tallies.{tallies, ComesTo, RestIs, StandsAfter, HasNoEnd}
use Rattle.event_machine.specs.Laws.{FeasibleExactly, RestExactly}
use Rattle.event_machine.proofs.Basics.{seat_path}
use Rattle.event_machine.proofs.Following.{leads_once}
use Rattle.event_machine.proofs.Killing.{is_victim}
use Rattle.event_machine.proofs.Bases.{IsBase, base_fires, base_leads, completed_leads, victim_killed}
use Rattle.event_machine.proofs.Returning.{CanKillAll}
use Rattle.event_machine.proofs.Reaching.{IsLed, run_leads, feasible_back, IsReached, reached, start_base}
use Rattle.common_lemmas.proofs.Numbers.{equal_self}

module _ {L : Type 0} (p : Program L) (IsProper : L → Type 0) (lawful : IsLawful p.ops IsProper) where
  -- victims can run on by their numbers where the killed tasks at the end could
  pub can_kill : (number : ℕ → ℕ) (events : List Event) (w last : World L) (h : Leads p w events last) → IsBase p IsProper lawful w →
      ((t : ℕ) → (last.tasks t).standing ≡ Killed → HasSteps p.ops (number t) (last.tasks t).local) → CanKillAll p IsProper lawful number events w last h
  can_kill number [] w last h base steps = tt
  can_kill number (e ∷ events) w last (next, f, h) base steps = (here, can_kill number events next last h (base_fires p IsProper lawful f base) steps)
    where
      here : (t : ℕ) → is_victim e t ≡ true → (w.tasks t).standing ≡ Live → HasSteps p.ops (number t) (w.tasks t).local
      here t k free =
          let falls = victim_killed p IsProper lawful f t k free in
          let stays = completed_leads p IsProper lawful events next last h (base_fires p IsProper lawful f base) t (ap (λ (x : Seat L). is_completed x.standing) falls) in
          subst (HasSteps p.ops (number t)) (ap (λ (x : Seat L). x.local) (stays ∙ falls)) (steps t (ap (λ (x : Seat L). x.standing) (stays ∙ falls)))

  module _ (s : State (ℕ → Seat L)) (opening : IsOpening (numbered p) s) (proper : (t : ℕ) → t < p.size → IsProper (s.seats t).local) where
    abbrev start : World L
    start = world_of s

    -- ---- feasible

    pub run_of : (events : List Event) → Feasible (numbered p) s events → (tasks : ℕ → Seat L) × (tally : ℕ → ℕ) × ComesTo (numbered p) s events tasks tally
    run_of events (actions, run, has) = (
      (end_of (numbered p) s actions).seats,
      tallies (numbered p) s actions (λ t. 0),
      record { actions = actions; applies = run; has_events = has; leaves = λ t. refl; counts = λ t. refl },
    )

    pub feasible_leads : (events : List Event) → Feasible (numbered p) s events → (w : World L) × Leads p start events w
    feasible_leads events h =
        let (tasks, tally, run) = run_of events h in
        let led : IsLed p IsProper lawful s opening proper events tasks tally = run_leads p IsProper lawful s opening proper events tasks tally run in
        (led.last, led.leads)

    pub feasible_exactly : FeasibleExactly p s
    feasible_exactly events = (feasible_leads events, λ h. feasible_back p IsProper lawful s opening proper events h.0 h.1)

    -- ---- a run to the bases alone

    pub stands_there : (events : List Event) (last : World L) → HasNoEnd events → Leads p start events last → (t : ℕ) → StandsAfter (numbered p) s events t (last.tasks t).standing
    stands_there events last more h t =
        let base : IsBase p IsProper lawful last = led_base events last h in
        let r : IsReached p IsProper lawful s opening proper events last (λ u. 0) = reached p IsProper lawful s opening proper (λ u. 0) events last more h
        (can_kill (λ u. 0) events start last h (start_base p IsProper lawful s opening proper) (λ u k. tt)) (λ u k. tt) in
        (r.tasks, r.tally, r.run, ap still (r.standing t) ∙ base.still' t)
      where
        led_base : (events : List Event) (last : World L) → Leads p start events last → IsBase p IsProper lawful last
        led_base events last h = base_leads p IsProper lawful events start last h (start_base p IsProper lawful s opening proper)

    -- how a task stands behind the events, it stands where they lead to
    pub stands_is : (events : List Event) (last : World L) → Leads p start events last → (t : ℕ) (z : Standing) → StandsAfter (numbered p) s events t z →
        (last.tasks t).standing ≡ z
    stands_is events last h t z (tasks, tally, run, k) =
        let led : IsLed p IsProper lawful s opening proper events tasks tally = run_leads p IsProper lawful s opening proper events tasks tally run in
        ap (λ (w : World L). (w.tasks t).standing) (leads_once p events start last led.last h led.leads) ∙ sym (led.each t).standing ∙ k

    -- ---- Rest

    pub rest_leads : (events : List Event) (t n : ℕ) (l : L) → RestIs (numbered p) s events t n l →
        (w : World L) × Leads p start events w × ((w.tasks t).standing ≡ Live) × HasSteps p.ops n (w.tasks t).local × (l ≡ ran p.ops n (w.tasks t).local)
    rest_leads events t n l (tasks, tally, run, is, counted) =
        let led : IsLed p IsProper lawful s opening proper events tasks tally = run_leads p IsProper lawful s opening proper events tasks tally run in
        let free : (led.last.tasks t).standing ≡ Live = sym (led.each t).standing ∙ ap (λ (x : Seat L). still x.standing) is in
        let steps : (led.each t).steps ≡ n = subst (λ z. CountsFor z (tally t) (led.each t).steps) free (led.each t).counted ∙ counted in (
          led.last,
          led.leads,
          free,
          subst (λ k. HasSteps p.ops k (led.last.tasks t).local) steps (led.each t).has_steps,
          sym (ap (λ (x : Seat L). x.local) is) ∙ (led.each t).local ∙ ap (λ k. ran p.ops k (led.last.tasks t).local) steps,
        )

    -- the steps of one task, at the world where the events lead to
    pub rest_steps : (events : List Event) (last : World L) → Leads p start events last → (t n : ℕ) (l : L) → RestIs (numbered p) s events t n l →
        HasSteps p.ops n (last.tasks t).local × (l ≡ ran p.ops n (last.tasks t).local)
    rest_steps events last h t n l rest =
        let (w, leads, free, steps, is) = rest_leads events t n l rest in
        subst (λ (v : World L). HasSteps p.ops n (v.tasks t).local × (l ≡ ran p.ops n (v.tasks t).local)) (leads_once p events start w last leads h) (steps, is)

    pub rest_back : (events : List Event) → HasNoEnd events → (t n : ℕ) (l : L) →
        (w : World L) × Leads p start events w × ((w.tasks t).standing ≡ Live) × HasSteps p.ops n (w.tasks t).local × (l ≡ ran p.ops n (w.tasks t).local) →
        RestIs (numbered p) s events t n l
    rest_back events more t n l (w, leads, free, steps, is) =
        (r.tasks, r.tally, r.run, seat_path ((r.free t free).0 ∙ ap (λ k. ran p.ops k (w.tasks t).local) at_t ∙ sym is) (r.standing t ∙ free), (r.free t free).1 ∙ at_t)
      where
        number : ℕ → ℕ
        number u = if u == t then n else 0

        at_t : number t ≡ n
        at_t = ap (λ b. if b then n else 0) (equal_self t)

        free_steps : (u : ℕ) (b : Bool) → (u == t) ≡ b → HasSteps p.ops (if b then n else 0) (w.tasks u).local
        free_steps u true q = subst (λ v. HasSteps p.ops n (w.tasks v).local) (sym (eqb-true u t q)) steps
        free_steps u false q = tt

        r : IsReached p IsProper lawful s opening proper events w number
        r = reached p IsProper lawful s opening proper number events w more leads
            (can_kill number events start w leads (start_base p IsProper lawful s opening proper) (λ u k. free_steps u (u == t) refl))
            (λ u k. free_steps u (u == t) refl)

    pub rest_exactly : RestExactly p s
    rest_exactly events more t n l = (rest_leads events t n l, rest_back events more t n l)
