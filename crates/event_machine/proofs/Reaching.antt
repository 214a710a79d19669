-- Runs from an opening state and what their events lead to: each run follows the bases, and whatever the bases allow is had by a run.
use Rattle.std.proofs.Common.{◌≡◌, ℕ, ◌<◌, ◌≤◌, ◌+◌, true, false, if◌then◌else◌, List, [], ◌∷◌, ◌++◌, refl, sym, ap, ap₂, ◌∙◌, subst, inl, inr, ⊎_elim, true≢false, append-nil, arith}
use Rattle.std.proofs.lemmas.Bool.{cases_lt, cases_Bool}
use Rattle.event_machine.specs.declared.Standing.{Standing}
use Rattle.event_machine.specs.declared.Standing.TheVariants.{Live, Waiting, Queued, Served, Completed, Killed}
use Rattle.event_machine.specs.declared.Event.{Event}
use Rattle.event_machine.specs.States.{Seat, State, is_live, is_closed, is_completed, is_served_by, is_queued}
use Rattle.event_machine.specs.Lawful.{IsLawful}
use Rattle.event_machine.specs.Runs.{IsRun, end_of, events_of, Feasible}
use Rattle.event_machine.specs.Programs.{Program, numbered, IsOpening}
use Rattle.event_machine.specs.Worlds.{World, Move, still, still_seat, world_of, state_of, AreMoves, world_after, counts_after}
use Rattle.event_machine.specs.Settling.{ran, HasSteps, Leads, CountsFor, IsRunOn}
use Rattle.event_machine.specs.Soundness.{IsSound, times}
use Rattle.event_machine.specs.Queues.{suits, IsSuited, IsLined}
use Rattle.event_machine.specs.Tallies.{tallies, ComesTo, HasNoEnd}
use Rattle.event_machine.specs.Laws.{IsErased, IsLifted}
use Rattle.event_machine.proofs.Erasing.{erasing}
use Rattle.event_machine.proofs.Lifting.{lifting}
use Rattle.event_machine.proofs.Stills.{still_still}
use Rattle.event_machine.proofs.Standings.{is-Live}
use Rattle.event_machine.proofs.Bases.{IsBase, base_leads}
use Rattle.event_machine.proofs.Walking.{Walk, walk_all, follow_moves, follows_self}
use Rattle.event_machine.proofs.Returning.{Return, HasNumbers, CanKillAll, lead_back, leads_open}
use Rattle.event_machine.proofs.Appends.{moves_append, world_append, happened_append, counts_append}

module _ {L : Type 0} (p : Program L) (IsProper : L → Type 0) (lawful : IsLawful p.ops IsProper) (s : State (ℕ → Seat L))
    (opening : IsOpening (numbered p) s) (proper : (t : ℕ) → t < p.size → IsProper (s.seats t).local) where
  -- ---- the opening state

  -- each task is live and serves nobody, or has completed
  pub start_each : (P : ℕ → Standing → Type 0) → ((t : ℕ) → t < p.size → P t Live) → ((t : ℕ) → p.size ≤ t → P t Completed) → (t : ℕ) → P t (s.seats t).standing
  start_each P at_live at_end t = ⊎_elim
      (λ (l : t < p.size). subst (P t) (sym (opening.live t l)) (at_live t l))
      (λ (l : p.size ≤ t). subst (P t) (sym (opening.beyond t l)) (at_end t l))
      (cases_lt t p.size)

  pub start_still : (t : ℕ) → still (s.seats t).standing ≡ (s.seats t).standing
  start_still = start_each (λ t z. still z ≡ z) (λ t l. refl) (λ t l. refl)

  pub start_suited : IsSuited p.ops s.seats
  start_suited t = start_each (λ u z. suits z (p.ops.offer (s.seats u).local) ≡ true) (λ u l. refl) (λ u l. refl) t

  pub start_lined : IsLined s
  start_lined t = ap (times t) opening.line ∙ start_each (λ u z. ◌≡◌ {A = ℕ} 0 (if is_queued z then 1 else 0)) (λ u l. refl) (λ u l. refl) t

  start_unserved : (a t : ℕ) → is_served_by a (s.seats t).standing ≡ false
  start_unserved a = start_each (λ t z. is_served_by a z ≡ false) (λ t l. refl) (λ t l. refl)

  -- an open task is one below the last
  start_below : (t : ℕ) → is_closed (s.seats t).standing ≡ false → t < p.size
  start_below = start_each (λ t z. is_closed z ≡ false → t < p.size) (λ t l h. l) (λ t l h. absurd (true≢false h))

  start_sound : IsSound p.ops IsProper s.seats
  start_sound = record {
    closed = λ a c k. start_unserved a c;
    callers = λ a c k. ap (times c) (opening.callers a (start_below a k)) ∙ ap (λ b. if b then 1 else 0) (sym (start_unserved a c));
    itself = λ a. start_unserved a a;
    proper = λ a k. proper a (start_below a k);
  }

  -- the world of the opening state
  abbrev start : World L
  start = world_of s

  start_tasks : start.tasks ≡ s.seats
  start_tasks = λ i t. record { local = (s.seats t).local; standing = start_still t i }

  start_state : state_of start ≡ s
  start_state = λ i. record { seats = start_tasks i; line = (sym opening.line) i; ended = s.ended }

  pub start_base : IsBase p IsProper lawful start
  start_base = record {
    sound = subst (IsSound p.ops IsProper) (sym start_tasks) start_sound;
    still' = λ t. still_still (s.seats t).standing;
    beyond = λ t l. ap (λ z. is_completed (still z)) (opening.beyond t l);
  }

  -- nobody is killed at the start
  start_numbers : (number : ℕ → ℕ) → HasNumbers p IsProper lawful number start start
  start_numbers number t killed = absurd (start_each (λ u z. still z ≡ Killed → ⊥)
      (λ u l q. let k : ◌≡◌ {A = Standing} Live Killed = q in cc) (λ u l q. let k : ◌≡◌ {A = Standing} Completed Killed = q in cc) t killed)

  -- ---- runs follow the bases

  -- What the events of a run lead to, and each task as its base run on.
  pub record IsLed (events : List Event) (tasks : ℕ → Seat L) (tally : ℕ → ℕ) : Type 0 where
    pub last : World L
    pub leads : Leads p start events last
    pub each : (t : ℕ) → IsRunOn p.ops (last.tasks t) (tally t) (still_seat (tasks t))

  pub run_leads : (events : List Event) (tasks : ℕ → Seat L) (tally : ℕ → ℕ) → ComesTo (numbered p) s events tasks tally → IsLed events tasks tally
  run_leads events tasks tally run =
      let er : IsErased p s run.actions = erasing p s run.actions run.applies in
      let (last, leads, follows) = follow_moves p IsProper lawful er.moves start start (λ t. 0) start_base.sound (follows_self p start) er.made in
      record {
        last = last;
        leads = subst (λ es. Leads p start es last) (er.events ∙ run.has_events) leads;
        each = λ t. subst (IsRunOn p.ops (last.tasks t) (tally t)) (ap (λ (w : World L). w.tasks t) er.ends ∙ ap still_seat (run.leaves t))
            (subst (λ n. IsRunOn p.ops (last.tasks t) n ((world_after p start er.moves).tasks t)) (ap (λ (c : ℕ → ℕ). c t) (er.counts (λ u. 0)) ∙ run.counts t) (follows.each t));
      }

  -- ---- whatever the bases allow is had by a run

  -- moves from the world of the opening state are a run
  moves_run : (moves : List Move) → AreMoves p start moves → IsLifted p start moves
  moves_run moves made = lifting p start moves start_base.still' made

  pub feasible_back : (events : List Event) (last : World L) → Leads p start events last → Feasible (numbered p) s events
  feasible_back events last h =
      let none : ℕ → ℕ = λ t. 0 in
      let r : Return p IsProper lawful none start last events =
      lead_back p IsProper lawful none events start last start h (no_steps events start last h) start_base (follows_self p start) start_base.sound (start_numbers none) in
      let l : IsLifted p start r.moves = moves_run r.moves r.made in (
        l.actions,
        subst (λ z. IsRun (numbered p) z l.actions) start_state l.applies,
        subst (λ z. events_of (numbered p) z l.actions ≡ events) start_state (l.events ∙ r.events_are),
      )
    where
      no_steps : (events : List Event) (w last : World L) (h : Leads p w events last) → CanKillAll p IsProper lawful (λ t. 0) events w last h
      no_steps [] w last h = tt
      no_steps (e ∷ events) w last (next, f, h) = (λ t k l. tt, no_steps events next last h)

  -- A run to the bases, with each free task run on by its number more, and each killed one run on by its number before the abort.
  pub record IsReached (events : List Event) (last : World L) (number : ℕ → ℕ) : Type 0 where
    pub tasks : ℕ → Seat L
    pub tally : ℕ → ℕ
    pub run : ComesTo (numbered p) s events tasks tally
    pub standing : (t : ℕ) → (tasks t).standing ≡ (last.tasks t).standing
    pub free : (t : ℕ) → (last.tasks t).standing ≡ Live → ((tasks t).local ≡ ran p.ops (number t) (last.tasks t).local) × (tally t ≡ number t)
    pub killed : (t : ℕ) → (last.tasks t).standing ≡ Killed → (tasks t).local ≡ ran p.ops (number t) (last.tasks t).local

  module _ (number : ℕ → ℕ) (events : List Event) (last : World L) (more : HasNoEnd events) (h : Leads p start events last)
      (kill : CanKillAll p IsProper lawful number events start last h) (steps : (t : ℕ) → (last.tasks t).standing ≡ Live → HasSteps p.ops (number t) (last.tasks t).local) where
    base : IsBase p IsProper lawful last
    base = base_leads p IsProper lawful events start last h start_base

    returned : Return p IsProper lawful number start last events
    returned = lead_back p IsProper lawful number events start last start h kill start_base (follows_self p start) start_base.sound (start_numbers number)

    abbrev there : World L
    there = world_after p start returned.moves

    abbrev count : ℕ → ℕ
    count = counts_after p start returned.moves (λ t. 0)

    add : ℕ → ℕ
    add t = if is_live (last.tasks t).standing then number t else 0

    add_live : (t : ℕ) → (last.tasks t).standing ≡ Live → add t ≡ number t
    unfolding add
    add_live t q = ap (λ z. if is_live z then number t else 0) q

    add_none : (t : ℕ) → is_live (last.tasks t).standing ≡ false → add t ≡ 0
    unfolding add
    add_none t q = ap (λ b. if b then number t else 0) q

    idle : (z : Standing) → is_completed z ≡ true → is_live z ≡ false
    idle Live q = absurd (true≢false (sym q))
    idle Waiting q = refl
    idle Queued q = refl
    idle (Served by abnormal) q = refl
    idle Completed q = refl
    idle Killed q = refl

    open' : there.ended ≡ false
    open' = returned.follows.ended ∙ leads_open p IsProper lawful number events start last more opening.ended h

    walked : Walk p last there count add
    walked = walk_all p p.size last there count add returned.follows open'
        (λ t. ⊎_elim
        (λ q. let free : (last.tasks t).standing ≡ Live = is-Live (last.tasks t).standing q in
        inr (
          (returned.follows.each t).standing ∙ free,
          subst (λ n. HasSteps p.ops n (last.tasks t).local) (sym (none_more (add t) (count t) (returned.zero_counts more t)))
              (subst (λ n. HasSteps p.ops n (last.tasks t).local) (sym (add_live t free)) (steps t free)),
        ))
        (λ q. inl (add_none t q))
        (cases_Bool (is_live (last.tasks t).standing)))
        (λ t l. add_none t (idle (last.tasks t).standing (base.beyond t l)))
      where
        none_more : (a b : ℕ) → b ≡ 0 → a + b ≡ a
        none_more a b e = omega arith

    abbrev all_moves : List Move
    all_moves = returned.moves ++ walked.moves

    lifted : IsLifted p start all_moves
    lifted = moves_run all_moves (moves_append p start returned.moves walked.moves returned.made walked.made)

    abbrev end' : World L
    end' = world_after p there walked.moves

    ends : world_after p start all_moves ≡ end'
    ends = world_append p start returned.moves walked.moves

    final : end_of (numbered p) (state_of start) lifted.actions ≡ state_of end'
    final = lifted.exact (ap (λ (w : World L). w.ended) ends ∙ walked.runs ∙ open') ∙ ap state_of ends

    number_more : (t : ℕ) → (last.tasks t).standing ≡ Live → counts_after p there walked.moves count t ≡ number t
    number_more t q =
        let a : counts_after p there walked.moves count t ≡ add t + count t = walked.counts t in
        let b : count t ≡ 0 = returned.zero_counts more t in
        let c : add t ≡ number t = add_live t q in
        omega arith

    pub reached : IsReached events last number
    reached = record {
      tasks = end'.tasks;
      tally = counts_after p there walked.moves count;
      run = record {
        actions = lifted.actions;
        applies = subst (λ z. IsRun (numbered p) z lifted.actions) start_state lifted.applies;
        has_events = subst (λ z. events_of (numbered p) z lifted.actions ≡ events) start_state
            (lifted.events ∙ happened_append returned.moves walked.moves ∙ ap₂ (λ xs ys. xs ++ ys) returned.events_are walked.silent ∙ append-nil events);
        leaves = λ t. subst (λ z. (end_of (numbered p) z lifted.actions).seats t ≡ end'.tasks t) start_state (ap (λ (z : State (ℕ → Seat L)). z.seats t) final);
        counts = λ t. subst (λ z. tallies (numbered p) z lifted.actions (λ u. 0) t ≡ counts_after p there walked.moves count t) start_state
            (ap (λ (c : ℕ → ℕ). c t) (lifted.counts (λ u. 0) ∙ counts_append p start returned.moves walked.moves (λ u. 0)));
      };
      standing = λ t. (walked.follows.each t).standing;
      free = λ t q. (
        (walked.follows.each t).local ∙ ap (λ n. ran p.ops n (last.tasks t).local)
            (subst (λ z. CountsFor z (counts_after p there walked.moves count t) (walked.follows.each t).steps) q (walked.follows.each t).counted ∙ number_more t q),
        number_more t q,
      );
      killed = λ t q. ap (λ x. x.local) (walked.others t (add_none t (ap is_live q))) ∙ returned.numbers t q;
    }
