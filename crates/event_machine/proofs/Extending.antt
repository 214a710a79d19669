-- How a world goes on: an event that is feasible happens after some further local steps of the tasks that it needs, and where these rest already its
-- conditions hold as they stand. Who is served, in words; quiet ends; and parts of feasible lists.
use Rattle.std.proofs.Common.{◌≡◌, ℕ, suc, ◌<◌, ◌≤◌, ◌+◌, ◌-◌, Bool, true, false, not, ◌&&◌, if◌then◌else◌, List, [], ◌∷◌, ◌++◌, refl, sym, ap, ◌∙◌, subst, inl, inr, ◌⊎◌, ⊎_elim, true≢false, arith}
use Rattle.std.proofs.lemmas.Bool.{and_parts, and_right}
use Rattle.event_machine.specs.declared.Standing.{Standing}
use Rattle.event_machine.specs.declared.Standing.TheVariants.{Live, Waiting, Queued, Served, Completed, Killed}
use Rattle.event_machine.specs.declared.Action.{Action}
use Rattle.event_machine.specs.declared.Event.{Event}
use Rattle.event_machine.specs.States.{Ops, Seat, State, is_live, is_closed, is_completed, is_served_by}
use Rattle.event_machine.specs.Lawful.{IsLawful}
use Rattle.event_machine.specs.Runs.{IsRun, end_of, Feasible}
use Rattle.event_machine.specs.Programs.{Program, numbered, IsOpening}
use Rattle.event_machine.specs.Worlds.{World, Happen, still_seat, world_of, needs, happens, is_last, can_move, world_after, counts_after}
use Rattle.event_machine.specs.Settling.{ran, HasSteps, run_on, Fires, CountsFor, Follows}
use Rattle.event_machine.specs.Soundness.{IsSound, times}
use Rattle.event_machine.specs.Tallies.{HasNoEnd, before_end, ComesTo}
use Rattle.event_machine.specs.Laws.{IsQuiet, IsErased}
use Rattle.event_machine.proofs.Basics.{both, split, seat_path}
use Rattle.event_machine.proofs.Stills.{still_closed, still_served_by}
use Rattle.event_machine.proofs.Standings.{is-Live, still_live}
use Rattle.event_machine.proofs.Stepping.{settles_once, settles_most}
use Rattle.event_machine.proofs.Agreeing.{ReadsSame, happens_same}
use Rattle.event_machine.proofs.Queues.{suited_patient}
use Rattle.event_machine.specs.Queues.{IsSuited}
use Rattle.event_machine.specs.Offers.{Nothing}
use Rattle.event_machine.proofs.Erasing.{erasing}
use Rattle.event_machine.proofs.Bases.{steps_settle}
use Rattle.event_machine.proofs.Walking.{Walk, walk_all, leads_split, sound_moves}
use Rattle.event_machine.proofs.Resting.{feasible_leads}
use Rattle.event_machine.proofs.Reaching.{feasible_back, start_base}
use Rattle.common_lemmas.proofs.Truth.{not_true}

-- ---- who is served

module _ {L : Type 0} {ops : Ops L} {IsProper : L → Type 0} {tasks : ℕ → Seat L} (sound : IsSound ops IsProper tasks) where
  -- the acceptor of a served task is not closed, and has it once among its callers
  pub served_caller : (a c : ℕ) → is_served_by a (tasks c).standing ≡ true → (is_closed (tasks a).standing ≡ false) × (times c (ops.callers (tasks a).local) ≡ 1)
  served_caller a c h = (open', sound.callers a c open' ∙ ap (λ b. if b then 1 else 0) h)
    where
      go : (b : Bool) → is_closed (tasks a).standing ≡ b → b ≡ false
      go true q = absurd (true≢false (sym h ∙ sound.closed a c q))
      go false q = refl

      open' : is_closed (tasks a).standing ≡ false
      open' = go (is_closed (tasks a).standing) refl

  -- each caller of an open task is served by it, and stands among its callers once
  pub caller_served : (a c n : ℕ) → is_closed (tasks a).standing ≡ false → times c (ops.callers (tasks a).local) ≡ suc n →
      (is_served_by a (tasks c).standing ≡ true) × (n ≡ 0)
  caller_served a c n open' h = go (is_served_by a (tasks c).standing) (sym h ∙ sound.callers a c open')
    where
      go : (b : Bool) → suc n ≡ (if b then 1 else 0) → (b ≡ true) × (n ≡ 0)
      go true q = (refl, omega arith)
      go false q = absurd (omega arith)

-- ---- quiet ends

-- where each task offers what suits its standing, no live task has a local step exactly where no free task has one
pub quiet_still : {L : Type 0} (p : Program L) → ((l : L) → p.ops.can_step l ≡ true → p.ops.offer l ≡ Nothing) → (seats : ℕ → Seat L) → IsSuited p.ops seats →
    IsQuiet p.ops seats → IsQuiet p.ops (λ t. still_seat (seats t))
quiet_still p rests seats suited quiet t free =
    ⊎_elim (λ q. quiet t (ap is_live (sym q) ∙ free)) (λ q. q) (suited_patient p rests (seats t) (suited t))

pub still_quiet : {L : Type 0} (ops : Ops L) (seats : ℕ → Seat L) → IsQuiet ops (λ t. still_seat (seats t)) → IsQuiet ops seats
still_quiet ops seats quiet t free = quiet t (still_live (seats t).standing free)

-- ---- lists of events

pub before_end-same : (events : List Event) → HasNoEnd events → before_end events ≡ events
before_end-same [] h = refl
before_end-same (e ∷ events) h = let k = split h in
    ap (λ b. if b then [] else e ∷ before_end events) (not_true (is_last e) k.0) ∙ ap (λ es. e ∷ es) (before_end-same events k.1)

module _ {L : Type 0} (p : Program L) where
  -- ---- conditions where the needed tasks rest

  -- a world that is at the counts at which an event finds its tasks fulfils its conditions
  pub fires_happens : {bases next : World L} {e : Event} (f : Fires p bases e next) (w : World L) (count : ℕ → ℕ) → Follows p bases w count →
      ((t : ℕ) → needs p e t ≡ true → (bases.tasks t).standing ≡ Live → count t ≡ f.steps t) → happens p w.tasks e ≡ true
  fires_happens {bases} {next} {e} f w count follows steps = happens_same p e (run_on p.ops f.steps bases.tasks) w.tasks reads ∙ f.holds
    where
      reads : ReadsSame p e (run_on p.ops f.steps bases.tasks) w.tasks
      reads = record {
        standing = λ t. (follows.each t).standing;
        needed = λ t need free. seat_path
            ((follows.each t).local ∙ ap (λ n. ran p.ops n (bases.tasks t).local)
            (subst (λ z. CountsFor z (count t) (follows.each t).steps) free (follows.each t).counted ∙ steps t need free))
            (follows.each t).standing;
      }

  -- a free task of the world, at its count
  at_count : (bases w : World L) (count : ℕ → ℕ) → Follows p bases w count → (t : ℕ) → (bases.tasks t).standing ≡ Live →
      HasSteps p.ops (count t) (bases.tasks t).local × ((w.tasks t).local ≡ ran p.ops (count t) (bases.tasks t).local)
  at_count bases w count follows t free =
      let made : (follows.each t).steps ≡ count t = subst (λ z. CountsFor z (count t) (follows.each t).steps) free (follows.each t).counted in (
        subst (λ n. HasSteps p.ops n (bases.tasks t).local) made (follows.each t).has_steps,
        (follows.each t).local ∙ ap (λ n. ran p.ops n (bases.tasks t).local) made,
      )

  -- Where the free tasks that the event needs rest, its conditions hold as they stand, if it happens at all.
  pub rests_happens : {bases next : World L} {e : Event} (f : Fires p bases e next) (w : World L) (count : ℕ → ℕ) → Follows p bases w count →
      ((t : ℕ) → needs p e t ≡ true → (w.tasks t).standing ≡ Live → p.ops.can_step (w.tasks t).local ≡ false) → happens p w.tasks e ≡ true
  rests_happens {bases} {next} {e} f w count follows rests = fires_happens f w count follows (λ t need free.
      let (steps, is) = at_count bases w count follows t free in
      settles_once p.ops (count t) (f.steps t) (bases.tasks t).local (steps, ap p.ops.can_step (sym is) ∙ rests t need ((follows.each t).standing ∙ free))
      (steps_settle p f t (both need (ap is_live free))))

  -- ---- further steps

  difference : (a b : ℕ) → a ≤ b → (b - a) + a ≡ b
  difference a b l = omega arith

  -- After further local steps of the free tasks that it needs alone, an event that the bases allow can happen.
  pub extend : {bases next : World L} {e : Event} (f : Fires p bases e next) (w : World L) (count : ℕ → ℕ) → Follows p bases w count →
      ((t : ℕ) → p.size ≤ t → is_completed (bases.tasks t).standing ≡ true) →
      (add : ℕ → ℕ) × (walk : Walk p bases w count add) × (can_move p (world_after p w walk.moves) (Happen e) ≡ true) ×
      ((t : ℕ) → (needs p e t && is_live (bases.tasks t).standing) ≡ false → add t ≡ 0)
  extend {bases} {next} {e} f w count follows beyond = (add, walked, both (ap not (walked.runs ∙ follows.ended ∙ f.runs)) holds, add_none)
    where
      add : ℕ → ℕ
      add t = if needs p e t && is_live (bases.tasks t).standing then f.steps t - count t else 0

      add_none : (t : ℕ) → (needs p e t && is_live (bases.tasks t).standing) ≡ false → add t ≡ 0
      add_none t q = ap (λ b. if b then f.steps t - count t else 0) q

      add_some : (t : ℕ) → (needs p e t && is_live (bases.tasks t).standing) ≡ true → add t + count t ≡ f.steps t
      add_some t q =
          let k = and_parts (needs p e t) (is_live (bases.tasks t).standing) q in
          ap (λ b. (if b then f.steps t - count t else 0) + count t) q ∙
          difference (count t) (f.steps t) (settles_most p.ops (count t) (f.steps t) (bases.tasks t).local
          (at_count bases w count follows t (is-Live (bases.tasks t).standing k.1)).0 (steps_settle p f t q))

      over_idle : (z : Standing) → is_completed z ≡ true → is_live z ≡ false
      over_idle Live q = absurd (true≢false (sym q))
      over_idle Waiting q = refl
      over_idle Queued q = refl
      over_idle (Served by abnormal) q = refl
      over_idle Completed q = refl
      over_idle Killed q = refl

      live_steps : (t : ℕ) → (b : Bool) → (needs p e t && is_live (bases.tasks t).standing) ≡ b → (add t ≡ 0) ⊎ (((w.tasks t).standing ≡ Live) × HasSteps p.ops (add t + count t) (bases.tasks t).local)
      live_steps t true q =
          let k = and_parts (needs p e t) (is_live (bases.tasks t).standing) q in
          inr ((follows.each t).standing ∙ is-Live (bases.tasks t).standing k.1, subst (λ n. HasSteps p.ops n (bases.tasks t).local) (sym (add_some t q)) (steps_settle p f t q).0)
      live_steps t false q = inl (add_none t q)

      walked : Walk p bases w count add
      walked = walk_all p p.size bases w count add follows (follows.ended ∙ f.runs) (λ t. live_steps t (needs p e t && is_live (bases.tasks t).standing) refl)
          (λ t l. add_none t (and_right (needs p e t) (is_live (bases.tasks t).standing) (over_idle (bases.tasks t).standing (beyond t l))))

      holds : happens p (world_after p w walked.moves).tasks e ≡ true
      holds = fires_happens f (world_after p w walked.moves) (counts_after p w walked.moves count) walked.follows
          (λ t need free. walked.counts t ∙ add_some t (both need (ap is_live free)))

  -- ---- runs from an opening state

  module _ (IsProper : L → Type 0) (lawful : IsLawful p.ops IsProper) (s : State (ℕ → Seat L))
      (opening : IsOpening (numbered p) s) (proper : (t : ℕ) → t < p.size → IsProper (s.seats t).local) where
    -- what stands before a feasible list is feasible
    pub feasible_before : (xs ys : List Event) → Feasible (numbered p) s (xs ++ ys) → Feasible (numbered p) s xs
    feasible_before xs ys h =
        let (u, k) = feasible_leads p IsProper lawful s opening proper (xs ++ ys) h in
        let (w, a, b) = leads_split p xs ys (world_of s) u k in
        feasible_back p IsProper lawful s opening proper xs w a

    -- Who is served is a caller of an open task in each state of a run.
    pub run_sound : (actions : List Action) → IsRun (numbered p) s actions → IsSound p.ops IsProper (end_of (numbered p) s actions).seats
    run_sound actions run =
        let er : IsErased p s actions = erasing p s actions run in
        still_back (end_of (numbered p) s actions).seats (subst (λ (w : World L). IsSound p.ops IsProper w.tasks) er.ends
        (sound_moves p IsProper lawful er.moves (world_of s) (start_base p IsProper lawful s opening proper).sound er.made))
      where
        still_back : (seats : ℕ → Seat L) → IsSound p.ops IsProper (λ t. still_seat (seats t)) → IsSound p.ops IsProper seats
        still_back seats sound = record {
          closed = λ a c k. sym (still_served_by a (seats c).standing) ∙ sound.closed a c (still_closed (seats a).standing ∙ k);
          callers = λ a c k. sound.callers a c (still_closed (seats a).standing ∙ k) ∙ ap (λ b. if b then 1 else 0) (still_served_by a (seats c).standing);
          itself = λ a. sym (still_served_by a (seats a).standing) ∙ sound.itself a;
          proper = λ a k. sound.proper a (still_closed (seats a).standing ∙ k);
        }

    pub comes_sound : (events : List Event) (tasks : ℕ → Seat L) (tally : ℕ → ℕ) → ComesTo (numbered p) s events tasks tally → IsSound p.ops IsProper tasks
    comes_sound events tasks tally run = subst (IsSound p.ops IsProper) (λ i t. run.leaves t i) (run_sound run.actions run.applies)
