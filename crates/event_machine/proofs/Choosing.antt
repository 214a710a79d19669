-- The two laws over tasks by their numbers: some run has had all states that can be chosen, and an event is feasible exactly where it is judged so.
use Rattle.std.proofs.Common.{◌≡◌, ℕ, ◌<◌, Bool, true, false, not, ◌&&◌, List, [], ◌∷◌, ◌++◌, refl, sym, ap, ◌∙◌, subst, true≢false, append_assoc}
use Rattle.std.specs.Prelude.{MatchBool}
use Rattle.std.proofs.lemmas.Bool.{and_parts, ne_eqb}
use Rattle.event_machine.specs.declared.Standing.TheVariants.{Live, Killed}
use Rattle.event_machine.specs.declared.Event.{Event}
use Rattle.event_machine.specs.declared.Event.TheVariants.{B}
use Rattle.event_machine.specs.States.{Seat, State, is_live, is_completed}
use Rattle.event_machine.specs.Lawful.{IsLawful}
use Rattle.event_machine.specs.Runs.{Feasible}
use Rattle.event_machine.specs.Programs.{Program, numbered, IsOpening}
use Rattle.event_machine.specs.Worlds.{World, world_of, needs}
use Rattle.event_machine.specs.Settling.{ran, HasSteps, Settles, run_on, fired, Fires, Leads}
use Rattle.event_machine.specs.Tallies.{RestIs, StandsAfter, HasNoEnd}
use Rattle.event_machine.specs.Laws.{IsVictim, CanChoose, HasChosen, FirstLaw, IsJudged, SecondLaw, FeasibleAdmitted}
use Rattle.event_machine.proofs.Basics.{both, split, seat_path}
use Rattle.event_machine.proofs.Standings.{is-Live}
use Rattle.event_machine.proofs.Admitting.{admitted}
use Rattle.event_machine.proofs.Agreeing.{ReadsSame, happens_same}
use Rattle.event_machine.proofs.Killing.{is_victim, victim_abort}
use Rattle.event_machine.proofs.Bases.{IsBase, base_fires, base_leads, completed_leads, victim_killed, sound_found, steps_settle}
use Rattle.event_machine.proofs.Walking.{leads_append, leads_split}
use Rattle.event_machine.proofs.Returning.{CanKillAll, leads_open}
use Rattle.event_machine.proofs.Reaching.{IsLed, run_leads, IsReached, reached, feasible_back, start_base}
use Rattle.event_machine.proofs.Resting.{feasible_leads, stands_there, stands_is, rest_steps, rest_back}
use Rattle.common_lemmas.proofs.Numbers.{equal_self}

-- a part of a list without the end of the program has none
no_end_before : (xs ys : List Event) → HasNoEnd (xs ++ ys) → HasNoEnd xs
no_end_before [] ys h = refl
no_end_before (x ∷ xs) ys h = let k = split h in both k.0 (no_end_before xs ys k.1)

module _ {L : Type 0} (p : Program L) (IsProper : L → Type 0) (lawful : IsLawful p.ops IsProper) (s : State (ℕ → Seat L))
    (opening : IsOpening (numbered p) s) (proper : (t : ℕ) → t < p.size → IsProper (s.seats t).local) where
  abbrev start : World L
  start = world_of s

  base_at : (events : List Event) (w : World L) → Leads p start events w → IsBase p IsProper lawful w
  base_at events w h = base_leads p IsProper lawful events start w h (start_base p IsProper lawful s opening proper)

  -- ---- the first law

  module _ (events : List Event) (number : ℕ → ℕ) (more : HasNoEnd events) (choice : CanChoose (numbered p) s events number)
      (last : World L) (h : Leads p start events last) where
    free_steps : (t : ℕ) → (last.tasks t).standing ≡ Live → HasSteps p.ops (number t) (last.tasks t).local
    free_steps t free =
        let (l, rest) = choice.free t (subst (StandsAfter (numbered p) s events t) free (stands_there p IsProper lawful s opening proper events last more h t)) in
        (rest_steps p IsProper lawful s opening proper events last h t (number t) l rest).0

    -- a victim has its steps before the abort
    victim_steps : (before : List Event) (w : World L) → Leads p start before w → (x : ℕ) → IsVictim (numbered p) s events before x →
        (l : L) × RestIs (numbered p) s before x (number x) l × HasSteps p.ops (number x) (w.tasks x).local × (l ≡ ran p.ops (number x) (w.tasks x).local)
    victim_steps before w k x victim =
        let (l, rest) = choice.victim x before victim in
        let (steps, is) = rest_steps p IsProper lawful s opening proper before w k x (number x) l rest in
        (l, rest, steps, is)

    can_kill_from : (before rest : List Event) (w : World L) → events ≡ before ++ rest → Leads p start before w → (k : Leads p w rest last) →
        CanKillAll p IsProper lawful number rest w last k
    can_kill_from before [] w is a k = tt
    can_kill_from before (e ∷ rest) w is a (next, f, k) =
        (here, can_kill_from (before ++ e ∷ []) rest next (is ∙ sym (append_assoc before (e ∷ []) rest)) (leads_append p before (e ∷ []) start w next a (next, f, refl)) k)
      where
        here : (t : ℕ) → is_victim e t ≡ true → (w.tasks t).standing ≡ Live → HasSteps p.ops (number t) (w.tasks t).local
        here t v free =
            let (u, abort, other) = victim_abort e t v in
            (victim_steps before w a t (record {
              by = u;
              rest = rest;
              splits = is ∙ ap (λ x. before ++ x ∷ rest) abort;
              other = other;
              free = subst (StandsAfter (numbered p) s before t) free
                  (stands_there p IsProper lawful s opening proper before w (no_end_before before (e ∷ rest) (subst HasNoEnd is more)) a t);
            })).2

    chosen : IsReached p IsProper lawful s opening proper events last number
    chosen = reached p IsProper lawful s opening proper number events last more h (can_kill_from [] events start refl refl h) free_steps

    -- the world before an abort, and what it leaves of its victim
    victim_end : (x : ℕ) (before : List Event) → IsVictim (numbered p) s events before x →
        ((last.tasks x).standing ≡ Killed) × RestIs (numbered p) s before x (number x) (ran p.ops (number x) (last.tasks x).local)
    victim_end x before victim =
        let (w, a, (next, f, b)) = leads_split p before (B victim.by x ∷ victim.rest) start last (subst (λ es. Leads p start es last) victim.splits h) in
        let free : (w.tasks x).standing ≡ Live = stands_is p IsProper lawful s opening proper before w a x Live victim.free in
        let falls = victim_killed p IsProper lawful f x (both (equal_self x) (ap not (ne_eqb x victim.by (λ q. victim.other (sym q))))) free in
        let stays = completed_leads p IsProper lawful victim.rest next last b (base_fires p IsProper lawful f (base_at before w a)) x (ap (λ (y : Seat L). is_completed y.standing) falls) in
        let (l, rest, steps, is) = victim_steps before w a x victim in (
          ap (λ (y : Seat L). y.standing) (stays ∙ falls),
          rest_back p IsProper lawful s opening proper before (no_end_before before (B victim.by x ∷ victim.rest) (subst HasNoEnd victim.splits more)) x (number x)
              (ran p.ops (number x) (last.tasks x).local) (w, a, free, steps, ap (λ (y : Seat L). ran p.ops (number x) y.local) (stays ∙ falls)),
        )

    has_chosen : HasChosen (numbered p) s events number chosen.tasks chosen.tally
    has_chosen = record {
      free = λ t k.
          let free : (last.tasks t).standing ≡ Live = stands_is p IsProper lawful s opening proper events last h t Live k in
          (chosen.standing t ∙ free, (chosen.free t free).1);
      victim = λ x before victim.
          let (killed, rest) = victim_end x before victim in
          (chosen.standing x ∙ killed, subst (RestIs (numbered p) s before x (number x)) (sym (chosen.killed x killed)) rest);
    }

  pub first_law : FirstLaw (numbered p) s
  first_law events number more feasible choice =
      let (last, h) = feasible_leads p IsProper lawful s opening proper events feasible in
      let r = chosen events number more choice last h in
      (r.tasks, r.tally, r.run, has_chosen events number more choice last h)

  -- ---- the second law

  module _ (events : List Event) (e : Event) (more : HasNoEnd events) where
    judged_so : Feasible (numbered p) s (events ++ e ∷ []) → IsJudged (numbered p) s events e
    judged_so feasible =
        let (end', h) = feasible_leads p IsProper lawful s opening proper (events ++ e ∷ []) feasible in
        let (w, a, (next, f, last)) = leads_split p events (e ∷ []) start end' h in
        record {
          views = run_on p.ops f.steps w.tasks;
          standing = λ t. stands_there p IsProper lawful s opening proper events w more a t;
          rests = λ t need free.
              let settle = steps_settle p f t (both need (ap is_live free)) in (
                f.steps t,
                rest_back p IsProper lawful s opening proper events more t (f.steps t) (ran p.ops (f.steps t) (w.tasks t).local) (w, a, free, settle.0, refl),
                settle.1,
              );
          holds = f.holds;
        }

    module _ (j : IsJudged (numbered p) s events e) (w : World L) (a : Leads p start events w) (runs : w.ended ≡ false) where
      same_standing : (t : ℕ) → (w.tasks t).standing ≡ (j.views t).standing
      same_standing t = stands_is p IsProper lawful s opening proper events w a t (j.views t).standing (j.standing t)

      -- the steps after which the needed free tasks rest
      steps_at : (t : ℕ) (b : Bool) → (needs p e t && is_live (w.tasks t).standing) ≡ b →
          (n : ℕ) × MatchBool b (Settles p.ops n (w.tasks t).local × ((j.views t).local ≡ ran p.ops n (w.tasks t).local)) (n ≡ 0)
      steps_at t true q =
          let k = and_parts (needs p e t) (is_live (w.tasks t).standing) q in
          let (n, rest, no_step) = j.rests t k.0 (sym (same_standing t) ∙ is-Live (w.tasks t).standing k.1) in
          let (steps, is) = rest_steps p IsProper lawful s opening proper events w a t n (j.views t).local rest in
          (n, ((steps, ap p.ops.can_step (sym is) ∙ no_step), is))
      steps_at t false q = (0, refl)

      steps_of : ℕ → ℕ
      steps_of t = (steps_at t (needs p e t && is_live (w.tasks t).standing) refl).0

      settles_of : (t : ℕ) (b : Bool) (q : (needs p e t && is_live (w.tasks t).standing) ≡ b) → MatchBool b (Settles p.ops (steps_at t b q).0 (w.tasks t).local) ((steps_at t b q).0 ≡ 0)
      settles_of t true q = (steps_at t true q).1.0
      settles_of t false q = (steps_at t false q).1

      views_of : (t : ℕ) (b : Bool) (q : (needs p e t && is_live (w.tasks t).standing) ≡ b) → b ≡ true → (j.views t).local ≡ ran p.ops (steps_at t b q).0 (w.tasks t).local
      views_of t true q r = (steps_at t true q).1.1
      views_of t false q r = absurd (true≢false (sym r))

      reads : ReadsSame p e j.views (run_on p.ops steps_of w.tasks)
      unfolding steps_of
      reads = record {
        standing = same_standing;
        needed = λ t need free. seat_path
            (sym (views_of t (needs p e t && is_live (w.tasks t).standing) refl (both need (ap is_live (same_standing t ∙ free)))))
            (same_standing t);
      }

      fires : Fires p w e (fired p steps_of w e)
      unfolding steps_of
      fires = record {
        steps = steps_of;
        settles = λ t. settles_of t (needs p e t && is_live (w.tasks t).standing) refl;
        runs = runs;
        holds = happens_same p e j.views (run_on p.ops steps_of w.tasks) reads ∙ j.holds;
        becomes = refl;
      }

      feasible_so : Feasible (numbered p) s (events ++ e ∷ [])
      feasible_so = feasible_back p IsProper lawful s opening proper (events ++ e ∷ []) (fired p steps_of w e)
          (leads_append p events (e ∷ []) start w (fired p steps_of w e) a (fired p steps_of w e, fires, refl))

  pub second_law : SecondLaw (numbered p) s
  second_law events e more = (judged_so events e more, back)
    where
      back : IsJudged (numbered p) s events e → Feasible (numbered p) s (events ++ e ∷ [])
      back j =
          let (tasks, tally, run, stand') = j.standing 0 in
          let led : IsLed p IsProper lawful s opening proper events tasks tally = run_leads p IsProper lawful s opening proper events tasks tally run in
          feasible_so events e more j led.last led.leads (leads_open p IsProper lawful (λ t. 0) events start led.last more opening.ended led.leads)

  -- ---- what standings admit

  pub feasible_admitted : FeasibleAdmitted (numbered p) s
  feasible_admitted events e more feasible =
      let (end', h) = feasible_leads p IsProper lawful s opening proper (events ++ e ∷ []) feasible in
      let (w, a, (next, f, last)) = leads_split p events (e ∷ []) start end' h in
      let base : IsBase p IsProper lawful w = base_at events w a in (
        run_on p.ops f.steps w.tasks,
        (λ t. stands_there p IsProper lawful s opening proper events w more a t),
        admitted p IsProper lawful e (run_on p.ops f.steps w.tasks) (sound_found p IsProper lawful f base.sound) base.beyond f.holds,
      )
