-- What bases lead to is had by moves: the needed tasks run until they rest, the victim of an abort runs as far as one likes, and then the event happens.
use Rattle.std.proofs.Common.{◌≡◌, ℕ, ◌+◌, Bool, true, false, not, ◌&&◌, ◌||◌, if◌then◌else◌, List, [], ◌∷◌, ◌++◌, refl, sym, ap, ap₂, ◌∙◌, subst, inl, inr, ⊎_elim, true≢false}
use Rattle.std.proofs.lemmas.Bool.{and_parts, and_right, and_left, cases_Bool, false_from_ne_true}
use Rattle.event_machine.specs.declared.Standing.{Standing}
use Rattle.event_machine.specs.declared.Standing.TheVariants.{Live, Waiting, Queued, Served, Completed, Killed}
use Rattle.event_machine.specs.declared.Event.{Event}
use Rattle.event_machine.specs.States.{Seat, is_live, is_closed, is_completed, is_served}
use Rattle.event_machine.specs.Lawful.{IsLawful}
use Rattle.event_machine.specs.Programs.{Program}
use Rattle.event_machine.specs.Worlds.{World, Move, Happen, still, happens, needs, changes, is_last, can_move, moved, AreMoves, world_after, happened, counts_after, recount}
use Rattle.event_machine.specs.Settling.{ran, HasSteps, run_on, Fires, Leads, CountsFor, Follows}
use Rattle.event_machine.specs.Soundness.{IsSound}
use Rattle.event_machine.specs.Tallies.{HasNoEnd}
use Rattle.event_machine.proofs.Basics.{split, both}
use Rattle.event_machine.proofs.Standings.{is-Live}
use Rattle.event_machine.proofs.Agreeing.{happens_same}
use Rattle.event_machine.proofs.Effected.{unchanged}
use Rattle.event_machine.proofs.Following.{deterministic, follow_event, agrees, steps_to, serving}
use Rattle.event_machine.proofs.Killing.{is_victim, needs_changes, victim_changes, victim_needless, completed_stays, newly_killed, IsKill}
use Rattle.event_machine.proofs.Bases.{IsBase, base_fires, completed_fires, next_tasks, last_same, found_idle, found_steps, steps_idle, sound_found}
use Rattle.event_machine.proofs.Walking.{Walk, walk_all, sound_moves}
use Rattle.event_machine.proofs.Appends.{moves_append, world_append, happened_append, counts_append}
use Rattle.common_lemmas.proofs.Numbers.{more_zero}
use Rattle.common_lemmas.proofs.Truth.{not_true}

-- a task that is open, serves as no caller, and neither waits nor is queued is live
open_live : (s : Standing) → is_closed s ≡ false → is_served s ≡ false → still s ≡ s → s ≡ Live
open_live Live h k e = refl
open_live Waiting h k e = sym e
open_live Queued h k e = sym e
open_live (Served by abnormal) h k e = absurd (true≢false k)
open_live Completed h k e = absurd (true≢false h)
open_live Killed h k e = absurd (true≢false h)

pub completed_idle : (s : Standing) → is_completed s ≡ true → is_live s ≡ false
completed_idle Live h = absurd (true≢false (sym h))
completed_idle Waiting h = refl
completed_idle Queued h = refl
completed_idle (Served by abnormal) h = refl
completed_idle Completed h = refl
completed_idle Killed h = refl

module _ {L : Type 0} (p : Program L) (IsProper : L → Type 0) (lawful : IsLawful p.ops IsProper) (number : ℕ → ℕ) where
  -- A killed task has run on by its number.
  abbrev pub HasNumbers : World L → World L → Type 0
  HasNumbers bases w = (t : ℕ) → (bases.tasks t).standing ≡ Killed → (w.tasks t).local ≡ ran p.ops (number t) (bases.tasks t).local

  -- a task that the event can kill can run on by its number before
  abbrev pub CanKill : World L → Event → Type 0
  CanKill w e = (t : ℕ) → is_victim e t ≡ true → (w.tasks t).standing ≡ Live → HasSteps p.ops (number t) (w.tasks t).local

  -- Moves from a world at the bases, with one event, to one at the bases after it.
  pub record Return (w next : World L) (events : List Event) : Type 0 where
    pub moves : List Move
    pub made : AreMoves p w moves
    pub events_are : happened moves ≡ events
    pub follows : Follows p next (world_after p w moves) (counts_after p w moves (λ t. 0))
    pub zero_counts : HasNoEnd events → (t : ℕ) → counts_after p w moves (λ u. 0) t ≡ 0
    pub numbers : HasNumbers next (world_after p w moves)

  module _ {bases next : World L} {e : Event} (f : Fires p bases e next) (base : IsBase p IsProper lawful bases) (w : World L)
      (at : Follows p bases w (λ t. 0)) (sound : IsSound p.ops IsProper w.tasks) (has : HasNumbers bases w) (can_kill : CanKill bases e) where
    -- the local steps before the event
    abbrev add : ℕ → ℕ
    add t = if needs p e t && is_live (bases.tasks t).standing then f.steps t else (if is_victim e t && is_live (bases.tasks t).standing then number t else 0)

    add_needed : (t : ℕ) → (needs p e t && is_live (bases.tasks t).standing) ≡ true → add t ≡ f.steps t
    add_needed t q = ap (λ b. if b then f.steps t else (if is_victim e t && is_live (bases.tasks t).standing then number t else 0)) q

    add_else : (t : ℕ) → (needs p e t && is_live (bases.tasks t).standing) ≡ false → add t ≡ (if is_victim e t && is_live (bases.tasks t).standing then number t else 0)
    add_else t q = ap (λ b. if b then f.steps t else (if is_victim e t && is_live (bases.tasks t).standing then number t else 0)) q

    add_victim : (t : ℕ) → is_victim e t ≡ true → (bases.tasks t).standing ≡ Live → add t ≡ number t
    add_victim t q free = add_else t (and_left (needs p e t) (is_live (bases.tasks t).standing) (victim_needless p e t q)) ∙
        ap (λ b. if b then number t else 0) (both q (ap is_live free))

    add_idle : (t : ℕ) → is_live (bases.tasks t).standing ≡ false → add t ≡ 0
    add_idle t q = add_else t (and_right (needs p e t) (is_live (bases.tasks t).standing) q) ∙
        ap (λ b. if b then number t else 0) (and_right (is_victim e t) (is_live (bases.tasks t).standing) q)

    add_steps : (t : ℕ) → HasSteps p.ops (add t) (bases.tasks t).local
    add_steps t = go (needs p e t && is_live (bases.tasks t).standing) refl
      where
        victim_steps : (b : Bool) → (is_victim e t && is_live (bases.tasks t).standing) ≡ b → HasSteps p.ops (if b then number t else 0) (bases.tasks t).local
        victim_steps true q =
            let k = and_parts (is_victim e t) (is_live (bases.tasks t).standing) q in can_kill t k.0 (is-Live (bases.tasks t).standing k.1)
        victim_steps false q = tt

        go : (b : Bool) → (needs p e t && is_live (bases.tasks t).standing) ≡ b →
            HasSteps p.ops (if b then f.steps t else (if is_victim e t && is_live (bases.tasks t).standing then number t else 0)) (bases.tasks t).local
        go true q = found_steps p f t
        go false q = victim_steps (is_victim e t && is_live (bases.tasks t).standing) refl

    walked : Walk p bases w (λ t. 0) add
    walked = walk_all p p.size bases w (λ t. 0) add at (at.ended ∙ f.runs)
        (λ t. ⊎_elim
        (λ q. inr ((at.each t).standing ∙ is-Live (bases.tasks t).standing q, subst (λ n. HasSteps p.ops n (bases.tasks t).local) (sym (more_zero (add t))) (add_steps t)))
        (λ q. inl (add_idle t q))
        (cases_Bool (is_live (bases.tasks t).standing)))
        (λ t l. add_idle t (completed_idle (bases.tasks t).standing (base.beyond t l)))

    abbrev before : World L
    before = world_after p w walked.moves

    abbrev count : ℕ → ℕ
    count = counts_after p w walked.moves (λ t. 0)

    count_is : (t : ℕ) → count t ≡ add t
    count_is t = walked.counts t ∙ more_zero (add t)

    sound_before : IsSound p.ops IsProper before.tasks
    sound_before = sound_moves p IsProper lawful walked.moves w sound walked.made

    same_steps : (t : ℕ) → steps_to p IsProper lawful bases before count e walked.follows t ≡ f.steps t
    same_steps t = go (needs p e t && is_live (bases.tasks t).standing) refl
      where
        go : (b : Bool) → (needs p e t && is_live (bases.tasks t).standing) ≡ b → (if b then count t else 0) ≡ f.steps t
        go true q = count_is t ∙ add_needed t q
        go false q = sym (steps_idle p f t q)

    holds_before : happens p before.tasks e ≡ true
    holds_before =
        sym (happens_same p e before.tasks (run_on p.ops (steps_to p IsProper lawful bases before count e walked.follows) bases.tasks)
        (agrees p IsProper lawful bases before count e walked.follows).reads) ∙
        ap (λ steps. happens p (run_on p.ops steps bases.tasks) e) (λ i t. same_steps t i) ∙ f.holds

    can_happen : can_move p before (Happen e) ≡ true
    can_happen = both (ap not (walked.runs ∙ at.ended ∙ f.runs)) holds_before

    there : (v : World L) × Fires p bases e v × Follows p v (moved p before (Happen e)) (recount p before (Happen e) count)
    there = follow_event p IsProper lawful bases before count e walked.follows sound_before can_happen

    follows_there : Follows p next (moved p before (Happen e)) (recount p before (Happen e) count)
    follows_there = subst (λ v. Follows p v (moved p before (Happen e)) (recount p before (Happen e) count)) (deterministic p bases there.0 next e there.1 f) there.2

    -- what was run before the event is counted anew behind it
    none_left : is_last e ≡ false → (t : ℕ) → recount p before (Happen e) count t ≡ 0
    none_left more t = go (changes p.ops p.owner before.tasks e t) refl
      where
        go : (b : Bool) → changes p.ops p.owner before.tasks e t ≡ b → (if b then 0 else count t) ≡ 0
        go true q = refl
        go false q = count_is t ∙
            add_else t (and_left (needs p e t) (is_live (bases.tasks t).standing)
            (false_from_ne_true (needs p e t) (λ k. true≢false (sym (needs_changes p e before.tasks t more k) ∙ q)))) ∙
            ap (λ b. if b then number t else 0) (false_from_ne_true (is_victim e t && is_live (bases.tasks t).standing)
            (λ k. let parts = and_parts (is_victim e t) (is_live (bases.tasks t).standing) k in
            true≢false (sym (victim_changes p e before.tasks t parts.0
            (ap is_closed ((walked.follows.each t).standing ∙ is-Live (bases.tasks t).standing parts.1))) ∙ q)))

    over_before : (t : ℕ) → is_completed (bases.tasks t).standing ≡ true → (moved p before (Happen e)).tasks t ≡ w.tasks t
    over_before t h =
        unchanged p e before.tasks t (completed_stays p e before.tasks holds_before (serving p IsProper before.tasks sound_before) t
        (ap is_completed (walked.follows.each t).standing ∙ h)) ∙
        walked.others t (add_idle t (completed_idle (bases.tasks t).standing h))

    -- a task that the event kills
    kill_numbers : (t : ℕ) → IsKill p e before.tasks t → (next.tasks t).standing ≡ Killed →
        ((moved p before (Happen e)).tasks t).local ≡ ran p.ops (number t) (next.tasks t).local
    kill_numbers t kill killed =
        ap (λ x. x.local) kill.falls ∙ (walked.follows.each t).local ∙
        ap (λ n. ran p.ops n (bases.tasks t).local) (made ∙ count_is t ∙ add_victim t kill.victim free) ∙
        ap (ran p.ops (number t)) (sym base_local)
      where
        free : (bases.tasks t).standing ≡ Live
        free = open_live (bases.tasks t).standing (ap is_closed (sym (walked.follows.each t).standing) ∙ kill.open')
            (ap is_served (sym (walked.follows.each t).standing) ∙ kill.unserved) (base.still' t)

        made : (walked.follows.each t).steps ≡ count t
        made = subst (λ s. CountsFor s (count t) (walked.follows.each t).steps) free (walked.follows.each t).counted

        live_killed : Live ≡ Killed → ⊥
        live_killed q = let k : ◌≡◌ {A = Standing} Live Killed = q in cc

        base_local : (next.tasks t).local ≡ (bases.tasks t).local
        base_local = ⊎_elim
            (λ last. ap (λ (g : ℕ → Seat L). (g t).local) (last_same p f last))
            (λ more. ap (λ (g : ℕ → Seat L). (g t).local) (next_tasks p f more) ∙
            ⊎_elim
            (λ k. absurd (live_killed (sym free ∙ k)))
            (λ k. ap (λ x. x.local) k.falls ∙ ap (λ x. x.local) (found_idle p f t (victim_needless p e t k.victim)))
            (newly_killed p e (run_on p.ops f.steps bases.tasks) (sound_found p IsProper lawful f base.sound).itself t
            (ap (λ (g : ℕ → Seat L). (g t).standing) (sym (next_tasks p f more)) ∙ killed)))
            (cases_Bool (is_last e))

    numbers_there : HasNumbers next (moved p before (Happen e))
    numbers_there t killed = ⊎_elim
        (λ over. ap (λ x. x.local) (over_before t over) ∙
        has t (sym (ap (λ (x : Seat L). x.standing) (completed_fires p IsProper lawful f base t over)) ∙ killed) ∙
        ap (λ (x : Seat L). ran p.ops (number t) x.local) (sym (completed_fires p IsProper lawful f base t over)))
        (λ fresh. ⊎_elim
        (λ k. absurd (true≢false (sym (ap is_completed (sym (walked.follows.each t).standing ∙ k)) ∙ fresh)))
        (λ k. kill_numbers t k killed)
        (newly_killed p e before.tasks sound_before.itself t ((follows_there.each t).standing ∙ killed)))
        (cases_Bool (is_completed (bases.tasks t).standing))

    pub happen_back : Return w next (e ∷ [])
    happen_back = record {
      moves = walked.moves ++ Happen e ∷ [];
      made = moves_append p w walked.moves (Happen e ∷ []) walked.made (can_happen, tt);
      events_are = happened_append walked.moves (Happen e ∷ []) ∙ ap (λ xs. xs ++ e ∷ []) walked.silent;
      follows = subst (λ v. Follows p next v (counts_after p w (walked.moves ++ Happen e ∷ []) (λ t. 0))) (sym (world_append p w walked.moves (Happen e ∷ [])))
          (subst (Follows p next (moved p before (Happen e))) (sym (counts_append p w walked.moves (Happen e ∷ []) (λ t. 0))) follows_there);
      zero_counts = λ h t. ap (λ (c : ℕ → ℕ). c t) (counts_append p w walked.moves (Happen e ∷ []) (λ u. 0)) ∙ none_left (not_true (is_last e) (split h).0) t;
      numbers = subst (HasNumbers next) (sym (world_append p w walked.moves (Happen e ∷ []))) numbers_there;
    }

  -- all victims on the way
  abbrev pub CanKillAll : (events : List Event) (w last : World L) → Leads p w events last → Type 0
  CanKillAll [] w last h = Unit {0}
  CanKillAll (e ∷ events) w last (next, f, h) = CanKill w e × CanKillAll events next last h

  -- behind the end of the program nothing happens
  ended_nothing : (events : List Event) (w last : World L) → w.ended ≡ true → Leads p w events last → events ≡ []
  ended_nothing [] w last e h = refl
  ended_nothing (x ∷ events) w last e (next, f, h) = absurd (true≢false (sym e ∙ f.runs))

  return_on : {w next last : World L} {events : List Event} (e : Event) (r : Return w next (e ∷ [])) → is_last e ≡ false →
      Return (world_after p w r.moves) last events → Return w last (e ∷ events)
  return_on {w} {next} {last} {events} e r more s = record {
    moves = r.moves ++ s.moves;
    made = moves_append p w r.moves s.moves r.made s.made;
    events_are = happened_append r.moves s.moves ∙ ap₂ (λ xs ys. xs ++ ys) r.events_are s.events_are;
    follows = subst (λ v. Follows p last v (counts_after p w (r.moves ++ s.moves) (λ t. 0))) (sym (world_append p w r.moves s.moves))
        (subst (Follows p last (world_after p (world_after p w r.moves) s.moves)) (sym counts) s.follows);
    zero_counts = λ h t. ap (λ (c : ℕ → ℕ). c t) counts ∙ s.zero_counts (split h).1 t;
    numbers = subst (HasNumbers last) (sym (world_append p w r.moves s.moves)) s.numbers;
  }
    where
      none : counts_after p w r.moves (λ t. 0) ≡ (λ t. 0)
      none = λ i t. r.zero_counts (both (ap not more) refl) t i

      counts : counts_after p w (r.moves ++ s.moves) (λ t. 0) ≡ counts_after p (world_after p w r.moves) s.moves (λ t. 0)
      counts = counts_append p w r.moves s.moves (λ t. 0) ∙ ap (counts_after p (world_after p w r.moves) s.moves) none

  -- Moves from a world at the bases that have all these events, to one at the bases behind them, with each killed task run on by its number.
  pub lead_back : (events : List Event) (bases last w : World L) (h : Leads p bases events last) → CanKillAll events bases last h → IsBase p IsProper lawful bases →
      Follows p bases w (λ t. 0) → IsSound p.ops IsProper w.tasks → HasNumbers bases w → Return w last events
  lead_back [] bases last w h kill base at sound has = record {
    moves = [];
    made = tt;
    events_are = refl;
    follows = subst (λ v. Follows p v w (λ t. 0)) h at;
    zero_counts = λ k t. refl;
    numbers = subst (λ v. HasNumbers v w) h has;
  }
  lead_back (e ∷ events) bases last w (next, f, h) kill base at sound has =
      let r : Return w next (e ∷ []) = happen_back f base w at sound has kill.0 in
      ⊎_elim
      (λ end'.
      let none : events ≡ [] = ended_nothing events next last (ap (λ (v : World L). v.ended) f.becomes ∙ ap (λ b. b || bases.ended) end') h in
      subst (λ es. Return w last (e ∷ es)) (sym none) (subst (λ v. Return w v (e ∷ [])) (subst (λ es. Leads p next es last) none h) r))
      (λ more. return_on e r more (lead_back events next last (world_after p w r.moves) h kill.1 (base_fires p IsProper lawful f base)
      (subst (Follows p next (world_after p w r.moves)) (λ i t. r.zero_counts (both (ap not more) refl) t i) r.follows)
      (sound_moves p IsProper lawful r.moves w sound r.made) r.numbers))
      (cases_Bool (is_last e))

  -- while the program has not ended
  pub leads_open : (events : List Event) (w last : World L) → HasNoEnd events → w.ended ≡ false → Leads p w events last → last.ended ≡ false
  leads_open [] w last h runs k = ap (λ (v : World L). v.ended) (sym k) ∙ runs
  leads_open (e ∷ events) w last h runs (next, f, k) =
      leads_open events next last (split h).1 (ap (λ (v : World L). v.ended) f.becomes ∙ ap (λ b. b || w.ended) (not_true (is_last e) (split h).0) ∙ runs) k
