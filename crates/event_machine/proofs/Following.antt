-- Each move keeps a world that of its bases run on: what an event leads to is a function of the bases, and the counts say how far a task has run.
use Rattle.std.proofs.Common.{◌≡◌, ℕ, suc, ◌+◌, Bool, true, false, not, ◌&&◌, ◌||◌, ◌==◌, if◌then◌else◌, List, [], ◌∷◌, refl, sym, ap, ◌∙◌, subst, ⊎_elim, true≢false, arith}
use Rattle.std.specs.Prelude.{MatchBool}
use Rattle.std.proofs.lemmas.Bool.{eqb-true, and_parts, and_right}
use Rattle.event_machine.specs.declared.Standing.{Standing}
use Rattle.event_machine.specs.declared.Standing.TheVariants.{Live, Waiting, Queued, Served, Completed, Killed}
use Rattle.event_machine.specs.declared.Event.{Event}
use Rattle.event_machine.specs.States.{Seat, live, is_live, is_closed, is_served, is_served_by}
use Rattle.event_machine.specs.Applying.{is_first}
use Rattle.event_machine.specs.Lawful.{IsLawful}
use Rattle.event_machine.specs.Programs.{Program, numbered}
use Rattle.event_machine.specs.Worlds.{World, Step, Happen, happens, acted, needs, changes, is_last, can_move, moved, recount}
use Rattle.event_machine.specs.Settling.{ran, HasSteps, Settles, run_on, fired, Fires, Leads, CountsFor, IsRunOn, Follows}
use Rattle.event_machine.specs.Soundness.{IsSound, times}
use Rattle.event_machine.specs.Laws.{Deterministic}
use Rattle.event_machine.proofs.Basics.{both, seat_path}
use Rattle.event_machine.proofs.Standings.{is-Live, served_served}
use Rattle.event_machine.proofs.Stepping.{settles_once}
use Rattle.event_machine.proofs.Agreeing.{AgreesFor, happens_same, happens_free}
use Rattle.event_machine.proofs.Effected.{changes_same, unchanged, acted_same, Falls, IsServing}
use Rattle.common_lemmas.proofs.Truth.{not_true}

module _ {L : Type 0} (p : Program L) where
  -- ---- determinism

  pub deterministic : Deterministic p
  deterministic w next other e f g = f.becomes ∙ ap (λ steps. fired p steps w e) same_steps ∙ sym g.becomes
    where
      same_at : (t : ℕ) (b : Bool) → MatchBool b (Settles p.ops (f.steps t) (w.tasks t).local) (f.steps t ≡ 0) →
          MatchBool b (Settles p.ops (g.steps t) (w.tasks t).local) (g.steps t ≡ 0) → f.steps t ≡ g.steps t
      same_at t true h k = settles_once p.ops (f.steps t) (g.steps t) (w.tasks t).local h k
      same_at t false h k = h ∙ sym k

      same_steps : f.steps ≡ g.steps
      same_steps = λ i t. same_at t (needs p e t && is_live (w.tasks t).standing) (f.settles t) (g.settles t) i

  pub leads_once : (events : List Event) (w last other : World L) → Leads p w events last → Leads p w events other → last ≡ other
  leads_once [] w last other h k = sym h ∙ k
  leads_once (e ∷ events) w last other (v, f, h) (u, g, k) =
      leads_once events v last other h (subst (λ x. Leads p x events other) (deterministic w u v e g f) k)

  -- ---- counts

  pub counts_served : (s : Standing) (n m : ℕ) → is_served s ≡ true → CountsFor s n m → m ≡ 0
  counts_served Live n m h c = absurd (true≢false (sym h))
  counts_served Waiting n m h c = absurd (true≢false (sym h))
  counts_served Queued n m h c = absurd (true≢false (sym h))
  counts_served (Served by abnormal) n m h c = c
  counts_served Completed n m h c = absurd (true≢false (sym h))
  counts_served Killed n m h c = absurd (true≢false (sym h))

  counts_zero : (s : Standing) → CountsFor s 0 0
  counts_zero Live = refl
  counts_zero Waiting = refl
  counts_zero Queued = refl
  counts_zero (Served by abnormal) = refl
  counts_zero Completed = refl
  counts_zero Killed = tt

  served_not_live : (s : Standing) → is_served s ≡ true → is_live s ≡ false
  served_not_live Live h = absurd (true≢false (sym h))
  served_not_live Waiting h = refl
  served_not_live Queued h = refl
  served_not_live (Served by abnormal) h = refl
  served_not_live Completed h = refl
  served_not_live Killed h = refl

  -- the same seat is its own base
  pub same_base : (base seat : Seat L) → base ≡ seat → IsRunOn p.ops base 0 seat
  same_base base seat e = record {
    standing = ap (λ x. x.standing) (sym e);
    steps = 0;
    has_steps = tt;
    local = ap (λ x. x.local) (sym e);
    counted = counts_zero base.standing;
  }

  -- ---- one local step

  stepped_on : (base seat : Seat L) (count : ℕ) → IsRunOn p.ops base count seat → seat.standing ≡ Live → p.ops.can_step seat.local ≡ true →
      IsRunOn p.ops base (suc count) (live (p.ops.stepped seat.local))
  stepped_on base seat count r free can = record {
    standing = sym free ∙ r.standing;
    steps = suc r.steps;
    has_steps = (r.has_steps, ap p.ops.can_step (sym r.local) ∙ can);
    local = ap p.ops.stepped r.local;
    counted = subst (λ s. CountsFor s (suc count) (suc r.steps)) (sym free ∙ r.standing)
        (ap suc (subst (λ s. CountsFor s count r.steps) (sym r.standing ∙ free) r.counted));
  }

  pub follow_step : (bases w : World L) (count : ℕ → ℕ) (t : ℕ) → Follows p bases w count → can_move p w (Step t) ≡ true →
      Follows p bases (moved p w (Step t)) (recount p w (Step t) count)
  follow_step bases w count t f h = record { ended = f.ended; each = λ u. go u (u == t) refl }
    where
      k : (is_live (w.tasks t).standing ≡ true) × (p.ops.can_step (w.tasks t).local ≡ true)
      k = and_parts (is_live (w.tasks t).standing) (p.ops.can_step (w.tasks t).local) (and_parts (not w.ended) _ h).1

      go : (u : ℕ) (b : Bool) → (u == t) ≡ b →
          IsRunOn p.ops (bases.tasks u) (if b then suc (count u) else count u) (if b then live (p.ops.stepped (w.tasks t).local) else w.tasks u)
      go u true q = subst (λ v. IsRunOn p.ops (bases.tasks v) (suc (count v)) (live (p.ops.stepped (w.tasks t).local))) (sym (eqb-true u t q))
          (stepped_on (bases.tasks t) (w.tasks t) (count t) (f.each t) (is-Live (w.tasks t).standing k.0) k.1)
      go u false q = f.each u

  -- ---- one event

  first_times : (c : ℕ) (xs : List ℕ) → is_first c xs ≡ true → (n : ℕ) × (times c xs ≡ 1 + n)
  first_times c [] h = absurd (true≢false (sym h))
  first_times c (x ∷ xs) h = (times c xs, ap (λ b. (if b then 1 else 0) + times c xs) h)

  -- where the callers are those that are served the first one is
  pub serving : (IsProper : L → Type 0) (tasks : ℕ → Seat L) → IsSound p.ops IsProper tasks → IsServing p tasks
  serving IsProper tasks sound a c free h =
      let (n, e) = first_times c (p.ops.callers (tasks a).local) h in
      served_served a (tasks c).standing (go (is_served_by a (tasks c).standing) n (sym e ∙ sound.callers a c (ap is_closed free)))
    where
      go : (b : Bool) (n : ℕ) → 1 + n ≡ (if b then 1 else 0) → b ≡ true
      go true n q = refl
      go false n q = absurd (omega arith)

  module _ (IsProper : L → Type 0) (lawful : IsLawful p.ops IsProper) where
    -- a free task that an event needs, and whose conditions hold, rests
    pub happens_rest : (e : Event) (tasks : ℕ → Seat L) → happens p tasks e ≡ true → (t : ℕ) → needs p e t ≡ true → (tasks t).standing ≡ Live →
        p.ops.can_step (tasks t).local ≡ false
    happens_rest e tasks h t k free = go (p.ops.can_step (tasks t).local) refl
      where
        go : (b : Bool) → p.ops.can_step (tasks t).local ≡ b → b ≡ false
        go true q =
            let (test, none, some') = happens_free p e tasks h t k free in
            absurd (true≢false (sym some' ∙ ap test (lawful.rests (tasks t).local q) ∙ none))
        go false q = refl

    module _ (bases w : World L) (count : ℕ → ℕ) (e : Event) (f : Follows p bases w count) where
      -- the free tasks that the event needs, run on by their counts
      abbrev pub steps_to : ℕ → ℕ
      steps_to t = if needs p e t && is_live (bases.tasks t).standing then count t else 0

      abbrev pub found : ℕ → Seat L
      found = run_on p.ops steps_to bases.tasks

      steps_needed : (t : ℕ) → needs p e t ≡ true → (bases.tasks t).standing ≡ Live → steps_to t ≡ count t
      steps_needed t k free = ap (λ b. if b then count t else 0) (both k (ap is_live free))

      steps_none : (t : ℕ) → (needs p e t && is_live (bases.tasks t).standing) ≡ false → steps_to t ≡ 0
      steps_none t k = ap (λ b. if b then count t else 0) k

      pub agrees : AgreesFor p e w.tasks found
      agrees = record {
        reads = record {
          standing = λ t. sym (f.each t).standing;
          needed = λ t k free. seat_path
              (let live_base : (bases.tasks t).standing ≡ Live = sym (f.each t).standing ∙ free in
              ap (λ n. ran p.ops n (bases.tasks t).local)
              (steps_needed t k live_base ∙ sym (subst (λ s. CountsFor s (count t) (f.each t).steps) live_base (f.each t).counted)) ∙
              sym (f.each t).local)
              (sym (f.each t).standing);
        };
        served = λ t k. seat_path
            (let served_base : is_served (bases.tasks t).standing ≡ true = ap is_served (sym (f.each t).standing) ∙ k in
            ap (λ n. ran p.ops n (bases.tasks t).local)
            (steps_none t (and_right (needs p e t) (is_live (bases.tasks t).standing) (served_not_live (bases.tasks t).standing served_base)) ∙
            sym (counts_served (bases.tasks t).standing (count t) (f.each t).steps served_base (f.each t).counted)) ∙
            sym (f.each t).local)
            (sym (f.each t).standing);
      }

      module _ (sound : IsSound p.ops IsProper w.tasks) (h : can_move p w (Happen e) ≡ true) where
        holds_here : happens p w.tasks e ≡ true
        holds_here = (and_parts (not w.ended) (happens p w.tasks e) h).1

        holds_found : happens p found e ≡ true
        holds_found = happens_same p e w.tasks found agrees.reads ∙ holds_here

        fires : Fires p bases e (fired p steps_to bases e)
        fires = record {
          steps = steps_to;
          settles = λ t. settled t (needs p e t && is_live (bases.tasks t).standing) refl;
          runs = sym f.ended ∙ not_true w.ended (and_parts (not w.ended) (happens p w.tasks e) h).0;
          holds = holds_found;
          becomes = refl;
        }
          where
            settled : (t : ℕ) (b : Bool) → (needs p e t && is_live (bases.tasks t).standing) ≡ b →
                MatchBool b (Settles p.ops (if b then count t else 0) (bases.tasks t).local) ((if b then count t else 0) ≡ 0)
            settled t true q =
                let k = and_parts (needs p e t) (is_live (bases.tasks t).standing) q in
                let free : (bases.tasks t).standing ≡ Live = is-Live (bases.tasks t).standing k.1 in
                let made : (f.each t).steps ≡ count t = subst (λ s. CountsFor s (count t) (f.each t).steps) free (f.each t).counted in (
                  subst (λ n. HasSteps p.ops n (bases.tasks t).local) made (f.each t).has_steps,
                  ap (λ n. p.ops.can_step (ran p.ops n (bases.tasks t).local)) (sym made) ∙ ap p.ops.can_step (sym (f.each t).local) ∙
                      happens_rest e w.tasks holds_here t k.0 ((f.each t).standing ∙ free),
                )
            settled t false q = refl

        fallen_on : (t : ℕ) → Falls p e w.tasks t → Falls p e found t → IsRunOn p.ops (acted (numbered p) found e t) 0 (acted (numbered p) w.tasks e t)
        fallen_on t here there =
            let none : steps_to t ≡ 0 = steps_none t (ap (λ b. b && is_live (bases.tasks t).standing) here.needless) in
            let base_local : (acted (numbered p) found e t).local ≡ (bases.tasks t).local =
            ap (λ x. x.local) there.falls ∙ ap (λ n. ran p.ops n (bases.tasks t).local) none in
            record {
              standing = ap (λ x. x.standing) here.falls ∙ sym (ap (λ x. x.standing) there.falls);
              steps = (f.each t).steps;
              has_steps = subst (HasSteps p.ops (f.each t).steps) (sym base_local) (f.each t).has_steps;
              local = ap (λ x. x.local) here.falls ∙ (f.each t).local ∙ ap (ran p.ops (f.each t).steps) (sym base_local);
              counted = subst (λ s. CountsFor s 0 (f.each t).steps) (sym (ap (λ x. x.standing) there.falls)) tt;
            }

        pub follow_event : (next : World L) × Fires p bases e next × Follows p next (moved p w (Happen e)) (recount p w (Happen e) count)
        follow_event = (fired p steps_to bases e, fires, record { ended = ap (λ b. is_last e || b) f.ended; each = on })
          where
            go : (t : ℕ) (b : Bool) → changes p.ops p.owner w.tasks e t ≡ b →
                IsRunOn p.ops (if b then acted (numbered p) found e t else bases.tasks t) (if b then 0 else count t) (acted (numbered p) w.tasks e t)
            go t true q = ⊎_elim (λ s. same_base (acted (numbered p) found e t) (acted (numbered p) w.tasks e t) s) (λ s. fallen_on t s.0 s.1)
                (acted_same p e w.tasks found agrees holds_here (serving IsProper w.tasks sound) t q)
            go t false q = subst (IsRunOn p.ops (bases.tasks t) (count t)) (sym (unchanged p e w.tasks t q)) (f.each t)

            on : (t : ℕ) → IsRunOn p.ops ((fired p steps_to bases e).tasks t) (recount p w (Happen e) count t) ((moved p w (Happen e)).tasks t)
            on t = subst (λ b. IsRunOn p.ops (if b then acted (numbered p) found e t else bases.tasks t) (recount p w (Happen e) count t) (acted (numbered p) w.tasks e t))
                (sym (changes_same p e w.tasks found agrees holds_here t)) (go t (changes p.ops p.owner w.tasks e t) refl)
