-- Two runs with the same events have their states in common, and a task that a run leaves killed is killed in its events.
use Rattle.std.proofs.Common.{◌≡◌, ℕ, ◌<◌, Bool, true, false, not, List, [], ◌∷◌, refl, sym, ap, ◌∙◌, subst, inl, inr, ◌⊎◌, ⊎_elim, true≢false}
use Rattle.std.proofs.lemmas.Bool.{cases_Bool}
use Rattle.event_machine.specs.declared.Standing.{Standing}
use Rattle.event_machine.specs.declared.Standing.TheVariants.{Live, Waiting, Queued, Served, Completed, Killed}
use Rattle.event_machine.specs.declared.Event.{Event}
use Rattle.event_machine.specs.declared.Event.TheVariants.{R, E, S, D, C, T, F, X, B, Z}
use Rattle.event_machine.specs.States.{Seat, State, is_live, is_completed, is_served}
use Rattle.event_machine.specs.Lawful.{IsLawful}
use Rattle.event_machine.specs.Runs.{end_of}
use Rattle.event_machine.specs.Programs.{Program, numbered, IsOpening}
use Rattle.event_machine.specs.Worlds.{World, still, still_seat, world_of, is_last}
use Rattle.event_machine.specs.Settling.{ran, HasSteps, run_on, Fires, Leads, CountsFor, IsRunOn}
use Rattle.event_machine.specs.Tallies.{ComesTo, IsKilledIn, is_completion}
use Rattle.event_machine.specs.Laws.{Determinacy, KilledByEvents}
use Rattle.event_machine.proofs.Basics.{both}
use Rattle.event_machine.proofs.Updates.{put_at}
use Rattle.event_machine.proofs.Stepping.{settles_once}
use Rattle.event_machine.proofs.Following.{leads_once, counts_served}
use Rattle.event_machine.proofs.Killing.{newly_killed, victim_abort, IsKill}
use Rattle.event_machine.proofs.Bases.{IsBase, base_fires, base_leads, completed_leads, next_tasks, last_same, sound_found}
use Rattle.event_machine.proofs.Queues.{IsPatientAt, suited_patient, run_suited}
use Rattle.event_machine.proofs.Reaching.{IsLed, run_leads, start_base, start_suited, start_each}

module _ {L : Type 0} (p : Program L) (IsProper : L → Type 0) (lawful : IsLawful p.ops IsProper) (s : State (ℕ → Seat L))
    (opening : IsOpening (numbered p) s) (proper : (t : ℕ) → t < p.size → IsProper (s.seats t).local) where
  abbrev start : World L
  start = world_of s

  -- ---- one task in two runs

  -- the same number of local steps from one base
  same_steps : (base : Seat L) (n m : ℕ) (seat other : Seat L) (r : IsRunOn p.ops base n seat) (q : IsRunOn p.ops base m other) → r.steps ≡ q.steps → seat.local ≡ other.local
  same_steps base n m seat other r q e = r.local ∙ ap (λ k. ran p.ops k base.local) e ∙ sym q.local

  live_steps : (base : Seat L) (n : ℕ) (seat : Seat L) (r : IsRunOn p.ops base n seat) → base.standing ≡ Live → r.steps ≡ n
  live_steps base n seat r free = subst (λ z. CountsFor z n r.steps) free r.counted

  counts_completed : (z : Standing) (n m : ℕ) → z ≡ Completed → CountsFor z n m → m ≡ 0
  counts_completed z n m e c = subst (λ y. CountsFor y n m) e c

  completed_still : (z : Standing) → z ≡ Completed → still z ≡ Completed
  completed_still z e = ap still e

  still_served : (z : Standing) → is_served z ≡ true → is_served (still z) ≡ true
  still_served Live h = absurd (true≢false (sym h))
  still_served Waiting h = absurd (true≢false (sym h))
  still_served Queued h = absurd (true≢false (sym h))
  still_served (Served by abnormal) h = refl
  still_served Completed h = absurd (true≢false (sym h))
  still_served Killed h = absurd (true≢false (sym h))

  -- a task that is free and rests has settled
  settled : (base : Seat L) (n : ℕ) (seat : Seat L) (r : IsRunOn p.ops base n seat) → p.ops.can_step seat.local ≡ false →
      HasSteps p.ops r.steps base.local × (p.ops.can_step (ran p.ops r.steps base.local) ≡ false)
  settled base n seat r h = (r.has_steps, ap p.ops.can_step (sym r.local) ∙ h)

  -- where the live tasks rest each free one does
  quiet_rests : (seat : Seat L) → IsPatientAt p seat → (is_live seat.standing ≡ true → p.ops.can_step seat.local ≡ false) → still seat.standing ≡ Live →
      p.ops.can_step seat.local ≡ false
  quiet_rests seat h quiet free = ⊎_elim (λ q. quiet (ap is_live (sym q ∙ free))) (λ q. q) h

  quiet_same : (base : Seat L) (n m : ℕ) (seat other : Seat L) → IsRunOn p.ops base n (still_seat seat) → IsRunOn p.ops base m (still_seat other) →
      IsPatientAt p seat → IsPatientAt p other →
      (is_live seat.standing ≡ true → p.ops.can_step seat.local ≡ false) → (is_live other.standing ≡ true → p.ops.can_step other.local ≡ false) →
      (z : Standing) → base.standing ≡ z → (z ≡ Killed → ⊥) → still base.standing ≡ base.standing → seat.local ≡ other.local
  quiet_same base n m seat other r q h k quiet quiet' Live e alive b =
      same_steps base n m (still_seat seat) (still_seat other) r q (settles_once p.ops r.steps q.steps base.local
      (settled base n (still_seat seat) r (quiet_rests seat h quiet (r.standing ∙ e)))
      (settled base m (still_seat other) q (quiet_rests other k quiet' (q.standing ∙ e))))
  quiet_same base n m seat other r q h k quiet quiet' Waiting e alive b = let x : ◌≡◌ {A = Standing} Live Waiting = sym (ap still e) ∙ b ∙ e in absurd (cc)
  quiet_same base n m seat other r q h k quiet quiet' Queued e alive b = let x : ◌≡◌ {A = Standing} Live Queued = sym (ap still e) ∙ b ∙ e in absurd (cc)
  quiet_same base n m seat other r q h k quiet quiet' (Served by abnormal) e alive b =
      same_steps base n m (still_seat seat) (still_seat other) r q
      (counts_served p base.standing n r.steps (ap is_served e) r.counted ∙ sym (counts_served p base.standing m q.steps (ap is_served e) q.counted))
  quiet_same base n m seat other r q h k quiet quiet' Completed e alive b =
      same_steps base n m (still_seat seat) (still_seat other) r q
      (counts_completed base.standing n r.steps e r.counted ∙ sym (counts_completed base.standing m q.steps e q.counted))
  quiet_same base n m seat other r q h k quiet quiet' Killed e alive b = absurd (alive refl)

  -- ---- two runs

  patient_end : (events : List Event) (tasks : ℕ → Seat L) (tally : ℕ → ℕ) → ComesTo (numbered p) s events tasks tally → (t : ℕ) → IsPatientAt p (tasks t)
  patient_end events tasks tally run t = subst (IsPatientAt p) (run.leaves t)
      (suited_patient p lawful.rests ((end_of (numbered p) s run.actions).seats t)
      (run_suited p run.actions s run.applies (start_suited p IsProper lawful s opening proper) t))

  pub determinacy : Determinacy (numbered p) s
  determinacy events tasks others tally others_tally run other = record {
    standing = λ t. (a.each t).standing ∙ ap (λ (w : World L). (w.tasks t).standing) same ∙ sym (b.each t).standing;
    free = λ t free counts. same_steps (a.last.tasks t) (tally t) (others_tally t) (still_seat (tasks t)) (still_seat (others t)) (a.each t) (each' t)
        (live_steps (a.last.tasks t) (tally t) (still_seat (tasks t)) (a.each t) (sym (a.each t).standing ∙ free) ∙ counts ∙
        sym (live_steps (a.last.tasks t) (others_tally t) (still_seat (others t)) (each' t) (sym (a.each t).standing ∙ free)));
    served = λ t h.
        let base_served : is_served (a.last.tasks t).standing ≡ true = ap is_served (sym (a.each t).standing) ∙ still_served (tasks t).standing h in
        same_steps (a.last.tasks t) (tally t) (others_tally t) (still_seat (tasks t)) (still_seat (others t)) (a.each t) (each' t)
        (counts_served p (a.last.tasks t).standing (tally t) (a.each t).steps base_served (a.each t).counted ∙
        sym (counts_served p (a.last.tasks t).standing (others_tally t) (each' t).steps base_served (each' t).counted));
    completed = λ t h.
        let base_completed : (a.last.tasks t).standing ≡ Completed = sym (a.each t).standing ∙ ap still h in
        same_steps (a.last.tasks t) (tally t) (others_tally t) (still_seat (tasks t)) (still_seat (others t)) (a.each t) (each' t)
        (counts_completed (a.last.tasks t).standing (tally t) (a.each t).steps base_completed (a.each t).counted ∙
        sym (counts_completed (a.last.tasks t).standing (others_tally t) (each' t).steps base_completed (each' t).counted));
    quiet = λ q r t alive. quiet_same (a.last.tasks t) (tally t) (others_tally t) (tasks t) (others t) (a.each t) (each' t)
        (patient_end events tasks tally run t) (patient_end events others others_tally other t) (q t) (r t)
        (a.last.tasks t).standing refl (λ k. alive (killed_before (tasks t).standing ((a.each t).standing ∙ k))) (base.still' t);
  }
    where
      a : IsLed p IsProper lawful s opening proper events tasks tally
      a = run_leads p IsProper lawful s opening proper events tasks tally run

      b : IsLed p IsProper lawful s opening proper events others others_tally
      b = run_leads p IsProper lawful s opening proper events others others_tally other

      same : a.last ≡ b.last
      same = leads_once p events start a.last b.last a.leads b.leads

      each' : (t : ℕ) → IsRunOn p.ops (a.last.tasks t) (others_tally t) (still_seat (others t))
      each' t = subst (λ (w : World L). IsRunOn p.ops (w.tasks t) (others_tally t) (still_seat (others t))) (sym same) (b.each t)

      base : IsBase p IsProper lawful a.last
      base = base_leads p IsProper lawful events start a.last a.leads (start_base p IsProper lawful s opening proper)

      killed_before : (z : Standing) → still z ≡ Killed → z ≡ Killed
      killed_before Live e = let x : ◌≡◌ {A = Standing} Live Killed = e in absurd (cc)
      killed_before Waiting e = let x : ◌≡◌ {A = Standing} Live Killed = e in absurd (cc)
      killed_before Queued e = let x : ◌≡◌ {A = Standing} Live Killed = e in absurd (cc)
      killed_before (Served by abnormal) e = let x : ◌≡◌ {A = Standing} (Served by abnormal) Killed = e in absurd (cc)
      killed_before Completed e = let x : ◌≡◌ {A = Standing} Completed Killed = e in absurd (cc)
      killed_before Killed e = refl

  -- ---- killed tasks

  -- a task that the event kills at the bases is the victim of an abort
  fires_kill : {w next : World L} {e : Event} (f : Fires p w e next) → IsBase p IsProper lawful w → (t : ℕ) → is_completed (w.tasks t).standing ≡ false →
      (next.tasks t).standing ≡ Killed → (u : ℕ) × (e ≡ B u t) × (u ≡ t → ⊥)
  fires_kill {w} {next} {e} f base t open' killed = ⊎_elim
      (λ last. absurd (alive (ap (λ (g : ℕ → Seat L). (g t).standing) (sym (last_same p f last)) ∙ killed)))
      (λ more. ⊎_elim (λ k. absurd (alive k)) (λ (k : IsKill p e (run_on p.ops f.steps w.tasks) t). victim_abort e t k.victim)
      (newly_killed p e (run_on p.ops f.steps w.tasks) (sound_found p IsProper lawful f base.sound).itself t
      (ap (λ (g : ℕ → Seat L). (g t).standing) (sym (next_tasks p f more)) ∙ killed)))
      (cases_Bool (is_last e))
    where
      alive : (w.tasks t).standing ≡ Killed → ⊥
      alive k = true≢false (sym (ap is_completed k) ∙ open')

  -- an event that completes t leaves it completed
  fires_complete : (w next : World L) (e : Event) (f : Fires p w e next) (t : ℕ) → is_completion t e ≡ true → (next.tasks t).standing ≡ Completed
  fires_complete w next (R c k i) f t h = absurd (true≢false (sym h))
  fires_complete w next (E a) f t h = absurd (true≢false (sym h))
  fires_complete w next (S a) f t h = absurd (true≢false (sym h))
  fires_complete w next (D a k) f t h = absurd (true≢false (sym h))
  fires_complete w next (C c k i) f t h = absurd (true≢false (sym h))
  fires_complete w next (T c k i) f t h = absurd (true≢false (sym h))
  fires_complete w next (F c k i) f t h = absurd (true≢false (sym h))
  fires_complete w next (X a) f t h = ap (λ (g : ℕ → Seat L). (g t).standing) (next_tasks p f refl) ∙
      ap (λ (x : Seat L). x.standing) (put_at p (run_on p.ops f.steps w.tasks) a (record { local = (run_on p.ops f.steps w.tasks a).local; standing = Completed }) t h)
  fires_complete w next (B u x) f t h = absurd (true≢false (sym h))
  fires_complete w next Z f t h = absurd (true≢false (sym h))

  leads_kill : (events : List Event) (w last : World L) → Leads p w events last → IsBase p IsProper lawful w → (t : ℕ) → is_completed (w.tasks t).standing ≡ false →
      (last.tasks t).standing ≡ Killed → IsKilledIn events t
  leads_kill [] w last h base t open' killed =
      absurd (true≢false (sym (ap (λ (v : World L). is_completed (v.tasks t).standing) h ∙ ap is_completed killed) ∙ open'))
  leads_kill (e ∷ events) w last (next, f, h) base t open' killed =
      ⊎_elim now (λ q. later q (leads_kill events next last h (base_fires p IsProper lawful f base) t q killed)) (cases_Bool (is_completed (next.tasks t).standing))
    where
      now : is_completed (next.tasks t).standing ≡ true → IsKilledIn (e ∷ events) t
      now q =
          let stays = completed_leads p IsProper lawful events next last h (base_fires p IsProper lawful f base) t q in
          let (u, is, other) = fires_kill f base t open' (ap (λ (x : Seat L). x.standing) (sym stays) ∙ killed) in
          ([], events, u, ap (λ x. x ∷ events) is, refl)

      later : is_completed (next.tasks t).standing ≡ false → IsKilledIn events t → IsKilledIn (e ∷ events) t
      later q (before, rest, u, is, none) = (e ∷ before, rest, u, ap (λ es. e ∷ es) is, both (not_complete (is_completion t e) refl) none)
        where
          not_complete : (b : Bool) → is_completion t e ≡ b → not b ≡ true
          not_complete true r = absurd (true≢false (sym (ap is_completed (fires_complete w next e f t r)) ∙ q))
          not_complete false r = refl

  pub killed_by_events : KilledByEvents (numbered p) s
  killed_by_events events tasks tally t run killed =
      let a : IsLed p IsProper lawful s opening proper events tasks tally = run_leads p IsProper lawful s opening proper events tasks tally run in
      go a ((a.each t).standing) (cases_Bool (is_completed (start.tasks t).standing))
    where
      go : (a : IsLed p IsProper lawful s opening proper events tasks tally) → still (tasks t).standing ≡ (a.last.tasks t).standing →
          (is_completed (start.tasks t).standing ≡ true) ⊎ (is_completed (start.tasks t).standing ≡ false) → IsKilledIn events t
      go a e (inl q) = absurd (not_started
          (ap (λ (x : Seat L). x.standing) (sym (completed_leads p IsProper lawful events start a.last a.leads (start_base p IsProper lawful s opening proper) t q)) ∙
          sym e ∙ ap still killed))
        where
          not_started : (start.tasks t).standing ≡ Killed → ⊥
          not_started = start_each p IsProper lawful s opening proper (λ u z. still z ≡ Killed → ⊥)
              (λ u l k. let x : ◌≡◌ {A = Standing} Live Killed = k in cc) (λ u l k. let x : ◌≡◌ {A = Standing} Completed Killed = k in cc) t
      go a e (inr q) = leads_kill events start a.last a.leads (start_base p IsProper lawful s opening proper) t q (sym e ∙ ap still killed)
