-- What stays true of bases as events happen: the tasks are sound, none waits or is queued, and past the last one all have completed.
use Rattle.std.proofs.Common.{◌≡◌, ℕ, zero, suc, ◌≤◌, Bool, true, false, ◌&&◌, if◌then◌else◌, List, [], ◌∷◌, refl, sym, ap, ◌∙◌, subst, ⊎_elim, true≢false}
use Rattle.std.specs.Prelude.{MatchBool}
use Rattle.std.proofs.lemmas.Bool.{and_left, cases_Bool, false_from_ne_true}
use Rattle.event_machine.specs.declared.Standing.TheVariants.{Live, Killed}
use Rattle.event_machine.specs.declared.Event.{Event}
use Rattle.event_machine.specs.declared.Event.TheVariants.{R, E, S, D, C, T, F, X, B, Z}
use Rattle.event_machine.specs.States.{Seat, is_live, is_closed, is_completed}
use Rattle.event_machine.specs.Lawful.{IsLawful, Keeps}
use Rattle.event_machine.specs.Programs.{Program, numbered}
use Rattle.event_machine.specs.Worlds.{World, IsStill, acted, needs, changes, is_last}
use Rattle.event_machine.specs.Settling.{ran, HasSteps, Settles, run_on, Fires, Leads}
use Rattle.event_machine.specs.Soundness.{IsSound}
use Rattle.event_machine.proofs.Stills.{still_acted}
use Rattle.event_machine.proofs.Sound.{sound_same, sound_acted}
use Rattle.event_machine.proofs.Effected.{unchanged}
use Rattle.event_machine.proofs.Following.{serving}
use Rattle.event_machine.proofs.Killing.{is_victim, needs_changes, completed_stays, victim_changes, victim_falls, victim_needless}

module _ {L : Type 0} (p : Program L) where
  -- ---- the tasks that an event finds

  module _ {w next : World L} {e : Event} (f : Fires p w e next) where
    abbrev pub found_by : ℕ → Seat L
    found_by = run_on p.ops f.steps w.tasks

    pub steps_idle : (t : ℕ) → (needs p e t && is_live (w.tasks t).standing) ≡ false → f.steps t ≡ 0
    steps_idle t q = subst (λ b. MatchBool b (Settles p.ops (f.steps t) (w.tasks t).local) (f.steps t ≡ 0)) q (f.settles t)

    pub steps_settle : (t : ℕ) → (needs p e t && is_live (w.tasks t).standing) ≡ true → Settles p.ops (f.steps t) (w.tasks t).local
    steps_settle t q = subst (λ b. MatchBool b (Settles p.ops (f.steps t) (w.tasks t).local) (f.steps t ≡ 0)) q (f.settles t)

    pub found_steps : (t : ℕ) → HasSteps p.ops (f.steps t) (w.tasks t).local
    found_steps t = ⊎_elim (λ q. (steps_settle t q).0) (λ q. subst (λ n. HasSteps p.ops n (w.tasks t).local) (sym (steps_idle t q)) tt)
        (cases_Bool (needs p e t && is_live (w.tasks t).standing))

    pub found_idle : (t : ℕ) → needs p e t ≡ false → found_by t ≡ w.tasks t
    found_idle t q = ap (λ n. record { local = ran p.ops n (w.tasks t).local; standing = (w.tasks t).standing })
        (steps_idle t (and_left (needs p e t) (is_live (w.tasks t).standing) q))

    -- The end of the program leaves the bases, and another event makes of the tasks that it finds what it makes of them.
    pub next_tasks : is_last e ≡ false → next.tasks ≡ acted (numbered p) found_by e
    next_tasks more = ap (λ (v : World L). v.tasks) f.becomes ∙ (λ i t. go t (changes p.ops p.owner found_by e t) refl i)
      where
        go : (t : ℕ) (b : Bool) → changes p.ops p.owner found_by e t ≡ b →
            (if b then acted (numbered p) found_by e t else w.tasks t) ≡ acted (numbered p) found_by e t
        go t true q = refl
        go t false q = sym (found_idle t (false_from_ne_true (needs p e t) (λ k. true≢false (sym (needs_changes p e found_by t more k) ∙ q)))) ∙
            sym (unchanged p e found_by t q)

    last_tasks : (e : Event) (tasks : ℕ → Seat L) (t : ℕ) → is_last e ≡ true → changes p.ops p.owner tasks e t ≡ false
    last_tasks (R c k i) tasks t h = absurd (true≢false (sym h))
    last_tasks (E a) tasks t h = absurd (true≢false (sym h))
    last_tasks (S a) tasks t h = absurd (true≢false (sym h))
    last_tasks (D a k) tasks t h = absurd (true≢false (sym h))
    last_tasks (C c k i) tasks t h = absurd (true≢false (sym h))
    last_tasks (T c k i) tasks t h = absurd (true≢false (sym h))
    last_tasks (F c k i) tasks t h = absurd (true≢false (sym h))
    last_tasks (X a) tasks t h = absurd (true≢false (sym h))
    last_tasks (B u x) tasks t h = absurd (true≢false (sym h))
    last_tasks Z tasks t h = refl

    pub last_same : is_last e ≡ true → next.tasks ≡ w.tasks
    last_same last = ap (λ (v : World L). v.tasks) f.becomes ∙
        (λ i t. ap (λ b. if b then acted (numbered p) found_by e t else w.tasks t) (last_tasks e found_by t last) i)

  -- ---- what stays true

  module _ (IsProper : L → Type 0) (lawful : IsLawful p.ops IsProper) where
    ran_keeps : (n : ℕ) (l : L) → IsProper l → HasSteps p.ops n l → Keeps p.ops IsProper l (ran p.ops n l)
    ran_keeps zero l proper h = (proper, refl)
    ran_keeps (suc n) l proper h =
        let k = ran_keeps n l proper h.0 in
        let s = lawful.stepped (ran p.ops n l) k.0 h.1 in
        (s.0, s.1 ∙ k.1)

    -- tasks run on are sound
    pub sound_found : {w next : World L} {e : Event} (f : Fires p w e next) → IsSound p.ops IsProper w.tasks → IsSound p.ops IsProper (run_on p.ops f.steps w.tasks)
    sound_found {w} {next} {e} f sound = sound_same p IsProper lawful w.tasks (run_on p.ops f.steps w.tasks) sound (λ t. refl)
        (λ t k. ran_keeps (f.steps t) (w.tasks t).local (sound.proper t k) (found_steps f t))

    -- The bases can be those that a run leads to.
    pub record IsBase (w : World L) : Type 0 where
      pub sound : IsSound p.ops IsProper w.tasks
      pub still' : IsStill w
      pub beyond : (t : ℕ) → p.size ≤ t → is_completed (w.tasks t).standing ≡ true

    module _ {w next : World L} {e : Event} (f : Fires p w e next) (base : IsBase w) where
      -- a completed or killed task stays as it is
      pub completed_fires : (t : ℕ) → is_completed (w.tasks t).standing ≡ true → next.tasks t ≡ w.tasks t
      completed_fires t h =
          ap (λ (v : World L). v.tasks t) f.becomes ∙
          ap (λ b. if b then acted (numbered p) (run_on p.ops f.steps w.tasks) e t else w.tasks t)
          (completed_stays p e (run_on p.ops f.steps w.tasks) f.holds (serving p IsProper (run_on p.ops f.steps w.tasks) (sound_found f base.sound)) t h)

      still_acting : IsStill (record { tasks = acted (numbered p) (run_on p.ops f.steps w.tasks) e; ended = false })
      still_acting t = ap (λ (g : ℕ → Seat L). (g t).standing) (still_acted p (run_on p.ops f.steps w.tasks) e ∙
          ap (λ g. acted (numbered p) g e) (λ i v. record { local = ran p.ops (f.steps v) (w.tasks v).local; standing = base.still' v i }))

      pub base_fires : IsBase next
      base_fires = record {
        sound = ⊎_elim
            (λ last. subst (IsSound p.ops IsProper) (sym (last_same f last)) base.sound)
            (λ more. subst (IsSound p.ops IsProper) (sym (next_tasks f more))
            (sound_acted p IsProper lawful (run_on p.ops f.steps w.tasks) e (sound_found f base.sound) f.holds))
            (cases_Bool (is_last e));
        still' = ⊎_elim
            (λ last. subst (λ (g : ℕ → Seat L). IsStill (record { tasks = g; ended = false })) (sym (last_same f last)) base.still')
            (λ more. subst (λ (g : ℕ → Seat L). IsStill (record { tasks = g; ended = false })) (sym (next_tasks f more)) still_acting)
            (cases_Bool (is_last e));
        beyond = λ t l. ap (λ (x : Seat L). is_completed x.standing) (completed_fires t (base.beyond t l)) ∙ base.beyond t l;
      }

    pub base_leads : (events : List Event) (w last : World L) → Leads p w events last → IsBase w → IsBase last
    base_leads [] w last h base = subst IsBase h base
    base_leads (e ∷ events) w last (next, f, h) base = base_leads events next last h (base_fires f base)

    pub completed_leads : (events : List Event) (w last : World L) → Leads p w events last → IsBase w → (t : ℕ) → is_completed (w.tasks t).standing ≡ true →
        last.tasks t ≡ w.tasks t
    completed_leads [] w last h base t k = ap (λ (v : World L). v.tasks t) (sym h)
    completed_leads (e ∷ events) w last (next, f, h) base t k =
        let s = completed_fires f base t k in
        completed_leads events next last h (base_fires f base) t (ap (λ (x : Seat L). is_completed x.standing) s ∙ k) ∙ s

    -- the victim of an abort is killed for good, at its base
    pub victim_killed : {w next : World L} {e : Event} (f : Fires p w e next) (t : ℕ) → is_victim e t ≡ true → (w.tasks t).standing ≡ Live →
        next.tasks t ≡ record { local = (w.tasks t).local; standing = Killed }
    victim_killed {w} {next} {e} f t h free = ⊎_elim
        (λ last. absurd (true≢false (sym (victim_changes p e (run_on p.ops f.steps w.tasks) t h (ap is_closed free)) ∙ last_tasks f e (run_on p.ops f.steps w.tasks) t last)))
        (λ more. ap (λ (g : ℕ → Seat L). g t) (next_tasks f more) ∙ victim_falls p e (run_on p.ops f.steps w.tasks) t h free ∙
        ap (λ (x : Seat L). record { local = x.local; standing = Killed }) (found_idle f t (victim_needless p e t h)))
        (cases_Bool (is_last e))
