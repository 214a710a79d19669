-- Two events that are apart happen in either order, by the very same steps and to the same bases.
use Rattle.std.proofs.Common.{◌≡◌, ℕ, zero, suc, ◌<◌, ◌≤◌, Bool, true, false, not, ◌&&◌, ◌||◌, ◌==◌, if◌then◌else◌, slice_index_or, refl, sym, ap, ◌∙◌, subst, ⊎_elim, true≢false}
use Rattle.std.specs.Prelude.{MatchBool}
use Rattle.std.proofs.lemmas.Bool.{and_parts, or_parts, cases_Bool, cases_lt, false_from_ne_true}
use Rattle.event_machine.specs.declared.Standing.TheVariants.{Live}
use Rattle.event_machine.specs.declared.Event.{Event}
use Rattle.event_machine.specs.declared.Event.TheVariants.{R, E, S, D, C, T, F, X, B, Z}
use Rattle.event_machine.specs.States.{Seat, is_live, is_completed}
use Rattle.event_machine.specs.Soundness.{IsSound}
use Rattle.event_machine.specs.Lawful.{IsLawful, Keeps}
use Rattle.event_machine.specs.Programs.{Program, numbered}
use Rattle.event_machine.specs.Worlds.{World, happens, acted, needs, changes, is_last}
use Rattle.event_machine.specs.Settling.{ran, HasSteps, Settles, run_on, fired, Fires}
use Rattle.event_machine.specs.progress.Known.{Known, nobody, touches, advanced}
use Rattle.event_machine.proofs.Basics.{split}
use Rattle.event_machine.proofs.Standings.{is-Live}
use Rattle.event_machine.proofs.Bases.{IsBase, base_fires, completed_fires, next_tasks, last_same, sound_found, found_steps}
use Rattle.event_machine.proofs.progress.Seats.{told_keeps}
use Rattle.event_machine.proofs.progress.Telling.{Tells, tells_acted}
use Rattle.syn_order.specs.Apart.{AreApart}
use Rattle.syn_order.proofs.Apart.{other_false, apart_turned}
use Rattle.syn_order.proofs.exchange.Reading.{AreNear, needs_touches, happens_near, changes_touches}
use Rattle.syn_order.proofs.exchange.Writing.{acted_near, changes_near}
use Rattle.common_lemmas.proofs.Numbers.{equal_self}

-- the last event is the end of the program
pub last_is : (e : Event) → is_last e ≡ true → e ≡ Z
last_is (R c e i) h = absurd (true≢false (sym h))
last_is (E a) h = absurd (true≢false (sym h))
last_is (S a) h = absurd (true≢false (sym h))
last_is (D a k) h = absurd (true≢false (sym h))
last_is (C c e i) h = absurd (true≢false (sym h))
last_is (T c e i) h = absurd (true≢false (sym h))
last_is (F c e i) h = absurd (true≢false (sym h))
last_is (X a) h = absurd (true≢false (sym h))
last_is (B u x) h = absurd (true≢false (sym h))
last_is Z h = refl

-- where two events are apart the one does not touch what the other touches
not_touched : (owner : ℕ → ℕ) (n : ℕ) (k : Known) (e f : Event) → AreApart owner n k e f → (t : ℕ) → t < n → touches owner k e t ≡ true → touches owner k f t ≡ false
not_touched owner n k e f apart t l h = other_false (touches owner k e t) (touches owner k f t) (apart t l) h

module _ {L : Type 0} (p : Program L) where
  -- an event that happens needs a free task, but for the end of the program
  needs_free : (tasks : ℕ → Seat L) (e : Event) → is_last e ≡ false → happens p tasks e ≡ true → (t : ℕ) × (needs p e t ≡ true) × ((tasks t).standing ≡ Live)
  needs_free tasks (R c e i) more h = (c, ap (λ b. b || (c == p.owner e)) (equal_self c), is-Live (tasks c).standing (and_parts (is_live (tasks c).standing) _ (split h).0).0)
  needs_free tasks (E a) more h = (a, equal_self a, is-Live (tasks a).standing (split h).0)
  needs_free tasks (S a) more h = (a, equal_self a, is-Live (tasks a).standing (split h).0)
  needs_free tasks (D a k) more h = (a, equal_self a, is-Live (tasks a).standing (split h).0)
  needs_free tasks (C c e i) more h = (c, equal_self c, is-Live (tasks c).standing (and_parts (is_live (tasks c).standing) _ (split h).0).0)
  needs_free tasks (T c e i) more h = (c, equal_self c, is-Live (tasks c).standing (and_parts (is_live (tasks c).standing) _ (split h).0).0)
  needs_free tasks (F c e i) more h = (c, equal_self c, is-Live (tasks c).standing (and_parts (is_live (tasks c).standing) _ (split h).0).0)
  needs_free tasks (X a) more h = (a, equal_self a, is-Live (tasks a).standing (and_parts (is_live (tasks a).standing) _ (and_parts (not (a == 0)) _ h).1).0)
  needs_free tasks (B u x) more h = (u, equal_self u, is-Live (tasks u).standing (split h).0)
  needs_free tasks Z more h = absurd (true≢false more)

  -- the end of the program touches all
  last_touches : (k : Known) (e : Event) (t : ℕ) → is_last e ≡ true → touches p.owner k e t ≡ true
  last_touches k e t h = ap (λ d. touches p.owner k d t) (last_is e h)

  -- and changes nothing that is known of a task
  last_known : (k : Known) (e : Event) → is_last e ≡ true → (advanced p.owner k e).parties ≡ k.parties
  last_known k e h = ap (λ d. (advanced p.owner k d).parties) (last_is e h)

  -- ---- worlds in which the tasks that it touches are the same

  module _ (k : Known) (e : Event) (near here : World L) {next : World L} (same : AreNear p k e near.tasks here.tasks) (fires : Fires p near e next) where
    pub same_found : AreNear p k e (run_on p.ops fires.steps near.tasks) (run_on p.ops fires.steps here.tasks)
    same_found t h = ap (λ (seat : Seat L). record { local = ran p.ops (fires.steps t) seat.local; standing = seat.standing }) (same t h)

    -- where it happens in the one it happens in the other, after the same steps
    pub fires_here : here.ended ≡ false → Fires p here e (fired p fires.steps here e)
    fires_here runs = record {
      steps = fires.steps;
      settles = λ t. settled t (needs p e t) refl;
      runs = runs;
      holds = happens_near p k e (run_on p.ops fires.steps near.tasks) (run_on p.ops fires.steps here.tasks) same_found ∙ fires.holds;
      becomes = refl;
    }
      where
        settled : (t : ℕ) (b : Bool) → needs p e t ≡ b → MatchBool (needs p e t && is_live (here.tasks t).standing) (Settles p.ops (fires.steps t) (here.tasks t).local) (fires.steps t ≡ 0)
        settled t true q = subst (λ (seat : Seat L). MatchBool (needs p e t && is_live seat.standing) (Settles p.ops (fires.steps t) seat.local) (fires.steps t ≡ 0))
            (sym (same t (needs_touches p k e t q))) (fires.settles t)
        settled t false q = subst (λ b. MatchBool (b && is_live (here.tasks t).standing) (Settles p.ops (fires.steps t) (here.tasks t).local) (fires.steps t ≡ 0)) (sym q)
            (subst (λ b. MatchBool (b && is_live (near.tasks t).standing) (Settles p.ops (fires.steps t) (near.tasks t).local) (fires.steps t ≡ 0)) q (fires.settles t))

  module _ (IsProper : L → Type 0) (lawful : IsLawful p.ops IsProper) where
    ran_callers : (n : ℕ) (l : L) → IsProper l → HasSteps p.ops n l → Keeps p.ops IsProper l (ran p.ops n l)
    ran_callers zero l proper h = (proper, refl)
    ran_callers (suc n) l proper h =
        let k = ran_callers n l proper h.0 in
        let s = lawful.stepped (ran p.ops n l) k.0 h.1 in
        (s.0, s.1 ∙ k.1)

    module _ (k : Known) (w : World L) (base : IsBase p IsProper lawful w) (tells : Tells p.ops k w.tasks) where
      module _ {next : World L} {e : Event} (fires : Fires p w e next) where
        abbrev found : ℕ → Seat L
        found = run_on p.ops fires.steps w.tasks

        -- What is known of bases is known of the tasks as an event finds them.
        pub tells_found : Tells p.ops k found
        tells_found t = tells t ∙
            sym (told_keeps p.ops (w.tasks t).local (ran p.ops (fires.steps t) (w.tasks t).local) (w.tasks t).standing
            (λ q. (ran_callers (fires.steps t) (w.tasks t).local (base.sound.proper t q) (found_steps p fires t)).1))

        -- What is known goes with an event.
        pub tells_fires : Tells p.ops (advanced p.owner k e) next.tasks
        tells_fires = ⊎_elim
            (λ last. subst (Tells p.ops (advanced p.owner k e)) (sym (last_same p fires last))
            (λ t. ap (λ parties. slice_index_or parties t nobody) (last_known k e last) ∙ tells t))
            (λ more. subst (Tells p.ops (advanced p.owner k e)) (sym (next_tasks p fires more))
            (tells_acted p IsProper lawful k found (sound_found p IsProper lawful fires base.sound) tells_found e fires.holds))
            (cases_Bool (is_last e))

      -- ---- an event in a world that is near

      module _ {near next : World L} (near_base : IsBase p IsProper lawful near) (e : Event) (same : AreNear p k e near.tasks w.tasks)
          (fires : Fires p near e next) (runs : w.ended ≡ false) where
        abbrev found_near : ℕ → Seat L
        found_near = run_on p.ops fires.steps near.tasks

        abbrev found_here : ℕ → Seat L
        found_here = run_on p.ops fires.steps w.tasks

        turned : AreNear p k e found_here found_near
        turned t h = sym (same_found k e near w same fires t h)

        holds_here : happens p found_here e ≡ true
        holds_here = happens_near p k e found_near found_here (same_found k e near w same fires) ∙ fires.holds

        tells_here : Tells p.ops k found_here
        unfolding fires_here
        tells_here = tells_found (fires_here k e near w same fires runs)

        sound_here : IsSound p.ops IsProper found_here
        unfolding fires_here
        sound_here = sound_found p IsProper lawful (fires_here k e near w same fires runs) base.sound

        -- it leaves the tasks that it does not touch
        pub stays_near : (t : ℕ) → touches p.owner k e t ≡ false → next.tasks t ≡ near.tasks t
        stays_near t h = ap (λ (v : World L). v.tasks t) fires.becomes ∙
            ap (λ b. if b then acted (numbered p) found_near e t else near.tasks t)
            (false_from_ne_true (changes p.ops p.owner found_near e t)
            (λ q. true≢false (sym (changes_touches p k found_here tells_here e holds_here t
            (sym (changes_near p k found_here found_near tells_here IsProper sound_here (sound_found p IsProper lawful fires near_base.sound) e turned t) ∙ q)) ∙ h)))

        -- and makes the same of those that it touches
        pub becomes_near : is_last e ≡ false → (t : ℕ) → touches p.owner k e t ≡ true → next.tasks t ≡ (fired p fires.steps w e).tasks t
        unfolding fires_here
        becomes_near more t h = ap (λ (g : ℕ → Seat L). g t) (next_tasks p fires more) ∙
            acted_near p k found_here found_near tells_here e turned holds_here t h ∙
            sym (ap (λ (g : ℕ → Seat L). g t) (next_tasks p (fires_here k e near w same fires runs) more))

      -- ---- the other order

      module _ (e f : Event) (apart : AreApart p.owner p.size k e f) {v last : World L} (first : Fires p w e v) (second : Fires p v f last) where
        v_base : IsBase p IsProper lawful v
        v_base = base_fires p IsProper lawful first base

        -- past the last task nothing changes
        past : (t : ℕ) → p.size ≤ t → v.tasks t ≡ w.tasks t
        past t l = completed_fires p IsProper lawful first base t (base.beyond t l)

        -- the second finds what it touches as it was before the first
        kept : AreNear p k f v.tasks w.tasks
        kept t h = sym (⊎_elim
            (λ l. stays_near base e (λ u q. refl) first first.runs t (not_touched p.owner p.size k f e (apart_turned p.owner p.size k e f apart) t l h))
            (past t) (cases_lt t p.size))

        -- the bases between them in the other order
        abbrev pub between : World L
        between = fired p second.steps w f

        pub f_first : Fires p w f between
        f_first = fires_here k f v w kept second first.runs

        between_base : IsBase p IsProper lawful between
        between_base = base_fires p IsProper lawful f_first base

        past_between : (t : ℕ) → p.size ≤ t → between.tasks t ≡ w.tasks t
        past_between t l = completed_fires p IsProper lawful f_first base t (base.beyond t l)

        kept_between : AreNear p k e w.tasks between.tasks
        kept_between t h = ⊎_elim
            (λ l. stays_near base f (λ u q. refl) f_first first.runs t (not_touched p.owner p.size k e f apart t l h))
            (past_between t) (cases_lt t p.size)

        e_more : is_last e ≡ false
        e_more = (or_parts (is_last e) w.ended (sym (ap (λ (u : World L). u.ended) first.becomes) ∙ second.runs)).0

        f_more : is_last f ≡ false
        f_more = false_from_ne_true (is_last f) (λ q.
            let (t, need, free) = needs_free (run_on p.ops first.steps w.tasks) e e_more first.holds in
            true≢false (sym (last_touches k f t q) ∙ not_touched p.owner p.size k e f apart t (below t free) (needs_touches p k e t need)))
          where
            below : (t : ℕ) → (w.tasks t).standing ≡ Live → t < p.size
            below t free = ⊎_elim (λ l. l) (λ l. absurd (true≢false (sym (base.beyond t l) ∙ ap is_completed free))) (cases_lt t p.size)

        abbrev after_both : World L
        after_both = fired p first.steps between e

        e_there : Fires p between e after_both
        e_there = fires_here k e w between kept_between first (ap (λ b. b || w.ended) f_more ∙ first.runs)

        same_task : (t : ℕ) → last.tasks t ≡ after_both.tasks t
        unfolding f_first e_there fires_here
        same_task t = ⊎_elim within beyond (cases_lt t p.size)
          where
            touched : (b d : Bool) → touches p.owner k e t ≡ b → touches p.owner k f t ≡ d → (b && d) ≡ false → last.tasks t ≡ after_both.tasks t
            touched true true q r clash = absurd (true≢false clash)
            touched true false q r clash =
                stays_near v_base f kept second first.runs t r ∙ ap (λ (u : World L). u.tasks t) first.becomes ∙
                sym (becomes_near between_base e (λ u h. sym (kept_between u h)) e_there first.runs e_more t q)
            touched false true q r clash =
                becomes_near v_base f kept second first.runs f_more t r ∙ sym (stays_near between_base e (λ u h. sym (kept_between u h)) e_there first.runs t q)
            touched false false q r clash =
                stays_near v_base f kept second first.runs t r ∙ stays_near base e (λ u h. refl) first first.runs t q ∙
                sym (stays_near between_base e (λ u h. sym (kept_between u h)) e_there first.runs t q ∙ stays_near base f (λ u h. refl) f_first first.runs t r)

            within : t < p.size → last.tasks t ≡ after_both.tasks t
            within l = touched (touches p.owner k e t) (touches p.owner k f t) refl refl (apart t l)

            beyond : p.size ≤ t → last.tasks t ≡ after_both.tasks t
            beyond l =
                completed_fires p IsProper lawful second v_base t (ap (λ (x : Seat L). is_completed x.standing) (past t l) ∙ base.beyond t l) ∙ past t l ∙
                sym (completed_fires p IsProper lawful e_there between_base t (ap (λ (x : Seat L). is_completed x.standing) (past_between t l) ∙ base.beyond t l) ∙ past_between t l)

        pub same_end : last ≡ after_both
        same_end = λ i. record {
          tasks = λ t. same_task t i;
          ended = (ap (λ (u : World L). u.ended) second.becomes ∙ ap (λ b. is_last f || b) (ap (λ (u : World L). u.ended) first.becomes) ∙
              either (is_last f) (is_last e) w.ended) i;
        }
          where
            either : (a b c : Bool) → (a || (b || c)) ≡ (b || (a || c))
            either true true c = refl
            either true false c = refl
            either false true c = refl
            either false false c = refl

        -- The second, and then the first.
        pub e_second : Fires p between e last
        unfolding e_there fires_here
        e_second = record { steps = first.steps; settles = e_there.settles; runs = e_there.runs; holds = e_there.holds; becomes = same_end }

        pub f_steps : f_first.steps ≡ second.steps
        unfolding f_first fires_here
        f_steps = refl

        pub e_steps : e_second.steps ≡ first.steps
        unfolding e_second
        e_steps = refl
