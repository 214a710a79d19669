-- What each event makes of the tasks of a collecting text with abort statements, beside the law's copy.
use Rattle.std.proofs.Common.{◌≡◌, ℕ, ◌<◌, Bool, true, false, not, refl, sym, ap, ap₂, ◌∙◌, subst, ⊎_elim, true≢false, arith}
use Rattle.std.specs.Prelude.{ℤ, pos}
use Rattle.std.proofs.lemmas.Bool.{and_parts}
use Rattle.event_machine.specs.declared.CallForm.TheVariants.{Plain}
use Rattle.event_machine.specs.declared.Event.{Event}
use Rattle.event_machine.specs.declared.Event.TheVariants.{R}
use Rattle.event_machine.specs.Offers.{same_member, calls_in, is_any_form, waits_with, opens}
use Rattle.event_machine.specs.States.{Seat, live, is_closed}
use Rattle.event_machine.specs.Worlds.{World, Happen, can_move, happens, offers}
use Rattle.event_machine.proofs.Basics.{same_member-true}
use Rattle.task_model.specs.Tasks.{Task}
use Rattle.task_model.specs.Stands.{offer_of}
use Rattle.task_model.specs.Rendezvous.{accepted}
use Rattle.run_laws.specs.imitation.Imitations.{Original}
use Rattle.run_laws.specs.imitation.Imitating.{local_at}
use Rattle.run_laws.specs.collecting.Settings.{IsOfTask}
use Rattle.run_laws.specs.collecting.inner.Beside.{CameFree}
use Rattle.collect_runs.proofs.imitating.Acting.{offering-rests}
use Rattle.collect_runs.proofs.imitating.Moving.{waits-some}
use Rattle.run_laws.specs.aborts.Copies.{Begun, Copy, Based, Calling, Owing, Recording, under, copy_offer, note_of}
use Rattle.run_laws.specs.aborts.Settings.{Setting, recorder, twin}
use Rattle.run_laws.specs.aborts.inner.Beside.{book_of, OwnAt, Inv, IsFoundBeside}
use Rattle.run_laws.proofs.aborts.Offered.{came_free, Offers, OffersOwn, OffersRecorder, offers_by, BasedOn, waits_at, CallingOn, TellingOn, calls_at}
use Rattle.run_laws.proofs.aborts.Singles.{RecorderOffers, IsRecording, IsNoted, IsStriking, recorder_offers, offers_own, of_task}
use Rattle.collect_runs.specs.aborts.recorder.Recorders.{last_of}
use Rattle.collect_runs.specs.aborts.recorder.States.{waiting}
use Rattle.collect_runs.specs.aborts.telling.Texts.{Texts}
use Rattle.collect_runs.specs.aborts.telling.Forms.{Form}
use Rattle.collect_runs.specs.aborts.telling.Meetings.{IsBased, IsOwing, IsCalling}
use Rattle.collect_runs.specs.aborts.telling.Laws.{TellsAlike}
use Rattle.collect_runs.specs.aborts.imitating.Settings.{Collecting, original_of, collected}
use Rattle.collect_runs.specs.aborts.imitating.Copies.{MeetsCopy}
use Rattle.collect_runs.proofs.aborts.imitating.Reaching.{Arrives, comes, leads}
use Rattle.collect_runs.proofs.aborts.imitating.Acting.{takes, TellsNote, tells-note}
use Rattle.collect_runs.proofs.aborts.imitating.Worlds.{SparesMain, free-other, note-within}

module _ {x : Texts} (f : Form x) (tells : TellsAlike f) (c : Collecting x) (w : World (Copy Task)) (found : IsFoundBeside (collected c) w) where
  abbrev o : Original
  o = original_of c

  abbrev s : Setting (original_of c)
  s = collected c

  abbrev Meets : Task → Copy Task → Type 0
  Meets = MeetsCopy f c

  abbrev r : Copy Task
  r = found.known.r

  abbrev d : World Task
  d = found.known.d

  abbrev inv : Inv s found.known.past r d w
  inv = found.known.inv

  -- what is so of a task is so of the state that it has
  pub at-state : (κ : Task) (t : ℕ) (m : Copy Task) → local_at w t ≡ m → Meets κ (local_at w t) → Meets κ m
  at-state κ t m is h = subst (λ (j : Copy Task). Meets κ j) is h

  pub local-is : (t : ℕ) (seat : Seat (Copy Task)) → w.tasks t ≡ seat → local_at w t ≡ seat.local
  local-is t seat at = ap (λ (y : Seat (Copy Task)). y.local) at

  -- no free task of the normal form aborts main
  pub spares : SparesMain (original_of c)
  spares y come runs t v free is = (c.aborts_tasks y come.known runs t v free is).0

  module _ (e : Event) (can : can_move (twin s) w (Happen e) ≡ true) where
    halves : (not w.ended ≡ true) × (happens (twin s) w.tasks e ≡ true)
    halves = and_parts (not w.ended) (happens (twin s) w.tasks e) can

    pub goes-on : w.ended ≡ false
    goes-on = go w.ended halves.0
      where
        go : (b : Bool) → not b ≡ true → b ≡ false
        go false h = refl
        go true h = absurd (true≢false (sym h))

    pub happens-now : happens (twin s) w.tasks e ≡ true
    happens-now = halves.1

  -- ---- a rendezvous starts

  pub accepts : (t e : ℕ) (i : ℤ) (j κ : Task) → Meets j (local_at w t) → Meets κ (local_at w (s.owner e)) → can_move (twin s) w (Happen (R t e i)) ≡ true →
      Arrives Meets ((twin s).ops.accepted e i t (local_at w t) (local_at w (s.owner e))) (accepted e i t j κ)
  accepts t e i j κ mj mκ can =
      let runs : w.ended ≡ false = goes-on (R t e i) can in
      let parts = and_parts (offers (twin s).ops (calls_in is_any_form e i) (w.tasks t)) (offers (twin s).ops (waits_with (opens e i)) (w.tasks (s.owner e)))
      (happens-now (R t e i) can) in
      let (below, (k, at, own, passes)) = offers_own s found.known.past r d w inv (calls_in is_any_form e i) t refl refl refl (λ v. refl) parts.0 in
      let by : Offers s found.known.past r d w inv (waits_with (opens e i)) (s.owner e) =
      offers_by s found.known.past r d w inv (waits_with (opens e i)) (s.owner e) parts.1 in
      ⊎_elim (called below k at own by) (told runs below k at own passes by) (calls_at s (book_of r) d.tasks t k own is_any_form e i passes)
    where
      Goal : Type 0
      Goal = Arrives Meets ((twin s).ops.accepted e i t (local_at w t) (local_at w (s.owner e))) (accepted e i t j κ)

      goal-at : (m n : Copy Task) → local_at w t ≡ m → local_at w (s.owner e) ≡ n → Arrives Meets ((twin s).ops.accepted e i t m n) (accepted e i t j κ) → Goal
      goal-at m n p q h = subst (λ (a : Copy Task). Arrives Meets a (accepted e i t j κ)) (sym (ap₂ (λ (a b : Copy Task). (twin s).ops.accepted e i t a b) p q)) h

      called : t < x.recorder → (k : Copy Task) → w.tasks t ≡ live k → (own : OwnAt s (book_of r) d.tasks t k) →
          Offers s found.known.past r d w inv (waits_with (opens e i)) (s.owner e) → CallingOn s (book_of r) d.tasks t k own is_any_form e i → Goal
      called below k at own by g = go by
        where
          task : IsOfTask x.recorder o.p.owner s.note s.owner e
          task = of_task s found.known.past r d w inv t g.l e i g.at g.calls

          go : Offers s found.known.past r d w inv (waits_with (opens e i)) (s.owner e) → Goal
          go (OffersRecorder q passes) =
              let n : o.p.owner e ≡ recorder s = sym task.same ∙ q in let l : o.p.owner e < x.recorder = task.task in absurd (omega (arith, n, l))
          go (OffersOwn below' m at' own' passes) =
              let a : ℕ = s.owner e in
              let b : BasedOn s (book_of r) d.tasks a m own' (waits_with (opens e i)) = waits_at s (book_of r) d.tasks a m own' (opens e i) passes in
              let p : local_at w t ≡ Calling t g.l = local-is t (live k) at ∙ g.is in
              let q : local_at w a ≡ Based a b.l = local-is a (live m) at' ∙ b.is in
              let calling : IsCalling f t g.l j = at-state j t (Calling t g.l) p mj in
              let based : IsBased f a b.l κ = at-state κ a (Based a b.l) q mκ in
              let acts = tells.acts a b.l κ based (offering-rests b.l (waits-some (opens e i) (offer_of b.l) b.passes)) in
              goal-at (Calling t g.l) (Based a b.l) p q
              (comes Meets (Owing a (Begun t e i g.l) b.l) (IsOwing f a (Begun t e i g.l) b.l) (λ y h. h) (accepted e i t j κ)
              (acts.accepted e i b.passes t g.l j calling.over))

      told : w.ended ≡ false → t < x.recorder → (k : Copy Task) → w.tasks t ≡ live k → (own : OwnAt s (book_of r) d.tasks t k) →
          calls_in is_any_form e i (copy_offer o.p s.note k) ≡ true →
          Offers s found.known.past r d w inv (waits_with (opens e i)) (s.owner e) → TellingOn s (book_of r) d.tasks t k own is_any_form e → Goal
      told runs below k at own passes by g = go by
        where
          owns : s.owner e ≡ recorder s
          owns = ap s.owner g.entry ∙ s.noted

          first-member : i ≡ pos 0
          first-member =
              (same_member-true e s.note i (pos 0)
              (and_parts (is_any_form Plain) (same_member e i s.note (pos 0)) (ap (calls_in is_any_form e i) (sym g.tells) ∙ passes)).1).1

          is : local_at w t ≡ k
          is = local-is t (live k) at

          note : TellsNote f tells c j k
          note = tells-note f tells c j k (at-state j t k is mj) g.tells
              (λ u σ q offered. free-other s found.known.past r d w inv t σ
              (subst (λ (m : Copy Task). CameFree o t (under o.p.ops.nobody m)) q (came_free s found.known.past r d w inv t k own g.tells)) offered)

          go : Offers s found.known.past r d w inv (waits_with (opens e i)) (s.owner e) → Goal
          go (OffersOwn below' m at' own' passes') = absurd (omega (arith, owns, below'))
          go (OffersRecorder q passes') = inner (recorder_offers s found.known.past w.tasks r (waits_with (opens e i)) refl inv.records passes')
            where
              inner : RecorderOffers s r (waits_with (opens e i)) → Goal
              inner (IsNoted u answer b p h) = absurd (true≢false (sym h))
              inner (IsStriking u b a v p h) = absurd (true≢false (sym h))
              inner (IsRecording b p h) =
                  let q' : local_at w (s.owner e) ≡ Recording b = ap (local_at w) owns ∙ local-is (recorder s) (live r) inv.at ∙ p in
                  let at-wait : κ ≡ waiting c.recorder b = at-state κ (s.owner e) (Recording b) q' mκ in
                  let open' : is_closed (w.tasks t).standing ≡ false = ap (λ (y : Seat (Copy Task)). is_closed y.standing) at in
                  let heard = (takes f tells c).hears b (note_of o.p s.pends k) t j
                  (note-within s found.known.past r d w inv spares runs found.sound (last_of c.recorder) c.last t below k is open' own) note.by in
                  goal-at k (Recording b) is q'
                  (subst (λ (u : Task). Arrives Meets ((twin s).ops.accepted e i t k (Recording b)) (accepted e i t j u)) (sym at-wait)
                  (subst (λ (n : ℕ). Arrives Meets ((twin s).ops.accepted e i t k (Recording b)) (accepted n i t j (waiting c.recorder b))) (sym g.entry)
                  (subst (λ (z : ℤ). Arrives Meets ((twin s).ops.accepted e i t k (Recording b)) (accepted x.note z t j (waiting c.recorder b))) (sym first-member)
                  (leads Meets ((twin s).ops.accepted e i t k (Recording b)) (accepted x.note (pos 0) t j (waiting c.recorder b)) heard.0 heard.1 heard.2))))
