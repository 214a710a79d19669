-- The end of a rendezvous of a collecting text, beside the law's copy: of two tasks of the normal form, or of one with the recorder.
use Rattle.std.proofs.Common.{◌≡◌, ℕ, ◌<◌, Bool, true, false, if◌then◌else◌, List, ◌∷◌, refl, sym, ap, ◌∙◌, subst, true≢false}
use Rattle.std.specs.Prelude.{ℤ}
use Rattle.common_lemmas.proofs.Lists.{first_same}
use Rattle.event_machine.specs.declared.CallForm.{CallForm}
use Rattle.event_machine.specs.declared.Standing.TheVariants.{Served}
use Rattle.event_machine.specs.declared.Event.TheVariants.{E}
use Rattle.event_machine.specs.Offers.{Offer, Nothing, Calls, Waits, Finishes, Ends, Aborts, is_finish}
use Rattle.event_machine.specs.States.{Seat, live, is_closed}
use Rattle.event_machine.specs.Worlds.{World, Happen, can_move}
use Rattle.task_model.specs.Frames.{callers_in}
use Rattle.task_model.specs.Tasks.{Task}
use Rattle.task_model.specs.Stands.{offer_of}
use Rattle.task_model.specs.Rendezvous.{finished, resumed}
use Rattle.run_laws.specs.imitation.Imitations.{Original}
use Rattle.run_laws.specs.imitation.Imitating.{local_at}
use Rattle.run_laws.specs.collecting.Notes.{Book}
use Rattle.run_laws.specs.collecting.Copies.{Upset, Copy, Based, Calling, Owing, Ending, Recording, Noted, under, upset}
use Rattle.run_laws.specs.collecting.Settings.{Setting, recorder, twin, is_call, IsProperCopy}
use Rattle.run_laws.specs.collecting.inner.Beside.{CameFree, book_of, Hears, RecorderAt, Inv, IsFoundBeside}
use Rattle.run_laws.proofs.collecting.Offered.{Offers, OffersOwn, OffersRecorder, offers_by, EndingOn, finish_at}
use Rattle.run_laws.proofs.collecting.Singles.{RecorderOffers, IsRecording, IsNoted, recorder_offers}
use Rattle.run_laws.proofs.collecting.Meetings.{TellingAt, telling_at}
use Rattle.collect_runs.specs.recorder.States.{waiting, IsNoted as IsAtEnd}
use Rattle.collect_runs.specs.telling.Texts.{Texts}
use Rattle.collect_runs.specs.telling.Forms.{Form}
use Rattle.collect_runs.specs.telling.Meetings.{pends, IsBased, IsOwing, IsCalling, IsEnding}
use Rattle.collect_runs.specs.telling.Laws.{TellsAlike}
use Rattle.collect_runs.specs.imitating.Settings.{Collecting, original_of, collected}
use Rattle.collect_runs.specs.imitating.Copies.{MeetsCopy}
use Rattle.collect_runs.proofs.imitating.Reaching.{Arrives, comes, leads}
use Rattle.collect_runs.proofs.imitating.Acting.{takes, TellsNote, tells-note}
use Rattle.collect_runs.proofs.imitating.Worlds.{free-other}
use Rattle.collect_runs.proofs.imitating.Moving.{at-state, local-is, goes-on, happens-now}

-- a call is one
pub call-is : (offer : Offer) → is_call offer ≡ true → (form : CallForm) × (e : ℕ) × (i : ℤ) × (offer ≡ Calls form e i)
call-is (Calls form e i) h = (form, e, i, refl)
call-is Nothing h = absurd (true≢false (sym h))
call-is (Waits choices) h = absurd (true≢false (sym h))
call-is Finishes h = absurd (true≢false (sym h))
call-is Ends h = absurd (true≢false (sym h))
call-is (Aborts v) h = absurd (true≢false (sym h))

module _ {x : Texts} (f : Form x) (tells : TellsAlike f) (c : Collecting x) (w : World (Copy Task)) (found : IsFoundBeside (collected c) w) where
  abbrev o : Original
  o = original_of c

  abbrev s : Setting (original_of c)
  s = collected c

  abbrev Meets : Task → Copy Task → Type 0
  Meets = MeetsCopy f c

  abbrev r : Copy Task
  r = found.known.r

  abbrev d : World Task
  d = found.known.d

  abbrev inv : Inv s found.known.past r d w
  inv = found.known.inv

  module _ (a : ℕ) (can : can_move (twin s) w (Happen (E a)) ≡ true) where
    runs : w.ended ≡ false
    runs = goes-on f tells c w found (E a) can

    -- Who ends a rendezvous: a task that has told so, or the recorder.
    data Ends' : Type 0 where
      OwnEnds : (σ v : Task) (t : ℕ) (outer : List ℕ) → local_at w a ≡ Ending a σ → callers_in σ.control ≡ t ∷ outer → w.tasks t ≡ record { local = Calling t v; standing = Served a false } → is_call (offer_of v) ≡ true → Ends'
      RecorderEnds : (t : ℕ) (answer : Bool) (b : Book) → a ≡ recorder s → r ≡ Noted t answer b → local_at w a ≡ Noted t answer b → Ends'

    ends : Ends'
    ends = go (offers_by s found.known.past r d w inv is_finish a (happens-now f tells c w found (E a) can))
      where
        go : Offers s found.known.past r d w inv is_finish a → Ends'
        go (OffersOwn below k at own passes) =
            let g : EndingOn s (book_of r) w.tasks d.tasks a k own = finish_at s (book_of r) w.tasks d.tasks a k own passes in
            let proper : IsProperCopy o (local_at w g.c) = found.sound.proper g.c (ap (λ (y : Seat (Copy Task)). is_closed y.standing) g.apart.at) in
            OwnEnds g.l g.v g.c g.outer (local-is f tells c w found a (live k) at ∙ g.is) g.has g.apart.at
            (subst (IsProperCopy o) (ap (λ (y : Seat (Copy Task)). y.local) g.apart.at) proper).1
        go (OffersRecorder e passes) = inner (recorder_offers s found.known.past w.tasks r is_finish refl inv.records passes)
          where
            inner : RecorderOffers s r is_finish → Ends'
            inner (IsRecording b q p) = absurd (true≢false (sym p))
            inner (IsNoted t answer b q p) = RecorderEnds t answer b e q (ap (local_at w) e ∙ local-is f tells c w found (recorder s) (live r) inv.at ∙ q)

    pub callers-same : (κ : Task) → Meets κ (local_at w a) → callers_in κ.control ≡ (twin s).ops.callers (local_at w a)
    callers-same κ h = go ends
      where
        go : Ends' → callers_in κ.control ≡ (twin s).ops.callers (local_at w a)
        go (OwnEnds σ v t outer is has at calls) =
            let there : IsEnding f a σ κ = at-state f tells c w found κ a (Ending a σ) is h in there.callers ∙ ap (twin s).ops.callers (sym is)
        go (RecorderEnds t answer b e q is) =
            let there : IsAtEnd c.recorder t answer b κ = at-state f tells c w found κ a (Noted t answer b) is h in
            (takes f tells c).callers t answer b κ there ∙ ap (twin s).ops.callers (sym is)

    pub finishes : (κ : Task) → Meets κ (local_at w a) → Arrives Meets ((twin s).ops.finished (local_at w a)) (finished κ)
    finishes κ h = go ends
      where
        go : Ends' → Arrives Meets ((twin s).ops.finished (local_at w a)) (finished κ)
        go (OwnEnds σ v t outer is has at calls) =
            let there : IsEnding f a σ κ = at-state f tells c w found κ a (Ending a σ) is h in
            subst (λ (m : Copy Task). Arrives Meets ((twin s).ops.finished m) (finished κ)) (sym is)
            (comes Meets (Based a (finished σ)) (IsBased f a (finished σ)) (λ j m. m) (finished κ) there.goes_on)
        go (RecorderEnds t answer b e q is) =
            let there : IsAtEnd c.recorder t answer b κ = at-state f tells c w found κ a (Noted t answer b) is h in
            subst (λ (m : Copy Task). Arrives Meets ((twin s).ops.finished m) (finished κ)) (sym is)
            (leads Meets (Recording b) (finished κ) (waiting c.recorder b) ((takes f tells c).goes_on t answer b κ there) refl)

    -- a caller goes on, or is to tell that TASKING_ERROR has come
    returns : (t : ℕ) (σ v κ j : Task) → IsEnding f a σ κ → IsCalling f t v j → is_call (offer_of v) ≡ true →
        Arrives Meets ((twin s).ops.resumed (Ending a σ) (Calling t v)) (resumed κ j)
    returns t σ v κ j ending calling calls = go (pends σ) refl
      where
        go : (b : Bool) → pends σ ≡ b → Arrives Meets (if b then upset t (offer_of v) (resumed σ v) else Based t (resumed σ v)) (resumed κ j)
        go false q = comes Meets (Based t (resumed σ v)) (IsBased f t (resumed σ v)) (λ y m. m) (resumed κ j) (calling.returns σ κ ending.back q)
        go true q =
            let (form, e, i, is) = call-is (offer_of v) calls in
            subst (λ (offer : Offer). Arrives Meets (upset t offer (resumed σ v)) (resumed κ j)) (sym is)
            (comes Meets (Owing t (Upset e i) (resumed σ v)) (IsOwing f t (Upset e i) (resumed σ v)) (λ y m. m) (resumed κ j) (calling.upset σ κ ending.back q form e i is))

    pub resumes : (t : ℕ) (outer : List ℕ) (j κ : Task) → (twin s).ops.callers (local_at w a) ≡ t ∷ outer → (w.tasks t).standing ≡ Served a false → Meets j (local_at w t) → Meets κ (local_at w a) →
        Arrives Meets ((twin s).ops.resumed (local_at w a) (local_at w t)) (resumed κ j)
    resumes t outer j κ has served mj mκ = go ends
      where
        go : Ends' → Arrives Meets ((twin s).ops.resumed (local_at w a) (local_at w t)) (resumed κ j)
        go (OwnEnds σ v u more is first at calls) =
            let same : u ≡ t = first_same (sym first ∙ ap (twin s).ops.callers (sym is) ∙ has) in
            let there : local_at w t ≡ Calling u v = ap (local_at w) (sym same) ∙ ap (λ (y : Seat (Copy Task)). y.local) at in
            subst (λ (m : Copy Task). Arrives Meets ((twin s).ops.resumed m (local_at w t)) (resumed κ j)) (sym is)
            (subst (λ (m : Copy Task). Arrives Meets ((twin s).ops.resumed (Ending a σ) m) (resumed κ j)) (sym there)
            (returns u σ v κ j (at-state f tells c w found κ a (Ending a σ) is mκ) (at-state f tells c w found j t (Calling u v) there mj) calls))
        go (RecorderEnds u answer b e q is) =
            let same : u ≡ t = first_same (ap (twin s).ops.callers (sym is) ∙ has) in
            let below : t < x.recorder = subst (λ (n : ℕ). n < x.recorder) same (served-here u answer b q) in
            let teller : TellingAt s found.known.past r d w inv runs t = telling_at s found.known.past r d w inv runs t below (served ∙ ap (λ n. Served n false) e) in
            let there : local_at w t ≡ teller.k = ap (λ (y : Seat (Copy Task)). y.local) teller.at in
            let hears : Hears s (Noted u answer b) t teller.k = subst (λ (m : Copy Task). Hears s m t teller.k) q teller.hears in
            let note : TellsNote f tells c j teller.k = tells-note f tells c j teller.k (at-state f tells c w found j t teller.k there mj) hears.1
            (λ n σ p offered. free-other s found.known.past r d w inv t σ (subst (λ (m : Copy Task). CameFree o t (under o.p.ops.nobody m)) p teller.was) offered) in
            let ended : IsAtEnd c.recorder u answer b κ = at-state f tells c w found κ a (Noted u answer b) is mκ in
            let hands = (takes f tells c).hands u answer b κ ended in
            subst (λ (m : Copy Task). Arrives Meets ((twin s).ops.resumed m (local_at w t)) (resumed κ j)) (sym is)
            (subst (λ (m : Copy Task). Arrives Meets ((twin s).ops.resumed (Noted u answer b) m) (resumed κ j)) (sym there) (note.back answer κ hands.0 hands.1))
          where
            served-here : (n : ℕ) (v : Bool) (book : Book) → r ≡ Noted n v book → n < x.recorder
            served-here n v book p = (subst (RecorderAt s found.known.past w.tasks) p inv.records).1
