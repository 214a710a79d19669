-- The end of a rendezvous of a collecting text with abort statements, beside the law's copy: of two tasks of the normal form, of a refused one, or of one with
-- the recorder.
use Rattle.std.proofs.Common.{◌≡◌, ℕ, ◌<◌, Bool, true, false, List, ◌∷◌, refl, sym, ap, ◌∙◌, subst, true≢false, arith}
use Rattle.std.proofs.lemmas.Bool.{eqb-true}
use Rattle.common_lemmas.proofs.Lists.{first_same}
use Rattle.common_lemmas.proofs.Numbers.{equal_self}
use Rattle.event_machine.specs.declared.Standing.TheVariants.{Served}
use Rattle.event_machine.specs.declared.Event.TheVariants.{E}
use Rattle.event_machine.specs.Offers.{Finishes, is_finish}
use Rattle.event_machine.specs.States.{Seat, live, is_live, is_closed, is_served_by}
use Rattle.event_machine.specs.Worlds.{World, Happen, can_move}
use Rattle.task_model.specs.Frames.{callers_in}
use Rattle.task_model.specs.Tasks.{Task}
use Rattle.task_model.specs.Stands.{offer_of}
use Rattle.task_model.specs.Laws.{IsProper}
use Rattle.task_model.specs.Rendezvous.{finished, resumed}
use Rattle.run_laws.specs.imitation.Imitations.{Original, IsComeTo}
use Rattle.run_laws.specs.imitation.Imitating.{local_at}
use Rattle.run_laws.specs.collecting.inner.Beside.{CameFree}
use Rattle.run_laws.proofs.collecting.Reaching.{reached_come}
use Rattle.collect_runs.proofs.imitating.Acting.{offering-rests, nothing_finishes}
use Rattle.run_laws.specs.aborts.Notes.{Book}
use Rattle.run_laws.specs.aborts.Copies.{Returned, Over, Copy, Based, Calling, Owing, Refusing, Recording, Noted, first_caller, under}
use Rattle.run_laws.specs.aborts.Settings.{Setting, recorder, twin}
use Rattle.run_laws.specs.aborts.inner.Beside.{book_of, Hears, SeatAt, Free, Telling, Shared, Apart, Gone, RecorderAt, Inv, IsFoundBeside}
use Rattle.run_laws.proofs.aborts.Offered.{FinishOn, AtEndOf, AtRefusal, finish_at, Offers, OffersOwn, OffersRecorder, offers_by}
use Rattle.run_laws.proofs.aborts.Singles.{RecorderOffers, IsRecording, IsNoted, IsStriking, recorder_offers}
use Rattle.run_laws.proofs.aborts.Pairs.{IsFirst, first_is}
use Rattle.run_laws.proofs.aborts.Meetings.{served_below}
use Rattle.run_laws.proofs.aborts.Partings.{refused_closed}
use Rattle.run_laws.proofs.aborts.Tellers.{TellingAt, telling_at}
use Rattle.collect_runs.specs.aborts.recorder.States.{waiting, IsNoted as IsAtEnd}
use Rattle.collect_runs.specs.aborts.telling.Texts.{Texts}
use Rattle.collect_runs.specs.aborts.telling.Forms.{ComesBack, Form}
use Rattle.collect_runs.specs.aborts.telling.Meetings.{IsBased, IsOwing, IsCalling, IsRefusing, ActsAlike}
use Rattle.collect_runs.specs.aborts.telling.Laws.{TellsAlike}
use Rattle.collect_runs.specs.aborts.imitating.Settings.{Collecting, original_of, collected}
use Rattle.collect_runs.specs.aborts.imitating.Copies.{MeetsCopy}
use Rattle.collect_runs.proofs.aborts.imitating.Reaching.{Arrives, comes, leads}
use Rattle.collect_runs.proofs.aborts.imitating.Acting.{takes, TellsNote, tells-note}
use Rattle.collect_runs.proofs.aborts.imitating.Worlds.{free-other}
use Rattle.collect_runs.proofs.aborts.imitating.Moving.{at-state, local-is, goes-on, happens-now}

module _ {x : Texts} (f : Form x) (tells : TellsAlike f) (c : Collecting x) (w : World (Copy Task)) (found : IsFoundBeside (collected c) w) where
  abbrev o : Original
  o = original_of c

  abbrev s : Setting (original_of c)
  s = collected c

  abbrev Meets : Task → Copy Task → Type 0
  Meets = MeetsCopy f c

  abbrev r : Copy Task
  r = found.known.r

  abbrev d : World Task
  d = found.known.d

  abbrev inv : Inv s found.known.past r d w
  inv = found.known.inv

  come : IsComeTo o d
  come = reached_come o found.known.past d inv.reached

  module _ (a : ℕ) (can : can_move (twin s) w (Happen (E a)) ≡ true) where
    runs : w.ended ≡ false
    runs = goes-on f tells c w found (E a) can

    -- Who ends a rendezvous: a task at the end of its accept body, also of a refused one, or the recorder.
    data Ends' : Type 0 where
      OwnEnds : (σ : Task) → a < x.recorder → local_at w a ≡ Based a σ → d.tasks a ≡ live σ → offer_of σ ≡ Finishes → Ends'
      Refuses : (σ : Task) (t : ℕ) → local_at w a ≡ Refusing a t σ → Ends'
      RecorderEnds : (t : ℕ) (answer : Bool) (b : Book) → a ≡ recorder s → r ≡ Noted t answer b → local_at w a ≡ Noted t answer b → Ends'

    ends : Ends'
    ends = go (offers_by s found.known.past r d w inv is_finish a (happens-now f tells c w found (E a) can))
      where
        go : Offers s found.known.past r d w inv is_finish a → Ends'
        go (OffersOwn below k at own passes) = inner (finish_at s (book_of r) d.tasks a k own passes)
          where
            is : local_at w a ≡ k
            is = local-is f tells c w found a (live k) at

            inner : FinishOn s (book_of r) d.tasks a k own → Ends'
            inner (AtEndOf σ q here offer) = OwnEnds σ below (is ∙ q) here offer
            inner (AtRefusal σ t q here gone) = Refuses σ t (is ∙ q)
        go (OffersRecorder e passes) = inner (recorder_offers s found.known.past w.tasks r is_finish refl inv.records passes)
          where
            inner : RecorderOffers s r is_finish → Ends'
            inner (IsRecording b q p) = absurd (true≢false (sym p))
            inner (IsStriking t b u v q p) = absurd (true≢false (sym p))
            inner (IsNoted t answer b q p) = RecorderEnds t answer b e q (ap (local_at w) e ∙ local-is f tells c w found (recorder s) (live r) inv.at ∙ q)

    -- what a task does at the end of its accept body
    acts : (σ κ : Task) → IsBased f a σ κ → offer_of σ ≡ Finishes → ActsAlike f a σ κ
    acts σ κ based offer = tells.acts a σ κ based (offering-rests σ (λ none. nothing_finishes (sym none ∙ offer)))

    pub callers-same : (κ : Task) → Meets κ (local_at w a) → callers_in κ.control ≡ (twin s).ops.callers (local_at w a)
    callers-same κ h = go ends
      where
        go : Ends' → callers_in κ.control ≡ (twin s).ops.callers (local_at w a)
        go (OwnEnds σ below is here offer) =
            let there : IsBased f a σ κ = at-state f tells c w found κ a (Based a σ) is h in (acts σ κ there offer).callers ∙ ap (twin s).ops.callers (sym is)
        go (Refuses σ t is) =
            let there : IsRefusing f a t σ κ = at-state f tells c w found κ a (Refusing a t σ) is h in there.callers ∙ ap (twin s).ops.callers (sym is)
        go (RecorderEnds t answer b e q is) =
            let there : IsAtEnd c.recorder t answer b κ = at-state f tells c w found κ a (Noted t answer b) is h in
            (takes f tells c).callers t answer b κ there ∙ ap (twin s).ops.callers (sym is)

    -- who is at the end of its accept body has a caller
    has-first : (σ : Task) → d.tasks a ≡ live σ → offer_of σ ≡ Finishes →
        callers_in σ.control ≡ first_caller (callers_in σ.control) ∷ callers_in (finished σ).control
    has-first σ here offer =
        let proper : IsProper σ = subst (λ (y : Seat Task). IsProper y.local) here (come.sound.proper a (ap (λ (y : Seat Task). is_closed y.standing) here)) in
        let (u, proper', has) = o.lawful.finished σ proper offer in has ∙ ap (λ v. v ∷ callers_in (finished σ).control) (sym (ap first_caller has))

    pub finishes : (κ : Task) → Meets κ (local_at w a) → Arrives Meets ((twin s).ops.finished (local_at w a)) (finished κ)
    finishes κ h = go ends
      where
        go : Ends' → Arrives Meets ((twin s).ops.finished (local_at w a)) (finished κ)
        go (OwnEnds σ below is here offer) =
            let t : ℕ = first_caller (callers_in σ.control) in
            let there : IsBased f a σ κ = at-state f tells c w found κ a (Based a σ) is h in
            subst (λ (m : Copy Task). Arrives Meets ((twin s).ops.finished m) (finished κ)) (sym is)
            (comes Meets (Owing a (Over t) σ) (IsOwing f a (Over t) σ) (λ j m. m) (finished κ)
            ((acts σ κ there offer).over offer t (callers_in (finished σ).control) (has-first σ here offer)))
        go (Refuses σ t is) =
            let there : IsRefusing f a t σ κ = at-state f tells c w found κ a (Refusing a t σ) is h in
            subst (λ (m : Copy Task). Arrives Meets ((twin s).ops.finished m) (finished κ)) (sym is)
            (comes Meets (Based a σ) (IsBased f a σ) (λ j m. m) (finished κ) there.tries_again)
        go (RecorderEnds t answer b e q is) =
            let there : IsAtEnd c.recorder t answer b κ = at-state f tells c w found κ a (Noted t answer b) is h in
            subst (λ (m : Copy Task). Arrives Meets ((twin s).ops.finished m) (finished κ)) (sym is)
            (leads Meets (Recording b) (finished κ) (waiting c.recorder b) ((takes f tells c).goes_on t answer b κ there) refl)

    -- Whom a task serves that is at the end of its accept body is at its call, in the normal form too.
    record IsServedThere (t : ℕ) (σ : Task) : Type 0 where
      v : Task
      is : local_at w t ≡ Calling t v
      there : d.tasks t ≡ record { local = v; standing = Served a false }

    served-there : (t : ℕ) (outer : List ℕ) (σ : Task) → a < x.recorder → d.tasks a ≡ live σ → callers_in σ.control ≡ t ∷ outer →
        (w.tasks t).standing ≡ Served a false → IsServedThere t σ
    served-there t outer σ below here has served = go (inv.seats t below')
      where
        below' : t < x.recorder
        below' = served_below s found.known.past r d w inv runs found.sound t a (ap (is_served_by a) served ∙ equal_self a)

        -- nobody else serves it
        same : (b : ℕ) (k : Copy Task) → w.tasks t ≡ record { local = k; standing = Served b false } → b ≡ a
        same b k at = eqb-true b a (ap (is_served_by a) (ap (λ (y : Seat (Copy Task)). y.standing) (sym at) ∙ served) ∙ equal_self a)

        go : SeatAt s (book_of r) w.tasks d.tasks r t → IsServedThere t σ
        go (Free k at own) = absurd (true≢false (ap is_live (sym (ap (λ (y : Seat (Copy Task)). y.standing) at) ∙ served)))
        go (Telling k at hears own was) = absurd (let e : recorder s ≡ a = same (recorder s) k at in omega (arith, e, below))
        go (Shared b v form e i at offer there was) = record {
          v = v;
          is = local-is f tells c w found t (record { local = Calling t v; standing = Served b false }) at;
          there = there ∙ ap (λ n. record { local = v; standing = Served n false }) (same b (Calling t v) at);
        }
        go (Apart b v form e i at offer owns there met) =
            let first : IsFirst d.tasks a t outer =
            first_is d.tasks come.sound a t outer (ap (λ (y : Seat Task). is_closed y.standing) here)
            (ap (λ (y : Seat Task). callers_in y.local.control) here ∙ has) in
            absurd (true≢false (sym first.served ∙ ap (λ (y : Seat Task). is_served_by a y.standing) there))
        go (Gone closed closed' outs) = absurd (true≢false (sym closed ∙ ap is_closed served))

    pub resumes : (t : ℕ) (outer : List ℕ) (j κ : Task) → (twin s).ops.callers (local_at w a) ≡ t ∷ outer → (w.tasks t).standing ≡ Served a false →
        Meets j (local_at w t) → Meets κ (local_at w a) → Arrives Meets ((twin s).ops.resumed (local_at w a) (local_at w t)) (resumed κ j)
    resumes t outer j κ has served mj mκ = go ends
      where
        go : Ends' → Arrives Meets ((twin s).ops.resumed (local_at w a) (local_at w t)) (resumed κ j)
        go (OwnEnds σ below is here offer) =
            let has' : callers_in σ.control ≡ t ∷ outer = ap (twin s).ops.callers (sym is) ∙ has in
            let g : IsServedThere t σ = served-there t outer σ below here has' served in
            let based : IsBased f a σ κ = at-state f tells c w found κ a (Based a σ) is mκ in
            let calling : IsCalling f t g.v j = at-state f tells c w found j t (Calling t g.v) g.is mj in
            let fits : ComesBack (d.tasks t).local (d.tasks a).local =
            c.copies_fit d come.known inv.runs a t outer (ap (λ (y : Seat Task). y.standing) here) (ap (λ (y : Seat Task). offer_of y.local) here ∙ offer)
            (ap (λ (y : Seat Task). callers_in y.local.control) here ∙ has') (ap (λ (y : Seat Task). y.standing) g.there) in
            let fits' : ComesBack g.v σ =
            subst (λ (y : Seat Task). ComesBack y.local σ) g.there (subst (λ (z : Seat Task). ComesBack (d.tasks t).local z.local) here fits) in
            subst (λ (m : Copy Task). Arrives Meets ((twin s).ops.resumed m (local_at w t)) (resumed κ j)) (sym is)
            (subst (λ (m : Copy Task). Arrives Meets ((twin s).ops.resumed (Based a σ) m) (resumed κ j)) (sym g.is)
            (comes Meets (Owing t (Returned σ) g.v) (IsOwing f t (Returned σ) g.v) (λ y m. m) (resumed κ j)
            (calling.returned σ κ ((acts σ κ based offer).back offer) fits')))
        -- the caller of a refused rendezvous is closed
        go (Refuses σ u is) =
            let same : u ≡ t = first_same (ap (twin s).ops.callers (sym is) ∙ has) in
            let closed : is_closed (w.tasks u).standing ≡ true =
            refused_closed s found.known.past r d w inv runs found.sound a a u σ is (happens-now f tells c w found (E a) can) in
            absurd (true≢false (sym closed ∙ ap (λ n. is_closed (w.tasks n).standing) same ∙ ap is_closed served))
        go (RecorderEnds u answer b e q is) =
            let same : u ≡ t = first_same (ap (twin s).ops.callers (sym is) ∙ has) in
            let below : t < x.recorder = subst (λ (n : ℕ). n < x.recorder) same (served-here u answer b q) in
            let teller : TellingAt s found.known.past r d w inv runs found.sound t =
            telling_at s found.known.past r d w inv runs found.sound t below (served ∙ ap (λ n. Served n false) e) in
            let there : local_at w t ≡ teller.k = ap (λ (y : Seat (Copy Task)). y.local) teller.at in
            let hears : Hears s (Noted u answer b) t teller.k = subst (λ (m : Copy Task). Hears s m t teller.k) q teller.hears in
            let note : TellsNote f tells c j teller.k = tells-note f tells c j teller.k (at-state f tells c w found j t teller.k there mj) hears.1
            (λ n σ p offered. free-other s found.known.past r d w inv t σ
            (subst (λ (m : Copy Task). CameFree o t (under o.p.ops.nobody m)) p teller.was) offered) in
            let ended : IsAtEnd c.recorder u answer b κ = at-state f tells c w found κ a (Noted u answer b) is mκ in
            let hands = (takes f tells c).hands u answer b κ ended in
            subst (λ (m : Copy Task). Arrives Meets ((twin s).ops.resumed m (local_at w t)) (resumed κ j)) (sym is)
            (subst (λ (m : Copy Task). Arrives Meets ((twin s).ops.resumed (Noted u answer b) m) (resumed κ j)) (sym there)
            (note.back answer κ hands.0 hands.1))
          where
            served-here : (n : ℕ) (v : Bool) (book : Book) → r ≡ Noted n v book → n < x.recorder
            served-here n v book p = (subst (RecorderAt s found.known.past w.tasks) p inv.records).1
