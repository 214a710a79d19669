-- The tasks of a collecting text with abort statements imitate the law's copies, so the text collects.
use Rattle.std.proofs.Common.{◌≡◌, ℕ, ◌<◌, ◌≤◌, Bool, true, false, not, ◌&&◌, [], ◌∷◌, refl, sym, ap, ◌∙◌, subst, ⊎_elim, true≢false, arith}
use Rattle.std.specs.Prelude.{ℤ, pos}
use Rattle.std.proofs.lemmas.Bool.{eqb-true, and_parts, cases_lt}
use Rattle.event_machine.specs.declared.CallForm.{CallForm}
use Rattle.event_machine.specs.declared.CallForm.TheVariants.{Plain}
use Rattle.event_machine.specs.declared.Choice.{Choice}
use Rattle.event_machine.specs.declared.Choice.TheVariants.{Accept, Terminate}
use Rattle.event_machine.specs.declared.Standing.TheVariants.{Served}
use Rattle.event_machine.specs.declared.Event.TheVariants.{S, D, C, T, F, B}
use Rattle.event_machine.specs.Offers.{Waits, calls_in, is_any_form, is_conditional, is_timed, waits_with, is_else, is_delay}
use Rattle.event_machine.specs.States.{Seat, State, live, is_live, is_closed, is_served_by}
use Rattle.event_machine.specs.Worlds.{World, Step, Happen, can_move, offers, aborts}
use Rattle.event_machine.proofs.Standings.{is-Live}
use Rattle.common_lemmas.proofs.Numbers.{equal_self}
use Rattle.task_model.specs.Tasks.{Task}
use Rattle.task_model.specs.Stands.{can_step, stepped, offer_of}
use Rattle.task_model.specs.Rendezvous.{call_failed, took_else, took_delay, past_name}
use Rattle.task_model.specs.TaskOps.{task_ops}
use Rattle.normal_laws.specs.runs.runs.Laws.{IsCalm}
use Rattle.run_laws.specs.imitation.Imitations.{Original}
use Rattle.run_laws.specs.imitation.Imitating.{local_at}
use Rattle.run_laws.proofs.collecting.Reaching.{reached_come}
use Rattle.collect_runs.proofs.imitating.Acting.{task-rests, offering-rests}
use Rattle.collect_runs.proofs.imitating.Moving.{waits-some}
use Rattle.run_laws.specs.aborts.Notes.{Book}
use Rattle.run_laws.specs.aborts.Copies.{TookElse, TookDelay, TookOther, Failed, Copy, Based, Calling, Owing, Striking, copy_steps}
use Rattle.run_laws.specs.aborts.Settings.{Setting, recorder, twin, start_copy}
use Rattle.run_laws.specs.aborts.inner.Beside.{book_of, SeatAt, Free, Telling, Shared, Apart, Gone, Inv, IsFoundBeside}
use Rattle.run_laws.specs.aborts.Rewritings.{Imitates, OpensSo}
use Rattle.run_laws.proofs.aborts.Instances.{start_own, start_recorder}
use Rattle.run_laws.proofs.aborts.Offered.{BasedOn, waits_at, aborts_nobody, CallingOn, TellingOn, calls_at, Offers, OffersOwn, OffersRecorder, offers_by}
use Rattle.run_laws.proofs.aborts.Singles.{RecorderOffers, IsRecording, IsNoted, IsStriking, recorder_offers, offers_own}
use Rattle.run_laws.proofs.aborts.Meetings.{served_below}
use Rattle.run_laws.proofs.aborts.Collects.{collects}
use Rattle.collect_runs.specs.aborts.recorder.Recorders.{last_of}
use Rattle.collect_runs.specs.aborts.recorder.States.{IsStriking as IsAtAbort}
use Rattle.collect_runs.specs.aborts.telling.Texts.{Texts}
use Rattle.collect_runs.specs.aborts.telling.Forms.{Form}
use Rattle.collect_runs.specs.aborts.telling.Meetings.{IsBased, IsOwing, IsCalling}
use Rattle.collect_runs.specs.aborts.telling.Laws.{TellsAlike}
use Rattle.collect_runs.specs.aborts.imitating.Settings.{Collecting, original_of, collected}
use Rattle.collect_runs.specs.aborts.imitating.Copies.{MeetsCopy, OpensText}
use Rattle.collect_runs.specs.aborts.imitating.Laws.{TextsImitate, TextsCollect}
use Rattle.collect_runs.proofs.aborts.imitating.Reaching.{Arrives, comes}
use Rattle.collect_runs.proofs.aborts.imitating.Acting.{takes, output-same, steps-alike, offers-alike}
use Rattle.collect_runs.proofs.aborts.imitating.Worlds.{based-free, strikes-task}
use Rattle.collect_runs.proofs.aborts.imitating.Moving.{at-state, local-is, spares, goes-on, happens-now, accepts}
use Rattle.collect_runs.proofs.aborts.imitating.Parting.{callers-same, finishes, resumes}

module _ {x : Texts} (f : Form x) (tells : TellsAlike f) (c : Collecting x) where
  abbrev o : Original
  o = original_of c

  abbrev s : Setting (original_of c)
  s = collected c

  abbrev Meets : Task → Copy Task → Type 0
  Meets = MeetsCopy f c

  module _ (w : World (Copy Task)) (found : IsFoundBeside (collected c) w) where
    abbrev r : Copy Task
    r = found.known.r

    abbrev d : World Task
    d = found.known.d

    abbrev inv : Inv s found.known.past r d w
    inv = found.known.inv

    -- ---- local steps and offers

    steps : (t : ℕ) (κ : Task) → Meets κ (local_at w t) → can_move (twin s) w (Step t) ≡ true →
        (can_step κ ≡ true) × Arrives Meets ((twin s).ops.stepped (local_at w t)) (stepped κ)
    steps t κ h can =
        let parts = and_parts (is_live (w.tasks t).standing) (copy_steps o.p (local_at w t))
        (and_parts (not w.ended) (is_live (w.tasks t).standing && copy_steps o.p (local_at w t)) can).1 in
        steps-alike f tells c κ (local_at w t) h parts.1 (λ u σ is.
        let at : d.tasks t ≡ live σ = based-free s found.known.past r d w inv t u σ (is-Live (w.tasks t).standing parts.0) is in
        subst (λ (y : Seat Task). IsCalm y.local) at
        (c.calm d (reached_come o found.known.past d inv.reached).known inv.runs t (ap (λ (y : Seat Task). y.standing) at)))

    -- ---- other parts of waits

    -- A task that waits so is based.
    record IsBasedHere (a : ℕ) (κ : Task) (test : Choice → Bool) : Type 0 where
      σ : Task
      is : local_at w a ≡ Based a σ
      based : IsBased f a σ κ
      rests : can_step σ ≡ false
      waits : waits_with test (offer_of σ) ≡ true

    based-here : (a : ℕ) (κ : Task) (test : Choice → Bool) → Meets κ (local_at w a) → waits_with test (Waits (Accept s.note (pos 0) ∷ Terminate ∷ [])) ≡ false →
        offers (twin s).ops (waits_with test) (w.tasks a) ≡ true → IsBasedHere a κ test
    based-here a κ test h none passes =
        let (below, (k, at, own, there)) = offers_own s found.known.past r d w inv (waits_with test) a refl none refl (λ v. refl) passes in
        let b : BasedOn s (book_of r) d.tasks a k own (waits_with test) = waits_at s (book_of r) d.tasks a k own test there in
        let is : local_at w a ≡ Based a b.l = local-is f tells c w found a (live k) at ∙ b.is in
        record {
          σ = b.l;
          is = is;
          based = at-state f tells c w found κ a (Based a b.l) is h;
          rests = offering-rests b.l (waits-some test (offer_of b.l) b.passes);
          waits = b.passes;
        }

    takes-else : (a : ℕ) (κ : Task) → Meets κ (local_at w a) → can_move (twin s) w (Happen (S a)) ≡ true →
        Arrives Meets ((twin s).ops.took_else (local_at w a)) (took_else κ)
    takes-else a κ h can =
        let b : IsBasedHere a κ is_else = based-here a κ is_else h refl (happens-now f tells c w found (S a) can) in
        subst (λ (m : Copy Task). Arrives Meets ((twin s).ops.took_else m) (took_else κ)) (sym b.is)
        (comes Meets (Owing a TookElse b.σ) (IsOwing f a TookElse b.σ) (λ j m. m) (took_else κ) ((tells.acts a b.σ κ b.based b.rests).took_else b.waits))

    takes-delay : (a k : ℕ) (κ : Task) → Meets κ (local_at w a) → can_move (twin s) w (Happen (D a k)) ≡ true →
        Arrives Meets ((twin s).ops.took_delay k (local_at w a)) (took_delay k κ)
    takes-delay a k κ h can =
        let b : IsBasedHere a κ (is_delay k) = based-here a κ (is_delay k) h refl (happens-now f tells c w found (D a k) can) in
        subst (λ (m : Copy Task). Arrives Meets ((twin s).ops.took_delay k m) (took_delay k κ)) (sym b.is)
        (comes Meets (Owing a (TookDelay k) b.σ) (IsOwing f a (TookDelay k) b.σ) (λ j m. m) (took_delay k κ)
        ((tells.acts a b.σ κ b.based b.rests).took_delay k b.waits))

    -- ---- calls

    -- A task that calls so, and does not tell, is at its call.
    record IsCallingHere (a : ℕ) (κ : Task) (test : CallForm → Bool) (e : ℕ) (i : ℤ) : Type 0 where
      σ : Task
      is : local_at w a ≡ Calling a σ
      calling : IsCalling f a σ κ
      calls : calls_in test e i (offer_of σ) ≡ true

    calling-here : (a : ℕ) (κ : Task) (test : CallForm → Bool) (e : ℕ) (i : ℤ) → Meets κ (local_at w a) →
        offers (twin s).ops (calls_in test e i) (w.tasks a) ≡ true → (e ≡ s.note → test Plain ≡ true → ⊥) → IsCallingHere a κ test e i
    calling-here a κ test e i h passes other =
        let (below, (k, at, own, there)) = offers_own s found.known.past r d w inv (calls_in test e i) a refl refl refl (λ v. refl) passes in
        ⊎_elim
        (λ (g : CallingOn s (book_of r) d.tasks a k own test e i).
        let is : local_at w a ≡ Calling a g.l = local-is f tells c w found a (live k) at ∙ g.is in
        let here : IsCallingHere a κ test e i =
        record { σ = g.l; is = is; calling = at-state f tells c w found κ a (Calling a g.l) is h; calls = g.calls } in here)
        (λ (g : TellingOn s (book_of r) d.tasks a k own test e). absurd (other g.entry g.plain))
        (calls_at s (book_of r) d.tasks a k own test e i there)

    takes-call-else : (a e : ℕ) (i : ℤ) (κ : Task) → Meets κ (local_at w a) → can_move (twin s) w (Happen (C a e i)) ≡ true →
        Arrives Meets ((twin s).ops.took_else (local_at w a)) (took_else κ)
    takes-call-else a e i κ h can =
        let parts = and_parts (offers (twin s).ops (calls_in is_conditional e i) (w.tasks a)) (not (is_closed (w.tasks (s.owner e)).standing))
        (happens-now f tells c w found (C a e i) can) in
        let g : IsCallingHere a κ is_conditional e i = calling-here a κ is_conditional e i h parts.0 (λ q plain. true≢false (sym plain)) in
        subst (λ (m : Copy Task). Arrives Meets ((twin s).ops.took_else m) (took_else κ)) (sym g.is)
        (comes Meets (Owing a TookOther g.σ) (IsOwing f a TookOther g.σ) (λ j m. m) (took_else κ) (g.calling.took_else e i g.calls))

    expires : (a e : ℕ) (i : ℤ) (κ : Task) → Meets κ (local_at w a) → can_move (twin s) w (Happen (T a e i)) ≡ true →
        Arrives Meets ((twin s).ops.took_delay 1 (local_at w a)) (took_delay 1 κ)
    expires a e i κ h can =
        let parts = and_parts (offers (twin s).ops (calls_in is_timed e i) (w.tasks a)) (not (is_closed (w.tasks (s.owner e)).standing))
        (happens-now f tells c w found (T a e i) can) in
        let g : IsCallingHere a κ is_timed e i = calling-here a κ is_timed e i h parts.0 (λ q plain. true≢false (sym plain)) in
        subst (λ (m : Copy Task). Arrives Meets ((twin s).ops.took_delay 1 m) (took_delay 1 κ)) (sym g.is)
        (comes Meets (Owing a TookOther g.σ) (IsOwing f a TookOther g.σ) (λ j m. m) (took_delay 1 κ) (g.calling.expired e i g.calls))

    -- the recorder is not closed, so no call of it fails
    fails : (a e : ℕ) (i : ℤ) (κ : Task) → Meets κ (local_at w a) → can_move (twin s) w (Happen (F a e i)) ≡ true →
        Arrives Meets ((twin s).ops.raised (local_at w a)) (call_failed κ)
    fails a e i κ h can =
        let parts = and_parts (offers (twin s).ops (calls_in is_any_form e i) (w.tasks a)) (is_closed (w.tasks (s.owner e)).standing)
        (happens-now f tells c w found (F a e i) can) in
        let g : IsCallingHere a κ is_any_form e i = calling-here a κ is_any_form e i h parts.0 (λ q plain.
        true≢false (sym parts.1 ∙ ap (λ (y : Seat (Copy Task)). is_closed y.standing) (ap (λ (n : ℕ). w.tasks (s.owner n)) q ∙ ap w.tasks s.noted ∙ inv.at))) in
        subst (λ (m : Copy Task). Arrives Meets ((twin s).ops.raised m) (call_failed κ)) (sym g.is)
        (comes Meets (Owing a Failed g.σ) (IsOwing f a Failed g.σ) (λ j m. m) (call_failed κ) g.calling.failed)

    -- ---- aborts

    module _ (t v : ℕ) (can : can_move (twin s) w (Happen (B t v)) ≡ true) where
      runs : w.ended ≡ false
      runs = goes-on f tells c w found (B t v) can

      -- The recorder alone aborts.
      record IsStrikingHere : Type 0 where
        u : ℕ
        b : Book
        a : ℕ
        self : t ≡ recorder s
        is : r ≡ Striking u b a v

      striking-here : IsStrikingHere
      striking-here = go (offers_by s found.known.past r d w inv (aborts v) t (happens-now f tells c w found (B t v) can))
        where
          go : Offers s found.known.past r d w inv (aborts v) t → IsStrikingHere
          go (OffersOwn below k at own passes) = absurd (aborts_nobody s (book_of r) d.tasks t k own v passes)
          go (OffersRecorder e passes) = inner (recorder_offers s found.known.past w.tasks r (aborts v) refl inv.records passes)
            where
              inner : RecorderOffers s r (aborts v) → IsStrikingHere
              inner (IsRecording b q p) = absurd (true≢false (sym p))
              inner (IsNoted u answer b q p) = absurd (true≢false (sym p))
              inner (IsStriking u b a y q p) = record { u = u; b = b; a = a; self = e; is = q ∙ ap (Striking u b a) (sym (eqb-true v y p)) }

      abbrev h : IsStrikingHere
      h = striking-here

      -- so it goes on
      passes : (κ : Task) → Meets κ (local_at w t) → Arrives Meets ((twin s).ops.passed (local_at w t)) (past_name κ)
      passes κ m =
          let there : local_at w t ≡ Striking h.u h.b h.a v = ap (local_at w) h.self ∙ local-is f tells c w found (recorder s) (live r) inv.at ∙ h.is in
          let at : IsAtAbort c.recorder h.u h.b h.a v κ = at-state f tells c w found κ t (Striking h.u h.b h.a v) there m in
          subst (λ (j : Copy Task). Arrives Meets ((twin s).ops.passed j) (past_name κ)) (sym there) (0, (takes f tells c).struck h.u h.a v h.b κ at)

      -- whom the victim serves is at its call
      lets-go : (u : ℕ) (κ : Task) → Meets κ (local_at w u) → (w.tasks u).standing ≡ Served v false →
          Arrives Meets ((twin s).ops.raised (local_at w u)) (call_failed κ)
      lets-go u κ m served = go (inv.seats u below)
        where
          below : u < x.recorder
          below = served_below s found.known.past r d w inv runs found.sound u v (ap (is_served_by v) served ∙ equal_self v)

          victim : v < x.recorder
          victim = strikes-task s found.known.past d w h.u h.b h.a v (subst (λ (j : Copy Task). Inv s found.known.past j d w) h.is inv)
              (spares f tells c w found) runs found.sound (last_of c.recorder) c.last

          failed-there : (σ : Task) (a : ℕ) → w.tasks u ≡ record { local = Calling u σ; standing = Served a false } →
              Arrives Meets ((twin s).ops.raised (local_at w u)) (call_failed κ)
          failed-there σ a at =
              let is : local_at w u ≡ Calling u σ = local-is f tells c w found u (record { local = Calling u σ; standing = Served a false }) at in
              let calling : IsCalling f u σ κ = at-state f tells c w found κ u (Calling u σ) is m in
              subst (λ (j : Copy Task). Arrives Meets ((twin s).ops.raised j) (call_failed κ)) (sym is)
              (comes Meets (Owing u Failed σ) (IsOwing f u Failed σ) (λ j y. y) (call_failed κ) calling.failed)

          go : SeatAt s (book_of r) w.tasks d.tasks r u → Arrives Meets ((twin s).ops.raised (local_at w u)) (call_failed κ)
          go (Free k at own) = absurd (true≢false (ap is_live (sym (ap (λ (y : Seat (Copy Task)). y.standing) at) ∙ served)))
          go (Telling k at hears own was) =
              let same : Served (recorder s) false ≡ Served v false = ap (λ (y : Seat (Copy Task)). y.standing) (sym at) ∙ served in
              let e : recorder s ≡ v = eqb-true (recorder s) v (ap (is_served_by v) same ∙ equal_self v) in
              absurd (omega (arith, e, victim))
          go (Shared a σ form e i at offer there was) = failed-there σ a at
          go (Apart a σ form e i at offer owns there met) = failed-there σ a at
          go (Gone closed closed' outs) = absurd (true≢false (sym closed ∙ ap is_closed served))

  imitate : Imitates s task_ops (λ t. t.output) Meets
  imitate = record {
    rests = task-rests;
    output = output-same f tells c;
    fine = λ w found t κ h free. tt;
    steps = λ w found t κ h can. steps w found t κ h can;
    offers = λ w found t κ h free rests. offers-alike f tells c κ (local_at w t) h rests;
    callers = λ w found a κ h can. callers-same f tells c w found a can κ h;
    accepted = λ w found t e i j κ mj mκ can. accepts f tells c w found t e i j κ mj mκ can;
    finished = λ w found a κ h can. finishes f tells c w found a can κ h;
    resumed = λ w found a t outer j κ has served mj mκ can. resumes f tells c w found a can t outer j κ has served mj mκ;
    took_else = λ w found a κ h can. takes-else w found a κ h can;
    took_delay = λ w found a k κ h can. takes-delay w found a k κ h can;
    call_else = λ w found t e i κ h can. takes-call-else w found t e i κ h can;
    expired = λ w found t e i κ h can. expires w found t e i κ h can;
    failed = λ w found t e i κ h can. fails w found t e i κ h can;
    passed = λ w found t v κ h can other. passes w found t v can κ h;
    let_go = λ w found t v u κ h served can. lets-go w found t v can u κ h served;
  }

  -- ---- the opening

  module _ (at : State (ℕ → Seat Task)) (opens : OpensText f c at) where
    opens-so : OpensSo s task_ops (λ t. t.output) Meets at
    opens-so = record {
      line = opens.line;
      ended = opens.ended;
      standing = opens.standing;
      beyond = opens.beyond;
      tasks = λ t l. ⊎_elim (own t) (λ (m : x.recorder ≤ t). last t (omega (arith, l, m))) (cases_lt t x.recorder);
    }
      where
        own : (t : ℕ) → t < x.recorder → Arrives Meets (start_copy s t).local (at.seats t).local
        own t l =
            subst (λ (y : Seat (Copy Task)). Arrives Meets y.local (at.seats t).local) (sym (start_own s t l))
            (comes Meets (Based t (c.opening.seats t).local) (IsBased f t (c.opening.seats t).local) (λ j m. m) (at.seats t).local (opens.tasks t l))

        last : (t : ℕ) → x.recorder ≡ t → Arrives Meets (start_copy s t).local (at.seats t).local
        last t q =
            subst (λ (n : ℕ). Arrives Meets (start_copy s n).local (at.seats n).local) q
            (subst (λ (y : Seat (Copy Task)). Arrives Meets y.local (at.seats x.recorder).local) (sym (start_recorder s)) (0, opens.recorder))

pub imitates : {x : Texts} (f : Form x) (c : Collecting x) → TextsImitate f c
imitates f c tells = imitate f tells c

pub texts_collect : {x : Texts} (f : Form x) (c : Collecting x) → TextsCollect f c
texts_collect f c tells at opens =
    collects (collected c) task_ops (λ t. t.output) (MeetsCopy f c) (imitate f tells c) at (opens-so f tells c at opens)
