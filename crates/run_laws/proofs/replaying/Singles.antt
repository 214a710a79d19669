-- Events with one task: the else part or a delay of a wait, and a call that is given up or fails.
use Rattle.std.proofs.Common.{◌≡◌, ℕ, ◌<◌, Bool, true, false, not, ◌==◌, if◌then◌else◌, List, [], ◌∷◌, ◌++◌, Some, None, refl, sym, ap, ◌∙◌, subst, true≢false, arith}
use Rattle.std.specs.Prelude.{ℤ, pos}
use Rattle.std.specs.List.{cons_option}
use Rattle.std.proofs.lemmas.Bool.{eqb-true, or_from, and_parts}
use Rattle.event_machine.specs.declared.CallForm.{CallForm}
use Rattle.event_machine.specs.declared.CallForm.TheVariants.{Plain}
use Rattle.event_machine.specs.declared.Choice.{Choice}
use Rattle.event_machine.specs.declared.Choice.TheVariants.{Accept}
use Rattle.event_machine.specs.Admitting.{IsAdmitted}
use Rattle.event_machine.specs.declared.Event.{Event}
use Rattle.event_machine.specs.declared.Event.TheVariants.{S, D, C, T}
use Rattle.event_machine.specs.Offers.{calls_in, is_conditional, is_timed, waits_with, is_else, is_delay}
use Rattle.event_machine.specs.States.{Seat, live}
use Rattle.event_machine.specs.Programs.{numbered}
use Rattle.event_machine.specs.Worlds.{World, Happen, happens, acted, moved, is_last}
use Rattle.event_machine.proofs.Basics.{both, split}
use Rattle.run_laws.specs.replaying.Permits.{Permit, permit_of, Op, Go, Done, Join, Hold}
use Rattle.run_laws.specs.replaying.Scripts.{closing, takers}
use Rattle.run_laws.specs.replaying.Copies.{Copy, Holding, Saying, copy_did, ops_offer, under}
use Rattle.run_laws.specs.replaying.Rewritings.{Setting, twin}
use Rattle.run_laws.specs.replaying.Laws.{back, backs, unless_added, at_entry, stands_for}
use Rattle.run_laws.specs.replaying.inner.Stages.{image, image_world, image_seat, Stage, Giving, Acted, Away, Holds, Says, place, SeatAt, Inv}
use Rattle.run_laws.proofs.replaying.Facts.{put, put_each, put_other, offers_at}
use Rattle.run_laws.proofs.replaying.Images.{image_at, image_freed}
use Rattle.run_laws.proofs.replaying.Voices.{CallsBy, MeetCall, ElseCall, ExpireCall, FailCall, calls_by, else_by, delay_by}
use Rattle.run_laws.proofs.replaying.Reached.{after_all, reached_admitted}
use Rattle.run_laws.proofs.replaying.Orders.{only_one}
use Rattle.run_laws.proofs.replaying.Telling.{of_else, of_delay, of_call_else, of_expire}
use Rattle.run_laws.proofs.replaying.Speaking.{Speaks, Asking, Using, Refused, Reporting, Commanding, Serving, Resting, speaks}
use Rattle.run_laws.proofs.replaying.Situations.{Situation}
use Rattle.run_laws.proofs.replaying.Afterwards.{Matched, Permitted, permitted_in, after_event}
use Rattle.common_lemmas.proofs.Numbers.{lt_true, unequal_above}

module _ (x : Setting) where
  -- Where the tasks are at the event, and behind it some stage holds, with one event more where it stands for one.
  abbrev pub Moves : List Event → World (Copy x.L) → Event → Type 0
  Moves past w e = Situation x w e × Matched x (past ++ backs x (e ∷ [])) (moved (twin x) w (Happen e))

  pub backs_some : (e f : Event) → back x e ≡ Some f → backs x (e ∷ []) ≡ f ∷ []
  backs_some e f h = ap (λ o. cons_option o []) h

  pub matched_event : (past : List Event) (w : World (Copy x.L)) (e f : Event) → back x e ≡ Some f → Situation x w e → Matched x (past ++ (f ∷ [])) (moved (twin x) w (Happen e)) → Moves past w e
  matched_event past w e f h at m = (at, subst (λ es. Matched x (past ++ es) (moved (twin x) w (Happen e))) (sym (backs_some e f h)) m)

  pub unless_below : (t : ℕ) (e : Event) → t < x.p.size → unless_added x t e ≡ Some e
  unless_below t e m = ap (λ b. if b then Some e else None) (lt_true t x.p.size m)

  pub back_shadow : (make : ℕ → Event) (e f : ℕ) → e ≡ x.n.shadow f → at_entry make (stands_for (x.n.sort e)) ≡ Some (make f)
  back_shadow make e f q = ap (λ s. at_entry make (stands_for s)) (ap x.n.sort q ∙ x.numbers.shadow f)

  pub image_live : (tasks : ℕ → Seat (Copy x.L)) (a : ℕ) (k : Copy x.L) → a < x.p.size → tasks a ≡ live k → image x tasks a ≡ live (under x.p.ops.nobody k)
  image_live tasks a k m e = image_at x a (tasks a) m ∙ ap (image_seat x) e

  -- the one task that has a permit
  pub sole : (past rest : List Event) (stage : Stage) (w : World (Copy x.L)) (a : ℕ) (permit : Permit) (k : Permitted x past rest stage w a permit) (make : ℕ → Event) (actor : ℕ) →
      k.e ≡ make actor → ((u : ℕ) → takers x.progress x.p.owner (after_all x past) (make u) ≡ u ∷ []) → stage ≡ Giving (make a) k.tail (a ∷ []) []
  sole past rest stage w a permit k make actor q t =
      let o = only_one k.given k.more actor a (k.order ∙ ap (takers x.progress x.p.owner (after_all x past)) q ∙ t actor) k.has in
      k.settled o.2 ∙ ap (λ v. Giving v k.tail k.given []) (q ∙ ap make (sym o.0)) ∙ ap (λ l. Giving (make a) k.tail l []) (o.1 ∙ ap (λ v. v ∷ []) (sym o.0))

  module _ (past rest : List Event) (w : World (Copy x.L)) (e : Event) (tail : List Event) (a : ℕ) (inv : Inv x past rest (Giving e tail (a ∷ []) []) w) where
    -- the others are away
    pub away_then : (u : ℕ) → u < x.p.size → (u == a) ≡ false → SeatAt x Away u (w.tasks u)
    away_then u m q = subst (λ b. SeatAt x (if b then Holds (permit_of e) else Away) u (w.tasks u)) (or_from (u == a) false q refl) (inv.seats u m)

    -- The task has acted by its permit, and is to say so.
    pub one_acts : (permit : Permit) (l : x.L) → a < x.p.size → w.tasks a ≡ live (Holding a permit l) → (f : x.L → x.L) (g : Copy x.L → Copy x.L) →
        g (Holding a permit l) ≡ Saying a (f l) → closing x.p.owner e ≡ Done a ∷ [] → is_last e ≡ false → happens x.p (image x w.tasks) e ≡ true →
        acted (numbered x.p) (image x w.tasks) e ≡ put (image x w.tasks) a (live (f (image x w.tasks a).local)) →
        Matched x (past ++ (e ∷ [])) (record { tasks = put w.tasks a (live (g (w.tasks a).local)); ended = w.ended })
    one_acts permit l m at f g says c more holds acts = record {
      rest = tail;
      stage = Acted a;
      inv = after_event x past rest e tail (a ∷ []) w inv (Done a) (Acted a) (put w.tasks a (live (g (w.tasks a).local))) c more holds
          (acts ∙ sym (image_freed x w.tasks a (g (w.tasks a).local) f m (ap (under x.p.ops.nobody) now ∙ ap (λ (y : Seat (Copy x.L)). f (under x.p.ops.nobody y.local)) (sym at))))
          (λ t k. put_other w.tasks a t (live (g (w.tasks a).local)) (unequal_above t a (omega (arith, k, m))))
          (inv.fits.0, m)
          (λ seat k. k)
          seats;
    }
      where
        now : g (w.tasks a).local ≡ Saying a (f l)
        now = ap (λ (y : Seat (Copy x.L)). g y.local) at ∙ says

        seats : (u : ℕ) → u < x.p.size → SeatAt x (place (Acted a) u) u (put w.tasks a (live (g (w.tasks a).local)) u)
        seats u k = put_each (λ v seat. SeatAt x (place (Acted a) v) v seat) w.tasks a (live (g (w.tasks a).local)) u
            (λ q. subst (λ b. SeatAt x (if b then Says else Away) u (live (g (w.tasks a).local))) (sym q) (f l, ap live now ∙ ap (λ v. live (Saying v (f l))) (sym (eqb-true u a q))))
            (λ q. subst (λ b. SeatAt x (if b then Says else Away) u (w.tasks u)) (sym q) (away_then u k q))

  -- ---- what the controller does not offer

  pub no_wait : (test : Choice → Bool) → ((e : ℕ) (i : ℤ) → test (Accept e i) ≡ false) →
      (ops : List Op) → waits_with test (ops_offer x.n ops) ≡ true → ⊥
  no_wait test none [] h = true≢false (sym h)
  no_wait test none (Go t permit ∷ ops) h = true≢false (sym h ∙ or_from (test (Accept x.n.go (pos t))) false (none x.n.go (pos t)) refl)
  no_wait test none (Done t ∷ ops) h = true≢false (sym h ∙ or_from (test (Accept x.n.done (pos t))) false (none x.n.done (pos t)) refl)
  no_wait test none (Join t ∷ ops) h = true≢false (sym h)
  no_wait test none (Hold ∷ ops) h = true≢false (sym h ∙ or_from (test (Accept x.n.hold (pos 0))) false (none x.n.hold (pos 0)) refl)

  pub no_call : (test : CallForm → Bool) (e : ℕ) (i : ℤ) → test Plain ≡ false → (ops : List Op) → calls_in test e i (ops_offer x.n ops) ≡ true → ⊥
  no_call test e i none [] h = true≢false (sym h)
  no_call test e i none (Go t permit ∷ ops) h = true≢false (sym h)
  no_call test e i none (Done t ∷ ops) h = true≢false (sym h)
  no_call test e i none (Join t ∷ ops) h = true≢false (sym (and_parts (test Plain) _ h).0 ∙ none)
  no_call test e i none (Hold ∷ ops) h = true≢false (sym h)

  module _ (past rest : List Event) (stage : Stage) (w : World (Copy x.L)) (inv : Inv x past rest stage w) (runs : w.ended ≡ false) where
    -- the admitted event of a stage finds its parties as it asks
    pub admitted_now : (e : Event) (tail : List Event) (given more : List ℕ) → stage ≡ Giving e tail given more →
        IsAdmitted x.p.owner (image x w.tasks) e
    admitted_now e tail given more st =
        reached_admitted x past (image_world x w) inv.reached e runs (subst (λ z. Inv x past rest z w) st inv).fits.2

    pub else_moves : (a : ℕ) → happens (twin x) w.tasks (S a) ≡ true → Moves past w (S a)
    else_moves a h = go (speaks x stage w (waits_with is_else) past rest inv runs refl a h)
      where
        go : Speaks x stage w (waits_with is_else) a → Moves past w (S a)
        go (Asking l m e r pl k) = absurd (true≢false (sym k))
        go (Using permit l m e r pl wanted shown) =
            let v = else_by x.n a (x.p.ops.offer l) permit wanted shown in
            let k = permitted_in x past rest stage w a permit inv.fits pl in
            let o = of_else k.e (sym v.0 ∙ k.is) in
            let st : stage ≡ Giving (S a) k.tail (a ∷ []) [] = sole past rest stage w a permit k (λ u. S u) o.0 o.1 (λ u. refl) in
            matched_event past w (S a) (S a) (unless_below a (S a) m) (l, e ∙ ap (λ z. live (Holding a z l)) v.0, v.1)
            (one_acts past rest w (S a) k.tail a (subst (λ z. Inv x past rest z w) st inv) permit l m e x.p.ops.took_else (copy_did x.p.ops x.n x.p.ops.took_else) refl refl refl
            (offers_at x.p.ops (waits_with is_else) (image x w.tasks a) l (image_live w.tasks a (Holding a permit l) m e) v.1) refl)
        go (Refused permit l m e k) = absurd (true≢false (sym k))
        go (Reporting l m e pl k) = absurd (true≢false (sym k))
        go (Commanding ops e q k) = absurd (no_wait is_else (λ f i. refl) ops k)
        go (Serving op ops e q k) = absurd (true≢false (sym k))
        go (Resting e k) = absurd (true≢false (sym k))

    pub delay_moves : (a d : ℕ) → happens (twin x) w.tasks (D a d) ≡ true → Moves past w (D a d)
    delay_moves a d h = go (speaks x stage w (waits_with (is_delay d)) past rest inv runs refl a h)
      where
        go : Speaks x stage w (waits_with (is_delay d)) a → Moves past w (D a d)
        go (Asking l m e r pl k) = absurd (true≢false (sym k))
        go (Using permit l m e r pl wanted shown) =
            let v = delay_by x.n a (x.p.ops.offer l) d permit wanted shown in
            let k = permitted_in x past rest stage w a permit inv.fits pl in
            let o = of_delay d k.e (sym v.0 ∙ k.is) in
            let st : stage ≡ Giving (D a d) k.tail (a ∷ []) [] = sole past rest stage w a permit k (λ u. D u d) o.0 o.1 (λ u. refl) in
            matched_event past w (D a d) (D a d) (unless_below a (D a d) m) (l, e ∙ ap (λ z. live (Holding a z l)) v.0, v.1)
            (one_acts past rest w (D a d) k.tail a (subst (λ z. Inv x past rest z w) st inv) permit l m e (x.p.ops.took_delay d) (copy_did x.p.ops x.n (x.p.ops.took_delay d)) refl refl refl
            (offers_at x.p.ops (waits_with (is_delay d)) (image x w.tasks a) l (image_live w.tasks a (Holding a permit l) m e) v.1) refl)
        go (Refused permit l m e k) = absurd (true≢false (sym k))
        go (Reporting l m e pl k) = absurd (true≢false (sym k))
        go (Commanding ops e q k) = absurd (no_wait (is_delay d) (λ f i. refl) ops k)
        go (Serving op ops e q k) = absurd (true≢false (sym k))
        go (Resting e k) = absurd (true≢false (sym k))

    pub call_else_moves : (c e : ℕ) (i : ℤ) → happens (twin x) w.tasks (C c e i) ≡ true → Moves past w (C c e i)
    call_else_moves c e i h = go (speaks x stage w (calls_in is_conditional e i) past rest inv runs refl c (split h).0)
      where
        using : (permit : Permit) (l : x.L) → c < x.p.size → w.tasks c ≡ live (Holding c permit l) → place stage c ≡ Holds permit →
            CallsBy x.n c (x.p.ops.offer l) e i is_conditional permit → Moves past w (C c e i)
        using permit l m at pl (MeetCall f is entry calls plain) = absurd (true≢false (sym plain))
        using permit l m at pl (ElseCall f is entry calls form) =
            let k = permitted_in x past rest stage w c permit inv.fits pl in
            let o = of_call_else f i k.e (sym is ∙ k.is) in
            let st : stage ≡ Giving (C c f i) k.tail (c ∷ []) [] = sole past rest stage w c permit k (λ u. C u f i) o.0 o.1 (λ u. refl) in
            let a = admitted_now (C c f i) k.tail (c ∷ []) [] st in
            matched_event past w (C c e i) (C c f i) (back_shadow (λ v. C c v i) e f entry) (f, l, at ∙ ap (λ z. live (Holding c z l)) is, calls)
            (one_acts past rest w (C c f i) k.tail c (subst (λ z. Inv x past rest z w) st inv) permit l m at x.p.ops.took_else (copy_did x.p.ops x.n x.p.ops.took_else) refl refl refl
            (both (offers_at x.p.ops (calls_in is_conditional f i) (image x w.tasks c) l (image_live w.tasks c (Holding c permit l) m at) calls) (ap not a.1)) refl)
        using permit l m at pl (ExpireCall f is entry calls form) = absurd (true≢false (sym form))
        using permit l m at pl (FailCall f is entry calls form) = absurd (true≢false (sym form))

        go : Speaks x stage w (calls_in is_conditional e i) c → Moves past w (C c e i)
        go (Asking l m at r pl k) = absurd (true≢false (sym k))
        go (Using permit l m at r pl wanted shown) = using permit l m at pl (calls_by x.n c (x.p.ops.offer l) e i is_conditional permit wanted shown)
        go (Refused permit l m at k) = absurd (true≢false (sym k))
        go (Reporting l m at pl k) = absurd (true≢false (sym k))
        go (Commanding ops at q k) = absurd (no_call is_conditional e i refl ops k)
        go (Serving op ops at q k) = absurd (true≢false (sym k))
        go (Resting at k) = absurd (true≢false (sym k))

    pub expire_moves : (c e : ℕ) (i : ℤ) → happens (twin x) w.tasks (T c e i) ≡ true → Moves past w (T c e i)
    expire_moves c e i h = go (speaks x stage w (calls_in is_timed e i) past rest inv runs refl c (split h).0)
      where
        using : (permit : Permit) (l : x.L) → c < x.p.size → w.tasks c ≡ live (Holding c permit l) → place stage c ≡ Holds permit →
            CallsBy x.n c (x.p.ops.offer l) e i is_timed permit → Moves past w (T c e i)
        using permit l m at pl (MeetCall f is entry calls plain) = absurd (true≢false (sym plain))
        using permit l m at pl (ElseCall f is entry calls form) = absurd (true≢false (sym form))
        using permit l m at pl (ExpireCall f is entry calls form) =
            let k = permitted_in x past rest stage w c permit inv.fits pl in
            let o = of_expire f i k.e (sym is ∙ k.is) in
            let st : stage ≡ Giving (T c f i) k.tail (c ∷ []) [] = sole past rest stage w c permit k (λ u. T u f i) o.0 o.1 (λ u. refl) in
            let a = admitted_now (T c f i) k.tail (c ∷ []) [] st in
            matched_event past w (T c e i) (T c f i) (back_shadow (λ v. T c v i) e f entry) (f, l, at ∙ ap (λ z. live (Holding c z l)) is, calls)
            (one_acts past rest w (T c f i) k.tail c (subst (λ z. Inv x past rest z w) st inv) permit l m at (x.p.ops.took_delay 1) (copy_did x.p.ops x.n (x.p.ops.took_delay 1)) refl refl refl
            (both (offers_at x.p.ops (calls_in is_timed f i) (image x w.tasks c) l (image_live w.tasks c (Holding c permit l) m at) calls) (ap not a.1)) refl)
        using permit l m at pl (FailCall f is entry calls form) = absurd (true≢false (sym form))

        go : Speaks x stage w (calls_in is_timed e i) c → Moves past w (T c e i)
        go (Asking l m at r pl k) = absurd (true≢false (sym k))
        go (Using permit l m at r pl wanted shown) = using permit l m at pl (calls_by x.n c (x.p.ops.offer l) e i is_timed permit wanted shown)
        go (Refused permit l m at k) = absurd (true≢false (sym k))
        go (Reporting l m at pl k) = absurd (true≢false (sym k))
        go (Commanding ops at q k) = absurd (no_call is_timed e i refl ops k)
        go (Serving op ops at q k) = absurd (true≢false (sym k))
        go (Resting at k) = absurd (true≢false (sym k))
