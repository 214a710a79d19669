-- Calls that fail: one for which there was a permit, or the controller's, at a task that is closed.
use Rattle.std.proofs.Common.{◌≡◌, ℕ, ◌<◌, ◌≤◌, Bool, true, false, ◌||◌, ◌==◌, if◌then◌else◌, List, [], ◌∷◌, refl, sym, ap, ◌∙◌, subst, ⊎_elim, true≢false, arith}
use Rattle.std.specs.Prelude.{ℤ, pos}
use Rattle.std.proofs.lemmas.Bool.{and_parts, cases_lt}
use Rattle.event_machine.specs.declared.Standing.TheVariants.{Live, Completed}
use Rattle.event_machine.specs.declared.Event.{Event}
use Rattle.event_machine.specs.declared.Event.TheVariants.{R, E, S, D, C, T, F, X, B, Z}
use Rattle.event_machine.specs.Offers.{calls_in, is_any_form}
use Rattle.event_machine.specs.States.{Seat, live, is_closed}
use Rattle.event_machine.specs.Worlds.{World, happens, offers}
use Rattle.event_machine.specs.Admitting.{IsAdmitted}
use Rattle.event_machine.proofs.Basics.{both, split, same_member-true}
use Rattle.run_laws.specs.replaying.Permits.{Permit, ToFail, permit_of, Op, Go, Done, Join, Hold}
use Rattle.run_laws.specs.replaying.Scripts.{takers, grants}
use Rattle.run_laws.specs.replaying.Copies.{Copy, Holding, Controlling, copy_raised, ops_offer}
use Rattle.run_laws.specs.replaying.Rewritings.{Setting, control, idle, left, twin}
use Rattle.run_laws.specs.replaying.Laws.{at_entry, stands_for}
use Rattle.run_laws.specs.replaying.inner.Stages.{image, image_world, Stage, Held, Giving, Asked, Acted, Told, Parted, Over, Away, Holds, place, member, in_order, SeatAt, ControlAt, behind_event, Inv}
use Rattle.run_laws.proofs.replaying.Facts.{put, put_other, put_self, offers_at, below_apart}
use Rattle.run_laws.proofs.replaying.Images.{image_beyond, past_completed}
use Rattle.run_laws.proofs.replaying.Voices.{CallsBy, MeetCall, ElseCall, ExpireCall, FailCall, calls_by}
use Rattle.run_laws.proofs.replaying.Reached.{after_all, reached_admitted}
use Rattle.run_laws.proofs.replaying.Orders.{only_one}
use Rattle.run_laws.proofs.replaying.Telling.{of_meet, of_call_else, of_expire, of_fail}
use Rattle.run_laws.proofs.replaying.Speaking.{Speaks, Asking, Using, Refused, Reporting, Commanding, Serving, Resting, speaks}
use Rattle.run_laws.proofs.replaying.Afterwards.{Matched, Permitted, permitted_in}
use Rattle.run_laws.proofs.replaying.Situations.{FailedCall, FailedJoin}
use Rattle.run_laws.proofs.replaying.Singles.{Moves, matched_event, back_shadow, image_live, sole, one_acts, admitted_now}
use Rattle.run_laws.proofs.replaying.Silently.{matched_silent, unseen, says_acted}
use Rattle.run_laws.proofs.replaying.Parting.{Next, next}
use Rattle.run_laws.proofs.replaying.Standing.{image_closed, control_open}
use Rattle.common_lemmas.proofs.Numbers.{equal_self, unequal_above}
use Rattle.run_laws.proofs.replaying.Completing.{controlling, not_handing}

module _ (x : Setting) where
  -- an event after which the controller waits for a task to be closed
  pub behind_join : (g : x.G) (e : Event) (tail : List Event) (t : ℕ) (ops : List Op) → behind_event x g e tail ≡ Join t ∷ ops → takers x.progress x.p.owner g e ≡ t ∷ []
  behind_join g (R c e i) tail t ops h = absurd cc
  behind_join g (E a) tail t ops h = absurd cc
  behind_join g (S a) tail t ops h = absurd cc
  behind_join g (D a k) tail t ops h = absurd cc
  behind_join g (C c e i) tail t ops h = absurd cc
  behind_join g (T c e i) tail t ops h = absurd cc
  behind_join g (F c e i) tail t ops h = absurd cc
  behind_join g (X a) tail t ops h = let k : a ≡ t = cc in ap (λ v. v ∷ []) k
  behind_join g (B u v) tail t ops h = go (v == u) h
    where
      go : (b : Bool) → (if b then Join u else Done u) ∷ left x (x.progress.advance g (B u v)) tail ≡ Join t ∷ ops → u ∷ [] ≡ t ∷ []
      go true q = let k : u ≡ t = cc in ap (λ v. v ∷ []) k
      go false q = absurd cc
  behind_join g Z tail t ops h = absurd cc

  -- it is free before the event
  joiner_live : (g : x.G) (e : Event) (tail : List Event) (t : ℕ) (ops : List Op) → behind_event x g e tail ≡ Join t ∷ ops → (tasks : ℕ → Seat x.L) → IsAdmitted x.p.owner tasks e → (tasks t).standing ≡ Live
  joiner_live g (R c e i) tail t ops h tasks admitted = absurd cc
  joiner_live g (E a) tail t ops h tasks admitted = absurd cc
  joiner_live g (S a) tail t ops h tasks admitted = absurd cc
  joiner_live g (D a k) tail t ops h tasks admitted = absurd cc
  joiner_live g (C c e i) tail t ops h tasks admitted = absurd cc
  joiner_live g (T c e i) tail t ops h tasks admitted = absurd cc
  joiner_live g (F c e i) tail t ops h tasks admitted = absurd cc
  joiner_live g (X a) tail t ops h tasks admitted = let k : a ≡ t = cc in ap (λ v. (tasks v).standing) (sym k) ∙ admitted.0
  joiner_live g (B u v) tail t ops h tasks admitted = go (v == u) h
    where
      go : (b : Bool) → (if b then Join u else Done u) ∷ left x (x.progress.advance g (B u v)) tail ≡ Join t ∷ ops → (tasks t).standing ≡ Live
      go true q = let k : u ≡ t = cc in ap (λ v. (tasks v).standing) (sym k) ∙ admitted
      go false q = absurd cc
  joiner_live g Z tail t ops h tasks admitted = absurd cc

  -- a task that is free in the original is one of its tasks
  pub live_below : (w : World (Copy x.L)) (t : ℕ) → (image x w.tasks t).standing ≡ Live → t < x.p.size
  live_below w t h = ⊎_elim (λ m. m)
      (λ (m : x.p.size ≤ t). absurd (let k : Completed ≡ Live = sym (past_completed x t (w.tasks t) m) ∙ h in cc))
      (cases_lt t x.p.size)

  pub first_member : (a : ℕ) → member a (a ∷ []) ≡ true
  first_member a = ap (λ b. b || false) (equal_self a)

  module _ (past rest : List Event) (w : World (Copy x.L)) (runs : w.ended ≡ false) where
    -- a task that has closed itself, behind which the controller goes on
    pub joins : (b : ℕ) (n : Next x (after_all x past) rest) → Inv x past rest (Parted b) w →
        Inv x past rest n.stage (record { tasks = put w.tasks (control x) (live (Controlling (left x (after_all x past) rest))); ended = w.ended })
    joins b n inv =
        let seat : Seat (Copy x.L) = live (Controlling (left x (after_all x past) rest)) in
        unseen x past rest (Parted b) n.stage w (put w.tasks (control x) seat) inv (image_beyond x w.tasks (control x) seat (omega arith))
        (put_other w.tasks (control x) (idle x) seat (unequal_above (idle x) (control x) (omega arith)))
        (λ t m. put_other w.tasks (control x) t seat (unequal_above t (control x) (omega (arith, m))))
        (n.fits (record { tasks = put w.tasks (control x) seat; ended = w.ended }) runs)
        (subst (ControlAt x (after_all x past) rest n.stage) (sym (put_self w.tasks (control x) seat)) n.controls)
        (λ u m. subst (SeatAt x (place n.stage u) u) (sym (put_other w.tasks (control x) u seat (below_apart u (control x) m)))
        (subst (λ pl. SeatAt x pl u (w.tasks u)) (sym (n.away u)) (inv.seats u m)))

    -- the controller's call fails only where it waits for a closed task
    join_fails : (stage : Stage) → Inv x past rest stage w → (t : ℕ) (ops : List Op) → w.tasks (control x) ≡ live (Controlling (Join t ∷ ops)) → (t < x.p.size → is_closed (w.tasks t).standing ≡ true) →
        Matched x past (record { tasks = put w.tasks (control x) (live (copy_raised x.p.ops x.n (w.tasks (control x)).local)); ended = w.ended })
    join_fails Held inv t ops h closed = absurd (let q : Hold ∷ [] ≡ Join t ∷ ops = controlling x (sym inv.controls ∙ h) in cc)
    join_fails (Giving e tail given []) inv t ops h closed = ⊎_elim
        (λ q.
        let k = behind_join (after_all x past) e tail t ops (controlling x (sym q ∙ h)) in
        let o : given ≡ t ∷ [] = given_is given (inv.fits.3 ∙ k) in
        let m : t < x.p.size = live_below w t (joiner_live (after_all x past) e tail t ops (controlling x (sym q ∙ h)) (image x w.tasks) (reached_admitted x past (image_world x w) inv.reached e runs inv.fits.2)) in
        let s = subst (λ b. SeatAt x (if b then Holds (permit_of e) else Away) t (w.tasks t)) (ap (member t) o ∙ first_member t) (inv.seats t m) in
        absurd (true≢false (sym (closed m) ∙ ap (λ (y : Seat (Copy x.L)). is_closed y.standing) s.1)))
        (λ q. absurd (let k : Completed ≡ Live = sym q.1 ∙ ap (λ (y : Seat (Copy x.L)). y.standing) h in cc)) inv.controls
      where
        given_is : (given : List ℕ) → in_order given [] ≡ t ∷ [] → given ≡ t ∷ []
        given_is [] q = absurd (let k : ◌≡◌ {A = List ℕ} [] (t ∷ []) = q in cc)
        given_is (g ∷ given) q = (only_one (g ∷ given) [] t g q (ap (λ b. b || member g given) (equal_self g))).1
    join_fails (Giving e tail given (u ∷ more)) inv t ops h closed = ⊎_elim
        (λ q. absurd (let k : Go u (permit_of e) ∷ grants (permit_of e) more (behind_event x (after_all x past) e tail) ≡ Join t ∷ ops = controlling x (sym q ∙ h) in cc))
        (λ q. absurd (let k : Completed ≡ Live = sym q.1 ∙ ap (λ (y : Seat (Copy x.L)). y.standing) h in cc)) inv.controls
    join_fails (Asked e tail given b more) inv t ops h closed = absurd (not_handing x (sym inv.controls ∙ h))
    join_fails (Acted b) inv t ops h closed = absurd (let q : Done b ∷ left x (after_all x past) rest ≡ Join t ∷ ops = controlling x (sym inv.controls ∙ h) in cc)
    join_fails (Told b) inv t ops h closed = absurd (not_handing x (sym inv.controls ∙ h))
    join_fails (Parted b) inv t ops h closed =
        let n : Next x (after_all x past) rest = next x (after_all x past) rest in
        record {
          rest = rest;
          stage = n.stage;
          inv = subst (Inv x past rest n.stage)
              (ap (λ (y : Seat (Copy x.L)). record { tasks = put w.tasks (control x) (live (copy_raised x.p.ops x.n y.local)); ended = w.ended }) (sym inv.controls)) (joins b n inv);
        }
    join_fails Over inv t ops h closed = absurd (true≢false (sym inv.fits ∙ runs))

  module _ (past rest : List Event) (stage : Stage) (w : World (Copy x.L)) (inv : Inv x past rest stage w) (runs : w.ended ≡ false) where
    -- an owner that is closed in the original, or not
    owner_closed : (f : ℕ) (b : Bool) → is_closed (image x w.tasks (x.p.owner f)).standing ≡ b → is_closed (w.tasks (x.p.owner f)).standing ≡ true → b ≡ true
    owner_closed f b h closed = ⊎_elim
        (λ (m : x.p.owner f < x.p.size). sym h ∙ image_closed x past rest stage w (x.p.owner f) inv runs m ∙ closed)
        (λ (m : x.p.size ≤ x.p.owner f). sym h ∙ ap is_closed (past_completed x (x.p.owner f) (w.tasks (x.p.owner f)) m))
        (cases_lt (x.p.owner f) x.p.size)

    pub fail_moves : (c e : ℕ) (i : ℤ) → happens (twin x) w.tasks (F c e i) ≡ true → Moves x past w (F c e i)
    fail_moves c e i h = go (speaks x stage w (calls_in is_any_form e i) past rest inv runs refl c (split h).0)
      where
        closed : is_closed (w.tasks (x.owner e)).standing ≡ true
        closed = (and_parts (offers (twin x).ops (calls_in is_any_form e i) (w.tasks c)) (is_closed (w.tasks (x.owner e)).standing) h).1

        closed_at : (t : ℕ) → x.owner e ≡ t → is_closed (w.tasks t).standing ≡ true
        closed_at t q = ap (λ v. is_closed (w.tasks v).standing) (sym q) ∙ closed

        -- its permit is for an event that is admitted
        admitted : (permit : Permit) (k : Permitted x past rest stage w c permit) → IsAdmitted x.p.owner (image x w.tasks) k.e
        admitted permit k = reached_admitted x past (image_world x w) inv.reached k.e runs k.admits

        open' : (f : ℕ) → x.owner e ≡ x.p.owner f → is_closed (image x w.tasks (x.p.owner f)).standing ≡ false → ⊥
        open' f q k = true≢false (sym (owner_closed f false k (closed_at (x.p.owner f) q)))

        using : (permit : Permit) (l : x.L) → c < x.p.size → w.tasks c ≡ live (Holding c permit l) → place stage c ≡ Holds permit →
            CallsBy x.n c (x.p.ops.offer l) e i is_any_form permit → Moves x past w (F c e i)
        using permit l m at pl (MeetCall f is entry calls plain) =
            let k = permitted_in x past rest stage w c permit inv.fits pl in
            let o = of_meet f i k.e (sym is ∙ k.is) in
            let a = subst (IsAdmitted x.p.owner (image x w.tasks)) o.1 (admitted permit k) in
            absurd (open' f (ap x.owner entry ∙ x.owners.original f) (ap is_closed a.1))
        using permit l m at pl (ElseCall f is entry calls form) =
            let k = permitted_in x past rest stage w c permit inv.fits pl in
            let o = of_call_else f i k.e (sym is ∙ k.is) in
            let a = subst (IsAdmitted x.p.owner (image x w.tasks)) o.1 (admitted permit k) in
            absurd (open' f (ap x.owner entry ∙ x.owners.shadow f) a.1)
        using permit l m at pl (ExpireCall f is entry calls form) =
            let k = permitted_in x past rest stage w c permit inv.fits pl in
            let o = of_expire f i k.e (sym is ∙ k.is) in
            let a = subst (IsAdmitted x.p.owner (image x w.tasks)) o.1 (admitted permit k) in
            absurd (open' f (ap x.owner entry ∙ x.owners.shadow f) a.1)
        using permit l m at pl (FailCall f is entry calls form) =
            let k = permitted_in x past rest stage w c permit inv.fits pl in
            let o = of_fail f i k.e (sym is ∙ k.is) in
            let st : stage ≡ Giving (F c f i) k.tail (c ∷ []) [] = sole x past rest stage w c permit k (λ u. F u f i) o.0 o.1 (λ u. refl) in
            let a = admitted_now x past rest stage w inv runs (F c f i) k.tail (c ∷ []) [] st in
            matched_event x past w (F c e i) (F c f i) (back_shadow x (λ v. F c v i) e f entry) (FailedCall f l (at ∙ ap (λ z. live (Holding c z l)) is) calls)
            (one_acts x past rest w (F c f i) k.tail c (subst (λ z. Inv x past rest z w) st inv) (ToFail f i) l m (at ∙ ap (λ z. live (Holding c z l)) is)
            x.p.ops.raised (copy_raised x.p.ops x.n) refl refl refl
            (both (offers_at x.p.ops (calls_in is_any_form f i) (image x w.tasks c) l (image_live x w.tasks c (Holding c permit l) m at) calls) a.1) refl)

        commands : (ops : List Op) → c ≡ control x → w.tasks (control x) ≡ live (Controlling ops) → calls_in is_any_form e i (ops_offer x.n ops) ≡ true → Moves x past w (F c e i)
        commands [] at q k = absurd (true≢false (sym k))
        commands (Go t permit ∷ ops) at q k = absurd (true≢false (sym k))
        commands (Done t ∷ ops) at q k = absurd (true≢false (sym k))
        commands (Join t ∷ ops) at q k =
            let entry : e ≡ x.n.join t = (same_member-true e (x.n.join t) i (pos 0) k).0 in
            matched_silent x past w (F c e i) (ap (λ s. at_entry (λ v. F c v i) (stands_for s)) (ap x.n.sort entry ∙ x.numbers.join t)) (FailedJoin t ops at q)
            (subst (λ v. Matched x past (record { tasks = put w.tasks v (live (copy_raised x.p.ops x.n (w.tasks v).local)); ended = w.ended })) (sym at)
            (join_fails past rest w runs stage inv t ops q (λ m. closed_at t (ap x.owner entry ∙ x.owners.join t m))))
        commands (Hold ∷ ops) at q k = absurd (true≢false (sym k))

        go : Speaks x stage w (calls_in is_any_form e i) c → Moves x past w (F c e i)
        go (Asking l m at r pl k) = absurd (control_open x past rest stage w c l inv runs m at pl
            (closed_at (control x) (ap x.owner (same_member-true e x.n.go i (pos c) k).0 ∙ x.owners.go)))
        go (Using permit l m at r pl wanted shown) = using permit l m at pl (calls_by x.n c (x.p.ops.offer l) e i is_any_form permit wanted shown)
        go (Refused permit l m at k) = absurd (true≢false (sym (closed_at (idle x) (ap x.owner (same_member-true e x.n.stop i (pos 0) k).0 ∙ x.owners.stop)) ∙
            ap (λ (y : Seat (Copy x.L)). is_closed y.standing) inv.idles))
        go (Reporting l m at pl k) =
            let here : Inv x past rest (Acted c) w = subst (λ z. Inv x past rest z w) (says_acted x stage c pl) inv in
            absurd (true≢false (sym (closed_at (control x) (ap x.owner (same_member-true e x.n.done i (pos c) k).0 ∙ x.owners.done)) ∙
            ap (λ (y : Seat (Copy x.L)). is_closed y.standing) here.controls))
        go (Commanding ops at q k) = commands ops at q k
        go (Serving op ops at q k) = absurd (true≢false (sym k))
        go (Resting at k) = absurd (true≢false (sym k))
