-- A rendezvous ends: of two original tasks, or of a task with the controller.
use Rattle.std.proofs.Common.{◌≡◌, ℕ, ◌<◌, ◌≤◌, Bool, true, false, ◌||◌, ◌==◌, if◌then◌else◌, List, [], ◌∷◌, ◌++◌, Some, None, refl, sym, ap, ap₂, ◌∙◌, subst, inl, ⊎_elim, true≢false, arith}
use Rattle.std.proofs.lemmas.Bool.{eqb-true, cases_lt, ne_eqb}
use Rattle.event_machine.specs.declared.Standing.{Standing}
use Rattle.event_machine.specs.declared.Standing.TheVariants.{Live, Waiting, Queued, Served, Completed, Killed}
use Rattle.event_machine.specs.declared.Event.{Event}
use Rattle.event_machine.specs.declared.Event.TheVariants.{E}
use Rattle.event_machine.specs.Offers.{is_finish}
use Rattle.event_machine.specs.States.{Seat, live, completed, is_closed, is_served_by, is_abnormal}
use Rattle.event_machine.specs.Effects.{released_first}
use Rattle.event_machine.specs.Programs.{Program, numbered}
use Rattle.event_machine.specs.Worlds.{World, Happen, happens, acted, moved}
use Rattle.event_machine.specs.Soundness.{IsSound}
use Rattle.event_machine.proofs.Offering.{finish_is}
use Rattle.event_machine.proofs.Sound.{first_served}
use Rattle.run_laws.specs.replaying.Permits.{ToFinish, permit_of, Op, Go, Done, Join, Hold}
use Rattle.run_laws.specs.replaying.Scripts.{takers, grants}
use Rattle.run_laws.specs.replaying.Copies.{Copy, Based, Holding, Saying, Controlling, Handing, copy_resumed, ops_offer, under, is_own}
use Rattle.run_laws.specs.replaying.Rewritings.{Setting, control, idle, left, twin}
use Rattle.run_laws.specs.replaying.inner.Stages.{image, image_world, image_seat, Stage, Held, Giving, Asked, Acted, Told, Parted, Over, Away, Asks, Holds, Says, Hears, place, member, AwayAt, SeatAt, ControlAt, behind_event, Fits, Inv}
use Rattle.run_laws.proofs.replaying.Facts.{put, put_each, put_other, put_self, offers_at, below_apart, let_go, let_go_served}
use Rattle.run_laws.proofs.replaying.Images.{image_at, image_put, image_beyond, image_keeps, image_served, image_let_go, past_completed}
use Rattle.run_laws.proofs.replaying.Voices.{finishes_by}
use Rattle.run_laws.proofs.replaying.Reached.{after_all, reached_sound}
use Rattle.run_laws.proofs.replaying.Telling.{of_finish}
use Rattle.run_laws.proofs.replaying.Speaking.{Speaks, Asking, Using, Refused, Reporting, Commanding, Serving, Resting, speaks}
use Rattle.run_laws.proofs.replaying.Afterwards.{Matched, permitted_in, after_event}
use Rattle.run_laws.proofs.replaying.Situations.{IsCalling, Ended, EndedGo, EndedDone, EndedBoth}
use Rattle.run_laws.proofs.replaying.Singles.{Moves, matched_event, unless_below, image_live, sole, away_then}
use Rattle.run_laws.proofs.replaying.Silently.{matched_silent, unseen}
use Rattle.common_lemmas.proofs.Numbers.{equal_self, lt_false, unequal_above}

-- what the end of a rendezvous makes of the tasks
pub parted_is : {L : Type 0} (p : Program L) (tasks : ℕ → Seat L) (a : ℕ) (k : L) (c : ℕ) (callers : List ℕ) → tasks a ≡ live k → p.ops.callers k ≡ c ∷ callers → (c == a) ≡ false →
    acted (numbered p) tasks (E a) ≡ put (put tasks a (live (p.ops.finished k))) c (let_go (p.ops.resumed k) a (tasks c))
parted_is {L} p tasks a k c callers at has other =
    ap (λ (y : Seat L). released_first (numbered p) a y.local (p.ops.callers y.local) (put tasks a (live (p.ops.finished y.local)))) at ∙
    ap (λ cs. released_first (numbered p) a k cs (put tasks a (live (p.ops.finished k)))) has ∙
    ap (λ (y : Seat L). put (put tasks a (live (p.ops.finished k))) c (let_go (p.ops.resumed k) a y)) (put_other tasks a c (live (p.ops.finished k)) other)

-- The controller gives permits, or waits for ever.
abbrev pub IsReady : Stage → Type 0
IsReady Held = Unit {0}
IsReady (Giving e tail given more) = Unit {0}
IsReady (Asked e tail given a more) = ⊥
IsReady (Acted a) = ⊥
IsReady (Told a) = ⊥
IsReady (Parted a) = ⊥
IsReady Over = ⊥

module _ (x : Setting) where
  -- ---- what comes behind an event

  -- The stage before the next event.
  pub record Next (g : x.G) (rest : List Event) : Type 0 where
    pub stage : Stage
    pub fits : (w : World (Copy x.L)) → w.ended ≡ false → Fits x g rest stage w
    pub controls : ControlAt x g rest stage (live (Controlling (left x g rest)))
    pub away : (u : ℕ) → place stage u ≡ Away
    pub ready : IsReady stage
    pub gives : (e : Event) (tail : List Event) → rest ≡ e ∷ tail → x.progress.admits g e ≡ true → stage ≡ Giving e tail [] (takers x.progress x.p.owner g e)

  pub next : (g : x.G) (rest : List Event) → Next g rest
  next g [] = record {
    stage = Held;
    fits = λ w runs. (runs, λ e tail q. absurd (let k : ◌≡◌ {A = List Event} [] (e ∷ tail) = q in cc));
    controls = refl;
    away = λ u. refl;
    ready = tt;
    gives = λ e tail q h. absurd (let k : ◌≡◌ {A = List Event} [] (e ∷ tail) = q in cc);
  }
  next g (e ∷ tail) = go (x.progress.admits g e) refl
    where
      go : (b : Bool) → x.progress.admits g e ≡ b → Next g (e ∷ tail)
      go true h = record {
        stage = Giving e tail [] (takers x.progress x.p.owner g e);
        fits = λ w runs. (runs, refl, h, refl);
        controls = inl (ap (λ b. live (Controlling (if b then grants (permit_of e) (takers x.progress x.p.owner g e) (behind_event x g e tail) else Hold ∷ []))) h);
        away = λ u. refl;
        ready = tt;
        gives = λ f more q k.
            let same : e ≡ f = let r : e ∷ tail ≡ f ∷ more = q in cc in
            let rest' : tail ≡ more = let r : e ∷ tail ≡ f ∷ more = q in cc in
            ap₂ (λ v es. Giving v es [] (takers x.progress x.p.owner g v)) same rest';
      }
      go false h = record {
        stage = Held;
        fits = λ w runs. (runs, λ f more q. let same : e ≡ f = let r : e ∷ tail ≡ f ∷ more = q in cc in ap (x.progress.admits g) (sym same) ∙ h);
        controls = ap (λ b. live (Controlling (if b then grants (permit_of e) (takers x.progress x.p.owner g e) (behind_event x g e tail) else Hold ∷ []))) h;
        away = λ u. refl;
        ready = tt;
        gives = λ f more q k.
            let same : e ≡ f = let r : e ∷ tail ≡ f ∷ more = q in cc in
            absurd (true≢false (sym k ∙ ap (x.progress.admits g) (sym same) ∙ h));
      }

  -- ---- the controller lets a task go

  module _ (past rest : List Event) (w : World (Copy x.L)) (b : ℕ) (below : b < x.p.size) where
    abbrev pub freed_tasks : List Op → Copy x.L → ℕ → Seat (Copy x.L)
    freed_tasks ops k = put (put w.tasks (control x) (live (Controlling ops))) b (live k)

    freed_outside : (ops : List Op) (k : Copy x.L) (t : ℕ) → control x < t → freed_tasks ops k t ≡ w.tasks t
    freed_outside ops k t l = put_other (put w.tasks (control x) (live (Controlling ops))) b t (live k) (unequal_above t b (omega (arith, l, below))) ∙
        put_other w.tasks (control x) t (live (Controlling ops)) (unequal_above t (control x) l)

    freed_control : (ops : List Op) (k : Copy x.L) → freed_tasks ops k (control x) ≡ live (Controlling ops)
    freed_control ops k = put_other (put w.tasks (control x) (live (Controlling ops))) b (control x) (live k) (unequal_above (control x) b below) ∙
        put_self w.tasks (control x) (live (Controlling ops))

    pub freed_image : (ops : List Op) (k own : Copy x.L) → w.tasks b ≡ record { local = own; standing = Served (control x) false } → under x.p.ops.nobody k ≡ under x.p.ops.nobody own →
        image x (freed_tasks ops k) ≡ image x w.tasks
    freed_image ops k own at same =
        image_keeps x (put w.tasks (control x) (live (Controlling ops))) b (live k)
        (ap (λ v. live v) same ∙
        ap (λ c. record { local = under x.p.ops.nobody own; standing = (if c then Live else Served (control x) false) }) (sym (equal_self (control x))) ∙
        ap (image_seat x) (sym at ∙ sym (put_other w.tasks (control x) b (live (Controlling ops)) (below_apart b (control x) below)))) ∙
        image_beyond x w.tasks (control x) (live (Controlling ops)) (omega arith)

    freed_seats : (ops : List Op) (k : Copy x.L) (P : ℕ → Seat (Copy x.L) → Type 0) → ((u : ℕ) → (u == b) ≡ true → P u (live k)) →
        ((u : ℕ) → u < x.p.size → (u == b) ≡ false → P u (w.tasks u)) → (u : ℕ) → u < x.p.size → P u (freed_tasks ops k u)
    freed_seats ops k P at others u l = put_each P (put w.tasks (control x) (live (Controlling ops))) b (live k) u (at u)
        (λ q. subst (P u) (sym (put_other w.tasks (control x) u (live (Controlling ops)) (below_apart u (control x) l))) (others u l q))

    -- it has its permit
    pub takes : (l : x.L) (e : Event) (tail : List Event) (given more : List ℕ) → Inv x past rest (Asked e tail given b more) w →
        w.tasks b ≡ record { local = Based b l; standing = Served (control x) false } → x.p.ops.can_step l ≡ false →
        Inv x past rest (Giving e tail (b ∷ given) more)
        (record { tasks = freed_tasks (grants (permit_of e) more (behind_event x (after_all x past) e tail)) (Holding b (permit_of e) l); ended = w.ended })
    takes l e tail given more inv at rests =
        let ops : List Op = grants (permit_of e) more (behind_event x (after_all x past) e tail) in
        let k : Copy x.L = Holding b (permit_of e) l in
        unseen x past rest (Asked e tail given b more) (Giving e tail (b ∷ given) more) w (freed_tasks ops k) inv
        (freed_image ops k (Based b l) at refl) (freed_outside ops k (idle x) (omega arith)) (λ t m. freed_outside ops k t (omega (arith, m)))
        (inv.fits.0, inv.fits.1, inv.fits.2, inv.fits.3) (inl (freed_control ops k))
        (freed_seats ops k (λ u seat. SeatAt x (place (Giving e tail (b ∷ given) more) u) u seat)
        (λ u q. subst (λ c. SeatAt x (if c || member u given then Holds (permit_of e) else Away) u (live k)) (sym q)
        (l, ap (λ v. live (Holding v (permit_of e) l)) (sym (eqb-true u b q)), rests))
        (λ u m q. subst (λ c. SeatAt x (if c || member u given then Holds (permit_of e) else Away) u (w.tasks u)) (sym q)
        (subst (λ c. SeatAt x (if c then Asks else (if member u given then Holds (permit_of e) else Away)) u (w.tasks u)) q (inv.seats u m))))

    -- it goes on behind what it has done
    pub goes_on : (l : x.L) (n : Next (after_all x past) rest) → Inv x past rest (Told b) w → w.tasks b ≡ record { local = Saying b l; standing = Served (control x) false } →
        Inv x past rest n.stage (record { tasks = freed_tasks (left x (after_all x past) rest) (Based b l); ended = w.ended })
    goes_on l n inv at =
        let ops : List Op = left x (after_all x past) rest in
        let k : Copy x.L = Based b l in
        unseen x past rest (Told b) n.stage w (freed_tasks ops k) inv
        (freed_image ops k (Saying b l) at refl) (freed_outside ops k (idle x) (omega arith)) (λ t m. freed_outside ops k t (omega (arith, m)))
        (n.fits (record { tasks = freed_tasks ops k; ended = w.ended }) inv.fits.0)
        (subst (ControlAt x (after_all x past) rest n.stage) (sym (freed_control ops k)) n.controls)
        (freed_seats ops k (λ u seat. SeatAt x (place n.stage u) u seat)
        (λ u q. subst (λ pl. SeatAt x pl u (live k)) (sym (n.away u)) (l, ap (λ v. Based v l) (sym (eqb-true u b q))))
        (λ u m q. subst (λ pl. SeatAt x pl u (w.tasks u)) (sym (n.away u)) (subst (λ c. SeatAt x (if c then Hears else Away) u (w.tasks u)) q (inv.seats u m))))

  -- ---- who ends a rendezvous

  no_finish : (ops : List Op) → is_finish (ops_offer x.n ops) ≡ true → ⊥
  no_finish [] h = true≢false (sym h)
  no_finish (Go t permit ∷ ops) h = true≢false (sym h)
  no_finish (Done t ∷ ops) h = true≢false (sym h)
  no_finish (Join t ∷ ops) h = true≢false (sym h)
  no_finish (Hold ∷ ops) h = true≢false (sym h)

  not_handing : {op : Op} {ops more : List Op} → live {L = Copy x.L} (Controlling more) ≡ live (Handing op ops) → ⊥
  not_handing {op} {ops} {more} h = let k : ◌≡◌ {A = Copy x.L} (Controlling more) (Handing op ops) = ap (λ (y : Seat (Copy x.L)). y.local) h in cc

  module _ (past rest : List Event) (w : World (Copy x.L)) (runs : w.ended ≡ false) where
    -- the controller is in an accept body
    part_control : (stage : Stage) → Inv x past rest stage w → (op : Op) (ops : List Op) → w.tasks (control x) ≡ live (Handing op ops) →
        Ended x w (control x) × Matched x past (moved (twin x) w (Happen (E (control x))))
    part_control Held inv op ops h = absurd (not_handing (sym inv.controls ∙ h))
    part_control (Giving e tail given more) inv op ops h = ⊎_elim (λ q. absurd (not_handing (sym q ∙ h)))
        (λ q. absurd (let k : Completed ≡ Live = sym q.1 ∙ ap (λ (y : Seat (Copy x.L)). y.standing) h in cc)) inv.controls
    part_control (Asked e tail given b more) inv op ops h =
        let (l, at, rests) = subst (λ c. SeatAt x (if c then Asks else (if member b given then Holds (permit_of e) else Away)) b (w.tasks b)) (equal_self b) (inv.seats b inv.fits.4) in
        let k : Copy x.L = Handing (Go b (permit_of e)) (grants (permit_of e) more (behind_event x (after_all x past) e tail)) in
        let acts : acted (numbered (twin x)) w.tasks (E (control x)) ≡ freed_tasks past rest w b inv.fits.4 (grants (permit_of e) more (behind_event x (after_all x past) e tail)) (Holding b (permit_of e) l) =
        parted_is (twin x) w.tasks (control x) k b [] inv.controls refl (below_apart b (control x) inv.fits.4) ∙
        ap (λ y. put (put w.tasks (control x) (live (Controlling (grants (permit_of e) more (behind_event x (after_all x past) e tail))))) b (let_go (copy_resumed x.p.ops x.n k) (control x) y)) at ∙
        ap (λ y. put (put w.tasks (control x) (live (Controlling (grants (permit_of e) more (behind_event x (after_all x past) e tail))))) b y)
        (let_go_served (copy_resumed x.p.ops x.n k) (control x) (record { local = Based b l; standing = Served (control x) false }) (equal_self (control x))) in (
          EndedGo b l (permit_of e) (grants (permit_of e) more (behind_event x (after_all x past) e tail)) refl inv.fits.4 inv.controls at rests,
          record {
            rest = rest;
            stage = Giving e tail (b ∷ given) more;
            inv = subst (Inv x past rest (Giving e tail (b ∷ given) more)) (λ j. record { tasks = sym acts j; ended = w.ended }) (takes past rest w b inv.fits.4 l e tail given more inv at rests);
          },
        )
    part_control (Acted b) inv op ops h = absurd (not_handing (sym inv.controls ∙ h))
    part_control (Told b) inv op ops h =
        let (l, at) = subst (λ c. SeatAt x (if c then Hears else Away) b (w.tasks b)) (equal_self b) (inv.seats b inv.fits.1) in
        let k : Copy x.L = Handing (Done b) (left x (after_all x past) rest) in
        let n : Next (after_all x past) rest = next (after_all x past) rest in
        let acts : acted (numbered (twin x)) w.tasks (E (control x)) ≡ freed_tasks past rest w b inv.fits.1 (left x (after_all x past) rest) (Based b l) =
        parted_is (twin x) w.tasks (control x) k b [] inv.controls refl (below_apart b (control x) inv.fits.1) ∙
        ap (λ y. put (put w.tasks (control x) (live (Controlling (left x (after_all x past) rest)))) b (let_go (copy_resumed x.p.ops x.n k) (control x) y)) at ∙
        ap (λ y. put (put w.tasks (control x) (live (Controlling (left x (after_all x past) rest)))) b y)
        (let_go_served (copy_resumed x.p.ops x.n k) (control x) (record { local = Saying b l; standing = Served (control x) false }) (equal_self (control x))) in (
          EndedDone b l (left x (after_all x past) rest) refl inv.fits.1 inv.controls at,
          record {
            rest = rest;
            stage = n.stage;
            inv = subst (Inv x past rest n.stage) (λ j. record { tasks = sym acts j; ended = w.ended }) (goes_on past rest w b inv.fits.1 l n inv at);
          },
        )
    part_control (Parted b) inv op ops h = absurd (not_handing (sym inv.controls ∙ h))
    part_control Over inv op ops h = absurd (true≢false (sym inv.fits ∙ runs))

  -- ---- two original tasks part

  module _ (past : List Event) (w : World (Copy x.L)) (a : ℕ) (tail rest : List Event) (inv : Inv x past rest (Giving (E a) tail (a ∷ []) []) w) (l : x.L) (below : a < x.p.size)
      (at : w.tasks a ≡ live (Holding a ToFinish l)) (finishes : is_finish (x.p.ops.offer l) ≡ true) where
    image_a : image x w.tasks a ≡ live l
    image_a = image_live x w.tasks a (Holding a ToFinish l) below at

    sound : IsSound x.p.ops x.IsProper (image x w.tasks)
    sound = reached_sound x past (image_world x w) inv.reached

    proper : x.IsProper l
    proper = subst (λ (y : Seat x.L). x.IsProper y.local) image_a (sound.proper a (ap (λ (y : Seat x.L). is_closed y.standing) image_a))

    ends : (c : ℕ) × x.IsProper (x.p.ops.finished l) × (x.p.ops.callers l ≡ c ∷ x.p.ops.callers (x.p.ops.finished l))
    ends = x.lawful.finished l proper (finish_is (x.p.ops.offer l) finishes)

    abbrev caller : ℕ
    caller = ends.0

    served_in : is_served_by a (image x w.tasks caller).standing ≡ true
    served_in = first_served x.p x.IsProper x.lawful (image x w.tasks) a caller sound (ap (λ (y : Seat x.L). y.standing) image_a)
        (subst (λ (y : Seat x.L). x.IsProper (x.p.ops.finished y.local)) (sym image_a) ends.1)
        (subst (λ (y : Seat x.L). x.p.ops.callers y.local ≡ caller ∷ x.p.ops.callers (x.p.ops.finished y.local)) (sym image_a) ends.2)

    caller_below : caller < x.p.size
    caller_below = ⊎_elim (λ m. m)
        (λ (m : x.p.size ≤ caller). absurd (true≢false (sym served_in ∙ ap (is_served_by a) (past_completed x caller (w.tasks caller) m))))
        (cases_lt caller x.p.size)

    other : (caller == a) ≡ false
    other = ne_eqb caller a (λ q. true≢false (sym served_in ∙ ap (λ v. is_served_by a (image x w.tasks v).standing) q ∙ sound.itself a))

    served : is_served_by a (w.tasks caller).standing ≡ true
    served = sym (image_served x a caller (w.tasks caller) below caller_below) ∙ served_in

    -- a caller in a rendezvous with an original task
    pub calls_away : (u b : ℕ) (s : Standing) (k : Copy x.L) → AwayAt x u s k → is_served_by b s ≡ true → IsCalling x u k
    calls_away u b Live k h q = absurd (true≢false (sym q))
    calls_away u b Waiting k h q = absurd (true≢false (sym q))
    calls_away u b Queued k h q = absurd (true≢false (sym q))
    calls_away u b (Served by abnormal) k h q = (h.2, h.0, h.1, h.3, h.4)
    calls_away u b Completed k h q = absurd (true≢false (sym q))
    calls_away u b Killed k h q = absurd (true≢false (sym q))

    call : IsCalling x caller (w.tasks caller).local
    call = calls_away caller a (w.tasks caller).standing (w.tasks caller).local (away_then x past rest w (E a) tail a inv caller caller_below other) served

    abbrev resume : Copy x.L → Copy x.L
    resume k = copy_resumed x.p.ops x.n (Holding a ToFinish l) k

    abbrev tasks' : ℕ → Seat (Copy x.L)
    tasks' = put (put w.tasks a (live (Saying a (x.p.ops.finished l)))) caller (let_go (λ k. resume k) a (w.tasks caller))

    twin_acts : acted (numbered (twin x)) w.tasks (E a) ≡ tasks'
    twin_acts = parted_is (twin x) w.tasks a (Holding a ToFinish l) caller (x.p.ops.callers (x.p.ops.finished l)) at ends.2 other

    acts : acted (numbered x.p) (image x w.tasks) (E a) ≡ image x tasks'
    acts =
        parted_is x.p (image x w.tasks) a l caller (x.p.ops.callers (x.p.ops.finished l)) image_a ends.2 other ∙
        ap (λ y. put (put (image x w.tasks) a (live (x.p.ops.finished l))) caller y)
        (sym (image_let_go x (λ k. resume k) (x.p.ops.resumed l) a caller (w.tasks caller) below (λ q. (caller_below, resumes))) ∙
        image_at x caller (let_go (λ k. resume k) a (w.tasks caller)) caller_below) ∙
        ap (λ v. put v caller (image_seat x (let_go (λ k. resume k) a (w.tasks caller)))) (sym (image_put x w.tasks a (live (Saying a (x.p.ops.finished l))) below)) ∙
        sym (image_put x (put w.tasks a (live (Saying a (x.p.ops.finished l)))) caller (let_go (λ k. resume k) a (w.tasks caller)) caller_below)
      where
        resumes : under x.p.ops.nobody (resume (w.tasks caller).local) ≡ x.p.ops.resumed l (under x.p.ops.nobody (w.tasks caller).local)
        resumes = ap (λ k. under x.p.ops.nobody (resume k)) call.3 ∙ ap (λ k. x.p.ops.resumed l (under x.p.ops.nobody k)) (sym call.3)

    caller_away : (u : ℕ) → (u == caller) ≡ true → SeatAt x Away u (let_go (λ k. resume k) a (w.tasks caller))
    caller_away u q = subst (SeatAt x Away u) (sym (let_go_served (λ k. resume k) a (w.tasks caller) served)) (go (is_abnormal (w.tasks caller).standing))
      where
        go : (b : Bool) → SeatAt x Away u (if b then completed (w.tasks caller).local else live (resume (w.tasks caller).local))
        go true = ap (λ k. is_own k) call.3
        go false = (x.p.ops.resumed l call.0, ap (λ k. resume k) call.3 ∙ ap (λ v. Based v (x.p.ops.resumed l call.0)) (sym (eqb-true u caller q)))

    pub situation : Ended x w a
    situation = EndedBoth l caller (x.p.ops.callers (x.p.ops.finished l)) below at finishes ends.2 other served call

    pub parts : Inv x (past ++ (E a ∷ [])) tail (Acted a) (moved (twin x) w (Happen (E a)))
    parts = subst (Inv x (past ++ (E a ∷ [])) tail (Acted a)) (λ j. record { tasks = sym twin_acts j; ended = w.ended })
        (after_event x past rest (E a) tail (a ∷ []) w inv (Done a) (Acted a) tasks' refl refl
        (offers_at x.p.ops is_finish (image x w.tasks a) l image_a finishes) acts
        (λ t h. put_other (put w.tasks a (live (Saying a (x.p.ops.finished l)))) caller t (let_go (λ k. resume k) a (w.tasks caller)) (unequal_above t caller (omega (arith, h, caller_below))) ∙
        put_other w.tasks a t (live (Saying a (x.p.ops.finished l))) (unequal_above t a (omega (arith, h, below))))
        (inv.fits.0, below) (λ seat h. h) seats)
      where
        P : ℕ → Seat (Copy x.L) → Type 0
        P v seat = SeatAt x (place (Acted a) v) v seat

        seats : (u : ℕ) → u < x.p.size → P u (tasks' u)
        seats u m = put_each P (put w.tasks a (live (Saying a (x.p.ops.finished l)))) caller (let_go (λ k. resume k) a (w.tasks caller)) u
            (λ q. subst (λ b. SeatAt x (if b then Says else Away) u (let_go (λ k. resume k) a (w.tasks caller))) (sym (ap (λ v. v == a) (eqb-true u caller q) ∙ other)) (caller_away u q))
            (λ q. put_each P w.tasks a (live (Saying a (x.p.ops.finished l))) u
            (λ r. subst (λ b. SeatAt x (if b then Says else Away) u (live (Saying a (x.p.ops.finished l)))) (sym r)
            (x.p.ops.finished l, ap (λ v. live (Saying v (x.p.ops.finished l))) (sym (eqb-true u a r))))
            (λ r. subst (λ b. SeatAt x (if b then Says else Away) u (w.tasks u)) (sym r) (away_then x past rest w (E a) tail a inv u m r)))

  -- ---- all ends of a rendezvous

  module _ (past rest : List Event) (stage : Stage) (w : World (Copy x.L)) (inv : Inv x past rest stage w) (runs : w.ended ≡ false) where
    pub finish_moves : (a : ℕ) → happens (twin x) w.tasks (E a) ≡ true → Moves x past w (E a)
    finish_moves a h = go (speaks x stage w is_finish past rest inv runs refl a h)
      where
        go : Speaks x stage w is_finish a → Moves x past w (E a)
        go (Asking l m at r pl k) = absurd (true≢false (sym k))
        go (Using permit l m at r pl wanted shown) =
            let v = finishes_by x.n a (x.p.ops.offer l) permit wanted shown in
            let k = permitted_in x past rest stage w a permit inv.fits pl in
            let o = of_finish k.e (sym v.0 ∙ k.is) in
            let st : stage ≡ Giving (E a) k.tail (a ∷ []) [] = sole x past rest stage w a permit k (λ u. E u) o.0 o.1 (λ u. refl) in
            let here : Inv x past rest (Giving (E a) k.tail (a ∷ []) []) w = subst (λ z. Inv x past rest z w) st inv in
            let now : w.tasks a ≡ live (Holding a ToFinish l) = at ∙ ap (λ z. live (Holding a z l)) v.0 in
            matched_event x past w (E a) (E a) (unless_below x a (E a) m) (situation past w a k.tail rest here l m now v.1)
            (record { rest = k.tail; stage = Acted a; inv = parts past w a k.tail rest here l m now v.1 })
        go (Refused permit l m at k) = absurd (true≢false (sym k))
        go (Reporting l m at pl k) = absurd (true≢false (sym k))
        go (Commanding ops at q k) = absurd (no_finish ops k)
        go (Serving op ops at q k) =
            let c = part_control past rest w runs stage inv op ops q in
            matched_silent x past w (E a) (ap (λ b. if b then Some (E a) else None) (lt_false a x.p.size (omega (arith, at))))
            (subst (λ v. Ended x w v) (sym at) c.0)
            (subst (λ v. Matched x past (moved (twin x) w (Happen (E v)))) (sym at) c.1)
        go (Resting at k) = absurd (true≢false (sym k))
