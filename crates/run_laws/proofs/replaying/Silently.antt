-- What happens between the controller and a task, and what of it the original does not see.
use Rattle.std.proofs.Common.{◌≡◌, ℕ, suc, ◌<◌, ◌≤◌, Bool, true, false, ◌==◌, if◌then◌else◌, List, [], ◌∷◌, ◌++◌, append-nil, Option, None, refl, sym, ap, ◌∙◌, subst, ⊎_elim, true≢false, arith}
use Rattle.std.specs.List.{cons_option}
use Rattle.std.proofs.lemmas.Bool.{eqb-true}
use Rattle.event_machine.specs.declared.Standing.TheVariants.{Live, Completed, Served}
use Rattle.event_machine.specs.declared.Event.{Event}
use Rattle.event_machine.specs.declared.Event.TheVariants.{R, E, S, D, C, T, F, X, B, Z}
use Rattle.event_machine.specs.States.{Seat, live, is_completed}
use Rattle.event_machine.specs.Worlds.{World, Happen, moved}
use Rattle.run_laws.specs.replaying.Permits.{Permit, permit_of, Op, Go, Done, Join, Hold}
use Rattle.run_laws.specs.replaying.Scripts.{grants}
use Rattle.run_laws.specs.replaying.Copies.{Copy, Based, Saying, Controlling, Handing, under}
use Rattle.run_laws.specs.replaying.Rewritings.{Setting, control, idle, left, twin}
use Rattle.run_laws.specs.replaying.Laws.{back}
use Rattle.run_laws.specs.replaying.inner.Stages.{image, image_seat, IsReached, Stage, Held, Giving, Asked, Acted, Told, Parted, Over, Away, Asks, Holds, Says, Hears, Gone, place, member, SeatAt, ControlAt, behind_event, Fits, Inv}
use Rattle.run_laws.proofs.replaying.Facts.{put, put_each, put_other, put_self, below_apart}
use Rattle.run_laws.proofs.replaying.Images.{image_beyond, image_keeps}
use Rattle.run_laws.proofs.replaying.Reached.{after_all}
use Rattle.run_laws.proofs.replaying.Afterwards.{Matched}
use Rattle.run_laws.proofs.replaying.Situations.{Situation}
use Rattle.run_laws.proofs.replaying.Singles.{Moves}
use Rattle.common_lemmas.proofs.Numbers.{equal_self, unequal_above}

-- a rendezvous that starts: the acceptor is so, and the caller is served
abbrev pub met_with : {L : Type 0} → (ℕ → Seat L) → ℕ → ℕ → L → ℕ → Seat L
met_with tasks c o k = put (put tasks o (live k)) c (record { local = (put tasks o (live k) c).local; standing = Served o false })

pub met_is : {L : Type 0} (tasks : ℕ → Seat L) (c o : ℕ) (k : L) → (c == o) ≡ false →
    met_with tasks c o k ≡ put (put tasks o (live k)) c (record { local = (tasks c).local; standing = Served o false })
met_is {L} tasks c o k q = ap (λ (y : Seat L). put (put tasks o (live k)) c (record { local = y.local; standing = Served o false })) (put_other tasks o c (live k) q)

module _ (x : Setting) where
  pub matched_silent : (past : List Event) (w : World (Copy x.L)) (e : Event) → back x e ≡ None → Situation x w e → Matched x past (moved (twin x) w (Happen e)) → Moves x past w e
  matched_silent past w e h at m = (at, subst (λ es. Matched x es (moved (twin x) w (Happen e))) (sym (append-nil past) ∙ ap (λ (o : Option Event). past ++ cons_option o []) (sym h)) m)

  -- What the original does not see.
  pub unseen : (past rest : List Event) (stage next : Stage) (w : World (Copy x.L)) (tasks : ℕ → Seat (Copy x.L)) → Inv x past rest stage w → image x tasks ≡ image x w.tasks →
      tasks (idle x) ≡ w.tasks (idle x) → ((t : ℕ) → suc (suc x.p.size) ≤ t → tasks t ≡ w.tasks t) →
      Fits x (after_all x past) rest next (record { tasks = tasks; ended = w.ended }) → ControlAt x (after_all x past) rest next (tasks (control x)) →
      ((t : ℕ) → t < x.p.size → SeatAt x (place next t) t (tasks t)) → Inv x past rest next (record { tasks = tasks; ended = w.ended })
  unseen past rest stage next w tasks inv is idles beyond fits controls seats = record {
    splits = inv.splits;
    reached = subst (IsReached x past) (λ i. record { tasks = sym is i; ended = w.ended }) inv.reached;
    fits = fits;
    controls = controls;
    idles = idles ∙ inv.idles;
    seats = seats;
    beyond = λ t l. ap (λ (y : Seat (Copy x.L)). is_completed y.standing) (beyond t l) ∙ inv.beyond t l;
  }

  -- ---- where the controller is

  controlling : {ops more : List Op} → live {L = Copy x.L} (Controlling ops) ≡ live (Controlling more) → ops ≡ more
  controlling {ops} {more} h = let k : ◌≡◌ {A = Copy x.L} (Controlling ops) (Controlling more) = ap (λ (y : Seat (Copy x.L)). y.local) h in cc

  not_handing : {op : Op} {ops more : List Op} → live {L = Copy x.L} (Handing op ops) ≡ live (Controlling more) → ⊥
  not_handing {op} {ops} {more} h = let k : ◌≡◌ {A = Copy x.L} (Handing op ops) (Controlling more) = ap (λ (y : Seat (Copy x.L)). y.local) h in cc

  not_over : {seat : Seat (Copy x.L)} {ops : List Op} → seat.standing ≡ Completed → seat ≡ live (Controlling ops) → ⊥
  not_over {seat} {ops} h k = let q : Completed ≡ Live = sym h ∙ ap (λ (y : Seat (Copy x.L)). y.standing) k in cc

  -- the operations behind the permits of an event do not begin with one
  pub behind_no_go : (g : x.G) (e : Event) (tail : List Event) (t : ℕ) (permit : Permit) (ops : List Op) → behind_event x g e tail ≡ Go t permit ∷ ops → ⊥
  behind_no_go g (R c e i) tail t permit ops h = cc
  behind_no_go g (E a) tail t permit ops h = cc
  behind_no_go g (S a) tail t permit ops h = cc
  behind_no_go g (D a k) tail t permit ops h = cc
  behind_no_go g (C c e i) tail t permit ops h = cc
  behind_no_go g (T c e i) tail t permit ops h = cc
  behind_no_go g (F c e i) tail t permit ops h = cc
  behind_no_go g (X a) tail t permit ops h = cc
  behind_no_go g (B u v) tail t permit ops h = go (v == u) h
    where
      go : (b : Bool) → (if b then Join u else Done u) ∷ left x (x.progress.advance g (B u v)) tail ≡ Go t permit ∷ ops → ⊥
      go true h = cc
      go false h = cc
  behind_no_go g Z tail t permit ops h = cc

  -- The controller is before a permit.
  pub record GoesTo (past rest : List Event) (stage : Stage) (t : ℕ) (permit : Permit) (ops : List Op) : Type 0 where
    pub e : Event
    pub tail : List Event
    pub given : List ℕ
    pub more : List ℕ
    pub is : stage ≡ Giving e tail given (t ∷ more)
    pub permits : permit ≡ permit_of e
    pub later : ops ≡ grants (permit_of e) more (behind_event x (after_all x past) e tail)

  pub goes_to : (past rest : List Event) (stage : Stage) (w : World (Copy x.L)) (t : ℕ) (permit : Permit) (ops : List Op) → w.ended ≡ false →
      Fits x (after_all x past) rest stage w → ControlAt x (after_all x past) rest stage (w.tasks (control x)) → w.tasks (control x) ≡ live (Controlling (Go t permit ∷ ops)) →
      GoesTo past rest stage t permit ops
  goes_to past rest Held w t permit ops runs f k h = absurd (let q : Hold ∷ [] ≡ Go t permit ∷ ops = controlling (sym k ∙ h) in cc)
  goes_to past rest (Giving e tail given []) w t permit ops runs f k h = ⊎_elim
      (λ q. absurd (behind_no_go (after_all x past) e tail t permit ops (controlling (sym q ∙ h))))
      (λ q. absurd (not_over q.1 h)) k
  goes_to past rest (Giving e tail given (u ∷ more)) w t permit ops runs f k h = ⊎_elim
      (λ q. let r : Go u (permit_of e) ∷ grants (permit_of e) more (behind_event x (after_all x past) e tail) ≡ Go t permit ∷ ops = controlling (sym q ∙ h) in
      let at : u ≡ t = cc in let same : permit_of e ≡ permit = cc in let rest' : grants (permit_of e) more (behind_event x (after_all x past) e tail) ≡ ops = cc in
      record { e = e; tail = tail; given = given; more = more; is = ap (λ v. Giving e tail given (v ∷ more)) at; permits = sym same; later = sym rest' })
      (λ q. absurd (not_over q.1 h)) k
  goes_to past rest (Asked e tail given b more) w t permit ops runs f k h = absurd (not_handing (sym k ∙ h))
  goes_to past rest (Acted b) w t permit ops runs f k h = absurd (let q : Done b ∷ left x (after_all x past) rest ≡ Go t permit ∷ ops = controlling (sym k ∙ h) in cc)
  goes_to past rest (Told b) w t permit ops runs f k h = absurd (not_handing (sym k ∙ h))
  goes_to past rest (Parted b) w t permit ops runs f k h = absurd (let q : Join b ∷ left x (after_all x past) rest ≡ Go t permit ∷ ops = controlling (sym k ∙ h) in cc)
  goes_to past rest Over w t permit ops runs f k h = absurd (true≢false (sym f ∙ runs))

  -- a task that is to say that it has acted
  says_if : (b : Bool) → (if b then Says else Away) ≡ Says → b ≡ true
  says_if true h = refl
  says_if false h = absurd (let k : Away ≡ Says = h in cc)

  pub says_acted : (stage : Stage) (a : ℕ) → place stage a ≡ Says → stage ≡ Acted a
  says_acted Held a h = absurd (let k : Away ≡ Says = h in cc)
  says_acted (Giving e tail given more) a h = go (member a given) h
    where
      go : (b : Bool) → (if b then Holds (permit_of e) else Away) ≡ Says → Giving e tail given more ≡ Acted a
      go true k = absurd (let q : Holds (permit_of e) ≡ Says = k in cc)
      go false k = absurd (let q : Away ≡ Says = k in cc)
  says_acted (Asked e tail given b more) a h = go (a == b) h
    where
      go : (c : Bool) → (if c then Asks else (if member a given then Holds (permit_of e) else Away)) ≡ Says → Asked e tail given b more ≡ Acted a
      go true k = absurd (let q : Asks ≡ Says = k in cc)
      go false k = inner (member a given) k
        where
          inner : (c : Bool) → (if c then Holds (permit_of e) else Away) ≡ Says → Asked e tail given b more ≡ Acted a
          inner true r = absurd (let q : Holds (permit_of e) ≡ Says = r in cc)
          inner false r = absurd (let q : Away ≡ Says = r in cc)
  says_acted (Acted b) a h = ap (λ v. Acted v) (sym (eqb-true a b (says_if (a == b) h)))
  says_acted (Told b) a h = go (a == b) h
    where
      go : (c : Bool) → (if c then Hears else Away) ≡ Says → Told b ≡ Acted a
      go true k = absurd (let q : Hears ≡ Says = k in cc)
      go false k = absurd (let q : Away ≡ Says = k in cc)
  says_acted (Parted b) a h = absurd (let k : Away ≡ Says = h in cc)
  says_acted Over a h = absurd (let k : Gone ≡ Says = h in cc)

  -- ---- the controller meets a task

  module _ (past rest : List Event) (w : World (Copy x.L)) (c : ℕ) (below : c < x.p.size) where
    -- a task that the controller serves, and the controller before its accept body
    abbrev pub served_tasks : Copy x.L → Copy x.L → ℕ → Seat (Copy x.L)
    served_tasks k own = put (put w.tasks (control x) (live k)) c (record { local = own; standing = Served (control x) false })

    apart : (control x == c) ≡ false
    apart = unequal_above (control x) c below

    served_outside : (k own : Copy x.L) (t : ℕ) → control x < t → served_tasks k own t ≡ w.tasks t
    served_outside k own t l = put_other (put w.tasks (control x) (live k)) c t (record { local = own; standing = Served (control x) false }) (unequal_above t c (omega (arith, l, below))) ∙
        put_other w.tasks (control x) t (live k) (unequal_above t (control x) l)

    served_control : (k own : Copy x.L) → served_tasks k own (control x) ≡ live k
    served_control k own = put_other (put w.tasks (control x) (live k)) c (control x) (record { local = own; standing = Served (control x) false }) apart ∙
        put_self w.tasks (control x) (live k)

    pub served_image : (k own : Copy x.L) → w.tasks c ≡ live own → image x (served_tasks k own) ≡ image x w.tasks
    served_image k own at =
        image_keeps x (put w.tasks (control x) (live k)) c (record { local = own; standing = Served (control x) false })
        (ap (λ b. record { local = under x.p.ops.nobody own; standing = (if b then Live else Served (control x) false) }) (equal_self (control x)) ∙
        ap (image_seat x) (sym at ∙ sym (put_other w.tasks (control x) c (live k) (below_apart c (control x) below)))) ∙
        image_beyond x w.tasks (control x) (live k) (omega arith)

    served_seats : (k own : Copy x.L) (P : ℕ → Seat (Copy x.L) → Type 0) → ((u : ℕ) → (u == c) ≡ true → P u (record { local = own; standing = Served (control x) false })) →
        ((u : ℕ) → u < x.p.size → (u == c) ≡ false → P u (w.tasks u)) → (u : ℕ) → u < x.p.size → P u (served_tasks k own u)
    served_seats k own P at others u l = put_each P (put w.tasks (control x) (live k)) c (record { local = own; standing = Served (control x) false }) u (at u)
        (λ q. subst (P u) (sym (put_other w.tasks (control x) u (live k) (below_apart u (control x) l))) (others u l q))

    -- it asks for its permit
    pub asks : (l : x.L) (e : Event) (tail : List Event) (given more : List ℕ) → Inv x past rest (Giving e tail given (c ∷ more)) w → w.tasks c ≡ live (Based c l) →
        x.p.ops.can_step l ≡ false →
        Inv x past rest (Asked e tail given c more)
        (record { tasks = served_tasks (Handing (Go c (permit_of e)) (grants (permit_of e) more (behind_event x (after_all x past) e tail))) (Based c l); ended = w.ended })
    asks l e tail given more inv at rests =
        let k : Copy x.L = Handing (Go c (permit_of e)) (grants (permit_of e) more (behind_event x (after_all x past) e tail)) in
        unseen past rest (Giving e tail given (c ∷ more)) (Asked e tail given c more) w (served_tasks k (Based c l)) inv
        (served_image k (Based c l) at) (served_outside k (Based c l) (idle x) (omega arith)) (λ t m. served_outside k (Based c l) t (omega (arith, m)))
        (inv.fits.0, inv.fits.1, inv.fits.2, inv.fits.3, below) (served_control k (Based c l))
        (served_seats k (Based c l) (λ u seat. SeatAt x (place (Asked e tail given c more) u) u seat)
        (λ u q. subst (λ b. SeatAt x (if b then Asks else (if member u given then Holds (permit_of e) else Away)) u (record { local = Based c l; standing = Served (control x) false })) (sym q)
        (l, ap (λ v. record { local = Based v l; standing = Served (control x) false }) (sym (eqb-true u c q)), rests))
        (λ u m q. subst (λ b. SeatAt x (if b then Asks else (if member u given then Holds (permit_of e) else Away)) u (w.tasks u)) (sym q) (inv.seats u m)))

    -- it says that it has acted
    pub tells : (l : x.L) → Inv x past rest (Acted c) w → w.tasks c ≡ live (Saying c l) →
        Inv x past rest (Told c) (record { tasks = served_tasks (Handing (Done c) (left x (after_all x past) rest)) (Saying c l); ended = w.ended })
    tells l inv at =
        let k : Copy x.L = Handing (Done c) (left x (after_all x past) rest) in
        unseen past rest (Acted c) (Told c) w (served_tasks k (Saying c l)) inv
        (served_image k (Saying c l) at) (served_outside k (Saying c l) (idle x) (omega arith)) (λ t m. served_outside k (Saying c l) t (omega (arith, m)))
        (inv.fits.0, inv.fits.1) (served_control k (Saying c l))
        (served_seats k (Saying c l) (λ u seat. SeatAt x (place (Told c) u) u seat)
        (λ u q. subst (λ b. SeatAt x (if b then Hears else Away) u (record { local = Saying c l; standing = Served (control x) false })) (sym q)
        (l, ap (λ v. record { local = Saying v l; standing = Served (control x) false }) (sym (eqb-true u c q))))
        (λ u m q. subst (λ b. SeatAt x (if b then Hears else Away) u (w.tasks u)) (sym q)
        (subst (λ b. SeatAt x (if b then Says else Away) u (w.tasks u)) q (inv.seats u m))))
