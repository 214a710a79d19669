-- What an abort makes of each task, for the tasks of any program.
use Rattle.std.proofs.Common.{◌≡◌, ℕ, Bool, true, false, ◌==◌, if◌then◌else◌, refl, sym, ap, ◌∙◌, ⊎_elim, true≢false}
use Rattle.std.proofs.lemmas.Bool.{eqb-true, cases_Bool}
use Rattle.event_machine.specs.declared.Standing.{Standing}
use Rattle.event_machine.specs.declared.Standing.TheVariants.{Live, Waiting, Queued, Served, Completed, Killed}
use Rattle.event_machine.specs.States.{Seat, live, completed, is_closed, is_served_by, is_abnormal}
use Rattle.event_machine.specs.Effects.{fallen, abort_seats}
use Rattle.event_machine.specs.Programs.{Program, numbered}
use Rattle.event_machine.specs.Soundness.{IsSound}
use Rattle.event_machine.proofs.Standings.{served_closed}
use Rattle.run_laws.proofs.replaying.Facts.{put, put_self, put_other, let_go, let_go_other, let_go_served}
use Rattle.run_laws.proofs.replaying.Aborting.{fell, abort_closed, abort_open, abort_self}
use Rattle.common_lemmas.proofs.Numbers.{unequal_turned}

-- who is closed stays so
fallen_same : (s : Standing) → is_closed s ≡ true → fallen Killed s ≡ s
fallen_same Live h = absurd (true≢false (sym h))
fallen_same Waiting h = absurd (true≢false (sym h))
fallen_same Queued h = absurd (true≢false (sym h))
fallen_same (Served by abnormal) h = ap (Served by) (sym h)
fallen_same Completed h = refl
fallen_same Killed h = refl

-- the task v as it is aborted by another
abbrev pub fallen_seat : {L : Type 0} → Seat L → Seat L
fallen_seat seat = record { local = seat.local; standing = fallen Killed seat.standing }

-- who is let go is closed where it was
pub let_go_closed_same : {L : Type 0} (f : L → L) (a : ℕ) (seat : Seat L) → is_closed (let_go f a seat).standing ≡ is_closed seat.standing
let_go_closed_same {L} f a seat = ⊎_elim
    (λ h. ap (λ (y : Seat L). is_closed y.standing) (let_go_served f a seat h) ∙ go (is_abnormal seat.standing) (served_closed a seat.standing h))
    (λ h. ap (λ (y : Seat L). is_closed y.standing) (let_go_other f a seat h))
    (cases_Bool (is_served_by a seat.standing))
  where
    go : (b : Bool) → is_closed seat.standing ≡ b → is_closed (if b then completed seat.local else live (f seat.local)).standing ≡ is_closed seat.standing
    go true q = sym q
    go false q = sym q

-- and is served by nobody, where it was served by that task
pub let_go_free : {L : Type 0} (f : L → L) (a u : ℕ) (seat : Seat L) → is_served_by a seat.standing ≡ true → is_served_by u (let_go f a seat).standing ≡ false
let_go_free {L} f a u seat h = ap (λ (y : Seat L). is_served_by u y.standing) (let_go_served f a seat h) ∙ go (is_abnormal seat.standing)
  where
    go : (b : Bool) → is_served_by u (if b then completed seat.local else live (f seat.local)).standing ≡ false
    go true = refl
    go false = refl

module _ {L : Type 0} (p : Program L) {P : L → Type 0} (tasks : ℕ → Seat L) (sound : IsSound p.ops P tasks) (t v : ℕ) (k : L) (free : tasks t ≡ live k) where
  abbrev then' : ℕ → Seat L
  then' = abort_seats (numbered p) tasks t v

  abbrev passed : Seat L
  passed = live (p.ops.passed k)

  -- who is served by a closed task is nobody
  none_of : is_closed (tasks v).standing ≡ true → (u : ℕ) → is_served_by v (tasks u).standing ≡ false
  none_of h u = sound.closed v u h

  own_none : is_served_by v (tasks v).standing ≡ false
  own_none = sound.itself v

  module _ (other : (v == t) ≡ false) where
    gone : is_closed (tasks v).standing ≡ true → then' ≡ put tasks t passed
    gone h = abort_closed p tasks t v h other ∙ ap (λ (y : Seat L). put tasks t (live (p.ops.passed y.local))) free

    open_is : is_closed (tasks v).standing ≡ false → then' ≡ fell p.ops.raised (put tasks t passed) v Killed
    open_is h = abort_open p tasks t v h other ∙ ap (λ (y : Seat L). fell p.ops.raised (put tasks t (live (p.ops.passed y.local))) v Killed) free

    pub struck_self : then' t ≡ passed
    struck_self = ⊎_elim
        (λ h. ap (λ (f : ℕ → Seat L). f t) (gone h) ∙ put_self tasks t passed)
        (λ h. ap (λ (f : ℕ → Seat L). f t) (open_is h) ∙
        put_other (λ u. let_go p.ops.raised v (put tasks t passed u)) v t (record {
          local = (let_go p.ops.raised v (put tasks t passed v)).local;
          standing = fallen Killed
              (let_go p.ops.raised v (put tasks t passed v)).standing;
        })
        (unequal_turned v t other) ∙
        ap (let_go p.ops.raised v) (put_self tasks t passed))
        (cases_Bool (is_closed (tasks v).standing))

    pub struck_victim : then' v ≡ fallen_seat (tasks v)
    struck_victim = ⊎_elim
        (λ h. ap (λ (f : ℕ → Seat L). f v) (gone h) ∙ put_other tasks t v passed other ∙ ap (λ s. record { local = (tasks v).local; standing = s }) (sym (fallen_same (tasks v).standing h)))
        (λ h. ap (λ (f : ℕ → Seat L). f v) (open_is h) ∙
        put_self (λ u. let_go p.ops.raised v (put tasks t passed u)) v (record {
          local = (let_go p.ops.raised v (put tasks t passed v)).local;
          standing = fallen Killed
              (let_go p.ops.raised v (put tasks t passed v)).standing;
        }) ∙
        ap (λ (y : Seat L). fallen_seat (let_go p.ops.raised v y)) (put_other tasks t v passed other) ∙ ap (λ (y : Seat L). fallen_seat y) (let_go_other p.ops.raised v (tasks v) own_none))
        (cases_Bool (is_closed (tasks v).standing))

    pub struck_other : (u : ℕ) → (u == t) ≡ false → (u == v) ≡ false → then' u ≡ let_go p.ops.raised v (tasks u)
    struck_other u q r = ⊎_elim
        (λ h. ap (λ (f : ℕ → Seat L). f u) (gone h) ∙ put_other tasks t u passed q ∙ sym (let_go_other p.ops.raised v (tasks u) (none_of h u)))
        (λ h. ap (λ (f : ℕ → Seat L). f u) (open_is h) ∙
        put_other (λ u. let_go p.ops.raised v (put tasks t passed u)) v u (record {
          local = (let_go p.ops.raised v (put tasks t passed v)).local;
          standing = fallen Killed
              (let_go p.ops.raised v (put tasks t passed v)).standing;
        }) r ∙
        ap (let_go p.ops.raised v) (put_other tasks t u passed q))
        (cases_Bool (is_closed (tasks v).standing))

  -- it aborts itself
  module _ (self : (v == t) ≡ true) where
    free_v : tasks v ≡ live k
    free_v = ap tasks (eqb-true v t self) ∙ free

    own_is : then' ≡ fell p.ops.raised tasks v Completed
    own_is = abort_self p tasks t v (ap (λ (y : Seat L). is_closed y.standing) free_v) self

    pub own_self : then' v ≡ completed k
    own_self = ap (λ (f : ℕ → Seat L). f v) own_is ∙
        put_self (λ u. let_go p.ops.raised v (tasks u)) v (record { local = (let_go p.ops.raised v (tasks v)).local; standing = fallen Completed (let_go p.ops.raised v (tasks v)).standing }) ∙
        ap (λ (y : Seat L). record { local = (let_go p.ops.raised v y).local; standing = fallen Completed (let_go p.ops.raised v y).standing }) free_v

    pub own_other : (u : ℕ) → (u == v) ≡ false → then' u ≡ let_go p.ops.raised v (tasks u)
    own_other u r = ap (λ (f : ℕ → Seat L). f u) own_is ∙
        put_other (λ u. let_go p.ops.raised v (tasks u)) v u (record { local = (let_go p.ops.raised v (tasks v)).local; standing = fallen Completed (let_go p.ops.raised v (tasks v)).standing }) r
