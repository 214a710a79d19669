-- Small facts on tests, and on what writes of tasks by their numbers leave.
use Rattle.std.proofs.Common.{◌≡◌, ℕ, ◌<◌, Bool, true, false, ◌==◌, if◌then◌else◌, refl, ap, ◌∙◌, arith}
use Rattle.std.proofs.lemmas.Bool.{ne_eqb, and_parts}
use Rattle.event_machine.specs.Offers.{Offer}
use Rattle.event_machine.specs.States.{Ops, Seat, live, completed, is_live, is_served_by, is_abnormal}
use Rattle.event_machine.specs.Worlds.{offers}
use Rattle.common_lemmas.proofs.Numbers.{equal_self}

pub below_apart : (m n : ℕ) → m < n → (m == n) ≡ false
below_apart m n l = ne_eqb m n (λ e. omega (arith, l, e))

-- a write of one task
abbrev pub put : {A : Type 0} → (ℕ → A) → ℕ → A → ℕ → A
put tasks t seat u = if u == t then seat else tasks u

pub put_at : {A : Type 0} (tasks : ℕ → A) (t u : ℕ) (seat : A) → (u == t) ≡ true → put tasks t seat u ≡ seat
put_at tasks t u seat e = ap (λ b. if b then seat else tasks u) e

pub put_self : {A : Type 0} (tasks : ℕ → A) (t : ℕ) (seat : A) → put tasks t seat t ≡ seat
put_self tasks t seat = put_at tasks t t seat (equal_self t)

pub put_other : {A : Type 0} (tasks : ℕ → A) (t u : ℕ) (seat : A) → (u == t) ≡ false → put tasks t seat u ≡ tasks u
put_other tasks t u seat e = ap (λ b. if b then seat else tasks u) e

-- what holds of the written task, and of each other one, holds of each
pub put_each : {A : Type 0} (P : ℕ → A → Type 0) (tasks : ℕ → A) (t : ℕ) (seat : A) (u : ℕ) → ((u == t) ≡ true → P u seat) → ((u == t) ≡ false → P u (tasks u)) →
    P u (put tasks t seat u)
put_each P tasks t seat u h k = go (u == t) refl
  where
    go : (b : Bool) → (u == t) ≡ b → P u (if b then seat else tasks u)
    go true e = h e
    go false e = k e

-- a caller as its rendezvous with a ends: an abnormal one completes, another goes on by f
abbrev pub let_go : {L : Type 0} → (L → L) → ℕ → Seat L → Seat L
let_go f a seat =
    if is_served_by a seat.standing
    then (if is_abnormal seat.standing then completed seat.local else live (f seat.local))
    else seat

pub let_go_other : {L : Type 0} (f : L → L) (a : ℕ) (seat : Seat L) → is_served_by a seat.standing ≡ false → let_go f a seat ≡ seat
let_go_other f a seat q = ap (λ b. if b then (if is_abnormal seat.standing then completed seat.local else live (f seat.local)) else seat) q

pub let_go_served : {L : Type 0} (f : L → L) (a : ℕ) (seat : Seat L) → is_served_by a seat.standing ≡ true →
    let_go f a seat ≡ (if is_abnormal seat.standing then completed seat.local else live (f seat.local))
let_go_served f a seat q = ap (λ b. if b then (if is_abnormal seat.standing then completed seat.local else live (f seat.local)) else seat) q

-- what a test on the offer of a free task says
pub offers_live : {L : Type 0} (ops : Ops L) (test : Offer → Bool) (seat : Seat L) → offers ops test seat ≡ true →
    (is_live seat.standing ≡ true) × (test (ops.offer seat.local) ≡ true)
offers_live ops test seat h = and_parts (is_live seat.standing) (test (ops.offer seat.local)) h

pub offers_at : {L : Type 0} (ops : Ops L) (test : Offer → Bool) (seat : Seat L) (l : L) → seat ≡ live l → test (ops.offer l) ≡ true → offers ops test seat ≡ true
offers_at ops test seat l e h = ap (offers ops test) e ∙ h
