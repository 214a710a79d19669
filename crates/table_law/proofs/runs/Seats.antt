-- What one move makes of a task that nobody serves.
use Rattle.std.proofs.Common.{◌≡◌, ℕ, Bool, true, false, not, ◌&&◌, ◌==◌, if◌then◌else◌, List, [], ◌∷◌, refl, sym, ap, ◌∙◌, subst}
use Rattle.std.specs.Prelude.{ℤ}
use Rattle.std.proofs.lemmas.Bool.{eqb-true, and_parts}
use Rattle.common_lemmas.proofs.Truth.{clash}
use Rattle.event_machine.specs.declared.Standing.{Standing}
use Rattle.event_machine.specs.declared.Standing.TheVariants.{Live, Waiting, Queued, Served, Completed, Killed}
use Rattle.event_machine.specs.declared.Event.{Event}
use Rattle.event_machine.specs.declared.Event.TheVariants.{R, E, S, D, C, T, F, X, B, Z}
use Rattle.event_machine.specs.Offers.{Offer, calls_in, is_any_form, is_conditional, is_timed, waits_with, is_finish, opens, is_else, is_delay}
use Rattle.event_machine.specs.States.{Seat, live, completed, is_live, is_closed, is_served, is_abnormal}
use Rattle.event_machine.specs.Effects.{freed, stand, met_at, parted, released_first, parted_both, released, fallen, aborted, went_on, abort_seats}
use Rattle.event_machine.specs.Programs.{Program, numbered}
use Rattle.event_machine.specs.Worlds.{World, Move, Step, Happen, can_move, moved, happens, acted, offers, aborts}
use Rattle.event_machine.proofs.Offering.{calls_waits}
use Rattle.event_machine.proofs.Effected.{unserved_by}

-- nobody serves a task that is live, and one that falls is served by nobody if it was not
fallen-unserved : (closing z : Standing) → is_served closing ≡ false → is_served z ≡ false → is_served (fallen closing z) ≡ false
fallen-unserved closing Live c h = c
fallen-unserved closing Waiting c h = c
fallen-unserved closing Queued c h = c
fallen-unserved closing (Served by abnormal) c h = clash (sym h)
fallen-unserved closing Completed c h = refl
fallen-unserved closing Killed c h = refl

module _ {L : Type 0} (p : Program L) (w : World L) (u : ℕ) where
  -- What the move makes of the task u, by what it offers.
  pub data Becomes (move : Move) : Seat L → Type 0 where
    stays : (z : Standing) → is_served z ≡ false → Becomes move (record { local = (w.tasks u).local; standing = z })
    steps : move ≡ Step u → p.ops.can_step (w.tasks u).local ≡ true → Becomes move (live (p.ops.stepped (w.tasks u).local))
    accepts : (c e : ℕ) (i : ℤ) → move ≡ Happen (R c e i) → waits_with (opens e i) (p.ops.offer (w.tasks u).local) ≡ true →
        Becomes move (live (p.ops.accepted e i c (w.tasks c).local (w.tasks u).local))
    meets : (e : ℕ) (i : ℤ) (z : Standing) → calls_in is_any_form e i (p.ops.offer (w.tasks u).local) ≡ true → offers p.ops (waits_with (opens e i)) (w.tasks (p.owner e)) ≡ true →
        Becomes move (record { local = (w.tasks u).local; standing = z })
    ends : move ≡ Happen (E u) → is_finish (p.ops.offer (w.tasks u).local) ≡ true → Becomes move (live (p.ops.finished (w.tasks u).local))
    takes_else : waits_with is_else (p.ops.offer (w.tasks u).local) ≡ true → Becomes move (live (p.ops.took_else (w.tasks u).local))
    takes_delay : (n : ℕ) → waits_with (is_delay n) (p.ops.offer (w.tasks u).local) ≡ true → Becomes move (live (p.ops.took_delay n (w.tasks u).local))
    calls_else : (e : ℕ) (i : ℤ) → calls_in is_conditional e i (p.ops.offer (w.tasks u).local) ≡ true → Becomes move (live (p.ops.took_else (w.tasks u).local))
    expires : (e : ℕ) (i : ℤ) → calls_in is_timed e i (p.ops.offer (w.tasks u).local) ≡ true → Becomes move (live (p.ops.took_delay 1 (w.tasks u).local))
    fails : (e : ℕ) (i : ℤ) → move ≡ Happen (F u e i) → calls_in is_any_form e i (p.ops.offer (w.tasks u).local) ≡ true → Becomes move (live (p.ops.raised (w.tasks u).local))
    passes : (x : ℕ) → aborts x (p.ops.offer (w.tasks u).local) ≡ true → Becomes move (live (p.ops.passed (w.tasks u).local))

  module _ (unserved : is_served (w.tasks u).standing ≡ false) (move : Move) where
    itself : Becomes move (w.tasks u)
    itself = stays (w.tasks u).standing unserved

    -- a task t is live, changed by f
    at-freed : (f : L → L) (t : ℕ) → (u ≡ t → Becomes move (live (f (w.tasks u).local))) → Becomes move (freed (numbered p).store f w.tasks t u)
    at-freed f t there = go (u == t) refl
      where
        go : (b : Bool) → (u == t) ≡ b → Becomes move (if b then live (f (w.tasks t).local) else w.tasks u)
        go true e = let same : u ≡ t = eqb-true u t e in subst (λ (v : ℕ). Becomes move (live (f (w.tasks v).local))) same (there same)
        go false e = itself

    freed-unserved : (f : L → L) (t : ℕ) → is_served (freed (numbered p).store f w.tasks t u).standing ≡ false
    freed-unserved f t = go (u == t)
      where
        go : (b : Bool) → is_served (if b then live (f (w.tasks t).local) else w.tasks u).standing ≡ false
        go true = refl
        go false = unserved

    -- what is so of the task t by number is so of the task u
    offers-there : (test : Offer → Bool) (t : ℕ) → u ≡ t → offers p.ops test (w.tasks t) ≡ true → test (p.ops.offer (w.tasks u).local) ≡ true
    offers-there test t same h = (and_parts (is_live (w.tasks u).standing) (test (p.ops.offer (w.tasks u).local)) (subst (λ (v : ℕ). offers p.ops test (w.tasks v) ≡ true) (sym same) h)).1

    -- ---- a rendezvous begins

    at-met : (c e : ℕ) (i : ℤ) → move ≡ Happen (R c e i) → offers p.ops (calls_in is_any_form e i) (w.tasks c) ≡ true → offers p.ops (waits_with (opens e i)) (w.tasks (p.owner e)) ≡ true →
        Becomes move (met_at (numbered p) w.tasks c e i u)
    at-met c e i is calls waits = go (u == c) refl (c == p.owner e) refl
      where
        go : (b : Bool) → (u == c) ≡ b → (d : Bool) → (c == p.owner e) ≡ d →
            Becomes move
            (if b then record { local = (if d then live (p.ops.accepted e i c (w.tasks c).local (w.tasks (p.owner e)).local) else w.tasks c).local; standing = Served (p.owner e) false }
            else freed (numbered p).store (p.ops.accepted e i c (w.tasks c).local) w.tasks (p.owner e) u)
        go false e1 d e2 = at-freed (p.ops.accepted e i c (w.tasks c).local) (p.owner e) (λ same. accepts c e i is (offers-there (waits_with (opens e i)) (p.owner e) same waits))
        go true e1 true e2 =
            let same : c ≡ p.owner e = eqb-true c (p.owner e) e2 in
            let its = (and_parts (is_live (w.tasks c).standing) (calls_in is_any_form e i (p.ops.offer (w.tasks c).local)) calls).1 in
            let other = (and_parts (is_live (w.tasks c).standing) (waits_with (opens e i) (p.ops.offer (w.tasks c).local)) (subst (λ (v : ℕ). offers p.ops (waits_with (opens e i)) (w.tasks v) ≡ true) (sym same) waits)).1 in
            absurd (calls_waits is_any_form (opens e i) e i (p.ops.offer (w.tasks c).local) its other)
        go true e1 false e2 =
            let same : u ≡ c = eqb-true u c e1 in
            subst (λ (v : ℕ). Becomes move (record { local = (w.tasks v).local; standing = Served (p.owner e) false })) same
            (meets e i (Served (p.owner e) false) (offers-there (calls_in is_any_form e i) c same calls) waits)

    -- ---- a rendezvous ends

    at-parted : (a : ℕ) → move ≡ Happen (E a) → offers p.ops is_finish (w.tasks a) ≡ true → Becomes move (parted_both (numbered p) w.tasks a u)
    at-parted a is finishes = go (p.ops.callers (w.tasks a).local)
      where
        there : Becomes move (freed (numbered p).store p.ops.finished w.tasks a u)
        there = at-freed p.ops.finished a (λ same. ends (is ∙ ap (λ (v : ℕ). Happen (E v)) (sym same)) (offers-there is_finish a same finishes))

        kept : (acceptor : L) → Becomes move (parted p.ops a acceptor (freed (numbered p).store p.ops.finished w.tasks a u))
        kept acceptor =
            let seat : Seat L = freed (numbered p).store p.ops.finished w.tasks a u in
            subst (Becomes move)
            (sym (ap (λ (b : Bool). if b then (if is_abnormal seat.standing then completed seat.local else live (p.ops.resumed acceptor seat.local)) else seat) (unserved_by p a seat.standing (freed-unserved p.ops.finished a))))
            there

        at-first : (c : ℕ) (acceptor : L) (b : Bool) → (u == c) ≡ b →
            Becomes move (if b then parted p.ops a acceptor (freed (numbered p).store p.ops.finished w.tasks a c) else freed (numbered p).store p.ops.finished w.tasks a u)
        at-first c acceptor true e = subst (λ (v : ℕ). Becomes move (parted p.ops a acceptor (freed (numbered p).store p.ops.finished w.tasks a v))) (eqb-true u c e) (kept acceptor)
        at-first c acceptor false e = there

        go : (callers : List ℕ) → Becomes move (released_first (numbered p) a (w.tasks a).local callers (freed (numbered p).store p.ops.finished w.tasks a) u)
        go [] = there
        go (c ∷ callers) = at-first c (w.tasks a).local (u == c) refl

    -- ---- completing, and aborts

    at-stand : (t : ℕ) (z : Standing) → is_served z ≡ false → Becomes move (stand (numbered p).store w.tasks t z u)
    at-stand t z h = go (u == t) refl
      where
        go : (b : Bool) → (u == t) ≡ b → Becomes move (if b then record { local = (w.tasks t).local; standing = z } else w.tasks u)
        go true e = subst (λ (v : ℕ). Becomes move (record { local = (w.tasks v).local; standing = z })) (eqb-true u t e) (stays z h)
        go false e = itself

    -- the task as another one goes on to its next name
    at-went : (t x : ℕ) → offers p.ops (aborts x) (w.tasks t) ≡ true → Becomes move (went_on (numbered p) w.tasks t x u)
    at-went t x h = go (x == t)
      where
        go : (b : Bool) → Becomes move (if◌then◌else◌ {A = ℕ → Seat L} b w.tasks (freed (numbered p).store p.ops.passed w.tasks t) u)
        go true = itself
        go false = at-freed p.ops.passed t (λ same. passes x (offers-there (aborts x) t same h))

    went-unserved : (t x : ℕ) → is_served (went_on (numbered p) w.tasks t x u).standing ≡ false
    went-unserved t x = go (x == t)
      where
        go : (b : Bool) → is_served (if◌then◌else◌ {A = ℕ → Seat L} b w.tasks (freed (numbered p).store p.ops.passed w.tasks t) u).standing ≡ false
        go true = unserved
        go false = freed-unserved p.ops.passed t

    -- the task that is aborted itself is as it was before
    went-self : (t x : ℕ) → u ≡ x → went_on (numbered p) w.tasks t x u ≡ w.tasks u
    went-self t x same = go (x == t) refl
      where
        go : (b : Bool) → (x == t) ≡ b → if◌then◌else◌ {A = ℕ → Seat L} b w.tasks (freed (numbered p).store p.ops.passed w.tasks t) u ≡ w.tasks u
        go true e = refl
        go false e = ap (λ (b : Bool). if b then live (p.ops.passed (w.tasks t).local) else w.tasks u) (ap (λ (v : ℕ). v == t) same ∙ e)

    released-same : (tasks : ℕ → Seat L) (x : ℕ) → is_served (tasks u).standing ≡ false → released p.ops x (tasks u) ≡ tasks u
    released-same tasks x h =
        ap (λ (b : Bool). if b then (if is_abnormal (tasks u).standing then completed (tasks u).local else live (p.ops.raised (tasks u).local)) else tasks u) (unserved_by p x (tasks u).standing h)

    at-aborted : (t x : ℕ) (closing : Standing) → is_served closing ≡ false → offers p.ops (aborts x) (w.tasks t) ≡ true → Becomes move (aborted (numbered p) (went_on (numbered p) w.tasks t x) x closing u)
    at-aborted t x closing c h = go (u == x) refl
      where
        tasks : ℕ → Seat L
        tasks = went_on (numbered p) w.tasks t x

        as-before : released p.ops x (tasks u) ≡ tasks u
        as-before = released-same tasks x (went-unserved t x)

        go : (b : Bool) → (u == x) ≡ b →
            Becomes move (if b then record { local = (released p.ops x (tasks x)).local; standing = fallen closing (released p.ops x (tasks x)).standing } else released p.ops x (tasks u))
        go true e =
            let same : u ≡ x = eqb-true u x e in
            subst (λ (v : ℕ). Becomes move (record { local = (released p.ops x (tasks v)).local; standing = fallen closing (released p.ops x (tasks v)).standing })) same
            (subst (λ (seat : Seat L). Becomes move (record { local = seat.local; standing = fallen closing seat.standing })) (sym (as-before ∙ went-self t x same))
            (stays (fallen closing (w.tasks u).standing) (fallen-unserved closing (w.tasks u).standing c unserved)))
        go false e = subst (Becomes move) (sym as-before) (at-went t x h)

    at-abort : (t x : ℕ) → offers p.ops (aborts x) (w.tasks t) ≡ true → Becomes move (abort_seats (numbered p) w.tasks t x u)
    at-abort t x h = go (is_closed (w.tasks x).standing) (x == t)
      where
        go : (b c : Bool) → Becomes move (if◌then◌else◌ {A = ℕ → Seat L} b (went_on (numbered p) w.tasks t x) (aborted (numbered p) (went_on (numbered p) w.tasks t x) x (if c then Completed else Killed)) u)
        go true c = at-went t x h
        go false true = at-aborted t x Completed refl h
        go false false = at-aborted t x Killed refl h

  -- ---- a move

  becomes-acted : (unserved : is_served (w.tasks u).standing ≡ false) (event : Event) → happens p w.tasks event ≡ true → Becomes (Happen event) (acted (numbered p) w.tasks event u)
  becomes-acted unserved (R c e i) h =
      let both = and_parts (offers p.ops (calls_in is_any_form e i) (w.tasks c)) (offers p.ops (waits_with (opens e i)) (w.tasks (p.owner e))) h in
      at-met unserved (Happen (R c e i)) c e i refl both.0 both.1
  becomes-acted unserved (E a) h = at-parted unserved (Happen (E a)) a refl h
  becomes-acted unserved (S a) h = at-freed unserved (Happen (S a)) p.ops.took_else a (λ same. takes_else (offers-there unserved (Happen (S a)) (waits_with is_else) a same h))
  becomes-acted unserved (D a n) h = at-freed unserved (Happen (D a n)) (p.ops.took_delay n) a (λ same. takes_delay n (offers-there unserved (Happen (D a n)) (waits_with (is_delay n)) a same h))
  becomes-acted unserved (C c e i) h =
      let its = (and_parts (offers p.ops (calls_in is_conditional e i) (w.tasks c)) (not (is_closed (w.tasks (p.owner e)).standing)) h).0 in
      at-freed unserved (Happen (C c e i)) p.ops.took_else c (λ same. calls_else e i (offers-there unserved (Happen (C c e i)) (calls_in is_conditional e i) c same its))
  becomes-acted unserved (T c e i) h =
      let its = (and_parts (offers p.ops (calls_in is_timed e i) (w.tasks c)) (not (is_closed (w.tasks (p.owner e)).standing)) h).0 in
      at-freed unserved (Happen (T c e i)) (p.ops.took_delay 1) c (λ same. expires e i (offers-there unserved (Happen (T c e i)) (calls_in is_timed e i) c same its))
  becomes-acted unserved (F c e i) h =
      let its = (and_parts (offers p.ops (calls_in is_any_form e i) (w.tasks c)) (is_closed (w.tasks (p.owner e)).standing) h).0 in
      at-freed unserved (Happen (F c e i)) p.ops.raised c
      (λ same. fails e i (ap (λ (v : ℕ). Happen (F v e i)) (sym same)) (offers-there unserved (Happen (F c e i)) (calls_in is_any_form e i) c same its))
  becomes-acted unserved (X a) h = at-stand unserved (Happen (X a)) a Completed refl
  becomes-acted unserved (B t x) h = at-abort unserved (Happen (B t x)) t x h
  becomes-acted unserved Z h = itself unserved (Happen Z)

  pub becomes : (move : Move) → can_move p w move ≡ true → is_served (w.tasks u).standing ≡ false → Becomes move ((moved p w move).tasks u)
  becomes (Step t) h unserved =
      let its = (and_parts (is_live (w.tasks t).standing) (p.ops.can_step (w.tasks t).local) (and_parts (not w.ended) (is_live (w.tasks t).standing && p.ops.can_step (w.tasks t).local) h).1).1 in
      at-freed unserved (Step t) p.ops.stepped t
      (λ same. steps (ap Step (sym same)) (subst (λ (v : ℕ). p.ops.can_step (w.tasks v).local ≡ true) (sym same) its))
  becomes (Happen event) h unserved = becomes-acted unserved event (and_parts (not w.ended) (happens p w.tasks event) h).1
