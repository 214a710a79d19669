-- What is known goes with what an event does to the tasks.
use Rattle.std.proofs.Common.{◌≡◌, ℕ, ◌<◌, Bool, true, false, not, ◌&&◌, ◌==◌, if◌then◌else◌, List, [], ◌∷◌, length, Some, None, refl, sym, ap, ◌∙◌, subst, true≢false}
use Rattle.std.specs.Prelude.{ℤ}
use Rattle.std.proofs.lemmas.Bool.{eqb-true, and_parts, ne_eqb}
use Rattle.std.proofs.lemmas.List.{length-set, length-map}
use Rattle.event_machine.specs.declared.Standing.{Standing}
use Rattle.event_machine.specs.declared.Standing.TheVariants.{Live, Waiting, Queued, Served, Completed, Killed}
use Rattle.event_machine.specs.declared.Event.{Event}
use Rattle.event_machine.specs.declared.Event.TheVariants.{R, E, S, D, C, T, F, X, B, Z}
use Rattle.event_machine.specs.Offers.{calls_in, is_any_form, is_conditional, is_timed, waits_with, opens, is_finish, is_else, is_delay, is_end}
use Rattle.event_machine.specs.States.{Ops, Seat, live, is_live, is_closed, is_served_by}
use Rattle.event_machine.specs.Effects.{freed, parted, released_first, released, fallen, aborted, went_on}
use Rattle.event_machine.specs.Lawful.{IsLawful}
use Rattle.event_machine.specs.Programs.{Program, numbered}
use Rattle.event_machine.specs.Worlds.{happens, acted, offers, aborts}
use Rattle.event_machine.specs.Soundness.{IsSound}
use Rattle.event_machine.proofs.Standings.{is-Live}
use Rattle.event_machine.proofs.Offering.{finish_is, end_is, calls_waits}
use Rattle.event_machine.proofs.Sound.{first_served}
use Rattle.event_machine.proofs.Effected.{released_other}
use Rattle.event_machine.specs.progress.Known.{Party, Known, party, put, meet, part, complete, fall, let_go, is_by, is_served_by as known_served_by, is_closed as known_closed, with_server, with_callers, advanced}
use Rattle.event_machine.specs.progress.Laws.{server_of, told}
use Rattle.event_machine.proofs.progress.Parties.{known_below, put_self, put_other, all_let_go, let_go_at}
use Rattle.event_machine.proofs.progress.Seats.{told_free, told_keeps, told_parted, told_released, told_fallen}

-- Each task is as it is known.
abbrev pub Tells : {L : Type 0} → Ops L → Known → (ℕ → Seat L) → Type 0
Tells ops k tasks = (t : ℕ) → party k t ≡ told ops (tasks t)

-- who serves a task is known
pub by_server : (a : ℕ) (z : Standing) → is_by a (server_of z) ≡ is_served_by a z
by_server a Live = refl
by_server a Waiting = refl
by_server a Queued = refl
by_server a (Served by abnormal) = refl
by_server a Completed = refl
by_server a Killed = refl

-- a write of one task
abbrev placed : {L : Type 0} → (ℕ → Seat L) → ℕ → Seat L → ℕ → Seat L
placed tasks t seat u = if u == t then seat else tasks u

module _ {L : Type 0} (ops : Ops L) (k : Known) (tasks : ℕ → Seat L) (tells : Tells ops k tasks) where
  pub tells_put : (t : ℕ) (p : Party) (seat : Seat L) → t < length k.parties → p ≡ told ops seat → Tells ops (put k t p) (placed tasks t seat)
  tells_put t p seat l h u = go (u == t) refl
    where
      go : (b : Bool) → (u == t) ≡ b → party (put k t p) u ≡ told ops (if b then seat else tasks u)
      go true q = ap (party (put k t p)) (eqb-true u t q) ∙ put_self k t p l ∙ h
      go false q = put_other k t u p q ∙ tells u

  -- a task of which the same is to be known
  pub tells_same : (t : ℕ) (seat : Seat L) → told ops seat ≡ told ops (tasks t) → Tells ops k (placed tasks t seat)
  tells_same t seat h u = go (u == t) refl
    where
      go : (b : Bool) → (u == t) ≡ b → party k u ≡ told ops (if b then seat else tasks u)
      go true q = ap (party k) (eqb-true u t q) ∙ tells t ∙ sym h
      go false q = tells u

  pub free_below : (t : ℕ) → (tasks t).standing ≡ Live → t < length k.parties
  free_below t h = known_below (λ p. not p.closed) k t refl (ap (λ (p : Party). not p.closed) (tells t) ∙ ap (λ z. not (is_closed z)) h)

module _ {L : Type 0} (p : Program L) (IsProper : L → Type 0) (lawful : IsLawful p.ops IsProper) (k : Known) (tasks : ℕ → Seat L)
    (sound : IsSound p.ops IsProper tasks) (tells : Tells p.ops k tasks) where
  free_by : (test : Bool) (t : ℕ) → (is_live (tasks t).standing && test) ≡ true → (tasks t).standing ≡ Live
  free_by test t h = is-Live (tasks t).standing (and_parts (is_live (tasks t).standing) test h).0

  proper_free : (t : ℕ) → (tasks t).standing ≡ Live → IsProper (tasks t).local
  proper_free t h = sound.proper t (ap is_closed h)

  -- a free task goes on
  pub tells_freed : (f : L → L) (t : ℕ) → (tasks t).standing ≡ Live → p.ops.callers (f (tasks t).local) ≡ p.ops.callers (tasks t).local →
      Tells p.ops k (freed (numbered p).store f tasks t)
  tells_freed f t free h = tells_same p.ops k tasks tells t (live (f (tasks t).local))
      (told_keeps p.ops (tasks t).local (f (tasks t).local) Live (λ q. h) ∙ sym (told_free p.ops (tasks t) free))

  module _ (c e : ℕ) (i : ℤ) (h : happens p tasks (R c e i) ≡ true) where
    called : (is_live (tasks c).standing ≡ true) × (calls_in is_any_form e i (p.ops.offer (tasks c).local) ≡ true)
    called = and_parts (is_live (tasks c).standing) (calls_in is_any_form e i (p.ops.offer (tasks c).local))
        (and_parts (offers p.ops (calls_in is_any_form e i) (tasks c)) (offers p.ops (waits_with (opens e i)) (tasks (p.owner e))) h).0

    waited : (is_live (tasks (p.owner e)).standing ≡ true) × (waits_with (opens e i) (p.ops.offer (tasks (p.owner e)).local) ≡ true)
    waited = and_parts (is_live (tasks (p.owner e)).standing) (waits_with (opens e i) (p.ops.offer (tasks (p.owner e)).local))
        (and_parts (offers p.ops (calls_in is_any_form e i) (tasks c)) (offers p.ops (waits_with (opens e i)) (tasks (p.owner e))) h).1

    caller_free : (tasks c).standing ≡ Live
    caller_free = is-Live (tasks c).standing called.0

    owner_free : (tasks (p.owner e)).standing ≡ Live
    owner_free = is-Live (tasks (p.owner e)).standing waited.0

    other : (c == p.owner e) ≡ false
    other = ne_eqb c (p.owner e) (λ q. calls_waits is_any_form (opens e i) e i (p.ops.offer (tasks c).local) called.1
        (subst (λ v. waits_with (opens e i) (p.ops.offer (tasks v).local) ≡ true) (sym q) waited.1))

    abbrev met : Seat L
    met = live (p.ops.accepted e i c (tasks c).local (tasks (p.owner e)).local)

    abbrev inside : Known
    inside = put k (p.owner e) (with_callers (c ∷ (party k (p.owner e)).callers) (party k (p.owner e)))

    met_told : with_callers (c ∷ (party k (p.owner e)).callers) (party k (p.owner e)) ≡ told p.ops met
    met_told = ap (λ (y : Party). with_callers (c ∷ y.callers) y) (tells (p.owner e) ∙ told_free p.ops (tasks (p.owner e)) owner_free) ∙
        ap (λ (cs : List ℕ). record { closed = false; server = None; callers = cs })
        (sym (lawful.accepted e i c (tasks c).local (tasks (p.owner e)).local (proper_free c caller_free) (proper_free (p.owner e) owner_free) waited.1).1)

    caller_told : with_server (Some (p.owner e)) (party k c) ≡ told p.ops (record { local = (placed tasks (p.owner e) met c).local; standing = Served (p.owner e) false })
    caller_told = ap (with_server (Some (p.owner e))) (tells c ∙ told_free p.ops (tasks c) caller_free) ∙
        ap (λ (b : Bool). told p.ops (record { local = (if b then met else tasks c).local; standing = Served (p.owner e) false })) (sym other)

    pub tells_met : Tells p.ops (meet k c (p.owner e)) (acted (numbered p) tasks (R c e i))
    tells_met = tells_put p.ops inside (placed tasks (p.owner e) met)
        (tells_put p.ops k tasks tells (p.owner e) (with_callers (c ∷ (party k (p.owner e)).callers) (party k (p.owner e))) met (free_below p.ops k tasks tells (p.owner e) owner_free) met_told)
        c (with_server (Some (p.owner e)) (party k c)) (record { local = (placed tasks (p.owner e) met c).local; standing = Served (p.owner e) false })
        (subst (λ n. c < n) (sym (length-set k.parties (p.owner e) (with_callers (c ∷ (party k (p.owner e)).callers) (party k (p.owner e)))))
        (free_below p.ops k tasks tells c caller_free)) caller_told

  module _ (a : ℕ) (h : happens p tasks (E a) ≡ true) where
    ends_free : (tasks a).standing ≡ Live
    ends_free = free_by (is_finish (p.ops.offer (tasks a).local)) a h

    abbrev done : L
    done = p.ops.finished (tasks a).local

    ends : (c : ℕ) × IsProper done × (p.ops.callers (tasks a).local ≡ c ∷ p.ops.callers done)
    ends = lawful.finished (tasks a).local (proper_free a ends_free) (finish_is (p.ops.offer (tasks a).local) (and_parts (is_live (tasks a).standing) (is_finish (p.ops.offer (tasks a).local)) h).1)

    abbrev c : ℕ
    c = ends.0

    c_served : is_served_by a (tasks c).standing ≡ true
    c_served = first_served p IsProper lawful tasks a c sound ends_free ends.1 ends.2

    c_other : (c == a) ≡ false
    c_other = ne_eqb c a (λ q. true≢false (sym c_served ∙ ap (λ v. is_served_by a (tasks v).standing) q ∙ sound.itself a))

    abbrev ended : ℕ → Seat L
    ended = placed tasks a (live done)

    abbrev left : List ℕ
    left = p.ops.callers done

    abbrev outside : Known
    outside = put k a (with_callers left (party k a))

    callers_known : (party k a).callers ≡ c ∷ left
    callers_known = ap (λ (y : Party). y.callers) (tells a ∙ told_free p.ops (tasks a) ends_free) ∙ ends.2

    acceptor_told : with_callers left (party k a) ≡ told p.ops (live done)
    acceptor_told = ap (with_callers left) (tells a ∙ told_free p.ops (tasks a) ends_free)

    parted_told : with_server None (party k c) ≡ told p.ops (parted p.ops a (tasks a).local (ended c))
    parted_told = ap (with_server None) (tells c) ∙
        sym (told_parted p.ops a (tasks a).local (tasks c).local (tasks c).standing c_served
        (λ q. (lawful.resumed (tasks a).local (tasks c).local (proper_free a ends_free) (sound.proper c q)).1)) ∙
        ap (λ (b : Bool). told p.ops (parted p.ops a (tasks a).local (if b then live done else tasks c))) (sym c_other)

    caller_below : c < length k.parties
    caller_below = known_below (known_served_by a) k c refl (ap (known_served_by a) (tells c) ∙ by_server a (tasks c).standing ∙ c_served)

    pub tells_ended : Tells p.ops (part k a (party k a).callers) (acted (numbered p) tasks (E a))
    tells_ended = subst (λ cs. Tells p.ops (part k a cs) (acted (numbered p) tasks (E a))) (sym callers_known)
        (subst (λ cs. Tells p.ops (part k a (c ∷ left)) (released_first (numbered p) a (tasks a).local cs ended)) (sym ends.2)
        (tells_put p.ops outside ended (tells_put p.ops k tasks tells a (with_callers left (party k a)) (live done) (free_below p.ops k tasks tells a ends_free) acceptor_told)
        c (with_server None (party k c)) (parted p.ops a (tasks a).local (ended c))
        (subst (λ n. c < n) (sym (length-set k.parties a (with_callers left (party k a)))) caller_below) parted_told))

  tells_completed : (a : ℕ) → happens p tasks (X a) ≡ true → Tells p.ops (complete k a) (acted (numbered p) tasks (X a))
  tells_completed a h = tells_put p.ops k tasks tells a (record { closed = true; server = (party k a).server; callers = (party k a).callers })
      (record { local = (tasks a).local; standing = Completed }) (free_below p.ops k tasks tells a free) completed_told
    where
      ends : (is_live (tasks a).standing ≡ true) × (is_end (p.ops.offer (tasks a).local) ≡ true)
      ends = and_parts (is_live (tasks a).standing) (is_end (p.ops.offer (tasks a).local)) (and_parts (not (a == 0)) (offers p.ops is_end (tasks a)) h).1

      free : (tasks a).standing ≡ Live
      free = is-Live (tasks a).standing ends.0

      completed_told : record { closed = true; server = (party k a).server; callers = (party k a).callers } ≡ told p.ops (record { local = (tasks a).local; standing = Completed })
      completed_told = ap (λ (y : Party). record { closed = true; server = y.server; callers = y.callers }) (tells a ∙ told_free p.ops (tasks a) free) ∙
          ap (λ (cs : List ℕ). record { closed = true; server = None; callers = cs }) (lawful.ended (tasks a).local (proper_free a free) (end_is (p.ops.offer (tasks a).local) ends.1))

  -- ---- aborts

  module _ (t : ℕ) (free : (tasks t).standing ≡ Live) where
    abbrev passed : ℕ → Seat L
    passed = placed tasks t (live (p.ops.passed (tasks t).local))

    tells_passed : Tells p.ops k passed
    tells_passed = tells_freed p.ops.passed t free (lawful.passed (tasks t).local (proper_free t free)).1

    passed_each : (P : ℕ → Seat L → Type 0) → P t (live (p.ops.passed (tasks t).local)) → ((u : ℕ) → P u (tasks u)) → (u : ℕ) → P u (passed u)
    passed_each P at_t others u = go (u == t) refl
      where
        go : (b : Bool) → (u == t) ≡ b → P u (if b then live (p.ops.passed (tasks t).local) else tasks u)
        go true q = subst (λ v. P v (live (p.ops.passed (tasks t).local))) (sym (eqb-true u t q)) at_t
        go false q = others u

  -- a caller of x that is not abnormal keeps its callers
  abbrev Raises : ℕ → Seat L → Type 0
  Raises x seat = is_served_by x seat.standing ≡ true → is_closed seat.standing ≡ false → p.ops.callers (p.ops.raised seat.local) ≡ p.ops.callers seat.local

  module _ (others : ℕ → Seat L) (x : ℕ) (closing : Standing) (knows : Tells p.ops k others) (raises : (u : ℕ) → Raises x (others u))
      (itself : is_served_by x (others x).standing ≡ false) (open' : is_closed (others x).standing ≡ false)
      (closes : is_closed closing ≡ true) (serves : server_of closing ≡ None) where
    abbrev free_callers : ℕ → Seat L
    free_callers u = released p.ops x (others u)

    tells_free_callers : Tells p.ops (all_let_go x k) free_callers
    tells_free_callers u = let_go_at x k u ∙ ap (let_go x) (knows u) ∙ sym (told_released p.ops x (others u).local (others u).standing (raises u))

    victim_below : x < length (all_let_go x k).parties
    victim_below = subst (λ n. x < n) (sym (length-map k.parties (let_go x)))
        (known_below (λ y. not y.closed) k x refl (ap (λ (y : Party). not y.closed) (knows x) ∙ ap not open'))

    victim_same : free_callers x ≡ others x
    victim_same = released_other p x (others x) itself

    victim_told : record { closed = true; server = (party k x).server; callers = [] } ≡
        told p.ops (record { local = (free_callers x).local; standing = fallen closing (free_callers x).standing })
    victim_told = ap (λ (y : Party). record { closed = true; server = y.server; callers = [] }) (knows x) ∙
        sym (told_fallen p.ops closing (others x).local (others x).standing closes serves open') ∙
        ap (λ (y : Seat L). told p.ops (record { local = y.local; standing = fallen closing y.standing })) (sym victim_same)

    tells_fallen : Tells p.ops (fall k x) (aborted (numbered p) others x closing)
    tells_fallen = tells_put p.ops (all_let_go x k) free_callers tells_free_callers
        x (record { closed = true; server = (party k x).server; callers = [] }) (record { local = (free_callers x).local; standing = fallen closing (free_callers x).standing })
        victim_below victim_told

  tells_abort : (t x : ℕ) → happens p tasks (B t x) ≡ true → Tells p.ops (if known_closed k x then k else fall k x) (acted (numbered p) tasks (B t x))
  tells_abort t x h = subst (λ b. Tells p.ops (if b then k else fall k x) (acted (numbered p) tasks (B t x))) (sym (ap (λ (y : Party). y.closed) (tells x)))
      (by_victim (is_closed (tasks x).standing) refl)
    where
      free : (tasks t).standing ≡ Live
      free = free_by (aborts x (p.ops.offer (tasks t).local)) t h

      raises : (u : ℕ) → Raises x (tasks u)
      raises u q r = (lawful.raised (tasks u).local (sound.proper u r)).1

      passed_same : (u : ℕ) → (u == t) ≡ false → (passed t free u).standing ≡ (tasks u).standing
      passed_same u q = ap (λ (b : Bool). (if b then live (p.ops.passed (tasks t).local) else tasks u).standing) q

      went : (b : Bool) → Tells p.ops k (if b then tasks else passed t free)
      went true = tells
      went false = tells_passed t free

      fell : (b : Bool) → (x == t) ≡ b → is_closed (tasks x).standing ≡ false →
          Tells p.ops (fall k x) (aborted (numbered p) (if b then tasks else passed t free) x (if b then Completed else Killed))
      fell true q r = tells_fallen tasks x Completed tells raises (sound.itself x) r refl refl
      fell false q r = tells_fallen (passed t free) x Killed (tells_passed t free)
          (passed_each t free (λ u seat. Raises x seat) (λ s. absurd (true≢false (sym s))) raises)
          (ap (is_served_by x) (passed_same x q) ∙ sound.itself x) (ap is_closed (passed_same x q) ∙ r) refl refl

      by_victim : (b : Bool) → is_closed (tasks x).standing ≡ b →
          Tells p.ops (if b then k else fall k x)
          (if b then went_on (numbered p) tasks t x else aborted (numbered p) (went_on (numbered p) tasks t x) x (if x == t then Completed else Killed))
      by_victim true r = went (x == t)
      by_victim false r = fell (x == t) refl r

  -- An event.
  pub tells_acted : (e : Event) → happens p tasks e ≡ true → Tells p.ops (advanced p.owner k e) (acted (numbered p) tasks e)
  tells_acted (R c e i) h = tells_met c e i h
  tells_acted (E a) h = tells_ended a h
  tells_acted (S a) h = let free = free_by (waits_with is_else (p.ops.offer (tasks a).local)) a h in tells_freed p.ops.took_else a free (lawful.took_else (tasks a).local (proper_free a free)).1
  tells_acted (D a n) h = let free = free_by (waits_with (is_delay n) (p.ops.offer (tasks a).local)) a h in
      tells_freed (p.ops.took_delay n) a free (lawful.took_delay n (tasks a).local (proper_free a free)).1
  tells_acted (C c e i) h =
      let free = free_by (calls_in is_conditional e i (p.ops.offer (tasks c).local)) c (and_parts (offers p.ops (calls_in is_conditional e i) (tasks c)) (not (is_closed (tasks (p.owner e)).standing)) h).0 in
      tells_freed p.ops.took_else c free (lawful.took_else (tasks c).local (proper_free c free)).1
  tells_acted (T c e i) h =
      let free = free_by (calls_in is_timed e i (p.ops.offer (tasks c).local)) c (and_parts (offers p.ops (calls_in is_timed e i) (tasks c)) (not (is_closed (tasks (p.owner e)).standing)) h).0 in
      tells_freed (p.ops.took_delay 1) c free (lawful.took_delay 1 (tasks c).local (proper_free c free)).1
  tells_acted (F c e i) h =
      let free = free_by (calls_in is_any_form e i (p.ops.offer (tasks c).local)) c (and_parts (offers p.ops (calls_in is_any_form e i) (tasks c)) (is_closed (tasks (p.owner e)).standing) h).0 in
      tells_freed p.ops.raised c free (lawful.raised (tasks c).local (proper_free c free)).1
  tells_acted (X a) h = tells_completed a h
  tells_acted (B t x) h = tells_abort t x h
  tells_acted Z h = tells
