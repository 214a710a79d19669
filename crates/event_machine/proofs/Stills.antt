-- What forgetting waits and queues leaves: tests on standings, and the effects of events.
use Rattle.std.proofs.Common.{◌≡◌, ℕ, Bool, true, false, not, ◌&&◌, ◌||◌, ◌==◌, if◌then◌else◌, List, [], ◌∷◌, refl, sym, ap, ◌∙◌}
use Rattle.std.specs.Prelude.{ℤ}
use Rattle.event_machine.specs.declared.Standing.{Standing}
use Rattle.event_machine.specs.declared.Standing.TheVariants.{Live, Waiting, Queued, Served, Completed, Killed}
use Rattle.event_machine.specs.declared.Event.{Event}
use Rattle.event_machine.specs.declared.Event.TheVariants.{R, E, S, D, C, T, F, X, B, Z}
use Rattle.event_machine.specs.States.{Ops, Seat, live, is_closed, is_completed, is_served_by}
use Rattle.event_machine.specs.Effects.{freed, stand, met_at, parted, released_first, parted_both, released, fallen, aborted, went_on, abort_seats}
use Rattle.event_machine.specs.Programs.{Program, numbered}
use Rattle.event_machine.specs.Worlds.{still, still_seat, acted, changes}
use Rattle.event_machine.proofs.Basics.{push_if}

-- ---- standings

pub still_still : (s : Standing) → still (still s) ≡ still s
still_still Live = refl
still_still Waiting = refl
still_still Queued = refl
still_still (Served by abnormal) = refl
still_still Completed = refl
still_still Killed = refl

pub still_closed : (s : Standing) → is_closed (still s) ≡ is_closed s
still_closed Live = refl
still_closed Waiting = refl
still_closed Queued = refl
still_closed (Served by abnormal) = refl
still_closed Completed = refl
still_closed Killed = refl

pub still_completed : (s : Standing) → is_completed (still s) ≡ is_completed s
still_completed Live = refl
still_completed Waiting = refl
still_completed Queued = refl
still_completed (Served by abnormal) = refl
still_completed Completed = refl
still_completed Killed = refl

pub still_served_by : (a : ℕ) (s : Standing) → is_served_by a (still s) ≡ is_served_by a s
still_served_by a Live = refl
still_served_by a Waiting = refl
still_served_by a Queued = refl
still_served_by a (Served by abnormal) = refl
still_served_by a Completed = refl
still_served_by a Killed = refl

pub still_fallen : (closing s : Standing) → still closing ≡ closing → still (fallen closing s) ≡ fallen closing (still s)
still_fallen closing Live e = e
still_fallen closing Waiting e = e
still_fallen closing Queued e = e
still_fallen closing (Served by abnormal) e = refl
still_fallen closing Completed e = refl
still_fallen closing Killed e = refl

still_ending : (b : Bool) → still (if b then Completed else Killed) ≡ (if b then Completed else Killed)
still_ending true = refl
still_ending false = refl

-- ---- one seat

still_parted : {L : Type 0} (ops : Ops L) (a : ℕ) (acceptor l : L) (s : Standing) →
    still_seat (parted ops a acceptor (record { local = l; standing = s })) ≡ parted ops a acceptor (record { local = l; standing = still s })
still_parted ops a acceptor l Live = refl
still_parted ops a acceptor l Waiting = refl
still_parted ops a acceptor l Queued = refl
still_parted ops a acceptor l (Served by abnormal) =
    push_if still_seat (by == a) _ _ ∙ ap (λ x. if by == a then x else record { local = l; standing = Served by abnormal }) (push_if still_seat abnormal _ _)
still_parted ops a acceptor l Completed = refl
still_parted ops a acceptor l Killed = refl

still_released : {L : Type 0} (ops : Ops L) (x : ℕ) (l : L) (s : Standing) →
    still_seat (released ops x (record { local = l; standing = s })) ≡ released ops x (record { local = l; standing = still s })
still_released ops x l Live = refl
still_released ops x l Waiting = refl
still_released ops x l Queued = refl
still_released ops x l (Served by abnormal) =
    push_if still_seat (by == x) _ _ ∙ ap (λ y. if by == x then y else record { local = l; standing = Served by abnormal }) (push_if still_seat abnormal _ _)
still_released ops x l Completed = refl
still_released ops x l Killed = refl

-- ---- all seats

module _ {L : Type 0} (p : Program L) where
  abbrev all_still : (ℕ → Seat L) → ℕ → Seat L
  all_still tasks t = still_seat (tasks t)

  pub put_still : (tasks : ℕ → Seat L) (t : ℕ) (seat : Seat L) →
      all_still ((numbered p).store.put tasks t seat) ≡ (numbered p).store.put (all_still tasks) t (still_seat seat)
  put_still tasks t seat = λ i u. push_if still_seat (u == t) seat (tasks u) i

  pub still_freed : (f : L → L) (tasks : ℕ → Seat L) (t : ℕ) → all_still (freed (numbered p).store f tasks t) ≡ freed (numbered p).store f (all_still tasks) t
  still_freed f tasks t = put_still tasks t (live (f (tasks t).local))

  still_stand : (tasks : ℕ → Seat L) (t : ℕ) (s : Standing) → still s ≡ s →
      all_still (stand (numbered p).store tasks t s) ≡ stand (numbered p).store (all_still tasks) t s
  still_stand tasks t s e = put_still tasks t (record { local = (tasks t).local; standing = s }) ∙
      ap (λ z. (numbered p).store.put (all_still tasks) t (record { local = (tasks t).local; standing = z })) e

  still_met : (tasks : ℕ → Seat L) (c e : ℕ) (i : ℤ) → all_still (met_at (numbered p) tasks c e i) ≡ met_at (numbered p) (all_still tasks) c e i
  still_met tasks c e i =
      still_stand (freed (numbered p).store (p.ops.accepted e i c (tasks c).local) tasks (p.owner e)) c (Served (p.owner e) false) refl ∙
      ap (λ w. stand (numbered p).store w c (Served (p.owner e) false)) (still_freed (p.ops.accepted e i c (tasks c).local) tasks (p.owner e))

  still_first : (a : ℕ) (acceptor : L) (callers : List ℕ) (tasks : ℕ → Seat L) →
      all_still (released_first (numbered p) a acceptor callers tasks) ≡ released_first (numbered p) a acceptor callers (all_still tasks)
  still_first a acceptor [] tasks = refl
  still_first a acceptor (c ∷ callers) tasks =
      put_still tasks c (parted p.ops a acceptor (tasks c)) ∙
      ap (λ x. (numbered p).store.put (all_still tasks) c x) (still_parted p.ops a acceptor (tasks c).local (tasks c).standing)

  still_both : (tasks : ℕ → Seat L) (a : ℕ) → all_still (parted_both (numbered p) tasks a) ≡ parted_both (numbered p) (all_still tasks) a
  still_both tasks a =
      still_first a (tasks a).local (p.ops.callers (tasks a).local) (freed (numbered p).store p.ops.finished tasks a) ∙
      ap (released_first (numbered p) a (tasks a).local (p.ops.callers (tasks a).local)) (still_freed p.ops.finished tasks a)

  still_went : (tasks : ℕ → Seat L) (t x : ℕ) → all_still (went_on (numbered p) tasks t x) ≡ went_on (numbered p) (all_still tasks) t x
  still_went tasks t x = push_if all_still (x == t) _ _ ∙ ap (λ w. if x == t then all_still tasks else w) (still_freed p.ops.passed tasks t)

  still_each : (tasks : ℕ → Seat L) (x : ℕ) →
      all_still ((numbered p).store.each (released p.ops x) tasks) ≡ (numbered p).store.each (released p.ops x) (all_still tasks)
  still_each tasks x = λ i u. still_released p.ops x (tasks u).local (tasks u).standing i

  still_aborted : (tasks : ℕ → Seat L) (x : ℕ) (closing : Standing) → still closing ≡ closing →
      all_still (aborted (numbered p) tasks x closing) ≡ aborted (numbered p) (all_still tasks) x closing
  still_aborted tasks x closing e =
      let freed_callers : ℕ → Seat L = (numbered p).store.each (released p.ops x) tasks in
      put_still freed_callers x (record { local = (freed_callers x).local; standing = fallen closing (freed_callers x).standing }) ∙
      ap (λ z. (numbered p).store.put (all_still freed_callers) x (record { local = (freed_callers x).local; standing = z })) (still_fallen closing (freed_callers x).standing e) ∙
      ap (λ (w : ℕ → Seat L). stand (numbered p).store w x (fallen closing (w x).standing)) (still_each tasks x)

  still_abort : (tasks : ℕ → Seat L) (t x : ℕ) → all_still (abort_seats (numbered p) tasks t x) ≡ abort_seats (numbered p) (all_still tasks) t x
  still_abort tasks t x =
      push_if all_still (is_closed (tasks x).standing) _ _ ∙
      ap (λ w. if is_closed (tasks x).standing then w else all_still (aborted (numbered p) (went_on (numbered p) tasks t x) x (if x == t then Completed else Killed))) (still_went tasks t x) ∙
      ap (λ w. if is_closed (tasks x).standing then went_on (numbered p) (all_still tasks) t x else w)
      (still_aborted (went_on (numbered p) tasks t x) x (if x == t then Completed else Killed) (still_ending (x == t)) ∙
      ap (λ w. aborted (numbered p) w x (if x == t then Completed else Killed)) (still_went tasks t x)) ∙
      ap (λ b. if b then went_on (numbered p) (all_still tasks) t x else aborted (numbered p) (went_on (numbered p) (all_still tasks) t x) x (if x == t then Completed else Killed)) (sym (still_closed (tasks x).standing))

  -- An event does to the tasks at rest what it does to the tasks.
  pub still_acted : (tasks : ℕ → Seat L) (e : Event) → (λ t. still_seat (acted (numbered p) tasks e t)) ≡ acted (numbered p) (λ t. still_seat (tasks t)) e
  still_acted tasks (R c e i) = still_met tasks c e i
  still_acted tasks (E a) = still_both tasks a
  still_acted tasks (S a) = still_freed p.ops.took_else tasks a
  still_acted tasks (D a k) = still_freed (p.ops.took_delay k) tasks a
  still_acted tasks (C c e i) = still_freed p.ops.took_else tasks c
  still_acted tasks (T c e i) = still_freed (p.ops.took_delay 1) tasks c
  still_acted tasks (F c e i) = still_freed p.ops.raised tasks c
  still_acted tasks (X a) = still_stand tasks a Completed refl
  still_acted tasks (B t x) = still_abort tasks t x
  still_acted tasks Z = refl

  -- nor does it change others
  pub still_changes : (tasks : ℕ → Seat L) (e : Event) (t : ℕ) → changes p.ops p.owner (λ u. still_seat (tasks u)) e t ≡ changes p.ops p.owner tasks e t
  still_changes tasks (R c e i) t = refl
  still_changes tasks (E a) t = refl
  still_changes tasks (S a) t = refl
  still_changes tasks (D a k) t = refl
  still_changes tasks (C c e i) t = refl
  still_changes tasks (T c e i) t = refl
  still_changes tasks (F c e i) t = refl
  still_changes tasks (X a) t = refl
  still_changes tasks (B u x) t = λ j. (t == u) || (not (still_closed (tasks x).standing j) && ((t == x) || still_served_by x (tasks t).standing j))
  still_changes tasks Z t = refl
