-- What the tests on standings, offers and lists of callers say.
use Rattle.std.proofs.Common.{◌≡◌, ℕ, Bool, true, false, ◌==◌, cond, List, [], ◌∷◌, refl, sym, ap, subst, filter, true≢false}
use Rattle.std.proofs.lemmas.Bool.{eqb-true}
use Rattle.event_machine.specs.declared.Standing.{Standing}
use Rattle.event_machine.specs.declared.Standing.TheVariants.{Live, Waiting, Queued, Served, Completed, Killed}
use Rattle.event_machine.specs.States.{is_live, is_waiting, is_queued, is_closed, is_served, is_served_by, is_abnormal, is_completed}
use Rattle.event_machine.specs.Effects.{fallen}
use Rattle.event_machine.specs.Applying.{is_first}
use Rattle.event_machine.specs.Worlds.{still}

-- ---- standings

pub is-Live : (s : Standing) → is_live s ≡ true → s ≡ Live
is-Live Live h = refl
is-Live Waiting h = absurd (true≢false (sym h))
is-Live Queued h = absurd (true≢false (sym h))
is-Live (Served by abnormal) h = absurd (true≢false (sym h))
is-Live Completed h = absurd (true≢false (sym h))
is-Live Killed h = absurd (true≢false (sym h))

pub is-Waiting : (s : Standing) → is_waiting s ≡ true → s ≡ Waiting
is-Waiting Live h = absurd (true≢false (sym h))
is-Waiting Waiting h = refl
is-Waiting Queued h = absurd (true≢false (sym h))
is-Waiting (Served by abnormal) h = absurd (true≢false (sym h))
is-Waiting Completed h = absurd (true≢false (sym h))
is-Waiting Killed h = absurd (true≢false (sym h))

pub is-Queued : (s : Standing) → is_queued s ≡ true → s ≡ Queued
is-Queued Live h = absurd (true≢false (sym h))
is-Queued Waiting h = absurd (true≢false (sym h))
is-Queued Queued h = refl
is-Queued (Served by abnormal) h = absurd (true≢false (sym h))
is-Queued Completed h = absurd (true≢false (sym h))
is-Queued Killed h = absurd (true≢false (sym h))

-- a task that is live, waits or is queued is free
pub still_live : (s : Standing) → is_live s ≡ true → is_live (still s) ≡ true
still_live s h = ap (λ z. is_live (still z)) (is-Live s h)

pub still_waiting : (s : Standing) → is_waiting s ≡ true → is_live (still s) ≡ true
still_waiting s h = ap (λ z. is_live (still z)) (is-Waiting s h)

pub still_queued : (s : Standing) → is_queued s ≡ true → is_live (still s) ≡ true
still_queued s h = ap (λ z. is_live (still z)) (is-Queued s h)

-- ---- queues

-- the first of those that pass a test passes it
pub first_passes : (test : ℕ → Bool) (c : ℕ) (line : List ℕ) → is_first c (filter test line) ≡ true → test c ≡ true
first_passes test c [] h = absurd (true≢false (sym h))
first_passes test c (x ∷ xs) h = go (test x) refl h (first_passes test c xs)
  where
    go : (b : Bool) → test x ≡ b → is_first c (cond b (x ∷ filter test xs) (filter test xs)) ≡ true →
        (is_first c (filter test xs) ≡ true → test c ≡ true) → test c ≡ true
    go true e k rest = subst (λ y. test y ≡ true) (eqb-true x c k) e
    go false e k rest = rest k

-- ---- who is served

pub served_closed : (a : ℕ) (s : Standing) → is_served_by a s ≡ true → is_closed s ≡ is_abnormal s
served_closed a Live h = refl
served_closed a Waiting h = refl
served_closed a Queued h = refl
served_closed a (Served by abnormal) h = refl
served_closed a Completed h = absurd (true≢false (sym h))
served_closed a Killed h = absurd (true≢false (sym h))

-- it is served by one alone
pub served_one : (a b : ℕ) (s : Standing) → is_served_by a s ≡ true → is_served_by b s ≡ (a == b)
served_one a b Live h = absurd (true≢false (sym h))
served_one a b Waiting h = absurd (true≢false (sym h))
served_one a b Queued h = absurd (true≢false (sym h))
served_one a b (Served by abnormal) h = ap (λ x. x == b) (eqb-true by a h)
served_one a b Completed h = absurd (true≢false (sym h))
served_one a b Killed h = absurd (true≢false (sym h))

pub served_served : (a : ℕ) (s : Standing) → is_served_by a s ≡ true → is_served s ≡ true
served_served a Live h = absurd (true≢false (sym h))
served_served a Waiting h = absurd (true≢false (sym h))
served_served a Queued h = absurd (true≢false (sym h))
served_served a (Served by abnormal) h = refl
served_served a Completed h = absurd (true≢false (sym h))
served_served a Killed h = absurd (true≢false (sym h))

pub fallen_served_by : (a : ℕ) (closing s : Standing) → is_served_by a closing ≡ false → is_served_by a (fallen closing s) ≡ is_served_by a s
fallen_served_by a closing Live h = h
fallen_served_by a closing Waiting h = h
fallen_served_by a closing Queued h = h
fallen_served_by a closing (Served by abnormal) h = refl
fallen_served_by a closing Completed h = refl
fallen_served_by a closing Killed h = refl

pub fallen_closed : (closing s : Standing) → is_closed closing ≡ true → is_closed (fallen closing s) ≡ true
fallen_closed closing Live h = h
fallen_closed closing Waiting h = h
fallen_closed closing Queued h = h
fallen_closed closing (Served by abnormal) h = refl
fallen_closed closing Completed h = refl
fallen_closed closing Killed h = refl

pub completed_closed : (z : Standing) → is_completed z ≡ true → is_closed z ≡ true
completed_closed Live h = absurd (true≢false (sym h))
completed_closed Waiting h = absurd (true≢false (sym h))
completed_closed Queued h = absurd (true≢false (sym h))
completed_closed (Served by abnormal) h = absurd (true≢false (sym h))
completed_closed Completed h = refl
completed_closed Killed h = refl
