-- What the events of a run tell by themselves: which tasks are closed, which are served and by whom, and which callers each acceptor has (this project's rule).
use Rattle.std.specs.Prelude.{ℕ, zero, suc, Bool, true, false, not, ◌&&◌, ◌||◌, ◌==◌, if◌then◌else◌, List, [], ◌∷◌, map, slice_index_or, slice_set, Option, Some, None, is_some}
use Rattle.std.specs.List.{list_all}
use Rattle.event_machine.specs.declared.Event.{Event}
use Rattle.event_machine.specs.declared.Event.TheVariants.{R, E, S, D, C, T, F, X, B, Z}

-- What is known of one task.
pub record Party : Type 0 where
  -- it has completed, or it is abnormal
  pub closed : Bool
  -- the acceptor in the rendezvous in which it is the caller
  pub server : Option ℕ
  -- its callers, in the rendezvous in which it is the acceptor, innermost first; a closed task has none
  pub callers : List ℕ

-- What is known after some events: of each task, by its number from 0, and whether the program has ended.
pub record Known : Type 0 where
  pub parties : List Party
  pub ended : Bool

-- a free task that serves nobody
abbrev pub idle : Party
idle = record { closed = false; server = None; callers = [] }

-- what stands at a number that no task has: a closed task
abbrev pub nobody : Party
nobody = record { closed = true; server = None; callers = [] }

-- n free tasks
abbrev pub idle_parties : ℕ → List Party
idle_parties zero = []
idle_parties (suc n) = idle ∷ idle_parties n

-- Before the first event all n tasks are free, and serve nobody.
abbrev pub known_at_start : ℕ → Known
known_at_start n = record { parties = idle_parties n; ended = false }

-- ---- what is read off

abbrev pub party : Known → ℕ → Party
party k t = slice_index_or k.parties t nobody

abbrev pub is_closed : Known → ℕ → Bool
is_closed k t = (party k t).closed

abbrev pub is_served : Known → ℕ → Bool
is_served k t = is_some (party k t).server

-- free: neither closed nor served
abbrev pub is_free : Known → ℕ → Bool
is_free k t = not (is_closed k t) && not (is_served k t)

-- the acceptor is a
abbrev pub is_by : ℕ → Option ℕ → Bool
is_by a None = false
is_by a (Some b) = b == a

abbrev pub is_served_by : ℕ → Party → Bool
is_served_by a p = is_by a p.server

abbrev pub has_callers : List ℕ → Bool
has_callers [] = false
has_callers (c ∷ callers) = true

-- the innermost caller is t
abbrev pub is_innermost : ℕ → List ℕ → Bool
is_innermost t [] = false
is_innermost t (c ∷ callers) = t == c

-- ---- which event can come next

-- the conditions of an event before the end of the program
abbrev pub suits : (ℕ → ℕ) → Known → Event → Bool
suits owner k (R c e i) = is_free k c && (is_free k (owner e) && not (c == owner e))
suits owner k (E a) = is_free k a && has_callers (party k a).callers
suits owner k (S a) = is_free k a
suits owner k (D a n) = is_free k a
suits owner k (C c e i) = is_free k c && not (is_closed k (owner e))
suits owner k (T c e i) = is_free k c && not (is_closed k (owner e))
suits owner k (F c e i) = is_free k c && is_closed k (owner e)
suits owner k (X a) = is_free k a && not (has_callers (party k a).callers)
suits owner k (B t x) = is_free k t
suits owner k Z = list_all (λ p. not (is_some p.server)) k.parties

-- Admitted: the program has not ended, and the parties are free, serve somebody or nobody, and are closed or not, as the event asks. `owner` gives the task
-- that owns an entry.
abbrev pub admits : (ℕ → ℕ) → Known → Event → Bool
admits owner k e = not k.ended && suits owner k e

-- ---- what an event changes

-- the task t is known so
abbrev pub put : Known → ℕ → Party → Known
put k t p = record { parties = slice_set k.parties t p; ended = k.ended }

-- served by this acceptor, or by none
abbrev pub with_server : Option ℕ → Party → Party
with_server server p = record { closed = p.closed; server = server; callers = p.callers }

abbrev pub with_callers : List ℕ → Party → Party
with_callers callers p = record { closed = p.closed; server = p.server; callers = callers }

-- A rendezvous of the caller c with the acceptor a starts, inside those that a is in.
abbrev pub meet : Known → ℕ → ℕ → Known
meet k c a = put (put k a (with_callers (c ∷ (party k a).callers) (party k a))) c (with_server (Some a) (party k c))

-- The innermost rendezvous of the acceptor a, with these callers, ends.
abbrev pub part : Known → ℕ → List ℕ → Known
part k a [] = k
part k a (c ∷ callers) = put (put k a (with_callers callers (party k a))) c (with_server None (party k c))

abbrev pub complete : Known → ℕ → Known
complete k a = put k a (record { closed = true; server = (party k a).server; callers = (party k a).callers })

-- a caller of x is served no more
abbrev pub let_go : ℕ → Party → Party
let_go x p = if is_served_by x p then with_server None p else p

-- x, which is not closed, is closed by an abort: each rendezvous in which it is the acceptor ends, and one in which it is the caller goes on
abbrev pub fall : Known → ℕ → Known
fall k x = put (record { parties = map (let_go x) k.parties; ended = k.ended }) x (record { closed = true; server = (party k x).server; callers = [] })

-- What is known after one more event. An abort of a closed task changes nothing.
abbrev pub advanced : (ℕ → ℕ) → Known → Event → Known
advanced owner k (R c e i) = meet k c (owner e)
advanced owner k (E a) = part k a (party k a).callers
advanced owner k (S a) = k
advanced owner k (D a n) = k
advanced owner k (C c e i) = k
advanced owner k (T c e i) = k
advanced owner k (F c e i) = k
advanced owner k (X a) = complete k a
advanced owner k (B t x) = if is_closed k x then k else fall k x
advanced owner k Z = record { parties = k.parties; ended = true }

-- What is known after the events.
abbrev pub known_from : (ℕ → ℕ) → Known → List Event → Known
known_from owner k [] = k
known_from owner k (e ∷ events) = known_from owner (advanced owner k e) events

-- What is known of a program with n tasks after the events.
abbrev pub known : (ℕ → ℕ) → ℕ → List Event → Known
known owner n events = known_from owner (known_at_start n) events

-- ---- whom an event touches

-- Touched: the caller and the owner of the entry; the acceptor and its innermost caller; who aborts and who is aborted with each of its callers; the one task
-- of an event that has no other; at the end of the program every task.
abbrev pub touches : (ℕ → ℕ) → Known → Event → ℕ → Bool
touches owner k (R c e i) t = (t == c) || (t == owner e)
touches owner k (E a) t = (t == a) || is_innermost t (party k a).callers
touches owner k (S a) t = t == a
touches owner k (D a n) t = t == a
touches owner k (C c e i) t = (t == c) || (t == owner e)
touches owner k (T c e i) t = (t == c) || (t == owner e)
touches owner k (F c e i) t = (t == c) || (t == owner e)
touches owner k (X a) t = t == a
touches owner k (B u x) t = (t == u) || ((t == x) || is_served_by x (party k t))
touches owner k Z t = true
