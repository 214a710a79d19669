-- The script of a sequence: the operations of a controller, which lets the tasks of a program go on one event at a time, in the order of the sequence (this project's rule).
use Rattle.std.specs.Prelude.{ℕ, pos, not, ◌==◌, if◌then◌else◌, List, [], ◌∷◌, ◌++◌, map, length, pred}
use Rattle.std.specs.List.{filter, range_with_len}
use Rattle.event_machine.specs.declared.Event.{Event}
use Rattle.event_machine.specs.declared.Event.TheVariants.{R, E, S, D, C, T, F, X, B, Z}
use Rattle.event_machine.specs.progress.Known.{Known, is_closed, known_at_start, admits, advanced}
use Rattle.control_script.specs.declared.Op.{Op}
use Rattle.control_script.specs.declared.Op.TheVariants.{Go, Done, Join, Hold}

-- The tasks from 1 up that are not closed, in ascending order.
abbrev pub open_tasks : Known → List ℕ
open_tasks k = filter (λ t. not (is_closed k t)) (range_with_len 1 (pred (length k.parties)))

-- the permit to end with the program
abbrev pub to_close : ℕ → Op
to_close t = Go t 10 0 (pos 0)

-- t has aborted x: who aborts itself says no more
abbrev pub after_abort : ℕ → ℕ → Op
after_abort t x = if x == t then Join t else Done t

-- The operations of an event, by what is known before it. A permit has the event's kind, its entry, delay alternative or aborted task, and the member of a
-- family; `owner` gives the task that owns an entry. The acceptor of a rendezvous says that it has begun; a task that has completed says nothing, so the
-- controller waits until it is closed; and nothing is left to say behind the end of the program.
abbrev pub operations : (ℕ → ℕ) → Known → Event → List Op
operations owner k (R c e i) = Go c 1 e i ∷ Go (owner e) 1 e i ∷ Done (owner e) ∷ []
operations owner k (E a) = Go a 2 0 (pos 0) ∷ Done a ∷ []
operations owner k (S a) = Go a 3 0 (pos 0) ∷ Done a ∷ []
operations owner k (D a n) = Go a 4 n (pos 0) ∷ Done a ∷ []
operations owner k (C c e i) = Go c 5 e i ∷ Done c ∷ []
operations owner k (T c e i) = Go c 6 e i ∷ Done c ∷ []
operations owner k (F c e i) = Go c 7 e i ∷ Done c ∷ []
operations owner k (X a) = Go a 8 0 (pos 0) ∷ Join a ∷ []
operations owner k (B t x) = Go t 9 x (pos 0) ∷ after_abort t x ∷ []
operations owner k Z = map to_close (open_tasks k) ++ to_close 0 ∷ []

-- Behind the last event the controller waits for ever, unless the program has ended.
abbrev pub held : Known → List Op
held k = if k.ended then [] else Hold ∷ []

-- The operations of events, up to the first that cannot come next by what is known.
abbrev pub script_from : (ℕ → ℕ) → Known → List Event → List Op
script_from owner k [] = held k
script_from owner k (e ∷ events) = if admits owner k e then operations owner k e ++ script_from owner (advanced owner k e) events else held k

-- The script of a sequence, of a program with n tasks.
abbrev pub script : (ℕ → ℕ) → ℕ → List Event → List Op
script owner n events = script_from owner (known_at_start n) events
