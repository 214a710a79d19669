-- What is known of a run by its events, plainly: how each task stands after them, and whom it serves (this project's rule).
use Rattle.std.specs.Prelude.{ℕ, zero, suc, Bool, true, false, not, ◌&&◌, ◌==◌, nat_lt, if◌then◌else◌, List, [], ◌∷◌, ◌++◌}
use Rattle.event_machine.specs.declared.Event.{Event}
use Rattle.event_machine.specs.declared.Event.TheVariants.{R, E, S, D, C, T, F, X, B, Z}
use Rattle.event_machine.specs.Offers.{Nothing}
use Rattle.event_machine.specs.States.{Ops, Seat, is_live, is_closed, is_served}
use Rattle.event_machine.specs.Applying.{is_empty}
use Rattle.event_machine.specs.Programs.{Program, numbered}
use Rattle.event_machine.specs.Worlds.{World, acted}
use Rattle.run_laws.specs.replaying.Copies.{behind}
use Rattle.run_laws.specs.replaying.Scripts.{Progress}

-- A task of which the callers alone are known.
abbrev pub caller_ops : Ops (List ℕ)
caller_ops = record {
  can_step = λ l. false;
  stepped = λ l. l;
  offer = λ l. Nothing;
  callers = λ l. l;
  accepted = λ e i c caller l. c ∷ l;
  finished = behind;
  resumed = λ acceptor l. l;
  raised = λ l. l;
  took_else = λ l. l;
  took_delay = λ k l. l;
  passed = λ l. l;
  nobody = [];
}

-- the program of such tasks
abbrev pub callers_of : {L : Type 0} → Program L → Program (List ℕ)
callers_of p = record { ops = caller_ops; owner = p.owner; size = p.size }

-- how the tasks stand, and their callers
abbrev pub seen_tasks : {L : Type 0} → Program L → (ℕ → Seat L) → ℕ → Seat (List ℕ)
seen_tasks p tasks t = record { local = p.ops.callers (tasks t).local; standing = (tasks t).standing }

-- none of the tasks below n is served
abbrev pub none_served : (ℕ → Seat (List ℕ)) → ℕ → Bool
none_served tasks zero = true
none_served tasks (suc n) = none_served tasks n && not (is_served (tasks n).standing)

-- the live ones of the tasks from 1 up and below n
abbrev pub live_others : (ℕ → Seat (List ℕ)) → ℕ → List ℕ
live_others tasks zero = []
live_others tasks (suc n) = live_others tasks n ++ (if nat_lt 0 n && is_live (tasks n).standing then n ∷ [] else [])

-- Which event can come next: its parties are free, and serve somebody or nobody, as the event asks.
abbrev pub can_come : {L : Type 0} → Program L → (ℕ → Seat (List ℕ)) → Event → Bool
can_come p tasks (R c e i) = is_live (tasks c).standing && (is_live (tasks (p.owner e)).standing && not (c == p.owner e))
can_come p tasks (E a) = is_live (tasks a).standing && not (is_empty (tasks a).local)
can_come p tasks (S a) = is_live (tasks a).standing
can_come p tasks (D a k) = is_live (tasks a).standing
can_come p tasks (C c e i) = is_live (tasks c).standing && not (is_closed (tasks (p.owner e)).standing)
can_come p tasks (T c e i) = is_live (tasks c).standing && not (is_closed (tasks (p.owner e)).standing)
can_come p tasks (F c e i) = is_live (tasks c).standing && is_closed (tasks (p.owner e)).standing
can_come p tasks (X a) = is_live (tasks a).standing && is_empty (tasks a).local
can_come p tasks (B t x) = is_live (tasks t).standing
can_come p tasks Z = none_served tasks p.size

-- Progress by earlier events alone.
abbrev pub plain_progress : {L : Type 0} → Program L → World L → Progress (ℕ → Seat (List ℕ))
plain_progress p start = record {
  start = seen_tasks p start.tasks;
  admits = λ g e. can_come p g e;
  advance = λ g e. acted (numbered (callers_of p)) g e;
  others = λ g. live_others g p.size;
}
