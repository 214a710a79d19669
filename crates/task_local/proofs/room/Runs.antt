-- Each move of the machine without queues leaves each task with room.
use Rattle.std.proofs.Common.{◌≡◌, ⊎_elim, ℕ, zero, suc, ◌+◌, ◌<◌, ◌≤◌, ◌==◌, Bool, true, false, if◌then◌else◌, List, [], ◌∷◌, length, refl, sym, ap, ◌∙◌, subst, slice_index_or, arith, length-append}
use Rattle.std.proofs.lemmas.Bool.{cases_lt, eqb-true}
use Rattle.std.proofs.lemmas.List.{get_or_append_left, get_or_push, get_or_past}
use Rattle.syn_event.specs.Numbering.{Numbering}
use Rattle.event_machine.specs.declared.Standing.{Standing}
use Rattle.event_machine.specs.declared.Standing.TheVariants.{Completed, Killed, Served}
use Rattle.event_machine.specs.declared.Event.{Event}
use Rattle.event_machine.specs.declared.Event.TheVariants.{R, E, S, D, C, T, F, X, B, Z}
use Rattle.event_machine.specs.States.{Seat, live, completed, is_closed, is_abnormal, is_served_by}
use Rattle.event_machine.specs.Effects.{freed, stand, parted, released_first, released, fallen, aborted, went_on}
use Rattle.event_machine.specs.Programs.{Program, numbered}
use Rattle.event_machine.specs.Worlds.{World, Move, Step, Happen, acted, moved, world_after}
use Rattle.task_model.specs.Tasks.{Task}
use Rattle.task_model.specs.Starting.{unit_of, started, nobody}
use Rattle.task_model.specs.TaskOps.{task_ops}
use Rattle.task_model.specs.Machine.{ProgramWithInputs, setting_of, first_tasks}
use Rattle.task_model.specs.Laws.{program_in, first_world}
use Rattle.task_local.specs.room.Fitting.{HasRoom}
use Rattle.task_local.specs.room.Laws.{IsKeptBy, EachHasRoom, room_of, StaysWithin, NeverWider}
use Rattle.task_local.proofs.room.Frames.{none_fits}
use Rattle.task_local.proofs.room.Steps.{stepped_has_room}
use Rattle.task_local.proofs.room.Opened.{accepted_has_room}
use Rattle.task_local.proofs.room.Meetings.{finished_has_room, resumed_has_room, failed_has_room, else_has_room, delay_has_room, passed_has_room}
use Rattle.task_local.proofs.room.Standing.{started_has_room, room_here}

-- ---- each move

module _ (owner : ℕ → ℕ) (size : ℕ) (room : ℕ → ℕ) where
  abbrev p : Program Task
  p = record { ops = task_ops; owner = owner; size = size }

  abbrev Each : (ℕ → Seat Task) → Type 0
  Each tasks = (u : ℕ) → HasRoom (room u) (tasks u).local

  abbrev put : (ℕ → Seat Task) → ℕ → Seat Task → ℕ → Seat Task
  put tasks t seat u = if u == t then seat else tasks u

  put_keeps : (tasks : ℕ → Seat Task) (t : ℕ) (seat : Seat Task) → Each tasks → HasRoom (room t) seat.local → Each (put tasks t seat)
  put_keeps tasks t seat k h u = go (u == t) refl
    where
      go : (b : Bool) → (u == t) ≡ b → HasRoom (room u) (if b then seat else tasks u).local
      go true q = subst (λ v. HasRoom (room v) seat.local) (sym (eqb-true u t q)) h
      go false q = k u

  freed_keeps : (f : Task → Task) → IsKeptBy f → (tasks : ℕ → Seat Task) (t : ℕ) → Each tasks → Each (freed (numbered p).store f tasks t)
  freed_keeps f h tasks t k = put_keeps tasks t (live (f (tasks t).local)) k (h (room t) (tasks t).local (k t))

  stand_keeps : (tasks : ℕ → Seat Task) (t : ℕ) (standing : Standing) → Each tasks → Each (stand (numbered p).store tasks t standing)
  stand_keeps tasks t standing k = put_keeps tasks t (record { local = (tasks t).local; standing = standing }) k (k t)

  -- a caller that is let go
  let_go_keeps : (f : Task → Task) → IsKeptBy f → (a n : ℕ) (seat : Seat Task) → HasRoom n seat.local →
      HasRoom n (if is_served_by a seat.standing then (if is_abnormal seat.standing then completed seat.local else live (f seat.local)) else seat).local
  let_go_keeps f h a n seat k = go (is_served_by a seat.standing) (is_abnormal seat.standing)
    where
      go : (b c : Bool) → HasRoom n (if b then (if c then completed seat.local else live (f seat.local)) else seat).local
      go true true = k
      go true false = h n seat.local k
      go false c = k

  first_keeps : (a : ℕ) (acceptor : Task) (callers : List ℕ) (tasks : ℕ → Seat Task) → Each tasks → Each (released_first (numbered p) a acceptor callers tasks)
  first_keeps a acceptor [] tasks k = k
  first_keeps a acceptor (c ∷ callers) tasks k =
      put_keeps tasks c (parted task_ops a acceptor (tasks c)) k (let_go_keeps (task_ops.resumed acceptor) (λ n t h. resumed_has_room n acceptor t h) a (room c) (tasks c) (k c))

  aborted_keeps : (tasks : ℕ → Seat Task) (x : ℕ) (closing : Standing) → Each tasks → Each (aborted (numbered p) tasks x closing)
  aborted_keeps tasks x closing k =
      stand_keeps (λ u. released task_ops x (tasks u)) x (fallen closing (released task_ops x (tasks x)).standing) (λ u. let_go_keeps task_ops.raised failed_has_room x (room u) (tasks u) (k u))

  either_keeps : (b : Bool) (before after : ℕ → Seat Task) → Each before → Each after → Each (if◌then◌else◌ {A = ℕ → Seat Task} b before after)
  either_keeps true before after h k = h
  either_keeps false before after h k = k

  on_keeps : (tasks : ℕ → Seat Task) (t x : ℕ) → Each tasks → Each (went_on (numbered p) tasks t x)
  on_keeps tasks t x k = either_keeps (x == t) tasks (freed (numbered p).store task_ops.passed tasks t) k (freed_keeps task_ops.passed passed_has_room tasks t k)

  acted_keeps : (tasks : ℕ → Seat Task) (e : Event) → Each tasks → Each (acted (numbered p) tasks e)
  acted_keeps tasks (R c e i) k =
      stand_keeps (freed (numbered p).store (task_ops.accepted e i c (tasks c).local) tasks (owner e)) c (Served (owner e) false)
      (freed_keeps (task_ops.accepted e i c (tasks c).local) (λ n t h. accepted_has_room n e i c (tasks c).local t h) tasks (owner e) k)
  acted_keeps tasks (E a) k =
      first_keeps a (tasks a).local (task_ops.callers (tasks a).local) (freed (numbered p).store task_ops.finished tasks a) (freed_keeps task_ops.finished finished_has_room tasks a k)
  acted_keeps tasks (S a) k = freed_keeps task_ops.took_else else_has_room tasks a k
  acted_keeps tasks (D a d) k = freed_keeps (task_ops.took_delay d) (λ n t h. delay_has_room n d t h) tasks a k
  acted_keeps tasks (C c e i) k = freed_keeps task_ops.took_else else_has_room tasks c k
  acted_keeps tasks (T c e i) k = freed_keeps (task_ops.took_delay 1) (λ n t h. delay_has_room n 1 t h) tasks c k
  acted_keeps tasks (F c e i) k = freed_keeps task_ops.raised failed_has_room tasks c k
  acted_keeps tasks (X a) k = stand_keeps tasks a Completed k
  acted_keeps tasks (B t x) k =
      either_keeps (is_closed (tasks x).standing) (went_on (numbered p) tasks t x) (aborted (numbered p) (went_on (numbered p) tasks t x) x (if x == t then Completed else Killed))
      (on_keeps tasks t x k) (aborted_keeps (went_on (numbered p) tasks t x) x (if x == t then Completed else Killed) (on_keeps tasks t x k))
  acted_keeps tasks Z k = k

  pub moved_keeps : (w : World Task) (move : Move) → EachHasRoom room w → EachHasRoom room (moved p w move)
  moved_keeps w (Step t) k = freed_keeps task_ops.stepped stepped_has_room w.tasks t k
  moved_keeps w (Happen e) k = acted_keeps w.tasks e k

  pub all_keep : (w : World Task) (moves : List Move) → EachHasRoom room w → EachHasRoom room (world_after p w moves)
  all_keep w [] k = k
  all_keep w (move ∷ moves) k = all_keep (moved p w move) moves (moved_keeps w move k)

-- ---- the start

module _ (setup : ProgramWithInputs) (numbers : Numbering) where
  abbrev first : ℕ → Seat Task
  first t = live (started (setting_of setup numbers) setup.inputs t)

  length_first : (n : ℕ) → length (first_tasks setup numbers n) ≡ n
  length_first zero = refl
  length_first (suc n) =
      let e : length (first_tasks setup numbers n) ≡ n = length_first n in
      length-append (first_tasks setup numbers n) (first n ∷ []) ∙ (let k : length (first_tasks setup numbers n) + 1 ≡ suc n = omega arith in k)

  abbrev Has : ℕ → Seat Task → Type 0
  Has t seat = HasRoom (room_of setup numbers t) seat.local

  first_has : (t : ℕ) → Has t (first t)
  first_has t = started_has_room (room_of setup numbers t) (setting_of setup numbers) t (unit_of setup.program numbers t) (slice_index_or setup.inputs t []) (let n : ℕ = room_of setup numbers t in omega arith)

  nobody_has : (t : ℕ) → Has t (completed nobody)
  nobody_has t = ((none_fits _, none_fits _), tt)

  among_has : (n t : ℕ) → Has t (slice_index_or (first_tasks setup numbers n) t (completed nobody))
  among_has zero t = nobody_has t
  among_has (suc n) t = ⊎_elim
      (λ (k : t < n). subst (Has t) (sym (get_or_append_left (first_tasks setup numbers n) (first n ∷ []) (completed nobody) t (let e : length (first_tasks setup numbers n) ≡ n = length_first n in omega arith))) (among_has n t))
      (λ (k : n ≤ t). ⊎_elim
      (λ (l : n < t). subst (Has t) (sym (get_or_past (first_tasks setup numbers (suc n)) t (completed nobody) (let e : length (first_tasks setup numbers (suc n)) ≡ suc n = length_first (suc n) in omega arith))) (nobody_has t))
      (λ (l : t ≤ n). let e : n ≡ t = omega arith in
      subst (Has t) (sym (get_or_push (first_tasks setup numbers n) (first n) (completed nobody) t (length_first n ∙ e) ∙ ap first e)) (first_has t))
      (cases_lt n t))
      (cases_lt t n)

  pub first_world_has_room : EachHasRoom (room_of setup numbers) (first_world setup numbers)
  first_world_has_room t = among_has (length numbers.tasks) t

pub stays_within : StaysWithin
stays_within setup numbers moves =
    all_keep (program_in setup numbers).owner (program_in setup numbers).size (room_of setup numbers) (first_world setup numbers) moves (first_world_has_room setup numbers)

pub never_wider : NeverWider
never_wider setup numbers moves t =
    room_here (room_of setup numbers t) ((world_after (program_in setup numbers) (first_world setup numbers) moves).tasks t).local (stays_within setup numbers moves t)
