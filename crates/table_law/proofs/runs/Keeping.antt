-- Whatever a program does, what each operation keeps of a task's own state stays so of all tasks.
use Rattle.std.proofs.Common.{ℕ, ℤ, ◌==◌, Bool, true, false, if◌then◌else◌, List, [], ◌∷◌, sym, subst}
use Rattle.std.proofs.lemmas.Bool.{eqb-true}
use Rattle.event_machine.specs.declared.Standing.{Standing}
use Rattle.event_machine.specs.declared.Standing.TheVariants.{Completed, Killed, Served}
use Rattle.event_machine.specs.declared.Event.{Event}
use Rattle.event_machine.specs.declared.Event.TheVariants.{R, E, S, D, C, T, F, X, B, Z}
use Rattle.event_machine.specs.States.{Ops, Seat, live, completed, is_closed, is_abnormal, is_served_by}
use Rattle.event_machine.specs.Effects.{freed, stand, released_first, fallen, aborted, went_on}
use Rattle.event_machine.specs.Programs.{Program, numbered}
use Rattle.event_machine.specs.Worlds.{World, Move, Step, Happen, acted, moved, world_after}
use Rattle.run_laws.proofs.replaying.Facts.{put, put_each, let_go}

-- what holds of a task of each number holds behind f
abbrev Keeps : {L : Type 0} → (ℕ → L → Type 0) → (L → L) → Type 0
Keeps {L} P f = (u : ℕ) (l : L) → P u l → P u (f l)

-- Each operation keeps it.
pub record AllKeep {L : Type 0} (ops : Ops L) (P : ℕ → L → Type 0) : Type 0 where
  pub stepped : Keeps P ops.stepped
  pub accepted : (e : ℕ) (i : ℤ) (c : ℕ) (caller : L) → Keeps P (ops.accepted e i c caller)
  pub finished : Keeps P ops.finished
  pub resumed : (acceptor : L) → Keeps P (ops.resumed acceptor)
  pub raised : Keeps P ops.raised
  pub took_else : Keeps P ops.took_else
  pub took_delay : (n : ℕ) → Keeps P (ops.took_delay n)
  pub passed : Keeps P ops.passed

-- ---- each move keeps it of all tasks

module _ {L : Type 0} (p : Program L) (P : ℕ → L → Type 0) (k : AllKeep p.ops P) where
  abbrev Has : ℕ → Seat L → Type 0
  Has u seat = P u seat.local

  abbrev Each : (ℕ → Seat L) → Type 0
  Each tasks = (u : ℕ) → Has u (tasks u)

  put_keeps : (tasks : ℕ → Seat L) (t : ℕ) (seat : Seat L) → Each tasks → Has t seat → Each (put tasks t seat)
  put_keeps tasks t seat h there u = put_each Has tasks t seat u (λ q. subst (λ v. Has v seat) (sym (eqb-true u t q)) there) (λ q. h u)

  freed_keeps : (f : L → L) → Keeps P f → (tasks : ℕ → Seat L) (t : ℕ) → Each tasks → Each (freed (numbered p).store f tasks t)
  freed_keeps f keeps tasks t h = put_keeps tasks t (live (f (tasks t).local)) h (keeps t (tasks t).local (h t))

  stand_keeps : (tasks : ℕ → Seat L) (t : ℕ) (standing : Standing) → Each tasks → Each (stand (numbered p).store tasks t standing)
  stand_keeps tasks t standing h = put_keeps tasks t (record { local = (tasks t).local; standing = standing }) h (h t)

  let_go_keeps : (f : L → L) → Keeps P f → (a u : ℕ) (seat : Seat L) → Has u seat → Has u (let_go f a seat)
  let_go_keeps f keeps a u seat h = go (is_served_by a seat.standing) (is_abnormal seat.standing)
    where
      go : (b c : Bool) → Has u (if b then (if c then completed seat.local else live (f seat.local)) else seat)
      go true true = h
      go true false = keeps u seat.local h
      go false c = h

  first_keeps : (a : ℕ) (acceptor : L) (callers : List ℕ) (tasks : ℕ → Seat L) → Each tasks → Each (released_first (numbered p) a acceptor callers tasks)
  first_keeps a acceptor [] tasks h = h
  first_keeps a acceptor (c ∷ callers) tasks h =
      put_keeps tasks c (let_go (p.ops.resumed acceptor) a (tasks c)) h (let_go_keeps (p.ops.resumed acceptor) (k.resumed acceptor) a c (tasks c) (h c))

  aborted_keeps : (tasks : ℕ → Seat L) (x : ℕ) (closing : Standing) → Each tasks → Each (aborted (numbered p) tasks x closing)
  aborted_keeps tasks x closing h =
      stand_keeps (λ u. let_go p.ops.raised x (tasks u)) x (fallen closing (let_go p.ops.raised x (tasks x)).standing) (λ u. let_go_keeps p.ops.raised k.raised x u (tasks u) (h u))

  either_keeps : (b : Bool) (before after : ℕ → Seat L) → Each before → Each after → Each (if◌then◌else◌ {A = ℕ → Seat L} b before after)
  either_keeps true before after g h = g
  either_keeps false before after g h = h

  on_keeps : (tasks : ℕ → Seat L) (t x : ℕ) → Each tasks → Each (went_on (numbered p) tasks t x)
  on_keeps tasks t x h = either_keeps (x == t) tasks (freed (numbered p).store p.ops.passed tasks t) h (freed_keeps p.ops.passed k.passed tasks t h)

  acted_keeps : (tasks : ℕ → Seat L) (e : Event) → Each tasks → Each (acted (numbered p) tasks e)
  acted_keeps tasks (R c e i) h =
      stand_keeps (freed (numbered p).store (p.ops.accepted e i c (tasks c).local) tasks (p.owner e)) c (Served (p.owner e) false)
      (freed_keeps (p.ops.accepted e i c (tasks c).local) (k.accepted e i c (tasks c).local) tasks (p.owner e) h)
  acted_keeps tasks (E a) h =
      first_keeps a (tasks a).local (p.ops.callers (tasks a).local) (freed (numbered p).store p.ops.finished tasks a) (freed_keeps p.ops.finished k.finished tasks a h)
  acted_keeps tasks (S a) h = freed_keeps p.ops.took_else k.took_else tasks a h
  acted_keeps tasks (D a n) h = freed_keeps (p.ops.took_delay n) (k.took_delay n) tasks a h
  acted_keeps tasks (C c e i) h = freed_keeps p.ops.took_else k.took_else tasks c h
  acted_keeps tasks (T c e i) h = freed_keeps (p.ops.took_delay 1) (k.took_delay 1) tasks c h
  acted_keeps tasks (F c e i) h = freed_keeps p.ops.raised k.raised tasks c h
  acted_keeps tasks (X a) h = stand_keeps tasks a Completed h
  acted_keeps tasks (B t x) h =
      either_keeps (is_closed (tasks x).standing) (went_on (numbered p) tasks t x) (aborted (numbered p) (went_on (numbered p) tasks t x) x (if x == t then Completed else Killed))
      (on_keeps tasks t x h) (aborted_keeps (went_on (numbered p) tasks t x) x (if x == t then Completed else Killed) (on_keeps tasks t x h))
  acted_keeps tasks Z h = h

  pub moved_keeps : (w : World L) (move : Move) → Each w.tasks → Each (moved p w move).tasks
  moved_keeps w (Step t) h = freed_keeps p.ops.stepped k.stepped w.tasks t h
  moved_keeps w (Happen e) h = acted_keeps w.tasks e h

  pub all_keep : (moves : List Move) (w : World L) → Each w.tasks → Each (world_after p w moves).tasks
  all_keep [] w h = h
  all_keep (move ∷ moves) w h = all_keep moves (moved p w move) (moved_keeps w move h)
