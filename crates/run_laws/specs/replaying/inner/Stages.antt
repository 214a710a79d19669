-- The invariant of replaying, by stages: where the controller is in its script says where each task is (this project's rule).
use Rattle.std.specs.Prelude.{◌≡◌, ℕ, ℤ, ◌<◌, ◌≤◌, Bool, true, false, ◌||◌, ◌==◌, if◌then◌else◌, nat_lt, suc, List, [], ◌∷◌, ◌++◌, ◌⊎◌}
use Rattle.event_machine.specs.declared.Standing.{Standing}
use Rattle.event_machine.specs.declared.Standing.TheVariants.{Live, Waiting, Queued, Served, Completed, Killed}
use Rattle.event_machine.specs.declared.Event.{Event}
use Rattle.event_machine.specs.Offers.{calls_in, is_any_form}
use Rattle.event_machine.specs.States.{Seat, live, is_completed}
use Rattle.event_machine.specs.Worlds.{World, Move, is_last, AreMoves, world_after, happened}
use Rattle.run_laws.specs.replaying.Permits.{Permit, ToMeet, permit_of, Op, Go, Done, Join, Hold}
use Rattle.run_laws.specs.replaying.Copies.{Copy, Based, Holding, Saying, Controlling, Handing, Idling, under, is_own}
use Rattle.run_laws.specs.replaying.Scripts.{known, takers, closing, grants}
use Rattle.run_laws.specs.replaying.Rewritings.{Setting, start, control, idle, left}

-- ---- the original in its copy

module _ (x : Setting) where
  -- how the original task stands: one that the controller serves is free
  abbrev pub free_of : Standing → Standing
  free_of Live = Live
  free_of Waiting = Waiting
  free_of Queued = Queued
  free_of (Served by abnormal) = if by == control x then Live else Served by abnormal
  free_of Completed = Completed
  free_of Killed = Killed

  abbrev pub image_seat : Seat (Copy x.L) → Seat x.L
  image_seat seat = record { local = under x.p.ops.nobody seat.local; standing = free_of seat.standing }

  abbrev pub image_of : ℕ → Seat (Copy x.L) → Seat x.L
  image_of t seat = if nat_lt t x.p.size then image_seat seat else (start x).tasks t

  -- The original tasks in those of the copy.
  abbrev pub image : (ℕ → Seat (Copy x.L)) → ℕ → Seat x.L
  image tasks t = image_of t (tasks t)

  abbrev pub image_world : World (Copy x.L) → World x.L
  image_world w = record { tasks = image w.tasks; ended = w.ended }

  -- Some moves of the original with these events lead to the world.
  pub record IsReached (events : List Event) (d : World x.L) : Type 0 where
    pub moves : List Move
    pub made : AreMoves x.p (start x) moves
    pub happens : happened moves ≡ events
    pub ends : world_after x.p (start x) moves ≡ d

-- ---- stages

-- Where the controller is.
pub data Stage : Type 0 where
  -- it waits for ever
  Held : Stage
  -- it gives the permits of an event, before these others: some tasks have theirs, the last one first, and some are to get one
  Giving : Event → List Event → List ℕ → List ℕ → Stage
  -- it has met a task that asks for its permit
  Asked : Event → List Event → List ℕ → ℕ → List ℕ → Stage
  -- the event has come, and this task is to say so
  Acted : ℕ → Stage
  -- it has met this task, which says so
  Told : ℕ → Stage
  -- the event has come, and has closed this task
  Parted : ℕ → Stage
  -- the program has ended
  Over : Stage

-- Where an original task is.
pub data Place : Type 0 where
  -- it makes local steps, waits for a permit, is the caller in a rendezvous, or is closed
  Away : Place
  Asks : Place
  Holds : Permit → Place
  Says : Place
  Hears : Place
  Gone : Place

abbrev pub member : ℕ → List ℕ → Bool
member t [] = false
member t (u ∷ us) = (t == u) || member t us

-- the places at a stage
abbrev pub place : Stage → ℕ → Place
place Held t = Away
place (Giving e tail given more) t = if member t given then Holds (permit_of e) else Away
place (Asked e tail given a more) t = if t == a then Asks else (if member t given then Holds (permit_of e) else Away)
place (Acted a) t = if t == a then Says else Away
place (Told a) t = if t == a then Hears else Away
place (Parted a) t = Away
place Over t = Gone

-- those that have a permit, the last one first, and then those that are to get one
abbrev pub in_order : List ℕ → List ℕ → List ℕ
in_order [] more = more
in_order (t ∷ given) more = in_order given (t ∷ more)

module _ (x : Setting) where
  -- a task that is away, by how it stands
  abbrev pub AwayAt : ℕ → Standing → Copy x.L → Type 0
  AwayAt t Live k = (l : x.L) × (k ≡ Based t l)
  AwayAt t Waiting k = ⊥
  AwayAt t Queued k = ⊥
  AwayAt t (Served by abnormal) k = (e : ℕ) × (i : ℤ) × (l : x.L) × (k ≡ Holding t (ToMeet e i) l) × (calls_in is_any_form e i (x.p.ops.offer l) ≡ true) × (by < x.p.size)
  AwayAt t Completed k = is_own k ≡ true
  AwayAt t Killed k = is_own k ≡ true

  -- The task is at the place.
  abbrev pub SeatAt : Place → ℕ → Seat (Copy x.L) → Type 0
  SeatAt Away t seat = AwayAt t seat.standing seat.local
  SeatAt Asks t seat = (l : x.L) × (seat ≡ record { local = Based t l; standing = Served (control x) false }) × (x.p.ops.can_step l ≡ false)
  SeatAt (Holds permit) t seat = (l : x.L) × (seat ≡ live (Holding t permit l)) × (x.p.ops.can_step l ≡ false)
  SeatAt Says t seat = (l : x.L) × (seat ≡ live (Saying t l))
  SeatAt Hears t seat = (l : x.L) × (seat ≡ record { local = Saying t l; standing = Served (control x) false })
  SeatAt Gone t seat = is_own seat.local ≡ true

  -- the operations that stand behind the permits of an event
  abbrev pub behind_event : x.G → Event → List Event → List Op
  behind_event g e tail = closing x.p.owner e ++ (if is_last e then [] else left x (x.progress.advance g e) tail)

  -- the controller before operations: with none it may have completed
  abbrev pub Commands : List Op → Seat (Copy x.L) → Type 0
  Commands ops seat = (seat ≡ live (Controlling ops)) ⊎ ((ops ≡ []) × (seat.standing ≡ Completed))

  -- The controller at a stage.
  abbrev pub ControlAt : x.G → List Event → Stage → Seat (Copy x.L) → Type 0
  ControlAt g rest Held seat = seat ≡ live (Controlling (Hold ∷ []))
  ControlAt g rest (Giving e tail given more) seat = Commands (grants (permit_of e) more (behind_event g e tail)) seat
  ControlAt g rest (Asked e tail given a more) seat = seat ≡ live (Handing (Go a (permit_of e)) (grants (permit_of e) more (behind_event g e tail)))
  ControlAt g rest (Acted a) seat = seat ≡ live (Controlling (Done a ∷ left x g rest))
  ControlAt g rest (Told a) seat = seat ≡ live (Handing (Done a) (left x g rest))
  ControlAt g rest (Parted a) seat = seat ≡ live (Controlling (Join a ∷ left x g rest))
  ControlAt g rest Over seat = Unit {0}

  -- The stage is one of the events that are left.
  abbrev pub Fits : x.G → List Event → Stage → World (Copy x.L) → Type 0
  Fits g rest Held w = (w.ended ≡ false) × ((e : Event) (tail : List Event) → rest ≡ e ∷ tail → x.progress.admits g e ≡ false)
  Fits g rest (Giving e tail given more) w =
      (w.ended ≡ false) × (rest ≡ e ∷ tail) × (x.progress.admits g e ≡ true) × (in_order given more ≡ takers x.progress x.p.owner g e)
  Fits g rest (Asked e tail given a more) w =
      (w.ended ≡ false) × (rest ≡ e ∷ tail) × (x.progress.admits g e ≡ true) × (in_order given (a ∷ more) ≡ takers x.progress x.p.owner g e) × (a < x.p.size)
  Fits g rest (Acted a) w = (w.ended ≡ false) × (a < x.p.size)
  Fits g rest (Told a) w = (w.ended ≡ false) × (a < x.p.size)
  Fits g rest (Parted a) w = (w.ended ≡ false) × (a < x.p.size) × (is_completed (w.tasks a).standing ≡ true)
  Fits g rest Over w = w.ended ≡ true

  -- The invariant: these events have come, these are left, and each task is at its place.
  pub record Inv (past rest : List Event) (stage : Stage) (w : World (Copy x.L)) : Type 0 where
    pub splits : past ++ rest ≡ x.s
    pub reached : IsReached x past (image_world x w)
    pub fits : Fits (known x.progress x.progress.start past) rest stage w
    pub controls : ControlAt (known x.progress x.progress.start past) rest stage (w.tasks (control x))
    pub idles : w.tasks (idle x) ≡ live Idling
    pub seats : (t : ℕ) → t < x.p.size → SeatAt (place stage t) t (w.tasks t)
    pub beyond : (t : ℕ) → suc (suc x.p.size) ≤ t → is_completed (w.tasks t).standing ≡ true
