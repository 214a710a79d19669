-- The script of a sequence: the operations of the controller, and what it knows of a run by its events alone (this project's rule).
use Rattle.std.specs.Prelude.{◌≡◌, ℕ, Bool, true, false, ◌&&◌, ◌==◌, if◌then◌else◌, nat_lt, List, [], ◌∷◌, ◌++◌}
use Rattle.event_machine.specs.declared.Event.{Event}
use Rattle.event_machine.specs.declared.Event.TheVariants.{R, E, S, D, C, T, F, X, B, Z}
use Rattle.event_machine.specs.States.{is_live}
use Rattle.event_machine.specs.Programs.{Program}
use Rattle.event_machine.specs.Worlds.{World, Move, happens, is_last, AreMoves, world_after, happened}
use Rattle.event_machine.specs.Admitting.{IsAdmitted}
use Rattle.event_machine.specs.Soundness.{times}
use Rattle.run_laws.specs.replaying.Permits.{Permit, permit_of, Op, Go, Done, Join, Hold}

-- What is known of a run by its events alone.
pub record Progress (G : Type 0) : Type 0 where
  -- before the first event
  pub start : G
  -- this event can come next
  pub admits : G → Event → Bool
  -- after one more event
  pub advance : G → Event → G
  -- the tasks from 1 up that have not completed, where nobody is served
  pub others : G → List ℕ

-- what is known after the events
abbrev pub known : {G : Type 0} → Progress G → G → List Event → G
known progress g [] = g
known progress g (e ∷ events) = known progress (progress.advance g e) events

-- the tasks that an event needs a permit for
abbrev pub takers : {G : Type 0} → Progress G → (ℕ → ℕ) → G → Event → List ℕ
takers progress owner g (R c e i) = c ∷ owner e ∷ []
takers progress owner g (E a) = a ∷ []
takers progress owner g (S a) = a ∷ []
takers progress owner g (D a k) = a ∷ []
takers progress owner g (C c e i) = c ∷ []
takers progress owner g (T c e i) = c ∷ []
takers progress owner g (F c e i) = c ∷ []
takers progress owner g (X a) = a ∷ []
takers progress owner g (B t x) = t ∷ []
takers progress owner g Z = progress.others g ++ (0 ∷ [])

-- how the controller learns that an event has come
abbrev pub closing : (ℕ → ℕ) → Event → List Op
closing owner (R c e i) = Done (owner e) ∷ []
closing owner (E a) = Done a ∷ []
closing owner (S a) = Done a ∷ []
closing owner (D a k) = Done a ∷ []
closing owner (C c e i) = Done c ∷ []
closing owner (T c e i) = Done c ∷ []
closing owner (F c e i) = Done c ∷ []
closing owner (X a) = Join a ∷ []
closing owner (B t x) = (if x == t then Join t else Done t) ∷ []
closing owner Z = []

-- the permit to each of the tasks, and then these operations
abbrev pub grants : Permit → List ℕ → List Op → List Op
grants permit [] ops = ops
grants permit (t ∷ ts) ops = Go t permit ∷ grants permit ts ops

-- The script of a sequence: the operations of its events, up to the first that cannot come next; nothing follows the end of the program.
abbrev pub script : {G : Type 0} → Progress G → (ℕ → ℕ) → G → List Event → List Op
script progress owner g [] = Hold ∷ []
script progress owner g (e ∷ events) =
    if progress.admits g e
    then grants (permit_of e) (takers progress owner g e) (closing owner e ++ (if is_last e then [] else script progress owner (progress.advance g e) events))
    else Hold ∷ []

-- the task is one of those from 1 up that is live
abbrev pub is_other : {L : Type 0} → Program L → World L → ℕ → Bool
is_other p w t = nat_lt 0 t && (nat_lt t p.size && is_live (w.tasks t).standing)

-- What is known of the events is so of each world that has been reached with them.
pub record IsProgress {L G : Type 0} (p : Program L) (start : World L) (progress : Progress G) : Type 0 where
  -- an event that can come next finds its parties free, and those served and closed that it asks for
  pub admitted : (moves : List Move) (e : Event) → AreMoves p start moves → (world_after p start moves).ended ≡ false →
      progress.admits (known progress progress.start (happened moves)) e ≡ true → IsAdmitted p.owner (world_after p start moves).tasks e
  -- an event whose conditions hold can come next
  pub complete : (moves : List Move) (e : Event) → AreMoves p start moves → (world_after p start moves).ended ≡ false →
      happens p (world_after p start moves).tasks e ≡ true → progress.admits (known progress progress.start (happened moves)) e ≡ true
  -- before the end of the program its tasks are known
  pub others : (moves : List Move) → AreMoves p start moves → (world_after p start moves).ended ≡ false →
      progress.admits (known progress progress.start (happened moves)) Z ≡ true → (t : ℕ) →
      times t (progress.others (known progress progress.start (happened moves))) ≡ (if is_other p (world_after p start moves) t then 1 else 0)
