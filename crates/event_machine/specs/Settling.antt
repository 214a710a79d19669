-- The machine without queues by its bases: of each task is kept how it was after the last event that changed it, and an event happens where
-- the free tasks that it needs come to rest by local steps. What a list of events leads to is so a function of the list.
use Rattle.std.specs.Prelude.{◌≡◌, ℕ, true, false, ◌&&◌, ◌||◌, if◌then◌else◌, suc, zero, List, [], ◌∷◌, MatchBool}
use Rattle.event_machine.specs.declared.Standing.{Standing}
use Rattle.event_machine.specs.declared.Standing.TheVariants.{Live, Waiting, Queued, Served, Completed, Killed}
use Rattle.event_machine.specs.declared.Event.{Event}
use Rattle.event_machine.specs.States.{Ops, Seat, is_live}
use Rattle.event_machine.specs.Programs.{Program, numbered}
use Rattle.event_machine.specs.Worlds.{World, needs, changes, happens, acted, is_last}

-- the state after n local steps
abbrev pub ran : {L : Type 0} → Ops L → ℕ → L → L
ran ops zero l = l
ran ops (suc n) l = ops.stepped (ran ops n l)

-- It has n local steps, one after the other.
abbrev pub HasSteps : {L : Type 0} → Ops L → ℕ → L → Type 0
HasSteps ops zero l = Unit {0}
HasSteps ops (suc n) l = HasSteps ops n l × (ops.can_step (ran ops n l) ≡ true)

-- After n local steps it rests.
abbrev pub Settles : {L : Type 0} → Ops L → ℕ → L → Type 0
Settles ops n l = HasSteps ops n l × (ops.can_step (ran ops n l) ≡ false)

-- each task after so many local steps
abbrev pub run_on : {L : Type 0} → Ops L → (ℕ → ℕ) → (ℕ → Seat L) → ℕ → Seat L
run_on ops steps tasks t = record { local = ran ops (steps t) (tasks t).local; standing = (tasks t).standing }

-- The bases after an event that finds the tasks after so many local steps: those that it changes have new ones.
abbrev pub fired : {L : Type 0} → Program L → (ℕ → ℕ) → World L → Event → World L
fired p steps w e = record {
  tasks = λ t. if changes p.ops p.owner (run_on p.ops steps w.tasks) e t then acted (numbered p) (run_on p.ops steps w.tasks) e t else w.tasks t;
  ended = is_last e || w.ended;
}

-- The event happens: the free tasks that it needs settle, the others stay at their bases, and its conditions hold there.
pub record Fires {L : Type 0} (p : Program L) (w : World L) (e : Event) (next : World L) : Type 0 where
  pub steps : ℕ → ℕ
  pub settles : (t : ℕ) → MatchBool (needs p e t && is_live (w.tasks t).standing) (Settles p.ops (steps t) (w.tasks t).local) (steps t ≡ 0)
  pub runs : w.ended ≡ false
  pub holds : happens p (run_on p.ops steps w.tasks) e ≡ true
  pub becomes : next ≡ fired p steps w e

-- The events happen one after the other, and lead from the one world to the other.
abbrev pub Leads : {L : Type 0} → Program L → World L → List Event → World L → Type 0
Leads p w [] last = w ≡ last
Leads {L} p w (e ∷ events) last = (next : World L) × Fires p w e next × Leads p next events last

-- A base run on by m local steps stands for a count of n: for a free task they are the same, a served or completed one stays at its base,
-- and a killed one may have run on before the abort.
abbrev pub CountsFor : Standing → ℕ → ℕ → Type 0
CountsFor Live n m = m ≡ n
CountsFor Waiting n m = m ≡ n
CountsFor Queued n m = m ≡ n
CountsFor (Served by abnormal) n m = m ≡ 0
CountsFor Completed n m = m ≡ 0
CountsFor Killed n m = Unit {0}

-- The task is its base run on by its count of local steps.
pub record IsRunOn {L : Type 0} (ops : Ops L) (base : Seat L) (count : ℕ) (seat : Seat L) : Type 0 where
  pub standing : seat.standing ≡ base.standing
  pub steps : ℕ
  pub has_steps : HasSteps ops steps base.local
  pub local : seat.local ≡ ran ops steps base.local
  pub counted : CountsFor base.standing count steps

-- The world is that of the bases with each task run on by its count.
pub record Follows {L : Type 0} (p : Program L) (bases : World L) (w : World L) (count : ℕ → ℕ) : Type 0 where
  pub ended : w.ended ≡ bases.ended
  pub each : (t : ℕ) → IsRunOn p.ops (bases.tasks t) (count t) (w.tasks t)
