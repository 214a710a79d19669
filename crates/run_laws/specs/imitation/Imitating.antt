-- How tasks imitate those of another program, in the worlds that are told of it (this project's rule).
use Rattle.std.specs.Prelude.{◌≡◌, ℕ, ℤ, ◌<◌, ◌≤◌, true, false, ◌==◌, zero, suc, List, [], ◌∷◌}
use Rattle.event_machine.specs.declared.Standing.TheVariants.{Live, Completed, Served}
use Rattle.event_machine.specs.declared.Event.TheVariants.{R, E, S, D, C, T, F, B}
use Rattle.event_machine.specs.Offers.{Nothing}
use Rattle.event_machine.specs.States.{Ops, Seat, State}
use Rattle.event_machine.specs.Programs.{Program}
use Rattle.event_machine.specs.Soundness.{IsSound}
use Rattle.event_machine.specs.Worlds.{World, Step, Happen, can_move}

-- the state of a task in a world
abbrev pub local_at : {L : Type 0} → World L → ℕ → L
local_at w t = (w.tasks t).local

-- A world of which this is known, and its tasks are served by those whose callers they are.
pub record IsFound {L : Type 0} (ops : Ops L) (IsProper : L → Type 0) (Known : World L → Type 0) (w : World L) : Type 0 where
  pub known : Known w
  pub sound : IsSound ops IsProper w.tasks

-- `Meets` says which states of the two go together, and `Fine` what is so of each free task that imitates.
module _ {L K : Type 0} (q : Ops K) (out : K → List ℕ) (Meets : K → L → Type 0) (Fine : K → Type 0) where
  -- After so many local steps that write nothing it meets this state, and it is fine before each of them.
  abbrev pub ReachesAfter : ℕ → K → L → Type 0
  ReachesAfter zero k l = Meets k l
  ReachesAfter (suc n) k l = (q.can_step k ≡ true) × Fine k × (out (q.stepped k) ≡ out k) × ReachesAfter n (q.stepped k) l

  -- After finitely many such steps it meets this state.
  abbrev pub ReachesAtLast : K → L → Type 0
  ReachesAtLast k l = (n : ℕ) × ReachesAfter n k l

  -- Tasks imitate those of the program p, which have written so: where one meets a state it is fine and has written the same, and it has the same offer
  -- or a local step too; and what a step or an event makes of it reaches what it makes of the program's task. Each fact is on one task, or on the two of
  -- a rendezvous, in a world that is so and in which the event can happen.
  pub record ImitatesWhere (p : Program L) (written : L → List ℕ) (IsSo : World L → Type 0) : Type 0 where
    pub rests : (k : K) → q.can_step k ≡ true → q.offer k ≡ Nothing
    pub output : (k : K) (l : L) → Meets k l → out k ≡ written l
    pub fine : (w : World L) → IsSo w → (t : ℕ) (k : K) → Meets k (local_at w t) → (w.tasks t).standing ≡ Live → Fine k
    pub steps : (w : World L) → IsSo w → (t : ℕ) (k : K) → Meets k (local_at w t) → can_move p w (Step t) ≡ true →
        (q.can_step k ≡ true) × ReachesAtLast (q.stepped k) (p.ops.stepped (local_at w t))
    pub offers : (w : World L) → IsSo w → (t : ℕ) (k : K) → Meets k (local_at w t) → (w.tasks t).standing ≡ Live → p.ops.can_step (local_at w t) ≡ false →
        (q.can_step k ≡ false) × (q.offer k ≡ p.ops.offer (local_at w t))
    pub callers : (w : World L) → IsSo w → (a : ℕ) (k : K) → Meets k (local_at w a) → can_move p w (Happen (E a)) ≡ true → q.callers k ≡ p.ops.callers (local_at w a)
    -- the caller j and the acceptor k as their rendezvous starts (R), and as it ends (E)
    pub accepted : (w : World L) → IsSo w → (c e : ℕ) (i : ℤ) (j k : K) → Meets j (local_at w c) → Meets k (local_at w (p.owner e)) → can_move p w (Happen (R c e i)) ≡ true →
        ReachesAtLast (q.accepted e i c j k) (p.ops.accepted e i c (local_at w c) (local_at w (p.owner e)))
    pub finished : (w : World L) → IsSo w → (a : ℕ) (k : K) → Meets k (local_at w a) → can_move p w (Happen (E a)) ≡ true →
        ReachesAtLast (q.finished k) (p.ops.finished (local_at w a))
    pub resumed : (w : World L) → IsSo w → (a c : ℕ) (outer : List ℕ) (j k : K) → p.ops.callers (local_at w a) ≡ c ∷ outer → (w.tasks c).standing ≡ Served a false →
        Meets j (local_at w c) → Meets k (local_at w a) → can_move p w (Happen (E a)) ≡ true → ReachesAtLast (q.resumed k j) (p.ops.resumed (local_at w a) (local_at w c))
    -- other parts of waits (S, D) and of calls (C, T), calls that fail (F)
    pub took_else : (w : World L) → IsSo w → (a : ℕ) (k : K) → Meets k (local_at w a) → can_move p w (Happen (S a)) ≡ true →
        ReachesAtLast (q.took_else k) (p.ops.took_else (local_at w a))
    pub took_delay : (w : World L) → IsSo w → (a d : ℕ) (k : K) → Meets k (local_at w a) → can_move p w (Happen (D a d)) ≡ true →
        ReachesAtLast (q.took_delay d k) (p.ops.took_delay d (local_at w a))
    pub call_else : (w : World L) → IsSo w → (c e : ℕ) (i : ℤ) (k : K) → Meets k (local_at w c) → can_move p w (Happen (C c e i)) ≡ true →
        ReachesAtLast (q.took_else k) (p.ops.took_else (local_at w c))
    pub expired : (w : World L) → IsSo w → (c e : ℕ) (i : ℤ) (k : K) → Meets k (local_at w c) → can_move p w (Happen (T c e i)) ≡ true →
        ReachesAtLast (q.took_delay 1 k) (p.ops.took_delay 1 (local_at w c))
    pub failed : (w : World L) → IsSo w → (c e : ℕ) (i : ℤ) (k : K) → Meets k (local_at w c) → can_move p w (Happen (F c e i)) ≡ true →
        ReachesAtLast (q.raised k) (p.ops.raised (local_at w c))
    -- an abort (B): the task that aborts another, and the callers of the one that is aborted
    pub passed : (w : World L) → IsSo w → (t v : ℕ) (k : K) → Meets k (local_at w t) → can_move p w (Happen (B t v)) ≡ true → (v == t) ≡ false →
        ReachesAtLast (q.passed k) (p.ops.passed (local_at w t))
    pub let_go : (w : World L) → IsSo w → (t v u : ℕ) (k : K) → Meets k (local_at w u) → (w.tasks u).standing ≡ Served v false → can_move p w (Happen (B t v)) ≡ true →
        ReachesAtLast (q.raised k) (p.ops.raised (local_at w u))

  -- The state opens an imitation of so many tasks: nobody is queued, and each task reaches what the other program's is.
  pub record OpensAs (size : ℕ) (opening : State (ℕ → Seat L)) (at : State (ℕ → Seat K)) : Type 0 where
    pub line : at.line ≡ []
    pub ended : at.ended ≡ false
    pub standing : (t : ℕ) → t < size → (at.seats t).standing ≡ Live
    pub beyond : (t : ℕ) → size ≤ t → (at.seats t).standing ≡ Completed
    pub tasks : (t : ℕ) → t < size → ReachesAtLast (at.seats t).local (opening.seats t).local
