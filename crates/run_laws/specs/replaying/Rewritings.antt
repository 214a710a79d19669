-- A program with a sequence to be replayed, and what the tasks of a rewritten program owe (this project's rule).
use Rattle.std.specs.Prelude.{◌≡◌, ℕ, ℤ, pos, ◌<◌, ◌≤◌, true, false, ◌==◌, if◌then◌else◌, nat_lt, zero, suc, List, [], ◌∷◌}
use Rattle.event_machine.specs.declared.Standing.TheVariants.{Live, Completed}
use Rattle.event_machine.specs.declared.Event.{Event}
use Rattle.event_machine.specs.Offers.{Nothing, Finishes, calls_in, is_any_form, is_conditional, is_timed, waits_with, is_finish, opens, is_else, is_delay}
use Rattle.event_machine.specs.States.{Ops, Seat, State, live, completed}
use Rattle.event_machine.specs.Lawful.{IsLawful}
use Rattle.event_machine.specs.Programs.{Program, numbered, IsOpening}
use Rattle.event_machine.specs.Worlds.{World, Move, world_of, aborts, AreMoves, world_after}
use Rattle.run_laws.specs.replaying.Permits.{Permit, ToMeet, ToFinish, ToElse, ToDelay, ToCallElse, ToExpire, ToFail, ToAbort, Op, Go, Done, Join}
use Rattle.run_laws.specs.replaying.Copies.{Spots, IsNumbered, HasOwners, Copy, Based, Holding, Saying, Controlling, Handing, Idling, written, copy_steps, copy_stepped, copy_offer, copy_callers, copy_of}
use Rattle.run_laws.specs.replaying.Scripts.{Progress, IsProgress, script}

-- A program in its opening state, with what is known of its runs by events, the entries of its rewriting, and a sequence.
pub record Setting : Type 1 where
  pub L : Type 0
  pub G : Type 0
  pub p : Program L
  pub out : L → List ℕ
  pub IsProper : L → Type 0
  pub lawful : IsLawful p.ops IsProper
  -- what is so of the state of each free task in each world that the program comes to
  pub Fine : L → Type 0
  -- the main program is a task; an abort statement names tasks, and a call an entry of a task
  pub main : 0 < p.size
  pub calls_tasks : (l : L) (e : ℕ) (i : ℤ) → IsProper l → Fine l → calls_in is_any_form e i (p.ops.offer l) ≡ true → p.owner e < p.size
  pub aborts_tasks : (l : L) (x : ℕ) → IsProper l → Fine l → aborts x (p.ops.offer l) ≡ true → x < p.size
  pub opening : State (ℕ → Seat L)
  pub opens_so : IsOpening (numbered p) opening
  pub proper : (t : ℕ) → t < p.size → IsProper (opening.seats t).local
  pub fine : (moves : List Move) → AreMoves p (world_of opening) moves → (world_after p (world_of opening) moves).ended ≡ false → (t : ℕ) → t < p.size →
      ((world_after p (world_of opening) moves).tasks t).standing ≡ Live → Fine ((world_after p (world_of opening) moves).tasks t).local
  pub n : Spots
  pub numbers : IsNumbered n
  pub owner : ℕ → ℕ
  pub owners : HasOwners p.owner p.size n owner
  pub progress : Progress G
  pub knows : IsProgress p (world_of opening) progress
  pub s : List Event

-- the world at the start
abbrev pub start : (x : Setting) → World x.L
start x = world_of x.opening

-- the copy of the program
abbrev pub twin : (x : Setting) → Program (Copy x.L)
twin x = copy_of x.p x.n x.owner

-- the numbers of the controller and of the idle task
abbrev pub control : Setting → ℕ
control x = x.p.size

abbrev pub idle : Setting → ℕ
idle x = suc x.p.size

-- what is left of the script after events after which this is known
abbrev pub left : (x : Setting) → x.G → List Event → List Op
left x g rest = script x.progress x.p.owner g rest

-- The copy in its opening state.
abbrev pub start_copy : (x : Setting) → ℕ → Seat (Copy x.L)
start_copy x t =
    if nat_lt t x.p.size then live (Based t (x.opening.seats t).local)
    else (if t == control x then live (Controlling (left x x.progress.start x.s)) else (if t == idle x then live Idling else completed Idling))

abbrev pub opening_copy : (x : Setting) → State (ℕ → Seat (Copy x.L))
opening_copy x = record { seats = start_copy x; line = []; ended = false }

-- the state under a task that is to make the original's steps is fine
abbrev pub IsFine : (x : Setting) → Copy x.L → Type 0
IsFine x (Based t l) = x.Fine l
IsFine x (Holding t permit l) = Unit {0}
IsFine x (Saying t l) = Unit {0}
IsFine x (Controlling ops) = Unit {0}
IsFine x (Handing op ops) = Unit {0}
IsFine x Idling = Unit {0}

-- ---- what a task owes

module _ (x : Setting) {K : Type 0} (q : Ops K) (out : K → List ℕ) (Meets : K → Copy x.L → Type 0) where
  -- After so many local steps that write nothing it meets this state.
  abbrev pub ReachesIn : ℕ → K → Copy x.L → Type 0
  ReachesIn zero k m = Meets k m
  ReachesIn (suc n) k m = (q.can_step k ≡ true) × (out (q.stepped k) ≡ out k) × ReachesIn n (q.stepped k) m

  -- After finitely many local steps that write nothing it meets this state.
  abbrev pub Reaches : K → Copy x.L → Type 0
  Reaches k m = (n : ℕ) × ReachesIn n k m

  -- The tasks of a rewritten program do what they are to do: where one meets a state it has written the same, it has the same local step (where the
  -- original's state is fine) or the same offer, and what each event makes of it reaches what the event is to make of it.
  pub record Imitates : Type 0 where
    pub rests : (k : K) → q.can_step k ≡ true → q.offer k ≡ Nothing
    pub output : (k : K) (m : Copy x.L) → Meets k m → out k ≡ written x.out m
    pub steps : (k : K) (m : Copy x.L) → Meets k m → IsFine x m → copy_steps x.p.ops x.n m ≡ true → (q.can_step k ≡ true) × Reaches (q.stepped k) (copy_stepped x.p.ops x.n m)
    pub offers : (k : K) (m : Copy x.L) → Meets k m → copy_steps x.p.ops x.n m ≡ false → (q.can_step k ≡ false) × (q.offer k ≡ copy_offer x.p.ops x.n m)
    pub callers : (k : K) (m : Copy x.L) → Meets k m → copy_offer x.p.ops x.n m ≡ Finishes → q.callers k ≡ copy_callers x.p.ops x.n m
    -- with the controller
    pub asked : (k j : K) (t : ℕ) (l : x.L) (permit : Permit) (ops : List Op) → Meets k (Based t l) → x.p.ops.can_step l ≡ false →
        Meets j (Controlling (Go t permit ∷ ops)) → Reaches (q.accepted x.n.go (pos t) t k j) (Handing (Go t permit) ops)
    pub told : (k j : K) (t : ℕ) (l : x.L) (ops : List Op) → Meets k (Saying t l) →
        Meets j (Controlling (Done t ∷ ops)) → Reaches (q.accepted x.n.done (pos t) t k j) (Handing (Done t) ops)
    pub handed : (j : K) (op : Op) (ops : List Op) → Meets j (Handing op ops) → Reaches (q.finished j) (Controlling ops)
    pub permitted : (k j : K) (t : ℕ) (l : x.L) (permit : Permit) (ops : List Op) → Meets k (Based t l) → x.p.ops.can_step l ≡ false →
        Meets j (Handing (Go t permit) ops) → Reaches (q.resumed j k) (Holding t permit l)
    pub answered : (k j : K) (t : ℕ) (l : x.L) (ops : List Op) → Meets k (Saying t l) → Meets j (Handing (Done t) ops) → Reaches (q.resumed j k) (Based t l)
    pub joined : (j : K) (t : ℕ) (ops : List Op) → Meets j (Controlling (Join t ∷ ops)) → Reaches (q.raised j) (Controlling ops)
    -- by its permit
    pub met : (k j : K) (c o e : ℕ) (i : ℤ) (l m : x.L) → Meets k (Holding c (ToMeet e i) l) → calls_in is_any_form e i (x.p.ops.offer l) ≡ true →
        Meets j (Holding o (ToMeet e i) m) → waits_with (opens e i) (x.p.ops.offer m) ≡ true →
        Reaches (q.accepted (x.n.original e) i c k j) (Saying o (x.p.ops.accepted e i c l m))
    pub finished : (k : K) (a : ℕ) (l : x.L) → Meets k (Holding a ToFinish l) → is_finish (x.p.ops.offer l) ≡ true →
        Reaches (q.finished k) (Saying a (x.p.ops.finished l))
    pub resumed : (k j : K) (c a e : ℕ) (i : ℤ) (l m : x.L) (outer : List ℕ) → x.p.ops.callers m ≡ c ∷ outer → Meets k (Holding c (ToMeet e i) l) → calls_in is_any_form e i (x.p.ops.offer l) ≡ true →
        Meets j (Holding a ToFinish m) → is_finish (x.p.ops.offer m) ≡ true → Reaches (q.resumed j k) (Based c (x.p.ops.resumed m l))
    pub raised : (k : K) (c e : ℕ) (i : ℤ) (l : x.L) → Meets k (Holding c (ToMeet e i) l) → calls_in is_any_form e i (x.p.ops.offer l) ≡ true →
        Reaches (q.raised k) (Based c (x.p.ops.raised l))
    pub took_else : (k : K) (a : ℕ) (l : x.L) → Meets k (Holding a ToElse l) → waits_with is_else (x.p.ops.offer l) ≡ true →
        Reaches (q.took_else k) (Saying a (x.p.ops.took_else l))
    pub took_delay : (k : K) (a d : ℕ) (l : x.L) → Meets k (Holding a (ToDelay d) l) → waits_with (is_delay d) (x.p.ops.offer l) ≡ true →
        Reaches (q.took_delay d k) (Saying a (x.p.ops.took_delay d l))
    pub call_else : (k : K) (c e : ℕ) (i : ℤ) (l : x.L) → Meets k (Holding c (ToCallElse e i) l) → calls_in is_conditional e i (x.p.ops.offer l) ≡ true →
        Reaches (q.took_else k) (Saying c (x.p.ops.took_else l))
    pub expired : (k : K) (c e : ℕ) (i : ℤ) (l : x.L) → Meets k (Holding c (ToExpire e i) l) → calls_in is_timed e i (x.p.ops.offer l) ≡ true →
        Reaches (q.took_delay 1 k) (Saying c (x.p.ops.took_delay 1 l))
    pub failed : (k : K) (c e : ℕ) (i : ℤ) (l : x.L) → Meets k (Holding c (ToFail e i) l) → calls_in is_any_form e i (x.p.ops.offer l) ≡ true →
        Reaches (q.raised k) (Saying c (x.p.ops.raised l))
    pub passed : (k : K) (t v : ℕ) (l : x.L) → Meets k (Holding t (ToAbort v) l) → aborts v (x.p.ops.offer l) ≡ true → (v == t) ≡ false →
        Reaches (q.passed k) (Saying t (x.p.ops.passed l))

  -- The state opens a rewritten program: each task is at its start, the controller before the script of the sequence.
  pub record OpensSo (at : State (ℕ → Seat K)) : Type 0 where
    pub line : at.line ≡ []
    pub ended : at.ended ≡ false
    pub standing : (t : ℕ) → t < suc (suc x.p.size) → (at.seats t).standing ≡ Live
    pub beyond : (t : ℕ) → suc (suc x.p.size) ≤ t → (at.seats t).standing ≡ Completed
    pub tasks : (t : ℕ) → t < x.p.size → Reaches (at.seats t).local (Based t (x.opening.seats t).local)
    pub controls : Reaches (at.seats (control x)).local (Controlling (left x x.progress.start x.s))
    pub idles : Reaches (at.seats (idle x)).local Idling
