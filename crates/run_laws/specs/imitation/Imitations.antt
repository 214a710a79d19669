-- A program whose tasks imitate those of another, task by task (this project's rule).
use Rattle.std.specs.Prelude.{◌≡◌, ℕ, ◌<◌, true, List}
use Rattle.event_machine.specs.States.{Ops, Seat, State}
use Rattle.event_machine.specs.Lawful.{IsLawful}
use Rattle.event_machine.specs.Programs.{Program, numbered, IsOpening}
use Rattle.event_machine.specs.Soundness.{IsSound}
use Rattle.event_machine.specs.Worlds.{World, Move, world_of, can_move, moved}
pub use Rattle.run_laws.specs.imitation.Imitating.{local_at}
use Rattle.run_laws.specs.imitation.Imitating.{IsFound, ReachesAfter, ReachesAtLast, ImitatesWhere, OpensAs}

-- A program in its opening state, with something that is known of each world that it comes to.
pub record Original : Type 1 where
  pub L : Type 0
  pub p : Program L
  pub out : L → List ℕ
  pub IsProper : L → Type 0
  pub lawful : IsLawful p.ops IsProper
  pub opening : State (ℕ → Seat L)
  pub opens_so : IsOpening (numbered p) opening
  pub proper : (t : ℕ) → t < p.size → IsProper (opening.seats t).local
  pub Known : World L → Type 0
  pub known_first : Known (world_of opening)
  pub known_on : (w : World L) (move : Move) → Known w → IsSound p.ops IsProper w.tasks → can_move p w move ≡ true → Known (moved p w move)

-- the world at the start
abbrev pub start : (x : Original) → World x.L
start x = world_of x.opening

-- A world as the original comes to it: what is known of it holds, and its tasks are served by those whose callers they are.
abbrev pub IsComeTo : (x : Original) → World x.L → Type 0
IsComeTo x w = IsFound x.p.ops x.IsProper x.Known w

-- `Meets` says which states of the two go together, and `Fine` what is so of each free task that imitates.
module _ (x : Original) {K : Type 0} (q : Ops K) (out : K → List ℕ) (Meets : K → x.L → Type 0) (Fine : K → Type 0) where
  -- After so many local steps that write nothing it meets this state, and it is fine before each of them.
  abbrev pub ReachesIn : ℕ → K → x.L → Type 0
  ReachesIn n k l = ReachesAfter q out Meets Fine n k l

  -- After finitely many such steps it meets this state.
  abbrev pub Reaches : K → x.L → Type 0
  Reaches k l = ReachesAtLast q out Meets Fine k l

  -- Tasks imitate those of the original, in each world that it comes to.
  abbrev pub Imitates : Type 0
  Imitates = ImitatesWhere q out Meets Fine x.p x.out (IsComeTo x)

  -- The state opens an imitation: nobody is queued, and each task reaches what the original's is.
  abbrev pub OpensSo : State (ℕ → Seat K) → Type 0
  OpensSo at = OpensAs q out Meets Fine x.p.size x.opening at

  -- the program of these tasks
  abbrev pub imitation : Program K
  imitation = record { ops = q; owner = x.p.owner; size = x.p.size }
