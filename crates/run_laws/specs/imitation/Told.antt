-- The law as it is told: over all programs with states of these types (this project's rule).
use Rattle.std.specs.Prelude.{◌≡◌, ℕ, ◌<◌, Bool, true, List}
use Rattle.event_machine.specs.States.{Ops, Seat, State}
use Rattle.event_machine.specs.Lawful.{IsLawful}
use Rattle.event_machine.specs.Programs.{Program, numbered, IsOpening}
use Rattle.event_machine.specs.Soundness.{IsSound}
use Rattle.event_machine.specs.Worlds.{World, Move, world_of, can_move, moved}
use Rattle.run_laws.specs.replaying.Told.{IsYes}
use Rattle.run_laws.specs.imitation.Imitations.{Original, Imitates, OpensSo, imitation}
use Rattle.run_laws.specs.imitation.Shown.{ShowSame, AllFreeAre}

-- some witness shows it
abbrev pub IsSeen : {V A : Type 0} → (V → A → Bool) → A → Type 0
IsSeen {V} test a = (v : V) × (test v a ≡ true)

-- a state meets another where some witness shows it
abbrev pub Meeting : {K L W : Type 0} → (W → K → L → Bool) → K → L → Type 0
Meeting {K} {L} {W} meets k l = (w : W) × (meets w k l ≡ true)

-- A program whose tasks keep the rules of tasks, in its opening state, with what is known of the worlds that it comes to: some witness shows it.
pub record Imitated (L V : Type 0) : Type 0 where
  pub p : Program L
  pub out : L → List ℕ
  pub proper : L → Bool
  pub lawful : IsLawful p.ops (IsYes proper)
  pub opening : State (ℕ → Seat L)
  pub opens_so : IsOpening (numbered p) opening
  pub starts_proper : (t : ℕ) → t < p.size → IsYes proper (opening.seats t).local
  pub known : V → World L → Bool
  pub known_first : IsSeen known (world_of opening)
  pub known_on : (w : World L) (move : Move) → IsSeen known w → IsSound p.ops (IsYes proper) w.tasks → can_move p w move ≡ true → IsSeen known (moved p w move)

-- the program as the law's premises take it
abbrev pub original : {L V : Type 0} → Imitated L V → Original
original {L} {V} o = record {
  L = L;
  p = o.p;
  out = o.out;
  IsProper = IsYes o.proper;
  lawful = o.lawful;
  opening = o.opening;
  opens_so = o.opens_so;
  proper = o.starts_proper;
  Known = IsSeen o.known;
  known_first = o.known_first;
  known_on = o.known_on;
}

-- The law: where the tasks of a program imitate those of another, the two show the same. Whatever the schedule, each run of the one has the events
-- and the outputs of some run of the other,
-- in both directions, and a quiet end where this has one.
abbrev pub LawOfImitation : Type 0 → Type 0 → Type 0 → Type 0 → Type 0
LawOfImitation L K V W =
    (o : Imitated L V) (q : Ops K) (out : K → List ℕ) (meets : W → K → L → Bool) (fine : K → Bool) (at : State (ℕ → Seat K)) →
    Imitates (original o) q out (Meeting meets) (IsYes fine) → OpensSo (original o) q out (Meeting meets) (IsYes fine) at →
    ShowSame (record { program = o.p; out = o.out; at = o.opening }) (record { program = imitation (original o) q out (Meeting meets) (IsYes fine); out = out; at = at })

-- Its second part: whatever the imitation does, each of its free tasks is fine.
abbrev pub LawOfFineTasks : Type 0 → Type 0 → Type 0 → Type 0 → Type 0
LawOfFineTasks L K V W =
    (o : Imitated L V) (q : Ops K) (out : K → List ℕ) (meets : W → K → L → Bool) (fine : K → Bool) (at : State (ℕ → Seat K)) →
    Imitates (original o) q out (Meeting meets) (IsYes fine) → OpensSo (original o) q out (Meeting meets) (IsYes fine) at →
    AllFreeAre (IsYes fine) (record { program = imitation (original o) q out (Meeting meets) (IsYes fine); out = out; at = at })

-- The premises are met by every program: each imitates itself, where nothing is asked of free tasks.
pub record IsMetBy {L V : Type 0} (o : Imitated L V) : Type 0 where
  pub imitates : Imitates (original o) o.p.ops o.out (λ k l. k ≡ l) (λ k. Unit {0})
  pub opens : OpensSo (original o) o.p.ops o.out (λ k l. k ≡ l) (λ k. Unit {0}) o.opening

abbrev pub MetByAll : Type 0 → Type 0 → Type 0
MetByAll L V = (o : Imitated L V) → IsMetBy o
